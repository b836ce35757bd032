use Rattle.std.proofs.Common.{ℕ, ap, ◌≡◌, ◌+◌, ◌*◌, ◌≤◌, ◌∙◌, sym, arith, length, subst, false, ◌++◌, ◌∷◌, []}
use Rattle.street_desk.specs.History.{IsLegal, entry}
use Rattle.street_desk.specs.Passes.{DeskView}
use Rattle.street_desk.specs.Steps.{Sat, with_turn}
use Rattle.street_desk.proofs.Told.{answered, rests_after}
use Rattle.street_desk.proofs.desk.Desk.call_from.Goals as goal

pub returns-then-grab-clause-told : goal.returns-then-grab-clause-told
returns-then-grab-clause-told g c =
    let i = c.loop.invariant in
    let done = c.turn-reply.ensures.done in
    let by = c.requires.session in
    let g = c.grab.new.seat.me.0 in
    let found : ℕ = c.look-word.result in
    let most : found ≤ 2 * c.loop.seat.me.0.calls + 1 = c.look-word.ensures.looks.limit i.3.rests.live in
    let calls : c.loop.seat.me.0.calls ≡ c.args.seat.now.me.0.calls = i.3.calls in
    let mine : c.args.seat.now.me.0.calls ≡ c.self.inside.calls = ap (λ (d : DeskView). d.calls) (c.requires.desk ∙ sym c.self.view_is) ∙ sym c.self.invariant.0 in
    let word : 2 * length g.seen ≡ found = c.if-grab.ensures.grabs.word in
    answered c.args.seat.now.me.0 c.loop.seat.me.0 c.look-word.new.seat.me.0 g c.turn-reply.new.seat.me.0 c.look-word.result c.grab.new.seat.me.1 c.args.command done.0
    c.args.seat.now.table_id c.turn-reply.new.seat.table_id c.turn-reply.result
    (c.turn-reply.ensures.same.0 ∙ (c.if-grab.ensures.same.0 ∙ (c.look-word.ensures.same.0 ∙ i.0)))
    i.3 c.look-word.ensures.looks c.if-grab.ensures.grabs (omega arith) done.1
    (subst (λ (k : ℕ). IsLegal (g.seen ++ entry k c.args.command done.0 ∷ [])) by done.2)
    (ap (λ (m : Sat). m.0) done.3 ∙ ap (λ (k : ℕ). with_turn g (g.seen ++ entry k c.args.command done.0 ∷ []) false) by)

pub returns-then-grab-clause-same : goal.returns-then-grab-clause-same
returns-then-grab-clause-same g c =
    let i = c.loop.invariant in
    let done = c.turn-reply.ensures.done in
    let by = c.requires.session in
    let g = c.grab.new.seat.me.0 in (
      c.turn-reply.ensures.same.0 ∙ (c.if-grab.ensures.same.0 ∙ (c.look-word.ensures.same.0 ∙ i.0)),
      c.turn-reply.ensures.same.1 ∙ (c.if-grab.ensures.same.1 ∙ (c.look-word.ensures.same.1 ∙ i.1)),
      ap (λ (m : Sat). m.1) done.3,
      rests_after c.args.seat.now.me.0 c.loop.seat.me.0 c.look-word.new.seat.me.0 g c.turn-reply.new.seat.me.0 c.look-word.result c.grab.new.seat.me.1 c.args.command done.0
          i.3 c.look-word.ensures.looks c.if-grab.ensures.grabs
          (subst (λ (k : ℕ). IsLegal (g.seen ++ entry k c.args.command done.0 ∷ [])) by done.2)
          (ap (λ (m : Sat). m.0) done.3 ∙ ap (λ (k : ℕ). with_turn g (g.seen ++ entry k c.args.command done.0 ∷ []) false) by),
    )
