use Rattle.std.proofs.Common.{rules, sym, ap, ◌∙◌, ◌≡◌, ℕ, ◌*◌, List, [], ◌∷◌, ◌++◌, length, arith, Option, Some}
use Rattle.atomic_table.specs.Table.{rest}
use Rattle.street_desk.specs.History.{entry}
use Rattle.street_desk.specs.Rule.{Recorded, recorded}
use Rattle.street_desk.specs.Steps.{Sat}
use Rattle.street_desk.proofs.Steps.{releases_as}
use Rattle.street_desk.proofs.desk.Desk.turn.Goals as goal

pub exchange-requires : goal.exchange-requires
exchange-requires g c = let slot = c.requires.slot in
    let was = Some (recorded c.args.seat.now.me.0.seen c.args.seat.now.me.0.calls) in
    (search rules, (was, slot ∙ ap (λ l. (0, was) ∷ rest l) (sym slot)))

abbrev top : Recorded → List (ℕ × Option Recorded) → Recorded
top d [] = d
top d (x ∷ xs) = value x.1
  where
    value : Option Recorded → Recorded
    value (Some r) = r
    value _ = d

pub store-requires : goal.store-requires
store-requires g c =
    let one = c.self.invariant.2 in
    let v = c.args.seat.now.me.0 in
    let was = recorded v.seen v.calls in
    let x = c.exchange.ensures in
    let y = c.exchange-in-Some.ensures in
    let call = c.call-reply.ensures in
    let got : c.in-Some.recorder ≡ was = ap (λ (o : Option Recorded). top was ((0, o) ∷ [])) (sym c.in-Some.is) ∙ (ap (top was) (sym x.2) ∙ ap (top was) c.requires.slot) in
    let e = entry c.args.session c.args.command c.call-reply.result.1 in
    let is = y.3 ∙ (ap (λ (m : Sat). (m.0, (0, Some c.call-reply.new.self) ∷ rest m.1)) x.3 ∙ ap (λ (l : List (ℕ × Option Recorded)). (v, (0, Some c.call-reply.new.self) ∷ rest l)) c.requires.slot) in
    let n : c.args.at ≡ 2 * length v.seen = c.requires.word.0 in (
      y.0 ∙ (x.0 ∙ search rules),
      omega arith,
      releases_as _ _ _ _ _ v c.call-reply.new.self e _ is c.requires.turn.0 c.requires.turn.1 c.requires.turn.2
          (call.history ∙ ap (λ (r : Recorded). r.history ++ e ∷ []) got) (call.room ∙ ap (λ (r : Recorded). r.calls) got) c.requires.room call.legal c.requires.session (omega arith),
    )
