use Rattle.std.proofs.Common.{◌≡◌, ◌<◌, ℕ, suc, List, [], ◌∷◌, ◌++◌, length, set, get_or, refl, sym, ◌∙◌, ap, subst, arith, Option, Some}
use Rattle.std.proofs.lemmas.List.{length-append}
use Rattle.street_base.specs.declared.reply.End.{End}
use Rattle.street_base.specs.declared.reply.End.TheVariants.{Arrived}
use Rattle.street_base.specs.Prelude.{with_arrivals}
use Rattle.street_tile.specs.Prelude.{TileView, TilesView, all_arrived}
use Rattle.street_engine.specs.Prelude.{AreComing}
use Rattle.street_engine.proofs.Arrivals.{with_arrivals-none, last-arrives}
use Rattle.street_engine.proofs.AreComing.{last-going, rest-coming}
use Rattle.street_engine.proofs.ends.note_arrivals.Goals as goal

-- where no tile holds a number, none is held
none-held : (xs : List TileView) → ((k : ℕ) (d : TileView) → k < length xs → (get_or xs k d).arrived ≡ []) → all_arrived xs ≡ []
none-held [] none = refl
none-held (x ∷ xs) none = ap (λ (ns : List ℕ). all_arrived xs ++ ns) (none 0 x (omega arith)) ∙ ap (λ (ns : List ℕ). ns ++ []) (none-held xs (λ k d h. none (suc k) d (omega arith)))

pub note_arrived-requires : goal.note_arrived-requires
note_arrived-requires c = last-going c.in-Some.number (all_arrived c.next_arrival.new.self.tiles) c.loop-number.ends.ends (subst (λ (ns : List ℕ). AreComing ns c.loop-number.ends.ends) c.in-Some.ensures.some.rest c.loop-number.invariant.coming)

pub loop-number-preserved : goal.loop-number-preserved
loop-number-preserved c =
    let took = c.in-Some.ensures.some in
    let rest : List ℕ = all_arrived c.next_arrival.new.self.tiles in
    let number = c.in-Some.number in
    let ends : List (Option End) = c.loop-number.ends.ends in
    let e : all_arrived c.loop-number.tiles.tiles ≡ rest ++ number ∷ [] = took.rest in
    let now : c.note_arrived.new.self.ends ≡ set ends number (Some (Arrived c.args.clock)) = c.note_arrived.ensures in
    record {
      network = took.network ∙ c.loop-number.invariant.network;
      long = took.long ∙ c.loop-number.invariant.long;
      same = λ k d h.
          let before = c.loop-number.invariant.same k d h in
          let long = c.loop-number.invariant.long in
          let after = took.tiles k d (omega arith) in
          after ∙ ap (λ (t : TileView). record t { arrived = (get_or c.next_arrival.new.self.tiles k d).arrived }) before;
      coming = subst (AreComing rest) (sym now) (rest-coming number rest ends (subst (λ (ns : List ℕ). AreComing ns ends) e c.loop-number.invariant.coming) (Arrived c.args.clock));
      ends = ap (with_arrivals c.args.clock rest) now ∙ sym (last-arrives c.args.clock rest number ends) ∙ ap (λ (ns : List ℕ). with_arrivals c.args.clock ns ends) (sym e) ∙ c.loop-number.invariant.ends;
    }

pub loop-number-smaller : goal.loop-number-smaller
loop-number-smaller c = omega (arith, ap length c.in-Some.ensures.some.rest, length-append (all_arrived c.next_arrival.new.self.tiles) (c.in-Some.number ∷ []))

pub returns-clause-tiles : goal.returns-clause-tiles
returns-clause-tiles c = λ k d h.
    let long = c.loop-number.invariant.long in
    let none = c.next_arrival.ensures.none c.in_default.is k d (omega arith) in
    let kept = c.next_arrival.ensures.kept c.in_default.is in
    ap (λ (v : TilesView). get_or v.tiles k d) kept ∙ c.loop-number.invariant.same k d h ∙ ap (λ (ns : List ℕ). record (get_or c.args.tiles.now.tiles k d) { arrived = ns }) none

pub returns-clause-ends : goal.returns-clause-ends
returns-clause-ends c =
    let empty : all_arrived c.loop-number.tiles.tiles ≡ [] = none-held c.loop-number.tiles.tiles (c.next_arrival.ensures.none c.in_default.is) in
    sym (with_arrivals-none c.args.clock c.loop-number.ends.ends) ∙ ap (λ (ns : List ℕ). with_arrivals c.args.clock ns c.loop-number.ends.ends) (sym empty) ∙ c.loop-number.invariant.ends
