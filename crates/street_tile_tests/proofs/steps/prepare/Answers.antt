use Rattle.std.proofs.Common.{◌≡◌, ◌<◌, length, set, get_or, sym, ◌∙◌, ap, subst, arith, inl, inr, ℕ}
use Rattle.std.proofs.lemmas.Bool.{cases_eq}
use Rattle.std.proofs.lemmas.List.{get_or-set_same, get_or-set_other, get_or_default, length-set}
use Rattle.street_tile.specs.Prelude.{KeepsAll, TileView, IsPrepared}
use Rattle.street_tile_tests.proofs.steps.prepare.Goals as goal

pub loop-i-preserved : goal.loop-i-preserved
loop-i-preserved c =
    let long : length c.loop-i.tiles ≡ length c.args.tiles.now = c.loop-i.invariant.long in
    let within : c.loop-i.i < length c.loop-i.tiles = omega arith in
    let y : TileView = c.prepare.new.self in
    record {
      long = length-set c.loop-i.tiles c.loop-i.i y ∙ long;
      done = λ k d h. elim (cases_eq k c.loop-i.i) as (λ _. KeepsAll (get_or c.args.tiles.now k d) (get_or (set c.loop-i.tiles c.loop-i.i y) k d) × IsPrepared (get_or (set c.loop-i.tiles c.loop-i.i y) k d)) [
        | inl here ↦ (
            let is : get_or (set c.loop-i.tiles c.loop-i.i y) k d ≡ y = rw here (get_or-set_same c.loop-i.tiles c.loop-i.i y d within) in
            let was : get_or c.loop-i.tiles c.loop-i.i c.index-tiles-i.result ≡ get_or c.args.tiles.now k d = get_or_default c.loop-i.tiles c.loop-i.i c.index-tiles-i.result d within ∙ c.loop-i.invariant.rest c.loop-i.i d (omega arith) ∙ ap (λ (j : ℕ). get_or c.args.tiles.now j d) (sym here) in
            subst (λ (t : TileView). KeepsAll (get_or c.args.tiles.now k d) t × IsPrepared t) (sym is) (subst (λ (t : TileView). KeepsAll t y) was c.prepare.ensures.same, c.in_ok-prepare.ensures.ok))
        | inr other ↦ subst (λ (t : TileView). KeepsAll (get_or c.args.tiles.now k d) t × IsPrepared t) (sym (get_or-set_other c.loop-i.tiles c.loop-i.i k y d other)) (c.loop-i.invariant.done k d (omega arith))
      ];
      rest = λ k d h. elim (cases_eq k c.loop-i.i) as (λ _. get_or (set c.loop-i.tiles c.loop-i.i y) k d ≡ get_or c.args.tiles.now k d) [
        | inl here ↦ absurd (omega arith)
        | inr other ↦ get_or-set_other c.loop-i.tiles c.loop-i.i k y d other ∙ c.loop-i.invariant.rest k d (omega arith)
      ];
    }
