use Rattle.std.proofs.Common.{◌≡◌, ℕ, ◌<◌, List, length, get_or, sym, ◌∙◌, ap, subst, arith, Some, slice_get, All}
use Rattle.std.proofs.lemmas.List.{length-set, get_or_default}
use Rattle.std.proofs.lemmas.Option.{slice_get-get_or, slice_get_within, same_Some}
use Rattle.street_base.specs.declared.names.Place.{Place}
use Rattle.street_net.specs.Prelude.{slot_of}
use Rattle.street_tile.proofs.EmptyTile.{numbered-more}
use Rattle.street_tile.proofs.cut.numbers_of.Goals as goal

abbrev nowhere : Place
nowhere = record { link = 0; lane = 0 }

-- what is known of these lanes, by their places
inside-at : (links : ℕ) (own : List Place) → All (λ at. (at.link < links) × (at.lane < 2)) own → (k : ℕ) (p : Place) → slice_get own k ≡ Some p → (p.link < links) × (p.lane < 2)
inside-at links own inside k p at =
    let h : k < length own = (let l = slice_get_within own k p at in omega (arith, l)) in
    let is : slice_get own k ≡ Some (get_or own k nowhere) = slice_get-get_or own k nowhere h in
    subst (λ (q : Place). (q.link < links) × (q.lane < 2)) (same_Some (get_or own k nowhere) p (sym is ∙ at)) (inside k nowhere h)

pub loop-n-preserved : goal.loop-n-preserved
loop-n-preserved c =
    let own = c.args.own.now in
    let n = c.loop-n.n in
    let p : Place = (get_or own n nowhere) in
    let at : slice_get own n ≡ Some p = slice_get-get_or own n nowhere c.loop-n-test.true in
    let here = inside-at c.args.links own c.requires.inside n p at in
    let link = here.0 in
    let lane = here.1 in
    let wide = c.loop-n.invariant.wide in
    let slot : c.slot.result ≡ slot_of p = c.slot.ensures ∙ ap (λ (x : Place). slot_of x) (c.index-own-n.is ∙ get_or_default own n c.index-own-n.result nowhere c.loop-n-test.true) in
    rw slot (record {
      wide = length-set c.loop-n.numbers.items (slot_of p) n ∙ wide;
      at = numbered-more own c.args.links c.requires.once (λ k q e. (inside-at c.args.links own c.requires.inside k q e).1) n p c.loop-n.numbers.items at (omega arith) c.loop-n.invariant.at;
    })

pub returns : goal.returns
returns c = record {
  wide = c.loop-n.invariant.wide;
  at = λ k p at. c.loop-n.invariant.at k p (let h = slice_get_within c.args.own.now k p at in omega (arith, h)) at;
}
