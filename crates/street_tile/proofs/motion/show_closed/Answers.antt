use Rattle.std.proofs.Common.{◌≡◌, ◌+◌, ◌*◌, ◌<◌, Bool, true, false, List, length, slice_index_or, not, arith, refl, sym, ap, subst, ◌∙◌}
use Rattle.std.proofs.lemmas.List.{length-set, get_or-replicate}
use Rattle.std.proofs.lemmas.Option.{slice_get_within, same_Some}
use Rattle.street_base.specs.declared.names.Place.{Place}
use Rattle.street_lanes.specs.Prelude.{place_at}
use Rattle.street_net.specs.Prelude.{slot_of}
use Rattle.street_tile.proofs.SameLanes.{even-of, place-is}
use Rattle.street_tile.proofs.HeldMouths.{slot-inside}
use Rattle.street_tile.proofs.ShownLanes.{IsUnclosedTo, mouth-written}
use Rattle.street_tile.proofs.motion.show_closed.Goals as goal

pub returns-then-is_all_open-clause-shown : goal.returns-then-is_all_open-clause-shown
returns-then-is_all_open-clause-shown c = λ j p at.
    let own = c.args.own.now in
    let h = slice_get_within own.places j p at in
    let even = even-of c.args.net.now own c.requires.of in
    let same : place_at own j ≡ p = same_Some (place_at own j) p (sym (place-is own j h) ∙ at) in
    let small = (slot-inside c.args.net.now c.requires.roads own c.requires.of.own j h).1 in
    let inside : slot_of p < length c.args.mouths.now = subst (λ (q : Place). slot_of q < length c.args.mouths.now) same (omega (arith, small, c.requires.wide)) in
    ap (λ (ms : List Bool). slice_index_or ms (slot_of p) false) (c.fill.ensures.after (λ y e. e))
    ∙ get_or-replicate (length c.args.mouths.now) (slot_of p) true false inside
    ∙ sym (ap not (c.is_all_open.ensures c.if-is_all_open.true j (omega (arith, even, h))))

pub loop-n-init : goal.loop-n-init
loop-n-init c = record { wide = refl; shown = λ j p at below. absurd (omega arith) }

pub slot-requires : goal.slot-requires
slot-requires c =
    let small : slot_of c.at-at.result < 65536 = subst (λ (p : Place). slot_of p < 65536) (sym c.at-at.ensures) (slot-inside c.args.net.now c.requires.roads c.args.own.now c.requires.of.own c.loop-n.n (omega arith)).0 in
    omega arith

pub bounds-mouths-slot : goal.bounds-mouths-slot
bounds-mouths-slot c =
    let inside : slot_of c.at-at.result < 2 * length c.args.net.now.links =
    subst (λ (p : Place). slot_of p < 2 * length c.args.net.now.links) (sym c.at-at.ensures) (slot-inside c.args.net.now c.requires.roads c.args.own.now c.requires.of.own c.loop-n.n (omega arith)).1 in
    let wide = c.loop-n.invariant.wide in
    let is = c.slot.ensures in
    let asked = c.requires.wide in
    omega arith

pub loop-n-preserved : goal.loop-n-preserved
loop-n-preserved c =
    let own = c.args.own.now in
    let n = c.loop-n.n in
    let p = place_at own n in
    let b = not c.is_first_closed.result in
    let slot : c.slot.result ≡ slot_of p = c.slot.ensures ∙ ap (λ (q : Place). slot_of q) c.at-at.ensures in
    record {
      wide = length-set c.loop-n.mouths c.slot.result b ∙ c.loop-n.invariant.wide;
      shown = rw slot
          (mouth-written c.args.net.now c.requires.roads own.places c.requires.of.own c.requires.once (IsUnclosedTo own n) (IsUnclosedTo own (n + 1)) n p c.loop-n.mouths b (place-is own n (omega arith)) (c.loop-n.invariant.wide ∙ c.requires.wide) c.loop-n.invariant.shown
          (λ below. ap not c.is_first_closed.ensures)
          (λ j x ne before below. before (omega arith)));
    }

pub returns-clause-shown : goal.returns-clause-shown
returns-clause-shown c = λ j p at. c.loop-n.invariant.shown j p at (let h = slice_get_within c.args.own.now.places j p at in omega (arith, h))
