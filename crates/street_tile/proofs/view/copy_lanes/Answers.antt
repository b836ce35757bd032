use Rattle.std.proofs.Common.{◌≡◌, ◌*◌, ◌<◌, length, ◌∙◌, ap, refl, sym, subst, arith}
use Rattle.std.proofs.lemmas.List.{length-set}
use Rattle.std.proofs.lemmas.Option.{slice_get_within}
use Rattle.street_base.specs.declared.names.Place.{Place}
use Rattle.street_lanes.specs.Prelude.{place_at}
use Rattle.street_net.specs.Prelude.{mouth, slot_of}
use Rattle.street_tile.proofs.SameLanes.{place-is}
use Rattle.street_tile.proofs.HeldMouths.{IsHeld, slot-inside, shown-start, shown-next}
use Rattle.street_tile.proofs.view.copy_lanes.Goals as goal

pub loop-n-init : goal.loop-n-init
loop-n-init c = λ roads there. shown-start c.args.net.now roads c.args.own.now.places there (IsHeld c.args.mouths.now) c.args.shown.now c.requires.wide

pub slot-slot-requires : goal.slot-slot-requires
slot-slot-requires c =
    let small : slot_of c.at-at.result < 65536 = subst (λ (p : Place). slot_of p < 65536) (sym c.at-at.ensures) (slot-inside c.args.net.now c.requires.roads c.args.own.now c.requires.there c.loop-n.n (omega arith)).0 in
    omega arith

pub bounds-mouths-slot : goal.bounds-mouths-slot
bounds-mouths-slot c =
    let here : slot_of c.at-at.result < 2 * length c.args.net.now.links =
    subst (λ (p : Place). slot_of p < 2 * length c.args.net.now.links) (sym c.at-at.ensures) (slot-inside c.args.net.now c.requires.roads c.args.own.now c.requires.there c.loop-n.n (omega arith)).1 in
    let is = c.slot-slot.ensures in
    let held = c.requires.held in
    omega arith

pub bounds-shown-slot : goal.bounds-shown-slot
bounds-shown-slot c =
    let here : slot_of c.at-at.result < 2 * length c.args.net.now.links =
    subst (λ (p : Place). slot_of p < 2 * length c.args.net.now.links) (sym c.at-at.ensures) (slot-inside c.args.net.now c.requires.roads c.args.own.now c.requires.there c.loop-n.n (omega arith)).1 in
    let is = c.slot-slot.ensures in
    let wide = (c.loop-n.invariant c.requires.roads c.requires.there).wide in
    omega arith

pub loop-n-preserved : goal.loop-n-preserved
loop-n-preserved c = λ roads there.
    let own = c.args.own.now in
    let held = c.args.mouths.now in
    let n = c.loop-n.n in
    let p = place_at own n in
    let before = c.loop-n.invariant roads there in
    let within : n < length own.places = omega arith in
    let slot : c.slot-slot.result ≡ slot_of p = c.slot-slot.ensures ∙ ap (λ (q : Place). slot_of q) c.at-at.ensures in
    rw slot
    (shown-next c.args.net.now roads own.places there (IsHeld held) c.args.shown.now n c.loop-n.shown p (mouth held p) before (place-is own n within) refl
    (length-set c.loop-n.shown (slot_of p) (mouth held p) ∙ before.wide))

pub returns-clause-own : goal.returns-clause-own
returns-clause-own c = λ j p at.
    (c.loop-n.invariant c.requires.roads c.requires.there).shown j p (let h = slice_get_within c.args.own.now.places j p at in omega arith) at

pub returns-clause-rest : goal.returns-clause-rest
returns-clause-rest c = (c.loop-n.invariant c.requires.roads c.requires.there).rest

pub returns-clause-wide : goal.returns-clause-wide
returns-clause-wide c = (c.loop-n.invariant c.requires.roads c.requires.there).wide ∙ sym c.requires.wide
