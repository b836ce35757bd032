use Rattle.std.proofs.Common.{◌≡◌, ◌∷◌, List, map, set, ap, ◌∙◌, sym, subst, arith, true, Option, Some}
use Rattle.std.proofs.lemmas.List.{map-set}
use Rattle.std.proofs.lemmas.Option.{slice_get_within}
use Rattle.street_base.specs.Prelude.{Vehicle}
use Rattle.street_tile.specs.Prelude.{Transfer, entry_in, vehicle_in, TileView, IsTileOf, is_own, Awaits}
use Rattle.street_tile.specs.Inside.{seen}
use Rattle.street_net.specs.Prelude.{slot_of}
use Rattle.street_node.specs.Prelude.{AtMostOnce}
use Rattle.street_tile.proofs.MovedHandOvers.{coming-here}
use Rattle.street_tile.proofs.Numbers.{number-found}
use Rattle.street_tile.proofs.OwnLanes.{own-once}
use Rattle.street_tile.proofs.tile.Tile.bring.Goals as goal

pub put-requires : goal.put-requires
put-requires c =
    let s = c.self.inside in
    let x : TileView = seen s in
    let is : x ≡ c.args.self.now = c.self.view_is in
    let own : is_own c.args.net.now s.low s.high c.args.hand_over.to ≡ true = subst (λ (t : TileView). is_own c.args.net.now t.low t.high c.args.hand_over.to ≡ true) (sym is) c.requires.own in
    let here = number-found c.args.net.now x c.args.hand_over.to s.numbers.items c.slot.result c.index-n.result.now c.index-n.result.now (subst (IsTileOf c.args.net.now) (sym is) c.requires.tile) c.self.invariant.wide.numbered c.requires.lane own (c.slot.ensures ∙ ap slot_of c.to-to.ensures) (c.index-n.ensures) in
    let h = slice_get_within s.own.places c.index-n.result.now c.args.hand_over.to here in
    let long = c.self.invariant.wide.coming in
    omega arith

pub returns : goal.returns
returns c = λ es awaits.
    let s = c.self.inside in
    let x : TileView = seen s in
    let h : Transfer = c.args.hand_over in
    let is : x ≡ c.args.self.now = c.self.view_is in
    let waits : map vehicle_in s.coming ≡ map (entry_in es) s.own.places = subst (Awaits es) (sym is) awaits in
    let tile : IsTileOf c.args.net.now x = subst (IsTileOf c.args.net.now) (sym is) c.requires.tile in
    let own : is_own c.args.net.now s.low s.high h.to ≡ true = subst (λ (t : TileView). is_own c.args.net.now t.low t.high h.to ≡ true) (sym is) c.requires.own in
    let here = number-found c.args.net.now x h.to s.numbers.items c.slot.result c.index-n.result.now c.index-n.result.now tile c.self.invariant.wide.numbered c.requires.lane own (c.slot.ensures ∙ ap slot_of c.to-to.ensures) (c.index-n.ensures) in
    let once : AtMostOnce s.own.places = subst AtMostOnce (sym tile.places) (own-once c.args.net.now s.low s.high) in
    let coming : map vehicle_in c.put.new.self ≡ map (entry_in (h ∷ es)) s.own.places =
    ap (map vehicle_in) c.put.ensures ∙ map-set vehicle_in s.coming c.index-n.result.now (Some h) ∙ ap (λ (os : List (Option Vehicle)). set os c.index-n.result.now (Some h.vehicle)) waits ∙ coming-here h es s.own.places c.index-n.result.now once here in
    ap (λ (os : List (Option Vehicle)). record x { coming = os }) coming ∙ ap (λ (t : TileView). record t { coming = map (entry_in (h ∷ es)) t.own.places }) is
