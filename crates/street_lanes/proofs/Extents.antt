-- The extent of a lane of a network, and the lane as it is kept there.
use Rattle.std.proofs.Common.{◌≡◌, ℕ, ◌<◌, List, length, map, get_or, sym, ap, subst, ◌∙◌, arith}
use Rattle.std.proofs.lemmas.Option.{slice_get-get_or}
use Rattle.std.proofs.lemmas.List.{get_or-map, get_or_read, length-map}
use Rattle.std.proofs.lemmas.List.FromFn.{get_or-map-range_with_len}
use Rattle.street_base.specs.declared.net.NetSpec.{NetSpec}
use Rattle.street_base.specs.declared.names.Place.{Place}
use Rattle.street_rule.specs.Prelude.{Odds}
use Rattle.street_gap.specs.declared.closures.Stretch.{Stretch}
use Rattle.street_gap.specs.Prelude.{IsWithin}
use Rattle.street_yard.specs.Prelude.{Yard, IsLane as IsLaneOn}
use Rattle.street_lanes.specs.declared.lanes.Extent.{Extent}
use Rattle.street_lanes.specs.Prelude.{LaneView, lane_of, place_at, no_place, size_of, size_on, IsLane, cells_list, lane_seen, cells_on}
use Rattle.street_lanes.specs.Lanes.{IsOf}
use Rattle.street_lanes.specs.Inside.{no_extent, length_at, closed_at, lanes_in, view_of, IsLaidOut}
use Rattle.street_lanes.proofs.Frames.{lane-in, cells-count, sizes-are}

module _ (closures : List (List Stretch)) (extents : List Extent) (odds : Odds) (n : ℕ) (within : n < length extents) (extent : Extent) (closed : List Stretch) (extent_is : extent ≡ get_or extents n extent) (closed_is : closed ≡ get_or closures n closed) (net : NetSpec) (y : Yard) (of : IsOf net (view_of y closures extents odds)) (sound : IsLaidOut y closures extents) where
  abbrev pub place : Place
  place = extent.at

  extent-here : extent ≡ get_or extents n no_extent
  extent-here = get_or_read extents n extent within extent_is no_extent

  closed-here : closed ≡ closed_at closures n
  closed-here = get_or_read closures n closed (rw sound.one_each within) closed_is _

  -- it is the place of the lane
  pub place-is : place_at (view_of y closures extents odds) n ≡ place
  place-is = get_or-map (λ (s : Extent). s.at) extents n no_extent no_place within ∙ ap (λ (s : Extent). s.at) (sym extent-here)

  -- a lane of the network
  pub place-on : IsLane net place
  place-on =
      let places = map (λ (s : Extent). s.at) extents in
      subst (IsLane net) place-is (of.own n (get_or places n no_place) (slice_get-get_or places n no_place (let e = length-map extents (λ (s : Extent). s.at) in omega arith)))

  -- as long as the link
  pub length-is : length_at extents n ≡ cells_on net place
  length-is =
      let places = map (λ (s : Extent). s.at) extents in
      let at_extent : get_or (map size_of (lanes_in y closures extents)) n (0, 0) ≡ (length_at extents n, length_at extents n) =
      ap (λ (xs : List (ℕ × ℕ)). get_or xs n (0, 0)) (sizes-are y closures extents)
      ∙ get_or-map-range_with_len (λ k. (length_at extents k, length_at extents k)) 0 (length extents) n n (0, 0) within (omega arith) in
      let on_net : get_or (map size_of (lanes_in y closures extents)) n (0, 0) ≡ size_on net place =
      ap (λ (xs : List (ℕ × ℕ)). get_or xs n (0, 0)) of.sized
      ∙ get_or-map (size_on net) places n no_place (0, 0) (let e = length-map extents (λ (s : Extent). s.at) in omega arith)
      ∙ ap (size_on net) place-is in
      ap (λ (s : ℕ × ℕ). s.0) (sym at_extent ∙ on_net)

  -- what is kept of it, there and in another yard
  pub kept-is : (now : Yard) → lane_of (view_of now closures extents odds) n ≡ lane_seen now closed (cells_on net place) n
  kept-is now =
      lane-in now closures extents n within
      ∙ ap (λ (c : List Stretch). lane_seen now c (length_at extents n) n) (sym closed-here)
      ∙ ap (λ (k : ℕ). lane_seen now closed k n) length-is

  pub falls-on : IsLaneOn y (cells_list n) (cells_on net place)
  falls-on = subst (IsLaneOn y (cells_list n)) length-is (sound.falls n within)

  pub closed-on : IsWithin closed (cells_on net place)
  closed-on = subst (IsWithin closed) length-is (subst (λ (c : List Stretch). IsWithin c (length_at extents n)) (sym closed-here) (sound.within n within))

  pub falls-again : (now : Yard) → IsLaneOn now (cells_list n) (cells_on net place) → IsLaneOn now (cells_list n) (length_at extents n)
  falls-again now lane = subst (IsLaneOn now (cells_list n)) (sym length-is) lane

  -- so many cells are seen of it
  pub cells-seen : length (lane_of (view_of y closures extents odds) n).track.cells ≡ cells_on net place
  cells-seen = ap (λ (l : LaneView). length l.track.cells) (kept-is y) ∙ cells-count y (cells_list n) (cells_on net place)
