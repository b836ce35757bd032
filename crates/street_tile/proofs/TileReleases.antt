-- A tile's releases, buffer after buffer.
use Rattle.std.proofs.Common.{◌≡◌, ℕ, ◌+◌, ◌*◌, ◌<◌, ◌≤◌, Bool, true, false, List, [], ◌∷◌, ◌++◌, length, take, refl, sym, ◌∙◌, ap, subst, arith, Some, None, option_map, slice_get, slice_set, filter_map, option_and_then, nat_le, if◌then◌else◌}
use Rattle.std.proofs.lemmas.List.{take_all, append_assoc, append-nil}
use Rattle.street_base.specs.declared.net.NetSpec.{NetSpec}
use Rattle.street_base.specs.declared.names.Place.{Place}
use Rattle.street_base.specs.Prelude.{Traffic, Queued, lane_at, target, gives, exit_lane}
use Rattle.street_net.specs.Prelude.{mouth, slot_of}
use Rattle.street_lanes.specs.Prelude.{LaneStands, without_front, Lanes, IsLane, AllLanes, GoesAt, lane_of, place_at, LanesStand, HasEmptyBuffer}
use Rattle.street_node.specs.Prelude.{AreShut, Crossing}
use Rattle.street_node.proofs.BufferWalk.{stays}
use Rattle.street_node.proofs.Mouths.{shut-start, shut-none, shut-before, shut-behind, gives-by}
use Rattle.street_node.proofs.Crossings.{Leads, leads-of, crossing-goes as crosses-goes, crossing-stays, crossings-more}
use Rattle.street_tile.specs.Prelude.{Transfer, entry_on, crossing, let_go_lane, let_go, IsRoads, IsReleasing}
use Rattle.street_tile.proofs.SameLanes.{place-is, LanesDone, lanes-start, lanes-here, lanes-next, lanes-kept, lanes-all}
use Rattle.street_tile.proofs.Each.{lane_at-each}
use Rattle.street_tile.proofs.Gaps.{over-gap}

-- ---- who crosses

crossing-goes : (m : Traffic) (from to : Place) (q : Queued) → Leads m from to q → gives m from ≡ true → crossing m from ≡ Some (entry_on m.network q.vehicle to)
crossing-goes m from to q l goes = ap (option_map (λ (c : Crossing). record { to = c.to; vehicle = c.vehicle })) (crosses-goes m from to q l goes)

crossing-none : (m : Traffic) (from : Place) → gives m from ≡ false → crossing m from ≡ None
crossing-none m from no_one = ap (option_map (λ (c : Crossing). record { to = c.to; vehicle = c.vehicle })) (crossing-stays m from no_one)

module _ (net : NetSpec) (roads : IsRoads net) (clock : ℕ) (old : Lanes) (even : length old.lanes ≡ length old.places) (mouths : List Bool) (handed : List Transfer) (m : Traffic) (r : IsReleasing net clock old mouths m) where
  -- the buffers before k are done
  pub record IsReleased (k : ℕ) (now : Lanes) (open_now : List Bool) (handed_now : List Transfer) : Type 0 where
    pub lanes : LanesDone (let_go_lane m) m old k now
    pub shut : AreShut m (IsLane net) old.places k open_now
    pub handed_over : handed_now ≡ handed ++ filter_map (crossing m) (take k old.places)

  pub released-start : IsReleased 0 old mouths handed
  released-start = record {
    lanes = lanes-start (let_go_lane m) m old;
    shut = shut-start m (IsLane net) old.places mouths (λ p there. r.shows p there.0 there.1);
    handed_over = sym (append-nil handed);
  }

  two-at-most : (p : Place) → IsLane net p → p.lane < 2
  two-at-most p there = let two = roads.two p.link in let lane = there.1 in omega arith

  module _ (k : ℕ) (now : Lanes) (open_now : List Bool) (handed_now : List Transfer) (within : k < length old.places) (d : IsReleased k now open_now handed_now) where
    abbrev from : Place
    from = place_at old k

    at : slice_get old.places k ≡ Some from
    at = place-is old k within

    pub released-here : LaneStands (lane_of now k) (lane_at m from)
    released-here = lanes-here (let_go_lane m) m old k now d.lanes r.stand within (omega arith)

    -- nobody goes from the buffer at k
    released-stays : gives m from ≡ false → AreShut m (IsLane net) old.places (k + 1) open_now → IsReleased (k + 1) now open_now handed_now
    released-stays not_so shut = record {
      lanes = lanes-kept (let_go_lane m) m old k now d.lanes (subst (LaneStands (lane_of now k)) (sym (rw not_so refl)) released-here);
      shut = shut;
      handed_over = d.handed_over ∙ sym (ap (λ (es : List Transfer). handed ++ es) (crossings-more (crossing m) old.places k from at ∙ rw (crossing-none m from not_so) (append-nil (filter_map (crossing m) (take k old.places)))));
    }

    -- a buffer whose front may go to no lane
    pub released-none : target m from ≡ None → IsReleased (k + 1) now open_now handed_now
    released-none is = released-stays (stays m from is) (shut-none m (IsLane net) old.places k from at open_now d.shut is)

    queue-none : HasEmptyBuffer (lane_of now k) → (lane_at m from).queue ≡ []
    unfolding LaneStands
    queue-none none = sym released-here.queue ∙ none

    -- an empty buffer
    pub released-empty : HasEmptyBuffer (lane_of now k) → IsReleased (k + 1) now open_now handed_now
    released-empty none = released-none (ap (λ (qs : List Queued). option_and_then (λ (q : Queued). if nat_le q.ready m.clock then exit_lane m from q.vehicle else None) (slice_get qs 0)) (queue-none none))

    module _ (to : Place) (is : target m from ≡ Some to) (there : IsLane net to) where
      goes-by-mouth : gives m from ≡ mouth open_now to
      goes-by-mouth = gives-by m (IsLane net) old.places k from at open_now d.shut to is r.walk there

      -- a buffer whose front finds the mouth shut
      pub released-shut : mouth open_now to ≡ false → IsReleased (k + 1) now open_now handed_now
      released-shut shut = released-stays (goes-by-mouth ∙ shut) (shut-before m (IsLane net) old.places k from at open_now d.shut to is shut)

      -- a buffer whose front goes
      pub released-goes : (after : Lanes) (handed_next : List Transfer) → length open_now ≡ 2 * length net.links → mouth open_now to ≡ true
          → GoesAt k without_front now after → ((q : Queued) → Leads m from to q → handed_next ≡ handed_now ++ entry_on net q.vehicle to ∷ []) → IsReleased (k + 1) after (slice_set open_now (slot_of to) false) handed_next
      released-goes after handed_next wide is_open goes gone =
          let going : gives m from ≡ true = goes-by-mouth ∙ is_open in
          let lead = leads-of m from to is in
          record {
            lanes = lanes-next (let_go_lane m) m old k now after d.lanes goes.same goes.others (subst (LaneStands (lane_of after k)) (sym (rw going refl)) (goes.goes (lane_at m from) released-here));
            shut =
                let few = two-at-most to there in
                let within = there.0 in
                shut-behind m (IsLane net) old.places k from at open_now d.shut to is two-at-most there (omega arith);
            handed_over =
                gone lead.0 lead.1
                ∙ ap (λ (n : NetSpec). handed_now ++ entry_on n lead.0.vehicle to ∷ []) (sym r.on.network)
                ∙ ap (λ (es : List Transfer). es ++ entry_on m.network lead.0.vehicle to ∷ []) d.handed_over
                ∙ append_assoc handed (filter_map (crossing m) (take k old.places)) (entry_on m.network lead.0.vehicle to ∷ [])
                ∙ sym (ap (λ (es : List Transfer). handed ++ es) (crossings-more (crossing m) old.places k from at ∙ rw (crossing-goes m from to lead.0 lead.1 going) refl));
          }

  -- the buffers from k on and before j, all of them empty
  pub released-over : (k j : ℕ) (now : Lanes) (open_now : List Bool) (handed_now : List Transfer) → k ≤ j → j ≤ length old.places
      → ((i : ℕ) → k ≤ i → i < j → HasEmptyBuffer (lane_of now i)) → IsReleased k now open_now handed_now → IsReleased j now open_now handed_now
  released-over k j now open_now handed_now le within empty d =
      over-gap (λ i. IsReleased i now open_now handed_now) k j le (λ i above below before. released-empty i now open_now handed_now (omega arith) before (empty i above below)) d

  pub released-lanes : AllLanes net old.places → (k : ℕ) (now : Lanes) (open_now : List Bool) (handed_now : List Transfer) → IsReleased k now open_now handed_now → length old.places ≤ k → LanesStand now.places now.lanes (let_go m)
  unfolding let_go
  released-lanes lanes k now open_now handed_now d all = lanes-all (let_go_lane m) m old k now d.lanes all (let_go m) (λ j p at. lane_at-each net m r.on p (lanes j p at) (let_go_lane m))

  pub released-handed : (k : ℕ) (now : Lanes) (open_now : List Bool) (handed_now : List Transfer) → IsReleased k now open_now handed_now → length old.places ≤ k → handed_now ≡ handed ++ filter_map (crossing m) old.places
  released-handed k now open_now handed_now d all = d.handed_over ∙ ap (λ (xs : List Place). handed ++ filter_map (crossing m) xs) (take_all k old.places all)
