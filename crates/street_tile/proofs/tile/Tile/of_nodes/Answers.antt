use Rattle.std.proofs.Common.{◌≡◌, ◌-◌, ◌<◌, ◌≤◌, List, length, map, get_or, refl, sym, ◌∙◌, ap, subst, arith, Option, Some, None, slice_get}
use Rattle.std.proofs.lemmas.List.{length-replicate}
use Rattle.std.proofs.lemmas.Option.{slice_get-get_or}
use Rattle.street_base.specs.declared.names.Place.{Place}
use Rattle.street_base.specs.Prelude.{loaded, SignalPlan, last_clock}
use Rattle.street_base.proofs.FaultLemmas.{few_links, good_start}
use Rattle.street_lanes.specs.Prelude.{Lanes, IsLane, AllLanes, LanesStand, cells_on}
use Rattle.street_tile.specs.Prelude.{vehicle_in, ShowSignals, AreNextPairs, AreNumbers, AreBare, AreDue, own_places, sizes_of}
use Rattle.street_node.specs.Prelude.{AtMostOnce}
use Rattle.street_tile.proofs.OwnLanes.{own-lanes, own-once}
use Rattle.street_tile.proofs.EmptyTile.{faultless-roads, loaded-lanes, loaded-clock, loaded-signals, nobody-comes}
use Rattle.street_tile.proofs.MetersStand.{bare-sizes, bare-all, bare-due, bare-stand}
use Rattle.street_tile.proofs.tile.Tile.of_nodes.Goals as goal

pub fresh_lanes-requires : goal.fresh_lanes-requires
fresh_lanes-requires c =
    let is : c.deref.result.now ≡ own_places c.args.net.now c.args.low c.args.high = c.deref.ensures.value ∙ c.in_ok-places.ensures in
    subst (AllLanes c.args.net.now) (sym is) (own-lanes c.args.net.now c.args.low c.args.high)

pub tables_of-requires-clause-few : goal.tables_of-requires-clause-few
tables_of-requires-clause-few c =
    let long : length c.as_slice-links.result.now ≡ length c.args.net.now.links = rw (c.as_slice-links.ensures, c.spec.ensures.value) refl in
    let few : length c.args.net.now.links ≤ 4096 = few_links c.args.net.now c.spec.ensures.faultless in
    omega arith

pub tables_of-requires-clause-inside : goal.tables_of-requires-clause-inside
tables_of-requires-clause-inside c = λ k d h.
    let net = c.args.net.now in
    let own = c.deref-2.result.now in
    let p : Place = (get_or own k d) in
    let is : own ≡ own_places net c.args.low c.args.high = c.deref-2.ensures.value ∙ c.in_ok-places.ensures in
    let at : slice_get own k ≡ Some p = slice_get-get_or own k d h in
    let lane : IsLane net p = own-lanes net c.args.low c.args.high k p (ap (λ (ps : List Place). slice_get ps k) (sym is) ∙ at) in
    let two = (faultless-roads net c.spec.ensures.faultless).two p.link in
    let long : length c.as_slice-links.result.now ≡ length net.links = rw (c.as_slice-links.ensures, c.spec.ensures.value) refl in
    let below = lane.0 in
    let side = lane.1 in
    ((let l : p.link < length c.as_slice-links.result.now = omega arith in l), (let l : p.lane < 2 = omega arith in l))

pub tables_of-requires-clause-once : goal.tables_of-requires-clause-once
tables_of-requires-clause-once c =
    let is : c.deref-2.result.now ≡ own_places c.args.net.now c.args.low c.args.high = c.deref-2.ensures.value ∙ c.in_ok-places.ensures in
    subst AtMostOnce (sym is) (own-once c.args.net.now c.args.low c.args.high)

pub overflow_cast-result : goal.overflow_cast-result
overflow_cast-result c =
    let is : c.spec-2.result.now.start ≡ c.args.net.now.start = rw c.spec-2.ensures.value refl in
    let low : c.args.net.now.start ≤ last_clock = good_start c.args.net.now c.spec-2.ensures.faultless in
    omega arith

pub returns-clause-tile : goal.returns-clause-tile
returns-clause-tile c =
    let is : c.deref.result.now ≡ own_places c.args.net.now c.args.low c.args.high = c.deref.ensures.value ∙ c.in_ok-places.ensures in
    record {
      roads = faultless-roads c.args.net.now c.spec.ensures.faultless;
      links = rw (c.as_slice-links.ensures, c.spec.ensures.value) refl;
      within = c.requires.within;
      places = ap (λ (x : Lanes). x.places) c.in_ok-own.ensures.fresh ∙ is;
      own = c.in_ok-own.ensures.of;
      sized = ap sizes_of c.in_ok-own.ensures.detectors ∙ bare-sizes c.args.net.now c.deref.result.now ∙ ap (map (cells_on c.args.net.now)) (sym (ap (λ (x : Lanes). x.places) c.in_ok-own.ensures.fresh));
    }

pub returns-clause-idle : goal.returns-clause-idle
returns-clause-idle c =
    let places : c.in_ok-own.own.places ≡ c.deref.result.now = ap (λ (x : Lanes). x.places) c.in_ok-own.ensures.fresh in
    let long : length c.deref-2.result.now ≡ length c.in_ok-own.own.places = ap length (c.deref-2.ensures.value ∙ sym c.deref.ensures.value ∙ sym places) in
    record {
      handed = c.in_ok-tables.ensures.handed.0;
      coming = ap (map vehicle_in) c.in_ok-tables.ensures.coming ∙ nobody-comes (length c.deref-2.result.now) c.in_ok-own.own.places long;
      arrived = c.in_ok-tables.ensures.arrived.0;
    }

pub returns-clause-stands : goal.returns-clause-stands
returns-clause-stands c =
    let net = c.args.net.now in
    let ps = c.deref.result.now in
    let is : ps ≡ own_places net c.args.low c.args.high = c.deref.ensures.value ∙ c.in_ok-places.ensures in
    let all : AllLanes net ps = subst (AllLanes net) (sym is) (own-lanes net c.args.low c.args.high) in
    let start : c.spec-2.result.now.start ≡ net.start = rw c.spec-2.ensures.value refl in
    record {
      clock = start ∙ sym (loaded-clock net);
      lanes = subst (λ (x : Lanes). LanesStand x.places x.lanes (loaded net)) (sym c.in_ok-own.ensures.fresh) (loaded-lanes net ps all);
      none_loose = ap (λ (x : Lanes). x.loose) c.in_ok-own.ensures.fresh;
      signals = subst (λ (ss : List (Option SignalPlan)). ShowSignals c.args.low c.args.high ss (loaded net)) (sym c.in_ok-tables.ensures.plans) (loaded-signals net c.args.low c.args.high c.requires.within);
    }

pub returns-clause-meters : goal.returns-clause-meters
returns-clause-meters c = bare-stand c.args.net.now c.in_ok-own.own.places c.deref.result.now c.in_ok-own.detectors.items c.in_ok-own.ensures.detectors

pub invariant_of-result : goal.invariant_of-result
invariant_of-result c =
    let net = c.args.net.now in
    let ps = c.in_ok-own.own.places in
    let places : ps ≡ c.deref.result.now = ap (λ (x : Lanes). x.places) c.in_ok-own.ensures.fresh in
    let numbers : c.deref-2.result.now ≡ ps = c.deref-2.ensures.value ∙ sym c.deref.ensures.value ∙ sym places in
    let long : length c.deref-2.result.now ≡ length ps = ap length numbers in
    let plans : length c.in_ok-tables.tables.2.items ≡ c.args.high - c.args.low = ap length c.in_ok-tables.ensures.plans ∙ length-replicate (c.args.high - c.args.low) None in
    let slots : length c.in_ok-tables.tables.1.1 ≡ length c.deref-2.result.now = ap length c.in_ok-tables.ensures.coming ∙ length-replicate (length c.deref-2.result.now) None in
    let order = c.requires.order in
    let handed = c.in_ok-tables.ensures.handed.1 in
    let arrived = c.in_ok-tables.ensures.arrived.1 in
    let left = c.in_ok-tables.ensures.left in
    record {
      wide = record {
        nodes = omega arith;
        numbered = subst (λ qs. AreNumbers (length c.as_slice-links.result.now) qs c.in_ok-tables.tables.0.0.items) numbers c.in_ok-tables.ensures.numbers;
        pairs = subst (λ qs. AreNextPairs qs c.in_ok-next_pairs.next_pairs.items) (c.deref-3.ensures.value ∙ sym c.deref.ensures.value ∙ sym places) c.in_ok-next_pairs.ensures;
        mouths = c.in_ok-tables.ensures.mouths;
        coming = slots ∙ long;
        handed = omega arith;
        arrived = omega arith;
        left = omega arith;
      };
      noted = record {
        bare = λ none. subst AreBare (sym c.in_ok-own.ensures.detectors) (bare-all net c.deref.result.now);
        due = subst (AreDue c.spec-2.result.now.start) (sym c.in_ok-own.ensures.detectors) (bare-due net c.deref.result.now c.spec-2.result.now.start);
      };
    }
