use Rattle.std.proofs.Common.{◌≡◌, ℕ, ◌+◌, ◌*◌, Bool, List, length, true, sym, subst, ap, ◌∙◌, arith, []}
use Rattle.std.specs.Vec.{with_items}
use Rattle.std.proofs.lemmas.List.{with_items_is}
use Rattle.street_base.specs.Prelude.{Traffic}
use Rattle.street_lanes.specs.Prelude.{place_at}
use Rattle.street_tile.specs.Inside.{seen}
use Rattle.street_node.specs.Prelude.{AtMostOnce}
use Rattle.street_tile.proofs.OwnLanes.{own-once}
use Rattle.street_net.specs.Prelude.{mouth}
use Rattle.street_tile.specs.Prelude.{TileView, AreBare, AreDue, ShowSignals, is_own, sizes_of, KeepMeters, HaveWatched, MotionPhase}
use Rattle.street_tile.proofs.SameTile.{tile-seen, at-view}
use Rattle.street_tile.proofs.MetersStand.{keep-due}
use Rattle.street_tile.proofs.Phases.{tile-owns, moves-of}
use Rattle.street_tile.proofs.tile.Tile.phase_motion.Goals as goal

pub move_lanes-requires-clause-ready : goal.move_lanes-requires-clause-ready
move_lanes-requires-clause-ready c =
    let s = c.self.inside in
    let tile = tile-seen c.self.view_is c.requires.tile in
    let nodes : s.low + length c.deref.result.now ≡ s.high = rw c.deref.ensures.value c.self.invariant.wide.nodes in
    record {
      of = tile.own;
      roads = tile.roads;
      in_time = (let e : s.clock ≡ c.args.self.now.clock = ap (λ (t : TileView). t.clock) c.self.view_is in omega arith);
      nodes = λ n h. subst (λ high. is_own c.args.net.now s.low high (place_at s.own n) ≡ true) (sym nodes) (tile-owns c.args.net.now (seen c.self.inside) tile n h);
      sized = ap sizes_of c.deref_mut.ensures.value ∙ tile.sized;
      bare = λ none. subst AreBare (sym c.deref_mut.ensures.value) (c.self.invariant.noted.bare none);
    }

pub move_lanes-requires-clause-once : goal.move_lanes-requires-clause-once
move_lanes-requires-clause-once c =
    let s = c.self.inside in
    let tile = tile-seen c.self.view_is c.requires.tile in
    subst AtMostOnce (sym tile.places) (own-once c.args.net.now s.low s.high)

pub move_lanes-requires-clause-wide : goal.move_lanes-requires-clause-wide
move_lanes-requires-clause-wide c =
    let tile = tile-seen c.self.view_is c.requires.tile in
    ap length c.deref_mut-2.ensures.value ∙ c.self.invariant.wide.mouths ∙ ap (λ (n : ℕ). 2 * n) tile.links

pub invariant_of-self : goal.invariant_of-self
invariant_of-self c =
    let s = c.self.inside in
    let inv = c.self.invariant in
    let places = c.move_lanes.ensures.drives.same.places in
    let items : (with_items s.detectors c.move_lanes.new.detectors).items ≡ c.move_lanes.new.detectors = with_items_is s.detectors c.move_lanes.new.detectors (let e = c.move_lanes.auto.detectors in let f = c.deref_mut.ensures.len in let ok = s.detectors.ok in omega arith) in
    let keep : KeepMeters s.detectors.items c.move_lanes.new.detectors = subst (λ gs. KeepMeters gs c.move_lanes.new.detectors) c.deref_mut.ensures.value c.move_lanes.ensures.watches.meters in
    let mouths : (with_items s.mouths c.move_lanes.new.mouths).items ≡ c.move_lanes.new.mouths = with_items_is s.mouths c.move_lanes.new.mouths (let e = c.move_lanes.auto.mouths in let f = c.deref_mut-2.ensures.len in let ok = s.mouths.ok in omega arith) in
    record {
      wide = record {
        nodes = inv.wide.nodes;
        numbered = rw places inv.wide.numbered;
        pairs = rw places inv.wide.pairs;
        mouths = (let is = ap length mouths in let e = c.move_lanes.auto.mouths in let old = ap length c.deref_mut-2.ensures.value in let wide = inv.wide.mouths in omega arith);
        coming = rw places inv.wide.coming;
        handed = rw places inv.wide.handed;
        arrived = (let le = inv.wide.arrived in let cap = c.move_lanes.ensures.capacity in rw places (omega arith));
        left = (let le = inv.wide.left in let kept = c.clear.ensures.capacity in let cap = c.move_lanes.ensures.rows in rw places (omega arith));
      };
      noted = record {
        bare = λ none. subst AreBare (sym (items ∙ c.move_lanes.ensures.watches.bare none ∙ c.deref_mut.ensures.value)) (inv.noted.bare none);
        due = subst (AreDue s.clock) (sym items) (keep-due s.clock s.detectors.items c.move_lanes.new.detectors keep inv.noted.due);
      };
    }

pub returns : goal.returns
returns c =
    let s = c.self.inside in
    let tile = tile-seen c.self.view_is c.requires.tile in
    let nodes : s.low + length c.deref.result.now ≡ s.high = rw c.deref.ensures.value c.self.invariant.wide.nodes in
    let shows : (m : Traffic) → ShowSignals s.low s.high s.signals.items m → ShowSignals s.low (s.low + length c.deref.result.now) c.deref.result.now m = λ m h. rw (nodes, c.deref.ensures.value) h in
    let none : s.arrived.items ≡ [] = ap (λ (t : TileView). t.arrived) c.self.view_is ∙ c.requires.none in
    let items : (with_items s.detectors c.move_lanes.new.detectors).items ≡ c.move_lanes.new.detectors = with_items_is s.detectors c.move_lanes.new.detectors (let e = c.move_lanes.auto.detectors in let f = c.deref_mut.ensures.len in let ok = s.detectors.ok in omega arith) in
    let keep : KeepMeters s.detectors.items c.move_lanes.new.detectors = subst (λ gs. KeepMeters gs c.move_lanes.new.detectors) c.deref_mut.ensures.value c.move_lanes.ensures.watches.meters in
    let mouths : (with_items s.mouths c.move_lanes.new.mouths).items ≡ c.move_lanes.new.mouths = with_items_is s.mouths c.move_lanes.new.mouths (let e = c.move_lanes.auto.mouths in let f = c.deref_mut-2.ensures.len in let ok = s.mouths.ok in omega arith) in
    let moves = moves-of c.args.net.now (seen c.self.inside) tile c.move_lanes.new.own (with_items s.mouths c.move_lanes.new.mouths).items c.move_lanes.new.arrived.items c.move_lanes.new.left.items (with_items s.detectors c.move_lanes.new.detectors).items c.move_lanes.ensures.drives.same c.move_lanes.ensures.drives.room
    (λ m on clock signals stand. c.move_lanes.ensures.drives.stand m (record { on = on; in_time = clock; signals = shows m signals }) stand)
    (λ m on clock signals stand. rw none at (c.move_lanes.ensures.drives.arrived m (record { on = on; in_time = clock; signals = shows m signals }) stand))
    (λ m on clock signals stand. rw c.clear.ensures.items at (c.move_lanes.ensures.drives.rows m (record { on = on; in_time = clock; signals = shows m signals }) stand))
    (subst (KeepMeters s.detectors.items) (sym items) keep)
    (λ m on clock signals stand. subst (HaveWatched m s.own.places) (sym items) (c.move_lanes.ensures.watches.watched m (record { on = on; in_time = clock; signals = shows m signals }) stand))
    (λ m stand j p at. ap (λ (ms : List Bool). mouth ms p) mouths ∙ c.move_lanes.ensures.shown m stand j p at) in
    at-view (MotionPhase c.args.net.now) c.self.view_is moves
