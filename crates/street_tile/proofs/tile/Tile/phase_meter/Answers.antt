use Rattle.std.proofs.Common.{◌≡◌, ◌+◌, ◌≤◌, List, length, vec_capacity, refl, sym, subst, ap, ◌∙◌, arith}
use Rattle.std.specs.Vec.{with_items}
use Rattle.std.proofs.lemmas.List.{with_items_is}
use Rattle.std.proofs.lemmas.Option.{slice_get_within, slice_get-get_or}
use Rattle.street_base.specs.declared.net.NetSpec.{NetSpec}
use Rattle.street_base.specs.Prelude.{no_lane, lane_at}
use Rattle.street_lanes.specs.Prelude.{Lanes, lane_of, Detectors}
use Rattle.street_tile.specs.Inside.{seen}
use Rattle.street_tile.specs.Prelude.{TileView, IsTileOf, AreNextPairs, AreNumbers, AreBare, AreDue, HaveNoted, detectors_at, noted_by, MeterPhase, ticked}
use Rattle.street_tile.proofs.SameLanes.{same-none, even-of}
use Rattle.street_tile.proofs.SameTile.{tile-seen, at-view}
use Rattle.street_tile.proofs.MetersStand.{detectors-even, noted-sizes, noted-bare, noted-due, lane-noted}
use Rattle.street_tile.proofs.tile.Tile.phase_meter.Goals as goal

pub note_lanes-requires-clause-even : goal.note_lanes-requires-clause-even
note_lanes-requires-clause-even c =
    let s = c.self.inside in
    let tile = tile-seen c.self.view_is c.requires.tile in
    ap length c.deref_mut.ensures.value ∙ detectors-even c.args.net.now s.own tile.own s.detectors.items tile.sized ∙ sym (even-of c.args.net.now s.own tile.own)

pub note_lanes-requires-clause-in_time : goal.note_lanes-requires-clause-in_time
note_lanes-requires-clause-in_time c =
    let s = c.self.inside in
    let clock : s.clock ≡ c.args.self.now.clock = ap (λ (t : TileView). t.clock) c.self.view_is in
    (s.clock, (let h = c.requires.in_time in omega arith), subst (AreDue s.clock) (sym c.deref_mut.ensures.value) c.self.invariant.noted.due)

-- the detectors of a tile note the step, and its clock goes on
ticks-of : (net : NetSpec) (x : TileView) (detectors : List Detectors) → IsTileOf net x → HaveNoted x.own x.detectors detectors → MeterPhase net x (record x { clock = x.clock + 1; detectors = detectors })
unfolding ticked noted_by
ticks-of net x detectors tile noted = record {
  arrived = refl;
  left = refl;
  goes = record {
    same = record { low = refl; high = refl; links = refl; own = same-none x.own; sized = noted-sizes x.own x.detectors detectors noted };
    handed = refl;
    coming = refl;
    room = omega arith;
    stands = λ m on s. record { clock = ap (λ n. n + 1) s.clock; lanes = s.lanes; none_loose = s.none_loose; signals = s.signals };
  };
  noted = λ before m on s saw stand k p at.
      let within = slice_get_within x.own.places k p at in
      let lanes = even-of net x.own tile.own in
      let even = detectors-even net x.own tile.own x.detectors tile.sized in
      let here = s.lanes k p (lane_of x.own k) at (slice_get-get_or x.own.lanes k no_lane (omega arith)) in
      lane-noted before m p (detectors_at x.detectors k).meters (detectors_at detectors k).meters (detectors_at x.detectors k).watches (noted.go k (omega arith)) (noted.note k (lane_at m p) (omega arith) here) (saw k p at) (stand k p at);
}

pub returns : goal.returns
returns c =
    let s = c.self.inside in
    let x : TileView = seen s in
    let tile = tile-seen c.self.view_is c.requires.tile in
    let items : (with_items s.detectors c.note_lanes.new.detectors).items ≡ c.note_lanes.new.detectors = with_items_is s.detectors c.note_lanes.new.detectors (let e = c.note_lanes.auto.detectors in let f = c.deref_mut.ensures.len in let ok = s.detectors.ok in omega arith) in
    let noted = subst (λ gs. HaveNoted s.own gs c.note_lanes.new.detectors) c.deref_mut.ensures.value c.note_lanes.ensures in
    at-view (MeterPhase c.args.net.now) c.self.view_is
    (subst (λ (own : Lanes). MeterPhase c.args.net.now x (record x { own = own; clock = s.clock + 1; detectors = (with_items s.detectors c.note_lanes.new.detectors).items })) (sym c.pack.ensures)
    (ticks-of c.args.net.now x (with_items s.detectors c.note_lanes.new.detectors).items tile (subst (HaveNoted s.own s.detectors.items) (sym items) noted)))

pub invariant_of-self : goal.invariant_of-self
invariant_of-self c =
    let s = c.self.inside in
    let inv = c.self.invariant in
    let items : (with_items s.detectors c.note_lanes.new.detectors).items ≡ c.note_lanes.new.detectors = with_items_is s.detectors c.note_lanes.new.detectors (let e = c.note_lanes.auto.detectors in let f = c.deref_mut.ensures.len in let ok = s.detectors.ok in omega arith) in
    let noted = subst (λ gs. HaveNoted s.own gs c.note_lanes.new.detectors) c.deref_mut.ensures.value c.note_lanes.ensures in
    record {
      wide = record {
        nodes = inv.wide.nodes;
        numbered = subst (λ (own : Lanes). AreNumbers s.links own.places s.numbers.items) (sym c.pack.ensures) inv.wide.numbered;
        pairs = subst (λ (own : Lanes). AreNextPairs own.places s.next_pairs.items) (sym c.pack.ensures) inv.wide.pairs;
        mouths = inv.wide.mouths;
        coming = subst (λ (own : Lanes). length s.coming ≡ length own.places) (sym c.pack.ensures) inv.wide.coming;
        handed = subst (λ (own : Lanes). length own.places ≤ vec_capacity s.handed) (sym c.pack.ensures) inv.wide.handed;
        arrived = subst (λ (own : Lanes). length own.places ≤ vec_capacity s.arrived) (sym c.pack.ensures) inv.wide.arrived;
        left = subst (λ (own : Lanes). length own.places ≤ vec_capacity s.left) (sym c.pack.ensures) inv.wide.left;
      };
      noted = record {
        bare = λ none. subst AreBare (sym items) (noted-bare s.own s.detectors.items c.note_lanes.new.detectors noted (inv.noted.bare none));
        due = subst (AreDue (s.clock + 1)) (sym items) (noted-due s.own s.detectors.items s.clock c.note_lanes.new.detectors noted inv.noted.due);
      };
    }
