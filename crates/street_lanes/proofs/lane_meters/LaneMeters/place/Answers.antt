use Rattle.std.proofs.Common.{◌≡◌, ◌<◌, ◌++◌, ◌∷◌, [], ◌∙◌, ap, arith}
use Rattle.street_lanes.specs.Prelude.{Detectors}
use Rattle.street_lanes.proofs.PlacedMeter.{even-more, within-more}
use Rattle.street_lanes.proofs.lane_meters.LaneMeters.place.Goals as goal

pub invariant_of-self-2 : goal.invariant_of-self-2
invariant_of-self-2 c =
    let s = c.self.inside in
    let meters : c.push_reserved.new.self.items ≡ s.meters.items ++ c.in_ok-meter.meter ∷ [] = c.push_reserved.ensures.items ∙ ap (λ xs. xs ++ c.in_ok-meter.meter ∷ []) c.reserve.ensures.items in
    let watches = c.push_reserved-2.ensures.items ∙ ap (λ ws. ws ++ c.watch_at.result ∷ []) c.reserve-2.ensures.items in
    let size = ap (λ (g : Detectors). g.size) c.self.view_is in
    let below : c.in_ok-meter.meter.cell < s.length = (let h = c.requires.cell in let e = c.in_ok-meter.ensures.place.1 in let f = size in omega arith) in
    record {
      even = even-more s.meters.items c.push_reserved.new.self.items c.in_ok-meter.meter s.watches.items c.push_reserved-2.new.self.items c.watch_at.result meters watches c.self.invariant.even;
      within = within-more s.length s.meters.items c.push_reserved.new.self.items c.in_ok-meter.meter meters below c.self.invariant.within;
    }
