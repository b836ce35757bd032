use Rattle.std.proofs.Common.{◌≡◌, map, sym, ◌∙◌, ap, subst, arith, All}
use Rattle.std.specs.Vec.{with_items}
use Rattle.std.proofs.lemmas.List.{with_items_is}
use Rattle.street_rule.specs.Prelude.{IsReady}
use Rattle.street_lanes.specs.Prelude.{Detectors, cleared}
use Rattle.street_lanes.proofs.ClearedWatches.{cleared-ready}
use Rattle.street_lanes.proofs.lane_meters.LaneMeters.clear.Goals as goal

pub returns-clause-ready : goal.returns-clause-ready
returns-clause-ready c =
    let s = c.self.inside in
    let items : (with_items s.watches c.clear.new.watches).items ≡ c.clear.new.watches = with_items_is s.watches c.clear.new.watches (let e = c.clear.auto in let f = c.deref_mut.ensures.len in let ok = s.watches.ok in omega arith) in
    let is : (with_items s.watches c.clear.new.watches).items ≡ map cleared s.meters.items = items ∙ c.clear.ensures ∙ ap (map cleared) c.deref.ensures.value in
    let size = ap (λ (g : Detectors). g.size) c.self.view_is in
    subst (λ n. All (IsReady n) (with_items s.watches c.clear.new.watches).items) size (subst (All (IsReady s.length)) (sym is) (cleared-ready s.meters.items s.length c.self.invariant.within))
