use Rattle.std.proofs.Common.{◌≡◌, ℕ, ◌+◌, ◌≤◌, length, arith}
use Rattle.street_base.specs.Prelude.{IsSoundTraffic, Traffic, step, in_buffers, in_cells, most_vehicles}
use Rattle.street_base.proofs.CountLemmas.{adds-up}
use Rattle.street_base.proofs.StepLemmas.{step-sound}
use Rattle.street_tile.proofs.Stepped.{step-long, step-count}
use Rattle.street_tile.proofs.tiles.Tiles.rows.Goals as goal

pub totals-totals-requires : goal.totals-totals-requires
totals-totals-requires c = let r = c.requires in let long = step-long r.0 in let most = r.3 in (step r.0, r.1.stand, step-sound r.0 r.2, omega (arith, long, most))

pub arrivals-requires : goal.arrivals-requires
arrivals-requires c = (c.requires.0, c.requires.1)

pub returns : goal.returns
returns c m s =
    let cells = c.totals-totals.ensures.cells (step m) s.stand in
    let buffers = c.totals-totals.ensures.buffers (step m) s.stand in
    let arrived = c.arrivals.ensures.count m s in
    let count = step-count c.args.self.now.network m s.stand.lanes.on in
    omega (arith, cells, buffers, arrived, count)

-- they are no more than vehicles
on-lanes-few : (m : Traffic) → IsSoundTraffic m → length m.ends ≤ most_vehicles → (cells buffers : ℕ) → cells ≡ in_cells (step m) → buffers ≡ in_buffers (step m) → cells + buffers ≤ most_vehicles
on-lanes-few m sound most cells buffers a b =
    let sum = adds-up (step m) (step-sound m sound) in
    let long = step-long m in
    omega (arith, a, b, sum, long, most)

pub overflow_add-result : goal.overflow_add-result
overflow_add-result c =
    let r = c.requires in
    let few = on-lanes-few r.0 r.2 r.3 c.totals-totals.result.cells c.totals-totals.result.buffers (c.totals-totals.ensures.cells (step r.0) r.1.stand) (c.totals-totals.ensures.buffers (step r.0) r.1.stand) in
    omega (arith, few)

pub overflow_add-result-2 : goal.overflow_add-result-2
overflow_add-result-2 c =
    let r = c.requires in
    let few = on-lanes-few r.0 r.2 r.3 c.totals-totals.result.cells c.totals-totals.result.buffers (c.totals-totals.ensures.cells (step r.0) r.1.stand) (c.totals-totals.ensures.buffers (step r.0) r.1.stand) in
    omega (arith, few, c.arrivals.ensures.few)

pub overflow_cast-result : goal.overflow_cast-result
overflow_cast-result c =
    let r = c.requires in
    let few = on-lanes-few r.0 r.2 r.3 c.totals-totals.result.cells c.totals-totals.result.buffers (c.totals-totals.ensures.cells (step r.0) r.1.stand) (c.totals-totals.ensures.buffers (step r.0) r.1.stand) in
    omega (arith, few, c.arrivals.ensures.few)
