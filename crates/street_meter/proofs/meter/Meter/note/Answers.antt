-- The period ends, or goes on.
use Rattle.std.proofs.Common.{◌≡◌, ◌<◌, ◌+◌, ap, subst, sym, arith}
use Rattle.street_base.specs.declared.reply.RunningRow.{RunningRow}
use Rattle.street_meter.specs.Meter.{Stands}
use Rattle.street_meter.proofs.Periods.{goes-on, ends}
use Rattle.street_meter.proofs.meter.Meter.note.Goals as goal

pub returns-then-row-from-clause-stands : goal.returns-then-row-from-clause-stands
returns-then-row-from-clause-stands c triples stands =
    let read = subst (λ m. Stands m triples) (sym c.self.view_is) stands in
    let steps = ap (λ (r : RunningRow). r.steps) c.with_step-row.ensures in
    let full : c.self.inside.running.steps + 1 ≡ c.self.inside.period = omega (arith, steps, c.if-row-from.true, c.from.ensures) in
    rw (c.push_back.ensures.items, c.self.invariant.room, c.begun_at-self-inside.ensures, c.ended.ensures, c.with_step-row.ensures)
    (ends _ _ c.self.inside.period c.self.inside.start triples (record { passes = c.args.passes; speeds = c.args.speeds; occupied = c.args.occupied }) c.self.invariant.some c.self.inside.rows.items c.self.inside.running read full)

pub returns-else-row-from-clause-stands : goal.returns-else-row-from-clause-stands
returns-else-row-from-clause-stands c triples stands =
    let read = subst (λ m. Stands m triples) (sym c.self.view_is) stands in
    let steps = ap (λ (r : RunningRow). r.steps) c.with_step-row.ensures in
    let more : c.self.inside.running.steps + 1 < c.self.inside.period = omega (arith, steps, c.if-row-from.false, c.from.ensures, c.self.invariant.steps) in
    rw c.with_step-row.ensures
    (goes-on _ _ c.self.inside.period c.self.inside.start triples (record { passes = c.args.passes; speeds = c.args.speeds; occupied = c.args.occupied }) c.self.invariant.some c.self.inside.rows.items c.self.inside.running read more)
