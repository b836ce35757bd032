use Rattle.std.proofs.Common.{ℕ, ◌∙◌, subst, arith}
use Rattle.street_tile.specs.Prelude.{MayWork}
use Rattle.street_tile.proofs.SameTile.{tile-of-same}
use Rattle.street_tile.proofs.step.work.Goals as goal

pub run_phase-requires-in-5 : goal.run_phase-requires-in-5
run_phase-requires-in-5 g c =
    let may : MayWork c.args.net.now 5 c.args.shown.now c.args.tile.now = subst (λ (part : ℕ). MayWork c.args.net.now part c.args.shown.now c.args.tile.now) c.in-5.is c.requires in
    let changed = c.run_phase.ensures in
    let clock = changed.clock in
    let in_time = may.2 in
    (tile-of-same c.args.net.now c.args.tile.now c.run_phase.new.tile changed.goes.same may.0, changed.arrived ∙ may.1, omega arith)

pub run_phase-requires-in-6-2 : goal.run_phase-requires-in-6-2
run_phase-requires-in-6-2 g c =
    let may : MayWork c.args.net.now 6 c.args.shown.now c.args.tile.now = subst (λ (part : ℕ). MayWork c.args.net.now part c.args.shown.now c.args.tile.now) c.in-6.is c.requires in
    let entered = c.run_phase-in-6.ensures in
    let clock = entered.clock in
    let in_time = may.2 in
    (tile-of-same c.args.net.now c.args.tile.now c.run_phase-in-6.new.tile entered.same may.0, omega arith)
