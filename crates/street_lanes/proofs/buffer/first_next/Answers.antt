use Rattle.std.proofs.Common.{sym, ap, ◌∙◌, slice_get, option_map}
use Rattle.street_lanes.specs.Prelude.{queued_of, ready_next}
use Rattle.street_yard.proofs.YardLemmas.{head-held}
use Rattle.street_lanes.proofs.Cars.{cars-none}
use Rattle.street_lanes.proofs.buffer.first_next.Goals as goal

pub step-requires : goal.step-requires
step-requires c = head-held c.args.yard.now c.args.list.0 c.in_ok-key.key c.in_ok-key.ensures.whole (sym c.in_ok-key.ensures.front)

pub next_link-requires : goal.next_link-requires
next_link-requires c = head-held c.args.yard.now c.args.list.0 c.in_ok-key.key c.in_ok-key.ensures.whole (sym c.in_ok-key.ensures.front)

pub returns-in_err-key : goal.returns-in_err-key
returns-in_err-key c = c.from_residual.ensures ∙ sym (ap (λ cs. ready_next c.args.clock (option_map queued_of (slice_get cs 0))) (cars-none c.args.yard.now c.args.list.0 (sym c.in_err-key.ensures.front)))
