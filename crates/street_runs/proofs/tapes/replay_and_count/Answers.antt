use Rattle.std.proofs.Common.{inr}
use Rattle.street_runs.proofs.Counts.{counts, count_stops}
use Rattle.street_runs.proofs.tapes.replay_and_count.Goals as goal

pub returns-in-Ok-print_reply-clause-counted : goal.returns-in-Ok-print_reply-clause-counted
returns-in-Ok-print_reply-clause-counted g c =
    counts _ _ _ _ c.replay.new.engine _ c.in-Ok.tally _ _ c.in-Ok.ensures.replayed c.apply-reply.ensures.serves _ c.in-Ok-print_reply.ensures.written

pub returns-clause-stops : goal.returns-clause-stops
returns-clause-stops g c =
    inr (count_stops _ _ _ _ c.replay.new.engine _ c.in-Ok.tally _ _ c.in-Ok.ensures.replayed c.apply-reply.ensures.serves _ (record { kind = c.in-Err-print_reply.kind; tally = c.in-Ok.tally }) c.in-Err-print_reply.ensures.part)
