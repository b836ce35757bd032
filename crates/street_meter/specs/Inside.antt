-- What the fields of a meter stand for, and its next rows.
use Rattle.std.specs.Prelude.{◌≡◌, ℕ, ◌+◌, ◌*◌, ◌^◌, ◌<◌, ◌≤◌}
use Rattle.street_base.specs.Prelude.{last_clock, most_period}
use Rattle.street_base.specs.declared.reply.MeterRow.{MeterRow}
use Rattle.street_base.specs.declared.reply.RunningRow.{RunningRow}
use Rattle.street_meter.specs.declared.meter.Meter.TheInside.{Inside}
use Rattle.street_meter.specs.Meter.{Meter}

-- the meter, as contracts see it, that the fields stand for: lane and cell of its site, and its period, first step,
-- full rows and running row as they are kept
abbrev pub shown : Inside → Meter
shown m = record {
  place = m.site.at;
  cell = m.site.cell;
  period = m.period;
  start = m.start;
  rows = m.rows.items;
  running = m.running;
}

-- that a meter is as it is between two steps: its period is from 1 to `most_period`, its running row lacks a step at
-- least, its steps so far end by `last_clock`, each sum of it is at most 2^32 a step, and there is room for exactly 32
-- full rows
pub record IsSound (m : Inside) : Type 0 where
  pub some : 1 ≤ m.period
  pub short : m.period ≤ most_period
  pub steps : m.running.steps < m.period
  pub clock : m.running.start + m.running.steps ≤ last_clock
  pub passes : m.running.passes ≤ m.running.steps * 2 ^ 32
  pub speeds : m.running.speeds ≤ m.running.steps * 2 ^ 32
  pub occupied : m.running.occupied ≤ m.running.steps * 2 ^ 32
  pub room : m.rows.capacity ≡ 32

-- the running row after one step more: its start stays, its steps are one more, and these three are added to its sums
abbrev pub row_with : RunningRow → ℕ → ℕ → ℕ → RunningRow
row_with row passes speeds occupied = record {
  start = row.start;
  steps = row.steps + 1;
  passes = row.passes + passes;
  speeds = row.speeds + speeds;
  occupied = row.occupied + occupied;
}

-- the full row that a running row becomes when its period is over: its start and its sums, without the count of steps
abbrev pub row_full : RunningRow → MeterRow
row_full row = record { start = row.start; passes = row.passes; speeds = row.speeds; occupied = row.occupied }

-- the running row of a period that begins in step `start`: no steps yet, all sums 0
abbrev pub row_from : ℕ → RunningRow
row_from start = record { start = start; steps = 0; passes = 0; speeds = 0; occupied = 0 }
