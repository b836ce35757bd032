use Rattle.std.proofs.Common.{◌<◌, ◌^◌, length, arith}
use Rattle.street_tape.proofs.Upgraded.{calls_fit, upgrades_whole, upgrade_cut, upgrade_misses, upgrade_broke}
use Rattle.street_tape.specs.declared.upgrades.Upgrader.{Upgrader}
use Rattle.street_tape.proofs.upgrades.upgrade_within.Goals as goal

pub write_kept-requires : goal.write_kept-requires
write_kept-requires g c =
    let start : Upgrader = record { tape = c.new-tape.result; lines = c.new-lines.result } in
    let few : length c.drive_lines.new.handler.lines.items < 2 ^ 64 = rw (← c.as_slice.ensures.value) (omega (arith, c.as_slice.ensures.len)) in
    calls_fit start c.new-tape.ensures c.new-lines.ensures.items _ _ _ _ _ _ c.in-Ok.ensures.runs.whole few

pub returns-in-Ok-write_kept-clause-upgraded : goal.returns-in-Ok-write_kept-clause-upgraded
returns-in-Ok-write_kept-clause-upgraded g c =
    let start : Upgrader = record { tape = c.new-tape.result; lines = c.new-lines.result } in
    let did = rw c.as_slice.ensures.value at c.in-Ok-write_kept.ensures.written in
    upgrades_whole start c.new-tape.ensures c.new-lines.ensures.items _ _ _ _ _ _ c.in-Ok.ensures.runs.whole _ c.in-Ok-write_kept.all c.in-Ok-check_end.ensures.whole did.0 did.1

pub returns-in-Ok-check_end-clause-stops : goal.returns-in-Ok-check_end-clause-stops
returns-in-Ok-check_end-clause-stops g c =
    let start : Upgrader = record { tape = c.new-tape.result; lines = c.new-lines.result } in
    upgrade_cut start c.new-tape.ensures c.new-lines.ensures.items _ _ _ _ _ _ c.in-Ok.ensures.runs.whole _ c.in-Err-write_kept.fault c.in-Ok-check_end.ensures.whole
    (rw c.as_slice.ensures.value at c.in-Err-write_kept.ensures.part)

pub returns-in-Err-clause-stops : goal.returns-in-Err-clause-stops
returns-in-Err-clause-stops g c =
    let start : Upgrader = record { tape = c.new-tape.result; lines = c.new-lines.result } in
    rw c.fault_of.ensures (upgrade_broke start c.new-tape.ensures _ _ _ _ _ _ _ c.in-Err.ensures.runs.broken)

pub returns-clause-stops : goal.returns-clause-stops
returns-clause-stops g c =
    let start : Upgrader = record { tape = c.new-tape.result; lines = c.new-lines.result } in
    upgrade_misses start c.new-tape.ensures c.new-lines.ensures.items _ _ _ _ _ _ c.in-Ok.ensures.runs.whole _ c.in-Err-check_end.ensures.missing
