use Rattle.std.proofs.Common.{rules}
use Rattle.street_stream.proofs.HandlerReferences.{whole_part, broke_part}
use Rattle.street_line.proofs.ServiceHandler.{StopsLine, caused_as, served_whole, served_in_part}
use Rattle.street_line.specs.ServedLine.{IsServed}
use Rattle.street_line.proofs.runs.run_lines_within.Goals as goal

-- the server still holds the caller's reference, behind which it served
pub returns-in-Ok-clause-runs : goal.returns-in-Ok-clause-runs
returns-in-Ok-clause-runs g c =
    let runs = c.in-Ok.ensures.runs in
    let ran = whole_part (λ s. s.service.now) (λ s. s.service.ghost_name) (IsServed g.S.Service.serves) (StopsLine g.S.Service.serves) _ _ _ c.drive_lines.new.handler _ _ _ runs.whole in
    let same = ran.0 in
    let served = served_whole g.S.Service.serves _ _ _ _ _ _ _ ran.1 in
    record { served = search rules; broken = tt; caused = tt; bounded = runs.bounded }

pub returns-clause-runs : goal.returns-clause-runs
returns-clause-runs g c =
    let runs = c.in-Err.ensures.runs in
    let ran = broke_part (λ s. s.service.now) (λ s. s.service.ghost_name) (IsServed g.S.Service.serves) (StopsLine g.S.Service.serves) _ _ _ c.drive_lines.new.handler _ _ _ _ runs.broken in
    let same = ran.0 in
    let broken = served_in_part g.S.Service.serves _ _ _ _ _ _ _ _ ran.1 in
    let caused = caused_as _ _ _ _ runs.caused in
    rw c.kind_of.ensures (record { served = tt; broken = search rules; caused = caused; bounded = runs.bounded })
