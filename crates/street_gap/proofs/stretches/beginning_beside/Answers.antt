-- The search cuts the stretches where its test turns.
use Rattle.std.proofs.Common.{◌<◌, ◌≤◌, ◌-◌, arith, rules, tests, nat_le}
use Rattle.std.proofs.lemmas.Bool.Decides.{nat_tests}
use Rattle.std.proofs.lemmas.List.Sorted.{IsPartitionPoint-from_clause, IsPartitionedBy-leb}
use Rattle.street_gap.specs.declared.closures.Stretch.{Stretch}
use Rattle.street_gap.proofs.Cuts.{IsCut-by, firsts-rise}
use Rattle.street_gap.proofs.stretches.beginning_beside.Goals as goal

pub returns : goal.returns
returns c =
    IsCut-by (λ (s : Stretch). nat_le (s.first - 1) c.args.cell) (λ s. s.first - 1 ≤ c.args.cell) (λ s. c.args.cell < s.first - 1) (λ s e. grind (arith, nat_tests)) (λ s e. grind (arith, nat_tests)) c.args.stretches.now c.partition_point.result c.partition_point.ensures.bound
    (IsPartitionPoint-from_clause (λ (s : Stretch). nat_le (s.first - 1) c.args.cell) c.args.stretches.now c.partition_point.result c.partition_point.ensures.partitioned (IsPartitionedBy-leb (λ s. s.first - 1) c.args.stretches.now c.args.cell (λ i j d a b. let h = firsts-rise c.args.stretches.now c.requires i j d a b in omega arith)) (λ a r f k. search (rules, tests)))
