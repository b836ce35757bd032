-- The search cuts the stretches where its test turns.
use Rattle.std.proofs.Common.{◌<◌, ◌≤◌, arith, rules, tests, nat_lt}
use Rattle.std.proofs.lemmas.Bool.Decides.{nat_tests}
use Rattle.std.proofs.lemmas.List.Sorted.{IsPartitionPoint-from_clause, IsPartitionedBy-ltb}
use Rattle.street_gap.specs.declared.closures.Stretch.{Stretch}
use Rattle.street_gap.proofs.Cuts.{IsCut-by, lasts-rise}
use Rattle.street_gap.proofs.stretches.ending_below.Goals as goal

pub returns : goal.returns
returns c =
    IsCut-by (λ (s : Stretch). nat_lt s.last c.args.cell) (λ s. s.last < c.args.cell) (λ s. c.args.cell ≤ s.last) (λ s e. grind (arith, nat_tests)) (λ s e. grind (arith, nat_tests)) c.args.stretches.now c.partition_point.result c.partition_point.ensures.bound
    (IsPartitionPoint-from_clause (λ (s : Stretch). nat_lt s.last c.args.cell) c.args.stretches.now c.partition_point.result c.partition_point.ensures.partitioned (IsPartitionedBy-ltb (λ s. s.last) c.args.stretches.now c.args.cell (lasts-rise c.args.stretches.now c.requires)) (λ a r f k. search (rules, tests)))
