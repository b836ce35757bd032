use Rattle.std.proofs.Common.{arith, rules, tests, nat_lt}
use Rattle.std.proofs.lemmas.Bool.{ltb-true, ltb-false}
use Rattle.std.proofs.lemmas.List.Sorted.{IsPartitionPoint-from_clause, IsPartitionedBy-ltb}
use Rattle.street_base.specs.declared.net.Turn.{Turn}
use Rattle.street_net.specs.Prelude.{list_number}
use Rattle.street_net.proofs.turns.start_of.Goals as goal

pub returns : goal.returns
returns c =
    let turns = c.args.turns.now in
    let list = c.args.list in
    let parted = IsPartitionPoint-from_clause (λ (t : Turn). nat_lt (list_number t) list) turns c.partition_point.result c.partition_point.ensures.partitioned (IsPartitionedBy-ltb list_number turns list c.requires) (λ a r f k. search (rules, tests)) in
    record {
      within = c.partition_point.ensures.bound;
      before = λ k d low. ltb-true _ list (parted.0 k d (omega arith) low);
      after = λ k d low high. ltb-false _ list (parted.1 k d low high);
    }
