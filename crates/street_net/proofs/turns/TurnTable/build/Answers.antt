use Rattle.std.proofs.Common.{◌≡◌, length, map, sym, ◌∙◌, ap, subst, arith, rules}
use Rattle.std.specs.List.Sorted.{IsPermutation, IsNonDecreasingBy}
use Rattle.std.proofs.lemmas.List.{length-map}
use Rattle.std.proofs.lemmas.List.Sorted.{IsNonDecreasingBy-from_sort_by_key, length_permutation}
use Rattle.street_net.specs.Prelude.{seen_turn, list_number, turn_rank, AreStarts}
use Rattle.street_net.proofs.Starts.{few-turns, lists-rise}
use Rattle.street_net.proofs.turns.TurnTable.build.Goals as goal

pub starts_of-requires-clause-few : goal.starts_of-requires-clause-few
starts_of-requires-clause-few c =
    let net = c.args.spec.now in
    let before = c.in_ok-turns.turns.items in
    let turns = c.sort_unstable_by_key.new.self.items in
    let long : length c.deref.result.now ≡ length net.turns = ap length c.deref.ensures.value ∙ length_permutation before turns c.sort_unstable_by_key.ensures.permutation ∙ ap length c.in_ok-turns.ensures ∙ length-map net.turns (seen_turn net) in
    omega (arith, few-turns net c.requires.faultless)

pub starts_of-requires-clause-rising : goal.starts_of-requires-clause-rising
starts_of-requires-clause-rising c =
    let net = c.args.spec.now in
    let turns = c.sort_unstable_by_key.new.self.items in
    let same : IsPermutation (map (seen_turn net) net.turns) turns = subst (λ us. IsPermutation us turns) c.in_ok-turns.ensures c.sort_unstable_by_key.ensures.permutation in
    let rising : IsNonDecreasingBy turn_rank turns = IsNonDecreasingBy-from_sort_by_key turn_rank turns c.sort_unstable_by_key.ensures.sorted (λ a r q k. search rules) in
    subst (IsNonDecreasingBy list_number) (sym c.deref.ensures.value) (lists-rise net c.requires.faultless turns same rising)

pub returns : goal.returns
returns c =
    let net = c.args.spec.now in
    let turns = c.sort_unstable_by_key.new.self.items in
    record {
      same = subst (λ us. IsPermutation us turns) c.in_ok-turns.ensures c.sort_unstable_by_key.ensures.permutation;
      rising = IsNonDecreasingBy-from_sort_by_key turn_rank turns c.sort_unstable_by_key.ensures.sorted (λ a r q k. search rules);
      two_each = omega (arith, c.in_ok-starts.ensures.one_each, ap length c.as_slice.ensures);
      cut = subst (AreStarts c.in_ok-starts.starts.items) c.deref.ensures.value c.in_ok-starts.ensures.cut;
    }
