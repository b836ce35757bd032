use Rattle.std.proofs.Common.{◌∷◌, [], length, length-append, sym, ap, subst, arith}
use Rattle.street_base.proofs.FaultLemmas.{few_links}
use Rattle.street_net.specs.declared.nexts.Pair.{Pair}
use Rattle.street_net.specs.Prelude.{AreServed, IsKept, AreKept}
use Rattle.street_net.proofs.NextLemmas.{kept-more}
use Rattle.street_net.proofs.network.Network.nexts_of_links.Goals as goal

pub overflow_cast-position : goal.overflow_cast-position
overflow_cast-position c = omega (arith, few_links c.self.inside.spec c.self.invariant.faultless, c.self.invariant.briefs_kept.one_each, c.len-count.ensures, c.loop-position-test.true)

pub loop-position-preserved : goal.loop-position-preserved
loop-position-preserved c =
    let net = c.args.self.now in
    let pair : Pair = record { zero = c.first_nexts-zero.result; one = c.first_nexts-one.result } in
    let here : IsKept net c.loop-position.position pair = record {
      zero = subst (λ l. AreServed net (record { link = l; lane = 0 }) pair.zero) c.new-link.ensures c.first_nexts-zero.ensures;
      one = subst (λ l. AreServed net (record { link = l; lane = 1 }) pair.one) c.new-link.ensures c.first_nexts-one.ensures;
    } in
    record {
      one_each = omega (arith, ap length c.in_ok-push.ensures.items, length-append c.loop-position.pairs.items (pair ∷ []), c.loop-position.invariant.one_each);
      kept = subst (AreKept net) (sym c.in_ok-push.ensures.items) (kept-more net c.loop-position.pairs.items c.loop-position.position pair c.loop-position.invariant.one_each c.loop-position.invariant.kept here);
    }
