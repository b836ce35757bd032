use Rattle.std.proofs.Common.{◌≡◌, ◌<◌, true, length, sym, subst, arith}
use Rattle.street_base.specs.Prelude.{serves}
use Rattle.street_net.proofs.NextLemmas.{kept-at}
use Rattle.street_net.proofs.network.Network.nexts_from.Goals as goal

pub returns-in-0 : goal.returns-in-0
returns-in-0 c = λ next h.
    let net = c.args.self.now in
    let within : c.position-at.result < length c.self.inside.nexts.items = omega (arith, c.if-at-len.false, c.len.ensures) in
    let kept = kept-at c.self.inside.spec net c.self.view_is c.self.inside.nexts.items c.self.invariant.nexts_kept c.args.link c.position-at.result c.index-pair.result.now c.position-at.ensures within c.index-pair.ensures in
    subst (λ l. serves net (record { link = c.args.link; lane = l }) next ≡ true) (sym c.in-0.is) (kept.zero next h)

pub returns-in-1 : goal.returns-in-1
returns-in-1 c = λ next h.
    let net = c.args.self.now in
    let within : c.position-at.result < length c.self.inside.nexts.items = omega (arith, c.if-at-len.false, c.len.ensures) in
    let kept = kept-at c.self.inside.spec net c.self.view_is c.self.inside.nexts.items c.self.invariant.nexts_kept c.args.link c.position-at.result c.index-pair.result.now c.position-at.ensures within c.index-pair.ensures in
    subst (λ l. serves net (record { link = c.args.link; lane = l }) next ≡ true) (sym c.in-1.is) (kept.one next h)
