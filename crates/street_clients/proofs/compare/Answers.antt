use Rattle.std.proofs.Common.{ℕ, List, subst, Decides}
use Rattle.street_clients.specs.Replies.{Agrees}
use Rattle.street_clients.proofs.compare.Goals as goal

pub returns : goal.returns
returns g c =
    let same = subst (λ (replies : List ℕ). Decides c.in_ok-agrees.agrees (Agrees c.args.told.now replies)) c.deref.ensures.value c.in_ok-agrees.ensures in
    (c.in_ok-retold.retold, c.in_ok-retold.ensures, same)
