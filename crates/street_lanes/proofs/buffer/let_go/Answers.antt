use Rattle.std.proofs.Common.{IsSome, sym, subst, refl}
use Rattle.street_lanes.specs.Prelude.{LetsGo}
use Rattle.street_yard.proofs.YardLemmas.{head-on}
use Rattle.street_lanes.proofs.FirstOfList.{lets-go, nobody-goes}
use Rattle.street_lanes.proofs.buffer.let_go.Goals as goal

pub returns-in_err-key-clause-goes : goal.returns-in_err-key-clause-goes
returns-in_err-key-clause-goes c = subst (LetsGo c.args.list.0 c.args.yard.now c.args.yard.now) (sym c.from_residual.ensures) (nobody-goes c.args.yard.now c.args.list.0 (sym c.in_err-key.ensures.front))

pub unlink-requires : goal.unlink-requires
unlink-requires c = subst IsSome (sym (head-on c.args.yard.now c.args.list.0 c.in_ok-key.key c.in_ok-key.ensures.whole (sym c.in_ok-key.ensures.front))) refl

pub returns-clause-goes : goal.returns-clause-goes
returns-clause-goes c = lets-go c.args.yard.now c.unlink.new.self c.take.new.self c.args.list.0 c.in_ok-key.key c.unlink.result.0 c.take.result c.in_ok-key.ensures.whole (sym c.in_ok-key.ensures.front) c.unlink.ensures.list c.unlink.ensures.after c.unlink.ensures.whole c.take.ensures.car c.take.ensures.after
