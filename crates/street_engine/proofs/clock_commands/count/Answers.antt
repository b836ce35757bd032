use Rattle.std.proofs.Common.{refl}
use Rattle.street_base.specs.declared.command.Command.TheVariants.{Count}
use Rattle.street_engine.proofs.Serves.{streets-told}
use Rattle.street_engine.proofs.clock_commands.count.Goals as goal

pub returns : goal.returns
returns c = streets-told c.args.streets.now Count _ (λ m. refl) (λ m stands. (refl, c.census.ensures m stands))
