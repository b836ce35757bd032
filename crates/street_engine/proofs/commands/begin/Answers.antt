use Rattle.street_engine.proofs.LoadCommand.{not-loaded}
use Rattle.street_engine.proofs.commands.begin.Goals as goal

pub returns-in_default-clause-serves : goal.returns-in_default-clause-serves
returns-in_default-clause-serves c = not-loaded c.args.command.now c.in_default.not-Load
