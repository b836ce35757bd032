use Rattle.std.proofs.Common.{ap, subst, length}
use Rattle.street_base.specs.Prelude.{network_fault}
use Rattle.street_net.specs.Prelude.{TellsFault}
use Rattle.street_engine.proofs.LoadCommand.{load-done, load-refused, load-starved}
use Rattle.street_engine.proofs.commands.load.Goals as goal

pub returns-in-Ok-clause-serves : goal.returns-in-Ok-clause-serves
returns-in-Ok-clause-serves c = load-done c.args.net.now c.in-Ok.streets _ _ _ (ap length c.as_slice.ensures) (ap length c.as_slice-in-Ok.ensures) (ap length c.as_slice-in-Ok-2.ensures) c.in-Ok.ensures.faultless c.in-Ok.ensures.stands

pub returns-in-Err-Bad-clause-serves : goal.returns-in-Err-Bad-clause-serves
returns-in-Err-Bad-clause-serves c = load-refused c.args.net.now c.in-Err-Bad.part c.in-Err-Bad.at (subst (TellsFault (network_fault c.args.net.now)) c.in-Err-Bad.field-0-is c.in-Err-Bad.ensures.fault)

pub returns-in-Err-Starved-clause-serves : goal.returns-in-Err-Starved-clause-serves
returns-in-Err-Starved-clause-serves c = load-starved c.args.net.now
