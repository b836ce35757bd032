use Rattle.std.proofs.Common.{refl, sym, subst, Some}
use Rattle.street_base.specs.declared.command.Command.{Command}
use Rattle.street_base.specs.declared.command.Command.TheVariants.{Load}
use Rattle.street_base.specs.declared.refusal.Refusal.TheVariants.{AlreadyLoaded}
use Rattle.street_base.specs.declared.reply.Reply.TheVariants.{Refused}
use Rattle.street_base.specs.declared.reply.Outcome.TheVariants.{Whole}
use Rattle.street_engine.specs.Prelude.{Serves}
use Rattle.street_engine.proofs.Serves.{streets-refused}
use Rattle.street_engine.proofs.commands.serve.Goals as goal

pub returns-in-Load-clause-serves : goal.returns-in-Load-clause-serves
returns-in-Load-clause-serves g c = subst (λ (d : Command). Serves (Some c.args.streets) d (Refused AlreadyLoaded) Whole (Some c.args.streets)) (sym c.in-Load.is)
    (streets-refused c.args.streets (Load c.in-Load.field-0) AlreadyLoaded (λ m stands. refl))
