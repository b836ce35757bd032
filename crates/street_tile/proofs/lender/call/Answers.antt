use Rattle.street_tile.proofs.lender.call.Goals as goal

pub returns-clause-does : goal.returns-clause-does
returns-clause-does g c = (c.requires.makes.does _ c.args.part _ _ _ c.lend.ensures).1
