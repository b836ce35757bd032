use Rattle.street_tile.proofs.DoesIf.{seen-plan}
use Rattle.street_tile.proofs.tile.Tile.set_signal.Goals as goal

pub returns : goal.returns
returns c = λ net other shows. seen-plan net c.self.view_is c.args.node c.position.result c.args.plan other c.requires.low c.requires.high c.self.invariant.wide.nodes c.position.ensures shows
