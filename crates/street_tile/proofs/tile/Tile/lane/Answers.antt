use Rattle.std.proofs.lemmas.Result.{IfOk-weaker}
use Rattle.street_tile.proofs.DoesIf.{seen-within, seen-shown}
use Rattle.street_tile.proofs.SameLanes.{same-none}
use Rattle.street_tile.proofs.tile.Tile.lane.Goals as goal

pub lane-requires : goal.lane-requires
lane-requires c = record { lane = seen-within c.args.net.now c.self.view_is c.requires.tile c.number-lane.result c.args.at c.number-lane.ensures c.self.inside.own (same-none c.self.inside.own) }

pub returns : goal.returns
returns c = IfOk-weaker c.lane.result _ _ (λ reply shows m on s. seen-shown c.args.net.now c.self.view_is c.requires.tile c.number-lane.result c.args.at c.number-lane.ensures reply shows m s) c.lane.ensures
