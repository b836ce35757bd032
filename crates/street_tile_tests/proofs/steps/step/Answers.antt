use Rattle.std.proofs.Common.{arith}
use Rattle.street_tile_tests.proofs.PreparedTiles.{tiles-kept, idle-kept, prepared-kept, new-stand}
use Rattle.street_tile_tests.proofs.steps.step.Goals as goal

pub step_all-requires-clause-ready : goal.step_all-requires-clause-ready
step_all-requires-clause-ready g c = λ _ _. record {
  tiles = tiles-kept c.args.net.now c.args.tiles.now c.prepare.new.tiles c.prepare.auto.tiles c.in_ok-prepare.ensures c.requires.tiles;
  few = (let few = c.requires.few in let long = c.prepare.auto.tiles in omega arith);
  idle = idle-kept c.args.net.now c.args.tiles.now c.prepare.new.tiles c.prepare.auto.tiles c.in_ok-prepare.ensures c.requires.idle;
  prepared = prepared-kept c.args.net.now c.args.tiles.now c.prepare.new.tiles c.prepare.auto.tiles c.in_ok-prepare.ensures;
  stand = new-stand c.args.net.now c.args.tiles.now c.prepare.new.tiles c.prepare.auto.tiles c.in_ok-prepare.ensures c.spec-spec.ensures.faultless c.requires.start c.requires.stand;
}
