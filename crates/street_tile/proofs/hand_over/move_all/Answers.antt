use Rattle.std.proofs.Common.{take, arith}
use Rattle.street_tile.specs.Prelude.{all_handed}
use Rattle.street_tile.proofs.BetweenPhases.{tiles-same}
use Rattle.street_tile.proofs.MovedHandOvers.{up-to-start, up-to-same, up-to-lanes, up-to-awaits, up-to-next, up-to-all}
use Rattle.street_tile.proofs.KeepsHints.{hints-none, hints-then}
use Rattle.street_tile.proofs.hand_over.move_all.Goals as goal

pub loop-i-init : goal.loop-i-init
loop-i-init c = record { moved = up-to-start c.args.tiles.now c.requires.nobody; hints = hints-none c.args.hints.now }

pub move_from-requires-clause-tiles : goal.move_from-requires-clause-tiles
move_from-requires-clause-tiles c = tiles-same c.args.net.now c.args.tiles.now c.loop-i.tiles (omega arith) (up-to-same c.args.tiles.now c.loop-i.tiles c.loop-i.i c.loop-i.invariant.moved) c.requires.tiles

pub move_from-requires-clause-lanes : goal.move_from-requires-clause-lanes
move_from-requires-clause-lanes c = up-to-lanes c.args.net.now c.args.tiles.now c.loop-i.tiles c.loop-i.i c.loop-i.invariant.moved c.requires.lanes

pub move_from-requires-clause-awaits : goal.move_from-requires-clause-awaits
move_from-requires-clause-awaits c = (all_handed (take c.loop-i.i c.args.tiles.now), up-to-awaits c.args.tiles.now c.loop-i.tiles c.loop-i.i c.loop-i.invariant.moved)

pub loop-i-preserved : goal.loop-i-preserved
loop-i-preserved c = record {
  moved = up-to-next c.args.tiles.now c.loop-i.tiles c.move_from.new.tiles c.loop-i.i (omega arith) c.loop-i.invariant.moved (omega arith)
      (λ d. c.move_from.ensures.moved (all_handed (take c.loop-i.i c.args.tiles.now)) d (up-to-awaits c.args.tiles.now c.loop-i.tiles c.loop-i.i c.loop-i.invariant.moved));
  hints = hints-then c.args.hints.now c.loop-i.hints c.move_from.new.hints c.loop-i.invariant.hints c.move_from.ensures.hints;
}

pub returns-clause-moved : goal.returns-clause-moved
returns-clause-moved c = up-to-all c.args.tiles.now c.loop-i.tiles c.loop-i.i (omega arith) c.loop-i.invariant.moved
