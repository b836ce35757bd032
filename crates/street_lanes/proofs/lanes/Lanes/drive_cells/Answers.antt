use Rattle.std.proofs.Common.{ap, ◌∙◌, arith, length, ◌∷◌, []}
use Rattle.street_lanes.specs.Prelude.{buffer_list, cells_list, Lanes}
use Rattle.street_lanes.proofs.Access.{in-extents, few-lanes, buffer-there}
use Rattle.street_lanes.proofs.LaneMotion.{link-there, lane-there, closed-there, watches-there, moved-sound, DrivesAt-moved}
use Rattle.street_lanes.proofs.FirstDue.{due-kept, away-both}
use Rattle.street_lanes.proofs.lanes.Lanes.drive_cells.Goals as goal

pub drive_leg-requires-clause-link : goal.drive_leg-requires-clause-link
drive_leg-requires-clause-link c = link-there c.self.inside.dice c.args.lane c.self.view_is c.self.invariant.laid c.requires.lane c.requires.of c.index.ensures c.index-2.ensures

pub drive_leg-requires-clause-lane : goal.drive_leg-requires-clause-lane
drive_leg-requires-clause-lane c = lane-there c.self.inside.dice c.args.lane c.self.view_is c.self.invariant.laid c.requires.lane c.requires.of c.index.ensures c.index-2.ensures

pub drive_leg-requires-clause-closed : goal.drive_leg-requires-clause-closed
drive_leg-requires-clause-closed c = closed-there c.self.inside.dice c.args.lane c.self.view_is c.self.invariant.laid c.requires.lane c.requires.of c.index.ensures c.index-2.ensures

pub drive_leg-requires-clause-watches : goal.drive_leg-requires-clause-watches
drive_leg-requires-clause-watches c = watches-there c.self.inside.dice c.args.lane c.self.view_is c.self.invariant.laid c.requires.lane c.requires.of c.index.ensures c.index-2.ensures c.args.watches.now c.requires.watches

pub invariant_of-self : goal.invariant_of-self
invariant_of-self c = record {
  laid = moved-sound c.self.inside.dice c.args.lane c.self.view_is c.self.invariant.laid c.requires.lane c.requires.of c.index.ensures c.index-2.ensures
      c.drive_leg.new.yard c.drive_leg.new.dice c.drive_leg.ensures.dice c.args.signal.now c.args.clock c.drive_leg.result c.args.watches.now c.drive_leg.new.watches c.drive_leg.ensures.moves;
  due = due-kept (cells_list c.args.lane ∷ buffer_list c.args.lane ∷ []) c.self.inside.yard c.drive_leg.new.yard (length c.self.inside.extents.items) c.self.inside.due.items c.drive_leg.ensures.moves.touches (away-both c.args.lane) c.self.invariant.due;
  none_closed = c.self.invariant.none_closed;
}

pub returns : goal.returns
returns c =
    DrivesAt-moved c.self.inside.dice c.args.lane c.self.view_is c.self.invariant.laid c.requires.lane c.requires.of c.index.ensures c.index-2.ensures
    c.drive_leg.new.yard c.drive_leg.new.dice c.drive_leg.ensures.dice c.args.signal.now c.args.clock c.drive_leg.result c.args.watches.now c.drive_leg.new.watches c.drive_leg.ensures.moves

pub index-requires : goal.index-requires
index-requires c = let there = in-extents c.self.inside c.args.self.now c.self.view_is c.args.lane c.requires.lane in omega (arith, c.self.inside.extents.ok)

pub index-requires-2 : goal.index-requires-2
index-requires-2 c = let there = in-extents c.self.inside c.args.self.now c.self.view_is c.args.lane c.requires.lane in omega (arith, c.self.invariant.laid.one_each, c.self.inside.closures.ok)

pub drive_leg-requires-clause-few : goal.drive_leg-requires-clause-few
drive_leg-requires-clause-few c = few-lanes c.self.inside c.args.self.now c.self.view_is c.args.lane c.requires.lane c.self.invariant.laid

pub drive_leg-requires-clause-listed : goal.drive_leg-requires-clause-listed
drive_leg-requires-clause-listed c = buffer-there c.self.inside c.args.self.now c.self.view_is c.args.lane c.requires.lane c.self.invariant.laid

pub drive_leg-requires-clause-dice : goal.drive_leg-requires-clause-dice
drive_leg-requires-clause-dice c = ap (λ (w : Lanes). w.odds) c.self.view_is ∙ c.requires.of.odds
