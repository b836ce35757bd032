-- The names that contracts and proofs cite most, passed on from one place. Declares nothing.
pub use Rattle.street_net.specs.Keys.{ids_of_links, ids_of_nodes, keys_of_turns, turn_key}
pub use Rattle.street_net.specs.Refused.{TellsEntry, TellsFault, TellsRefusal, entry_lanes, has_turn, lane_refusal, plan_refusal}
pub use Rattle.street_net.specs.Slots.{mouth, slot_of}
pub use Rattle.street_net.specs.Tables.{AreBriefs, AreInLanes, AreKept, AreServed, AreStarts, AreTables, AreTurnsFrom, FindsTurn, IsBrief, IsChecked}
pub use Rattle.street_net.specs.Tables.{IsKept, IsServedOrNone, IsStart, IsTurnTable, ends_at, has_next, in_places, is_from, turns_at, list_number}
pub use Rattle.street_net.specs.Tables.{seen_turn, turn_by_position, turn_rank, turns_from}
