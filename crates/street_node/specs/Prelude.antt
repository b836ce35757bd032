-- The names that contracts and proofs cite most, passed on from one place. Declares nothing.
pub use Rattle.street_node.specs.Buffers.{AreIn, AreListed, AreOf, Buffers, HaveShortPlans, list_of, node_at, queue_of, queued_of, taken_in}
pub use Rattle.street_node.specs.Greens.{AreKeptGreens, AreSamePhases, HasMarks, IsCycle, IsInOrder, IsSamePhase, ShowsAs, TellsSignalFault}
pub use Rattle.street_node.specs.Greens.{green_seen, mark_of, node_id, phase_seen, plan_seen, shown, turn_cmp, turn_rank}
pub use Rattle.street_node.specs.Releases.{Crossing, IsAhead, IsFront, Releases, ReleasesFirst, Sends, SendsFront, SendsOn, Shows, begins_at}
pub use Rattle.street_node.specs.Releases.{crossing, crossing_in, lane_from, lane_to, queue_after, sent_on, way_out}
pub use Rattle.street_node.specs.Walks.{AreShut, AtMostOnce, IsWalk, times}
