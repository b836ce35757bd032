-- The names that contracts and proofs cite most, passed on from one place. Declares nothing.
pub use Rattle.street_base.specs.Apart.{AreDisjoint, weight}
pub use Rattle.street_base.specs.Census.{IsFormed, IsSoundTraffic, IsSoundState, IsWhole, has_ended, in_lane, in_lanes, one_if}
pub use Rattle.street_base.specs.Closing.{closed_cells, marked, stretch_from, with_marks}
unfoldable pub use Rattle.street_base.specs.Closing.{stretches, with_closure}
pub use Rattle.street_base.specs.Departure.{departs, is_before, with_departure}
unfoldable pub use Rattle.street_base.specs.Departure.{departed, departed_lane, departing}
pub use Rattle.street_base.specs.Detector.{full_periods, full_rows, of_passing, row, row_of, running_row}
unfoldable pub use Rattle.street_base.specs.Detector.{triple}
pub use Rattle.street_base.specs.Draw.{dawdle_draw, key_of_seed, lane_draw}
unfoldable pub use Rattle.street_base.specs.Draw.{draw}
pub use Rattle.street_base.specs.Effects.{cell_without, green_of, is_car, lane_without, named_lane, phase_of_spec, plan_of, position_of}
unfoldable pub use Rattle.street_base.specs.Effects.{metered, signalled, taken_out}
pub use Rattle.street_base.specs.Faults.{Fault, first_bad, in_part, is_bad_entry, is_bad_link, is_bad_node, is_bad_phase, is_bad_turn, is_same_turn}
pub use Rattle.street_base.specs.Faults.{is_turn_to, is_within, joins, link_with, links_fault, nodes_fault, offset_fault, plan_fault, signal_fault}
pub use Rattle.street_base.specs.Faults.{turns_fault, values_fault}
unfoldable pub use Rattle.street_base.specs.Faults.{network_fault}
pub use Rattle.street_base.specs.Lane.{Cells, Track, are_free, gap_ahead, gap_behind, is_closed, is_covered, is_entrance, is_free, is_obstacle}
pub use Rattle.street_base.specs.Lane.{obstacle_ahead, rear, vehicle_at}
pub use Rattle.street_base.specs.LaneChange.{Changing, free_ahead, free_behind, is_safe, wishes, zone_wish}
unfoldable pub use Rattle.street_base.specs.LaneChange.{changed_cells, changes, settled}
pub use Rattle.street_base.specs.Limits.{last_clock, most_calls, most_cells, most_change, most_dawdle, most_detectors, most_duration, most_lanes}
pub use Rattle.street_base.specs.Limits.{most_limit, most_links, most_period, most_phases, most_plan, most_reads, most_residence, most_sessions}
pub use Rattle.street_base.specs.Limits.{most_size, most_steps, most_turns, most_vehicles, most_workers}
pub use Rattle.street_base.specs.Machine.{advance_refusal, answered, bad_network, closed_after, closure_refusal, done, empty_lane, empty_lanes}
pub use Rattle.street_base.specs.Machine.{end_of, enter_refusal, entry_of, first_of, is_number, is_past, lane_refusal, lane_tests, place_refusal}
pub use Rattle.street_base.specs.Machine.{plan_links, read_refusal, refusal, remaining_ids, signal_refusal, vehicle_reply, told_cell, told_rows}
pub use Rattle.street_base.specs.Machine.{vehicle_refusal, with_waiting}
unfoldable pub use Rattle.street_base.specs.Machine.{entered, loaded, whereabouts_on_lanes, whereabouts_in}
pub use Rattle.street_base.specs.Motion.{Drive, driven_on, speed_after}
unfoldable pub use Rattle.street_base.specs.Motion.{comer, comes_to, leaver, leaves, motion, motion_gap, moved}
pub use Rattle.street_base.specs.Network.{end_node, is_place, link_at, link_of, names_link, no_link, node_of, places, serves, turn}
pub use Rattle.street_base.specs.Outcomes.{Allows, Answers, MayBeShort, MayStarve, MayStarveUnder, reply_of_whole, reply_to, short_state, state_after}
pub use Rattle.street_base.specs.Outcomes.{state_of_whole}
pub use Rattle.street_base.specs.Record.{arrival_rows, arrived_row, arrived_spot, arriving, block_after, blocks, buffer_row, buffer_spot, cell_row}
pub use Rattle.street_base.specs.Record.{head_after, head_bytes, lane_rows, row_bytes, rows_between, rows_bytes, rows_of_step, slot_of}
unfoldable pub use Rattle.street_base.specs.Record.{block}
pub use Rattle.street_base.specs.Refusals.{name_of, number_of, part_name}
pub use Rattle.street_base.specs.Release.{entering, exit_lane, front, gives, is_this, may_give, on_next_link, target, with_entry}
unfoldable pub use Rattle.street_base.specs.Release.{giver, released}
pub use Rattle.street_base.specs.Run.{Runs}
pub use Rattle.street_base.specs.Search.{first_among, last_among}
unfoldable pub use Rattle.street_base.specs.Search.{greatest, least}
pub use Rattle.street_base.specs.Shown.{buffer_entry, cell_entry, has_arrived, have_arrived, in_buffers, in_cells, in_order, in_wait, over_all}
pub use Rattle.street_base.specs.Shown.{put_in_order, running, waiting_entry, was_taken, were_taken}
unfoldable pub use Rattle.street_base.specs.Shown.{census, shown_lane, shown_rows}
pub use Rattle.street_base.specs.Signal.{Green, Phase, SignalPlan, cycle, is_green, lists, phase_at, time_of}
pub use Rattle.street_base.specs.State.{Detector, LaneState, Queued, State, Traffic, Triple, Waiting, each_lane, lane_at, no_lane}
pub use Rattle.street_base.specs.Step.{arrival, arrivals, changed_lanes, changing_on, drive_on, driven_lane, has_room, is_exit_open, joining}
pub use Rattle.street_base.specs.Step.{leaver_of, noted, plan_at, steps, with_arrivals, with_cells}
unfoldable pub use Rattle.street_base.specs.Step.{changed, driven, step}
pub use Rattle.street_base.specs.Vehicle.{Vehicle, is_on_last, next_link, remaining_plan, vehicle_of, with_speed}
