use Rattle.std.proofs.Common.{◌≡◌, []}
use Rattle.street_desk.proofs.Told.{Goes}
use Rattle.street_desk.proofs.desk.Desk.call_from.Given as goal

abbrev pub invariant-loop : goal.invariant-loop
invariant-loop g l = (l.seat.table_id ≡ l.initial.seat.table_id) × (l.seat.id ≡ l.initial.seat.id) × (l.seat.me.1 ≡ []) × Goes l.initial.seat.me.0 l.seat.me.0
