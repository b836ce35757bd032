use Rattle.std.proofs.Common.{◌≡◌, ℕ, ◌+◌, Bool, true, false, List, refl, sym, ap, ◌∙◌, Option, None, ◌&&◌, nat_lt, option_map, unwrap_or}
use Rattle.std.proofs.lemmas.Bool.{both_ways}
use Rattle.street_yard.specs.Prelude.{first_or, cell_at, rear_at}
use Rattle.street_gap.specs.Prelude.{closed_marks, are_open}
use Rattle.street_gap.proofs.Sights.{last_on}
use Rattle.street_rule.specs.Prelude.{lane_seen, has_room_between}
use Rattle.street_rule.proofs.Decision.{room-beside}
use Rattle.street_rule.proofs.sight.fits.Goals as goal
use Rattle.street_rule.proofs.sight.fits.Goals.{then-is_open, else-is_open}

-- whether three tests hold, by the first that does not
all_but : (a b c : Bool) → a ≡ true → b ≡ true → c ≡ (a && (b && c))
all_but a b c e f = rw (e, f) refl

not_second : (a b c : Bool) → b ≡ false → false ≡ (a && (b && c))
not_second true b c e = rw e refl
not_second false b c e = refl

-- there is none where a cell beside is closed
no-room : (closed : List Bool) (is_open : Bool) (above below : Option ℕ) (x r speed : ℕ) → is_open ≡ false → false ≡ has_room_between closed is_open above below x r speed
no-room closed is_open above below x r speed e = rw e refl

-- the test of a gap, by the gap
longer : (n speed gap : ℕ) (o p : Option ℕ) → n ≡ speed → gap ≡ unwrap_or o 16 → o ≡ p → nat_lt (speed + 1) (unwrap_or p 16) ≡ nat_lt (n + 1) gap
longer n speed gap o p e f g = sym (ap (λ k. nat_lt (k + 1) gap) e ∙ ap (nat_lt (speed + 1)) (f ∙ ap (λ q. unwrap_or q 16) g))

pub gap_beside-requires : goal.gap_beside-requires
gap_beside-requires c = last_on c.args.yard.now c.args.other.list.0 c.requires.above.up c.requires.above.down c.args.above.now c.whole.ensures c.requires.above.split c.requires.above.at_position

pub gap_behind-requires-clause-ahead : goal.gap_behind-requires-clause-ahead
gap_behind-requires-clause-ahead c = last_on c.args.yard.now c.args.other.list.0 c.requires.above.up c.requires.above.down c.args.above.now c.whole.ensures c.requires.above.split c.requires.above.at_position

pub returns-then-from-unwrap_or : goal.returns-then-from-unwrap_or
returns-then-from-unwrap_or c = λ count lane.
    elim c.if-is_open.branch [
      | then-is_open w ↦ (
          let behind = ap (λ q. nat_lt 5 q) (c.unwrap_or-then-from-unwrap_or.ensures ∙ ap (λ q. unwrap_or q 16) (c.gap_behind.ensures.near c.requires.above.up c.requires.above.down c.requires.above.split c.requires.above.at_position)) in
          let ahead = longer w.from.result c.args.speed w.unwrap_or.result w.gap_beside.result _ w.from.ensures w.unwrap_or.ensures (w.gap_beside.ensures.near count lane.within) ∙ sym w.value-is ∙ c.if-from-unwrap_or.true in
          behind ∙ all_but _ _ _ (sym (c.is_open.ensures count lane.within) ∙ w.if-is_open.true) ahead ∙ room-beside c.args.yard.now count (lane_seen c.args.other) c.args.cell c.args.rear c.args.speed c.args.above.now c.whole.ensures lane c.requires.above c.requires.rear)
      | else-is_open w ↦ absurd (both_ways c.is_open.result w.if-is_open.false (sym w.value-is ∙ c.if-from-unwrap_or.true))
    ]

pub returns-else-from-unwrap_or : goal.returns-else-from-unwrap_or
returns-else-from-unwrap_or c = λ count lane.
    c.if-from-unwrap_or.false
    ∙ elim c.if-is_open.branch [
      | then-is_open w ↦ not_second _ _ _ (longer w.from.result c.args.speed w.unwrap_or.result w.gap_beside.result _ w.from.ensures w.unwrap_or.ensures (w.gap_beside.ensures.near count lane.within) ∙ sym w.value-is ∙ c.if-from-unwrap_or.false)
      | else-is_open w ↦ no-room (closed_marks c.args.other.closures.now count) (are_open c.args.other.closures.now c.args.rear c.args.cell) (option_map (rear_at c.args.yard.now) c.args.above.now) (option_map (cell_at c.args.yard.now) (first_or c.requires.above.down None)) c.args.cell c.args.rear c.args.speed (sym (c.is_open.ensures count lane.within) ∙ w.if-is_open.false)
    ]
    ∙ room-beside c.args.yard.now count (lane_seen c.args.other) c.args.cell c.args.rear c.args.speed c.args.above.now c.whole.ensures lane c.requires.above c.requires.rear
