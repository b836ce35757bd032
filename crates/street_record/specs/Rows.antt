-- The rows of a step, lane by lane, and how they are told.
use Rattle.std.specs.Prelude.{◌≡◌, ◌≢◌, ℕ, ◌<◌, ◌%◌, List, ◌++◌, length, slice_index_or, Option, option_map, MatchOption, Contains}
use Rattle.street_base.specs.declared.names.Place.{Place}
use Rattle.street_base.specs.declared.record.RecordRow.{RecordRow}
use Rattle.street_base.specs.Prelude.{Vehicle, Traffic, lane_at, leaver_of, arrived_row, arriving, arrival_rows, lane_rows, slot_of}

-- a row as its bytes tell it: car, slot and speed as they are, of the spot only the lowest 32 bits
abbrev pub as_written : RecordRow → RecordRow
as_written row = record row { spot = row.spot % 4294967296 }

-- the record's row of the vehicle that arrives from a lane, given who left that lane in the step; none where nobody
-- left, or who left is not on its plan's last link
abbrev pub arrival_row : Place → Option Vehicle → Option RecordRow
arrival_row p leaver = option_map (arrived_row (slot_of p)) (arriving leaver)

-- the record's row of the vehicle that arrives from a lane in the step, given the traffic between lane changes and
-- motion; none where nobody leaves the lane, or who leaves is not on its plan's last link
abbrev pub arrival_at : Traffic → Place → Option RecordRow
arrival_at m p = arrival_row p (leaver_of m p)

-- the rows of one lane in a step: who is in its cells (the one furthest ahead first) and then in its buffer after the
-- step, then who arrived from it; `before` is the traffic between lane changes and motion
abbrev pub rows_at : Traffic → Traffic → Place → List RecordRow
rows_at before after p = lane_rows (slot_of p) (lane_at after p) ++ arrival_rows (slot_of p) (leaver_of before p)

-- that the row found is one of these rows and has this slot, 2 * link + lane; or that none was found and none has that
-- slot
abbrev pub FindsRow : List RecordRow → ℕ → Option RecordRow → Type 0
FindsRow rows slot found = MatchOption found ((k : ℕ) (d : RecordRow) → k < length rows → (slice_index_or rows k d).slot ≢ slot) (λ row. Contains rows row × (row.slot ≡ slot))
