-- How many rows a step has.
use Rattle.std.proofs.Common.{◌≡◌, ℕ, ◌+◌, List, [], ◌∷◌, length, map, filter_map, option_to_list, reverse, refl, ap, ◌∙◌, arith, Option, Some, None, is_some, sum_by, count_by, cond}
use Rattle.std.specs.List.{cons_option, enumerate_from}
use Rattle.std.proofs.lemmas.List.{length-append, length-map, length-reverse}
use Rattle.std.proofs.lemmas.List.Concat.{length-flat_map}
use Rattle.std.proofs.lemmas.List.Sums.{sum_by-cons}
use Rattle.street_base.specs.declared.names.Place.{Place}
use Rattle.street_base.specs.declared.reply.CellEntry.{CellEntry}
use Rattle.street_base.specs.Prelude.{Vehicle, LaneState, Traffic, arrival_rows, buffer_entry, buffer_row, cell_entry, cell_row, lane_at, lane_rows, leaver_of, places, rows_between, slot_of}
use Rattle.street_base.proofs.ReleaseLemmas.{sums-same, sums-add}
use Rattle.street_record.specs.Rows.{rows_at}

cells-count : (n : ℕ) (cells : List (Option Vehicle)) → length (filter_map cell_entry (enumerate_from n cells)) ≡ count_by is_some cells
cells-count n [] = refl
cells-count n (None ∷ cells) = omega (arith, cells-count (n + 1) cells, sum_by-cons (λ (o : Option Vehicle). cond (is_some o) 1 0) None cells)
cells-count n (Some v ∷ cells) = omega (arith, cells-count (n + 1) cells, sum_by-cons (λ (o : Option Vehicle). cond (is_some o) 1 0) (Some v) cells)

lane-count : (slot : ℕ) (lane : LaneState) → length (lane_rows slot lane) ≡ count_by is_some lane.track.cells + length lane.queue
lane-count slot lane =
    let entries : List CellEntry = filter_map cell_entry (enumerate_from 0 lane.track.cells) in
    omega (
      arith,
      length-append (map (cell_row slot) (reverse entries)) (map (buffer_row slot) (map buffer_entry lane.queue)),
      length-map (reverse entries) (cell_row slot),
      length-reverse entries,
      cells-count 0 lane.track.cells,
      length-map (map buffer_entry lane.queue) (buffer_row slot),
      length-map lane.queue buffer_entry,
    )

-- those in cells, those in buffers, and those who arrived
pub rows-count : (before after : Traffic) → length (rows_between before after)
    ≡ sum_by (λ p. count_by is_some (lane_at after p).track.cells) (places after.network) + sum_by (λ p. length (lane_at after p).queue) (places after.network) + sum_by (λ p. length (arrival_rows (slot_of p) (leaver_of before p))) (places after.network)
rows-count before after =
    let ps = places after.network in
    let cells : Place → ℕ = λ p. count_by is_some (lane_at after p).track.cells in
    let queue : Place → ℕ = λ p. length (lane_at after p).queue in
    let arrived : Place → ℕ = λ p. length (arrival_rows (slot_of p) (leaver_of before p)) in
    let each : (p : Place) → length (rows_at before after p) ≡ cells p + queue p + arrived p =
    λ p. omega (arith, length-append (lane_rows (slot_of p) (lane_at after p)) (arrival_rows (slot_of p) (leaver_of before p)), lane-count (slot_of p) (lane_at after p)) in
    length-flat_map (rows_at before after) ps
    ∙ sums-same (λ p. length (rows_at before after p)) (λ p. cells p + queue p + arrived p) ps each
    ∙ sums-add (λ p. cells p + queue p) arrived ps
    ∙ ap (λ (n : ℕ). n + sum_by arrived ps) (sums-add cells queue ps)

-- one of each lane of which something is told
pub told-count : {A : Type 0} (tell : Place → Option A) (ps : List Place) → length (filter_map tell ps) ≡ sum_by (λ p. length (option_to_list (tell p))) ps
told-count tell [] = refl
told-count tell (p ∷ ps) = omega (arith, one (tell p) (filter_map tell ps), told-count tell ps, sum_by-cons (λ q. length (option_to_list (tell q))) p ps)
  where
    one : {A : Type 0} (o : Option A) (xs : List A) → length (cons_option o xs) ≡ length (option_to_list o) + length xs
    one None xs = omega arith
    one (Some x) xs = omega arith
