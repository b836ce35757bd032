-- The rows of a meter are those of its detector.
use Rattle.std.proofs.Common.{◌≡◌, ℕ, ◌<◌, ◌≤◌, List, [], length, get_or, sym, ◌∙◌, ap, subst, arith, Some, None, option_map, slice_get}
use Rattle.std.proofs.lemmas.Option.{slice_get_past, slice_get-get_or}
use Rattle.street_base.specs.declared.reply.MeterRow.{MeterRow}
use Rattle.street_base.specs.declared.reply.RunningRow.{RunningRow}
use Rattle.street_base.specs.declared.reply.Reply.{Reply}
use Rattle.street_base.specs.declared.reply.Reply.TheVariants.{Rows}
use Rattle.street_base.specs.Prelude.{full_rows, running, shown_rows, Triple, Detector}
use Rattle.street_meter.specs.Meter.{Meter, IsRead, Stands, detector_of}
use Rattle.street_lanes.specs.Prelude.{MeterStands, MetersStandFor}

pub shown-read : (d : Detector) (full : List MeterRow) (now : RunningRow) → IsRead full now d → Rows now full ≡ shown_rows d
unfolding shown_rows
shown-read d full now read =
    ap (λ (rows : List MeterRow). Rows now rows) read.full ∙ ap (λ (r : MeterRow × ℕ). Rows (running r) (full_rows d)) read.now

pub shown-meter : (x : Meter) (d : Detector) → MeterStands x d → (full : List MeterRow) (now : RunningRow) → (Stands x d.triples → IsRead full now (detector_of x d.triples)) → Rows now full ≡ shown_rows d
shown-meter x d s full now reads = shown-read d full now (subst (IsRead full now) (sym s.placed) (reads s.stands))

no_detector : Detector
no_detector = record { place = record { link = 0; lane = 0 }; cell = 0; period = 0; start = 0; triples = [] }

-- of these meters, one by one
module _ (xs : List Meter) (ds : List Detector) (stand : MetersStandFor xs ds) (k : ℕ) where
  pub shown-none : length xs ≤ k → None ≡ option_map shown_rows (slice_get ds k)
  shown-none past = let even = stand.even in sym (ap (option_map shown_rows) (slice_get_past ds k (omega arith)))

  pub shown-all : k < length xs → (x : Meter) → x ≡ get_or xs k x → (full : List MeterRow) (now : RunningRow) → ((triples : List Triple) → Stands x triples → IsRead full now (detector_of x triples)) → Some (Rows now full) ≡ option_map shown_rows (slice_get ds k)
  shown-all within x at full now reads =
      let even = stand.even in
      let d = get_or ds k no_detector in
      let one : MeterStands x d = subst (λ (y : Meter). MeterStands y d) (sym at) (stand.each k x no_detector within) in
      ap (λ (r : Reply). Some r) (shown-meter x d one full now (reads d.triples)) ∙ sym (ap (option_map shown_rows) (slice_get-get_or ds k no_detector (omega arith)))
