-- Detectors placed and read.
use Rattle.std.proofs.Common.{◌≡◌, ℕ, ◌<◌, ◌≤◌, Bool, true, false, List, [], ◌∷◌, ◌++◌, length, refl, sym, ◌∙◌, ap, subst, arith, inl, inr, Option, Some, None, not, nat_lt, nat_le, slice_get, option_map}
use Rattle.std.proofs.lemmas.Bool.{cases_Bool, le-leb, lt-leb, le-ltb}
use Rattle.street_base.specs.declared.net.NetSpec.{NetSpec}
use Rattle.street_base.specs.declared.command.Command.TheVariants.{PlaceMeter, ReadMeter}
use Rattle.street_base.specs.declared.refusal.Refusal.{Refusal}
use Rattle.street_base.specs.declared.refusal.Refusal.TheVariants.{BadRange, BadCount, TooMany, NoMeter}
use Rattle.street_base.specs.declared.reply.Reply.{Reply}
use Rattle.street_base.specs.declared.reply.Reply.TheVariants.{Placed, Refused, Starved as StarvedReply}
use Rattle.street_base.specs.declared.reply.Outcome.TheVariants.{Whole, Starved}
use Rattle.street_base.specs.declared.names.Place.{Place}
use Rattle.street_base.specs.Prelude.{Traffic, Detector, most_period, most_detectors, is_within, named_lane, metered, shown_rows, first_of, lane_tests, is_past, closure_refusal, place_refusal, read_refusal, told_rows, MayStarveUnder}
use Rattle.street_engine.specs.Prelude.{StreetsView, StreetsStandFor, StreetsGo, Serves}
use Rattle.street_engine.proofs.Serves.{same-network, same-count, streets-refused, streets-starved, streets-starving, streets-done, streets-told}

-- ---- refusals in their order

-- where one of the first holds, those after them are not asked
first-stays : (xs ys : List (Bool × Refusal)) (q : Refusal) → first_of xs ≡ Some q → first_of (xs ++ ys) ≡ Some q
first-stays [] ys q h = cc
first-stays (r ∷ rs) ys q h = elim (cases_Bool r.0) as (λ _. first_of ((r ∷ rs) ++ ys) ≡ Some q) [
  | inl here ↦ (let g = rw here at h in rw here g)
  | inr away ↦ (let g = rw away at h in rw away (first-stays rs ys q g))
]

-- where none of the first holds, it is on those after them
first-passes : (xs ys : List (Bool × Refusal)) → first_of xs ≡ None → first_of (xs ++ ys) ≡ first_of ys
first-passes [] ys h = refl
first-passes (r ∷ rs) ys h = elim (cases_Bool r.0) as (λ _. first_of ((r ∷ rs) ++ ys) ≡ first_of ys) [
  | inl here ↦ (let g = rw here at h in cc)
  | inr away ↦ (let g = rw away at h in rw away (first-passes rs ys g))
]

pub good-period : (period : ℕ) → 1 ≤ period → period ≤ most_period → is_within 1 most_period period ≡ true
good-period period some few = rw (le-leb 1 period some, le-leb period most_period few) refl

pub no-period : (period : ℕ) → period ≡ 0 → is_within 1 most_period period ≡ false
no-period period none = rw none refl

pub long-period : (period : ℕ) → most_period < period → is_within 1 most_period period ≡ false
long-period period long = rw (le-leb 1 period (omega arith), lt-leb period most_period long) refl

-- ---- placed

module _ (s : StreetsView) (link lane cell period : ℕ) where
  -- what is asked of the lane and the cell, and what after them
  abbrev cell_tests : Traffic → List (Bool × Refusal)
  cell_tests m = lane_tests link lane m ++ (is_past link cell m, BadRange) ∷ []

  abbrev later : Traffic → List (Bool × Refusal)
  later m = (not (is_within 1 most_period period), BadCount) ∷ (nat_le most_detectors (length m.detectors), TooMany) ∷ []

  -- one cell is closed where a detector may stand
  as-closure : (m : Traffic) → closure_refusal link lane cell cell m ≡ first_of (cell_tests m)
  as-closure m = let e : nat_lt cell cell ≡ false = le-ltb cell cell (omega arith) in rw e refl

  pub meter-refused : (q : Refusal) → ((m : Traffic) → m.network ≡ s.tiles.network → closure_refusal link lane cell cell m ≡ Some q) → Serves (Some s) (PlaceMeter link lane cell period) (Refused q) Whole (Some s)
  meter-refused q refused = streets-refused s (PlaceMeter link lane cell period) q (λ m stands.
      first-stays (cell_tests m) (later m) q (sym (as-closure m) ∙ refused m (same-network s m stands)))

  module _ (passed : (m : Traffic) → m.network ≡ s.tiles.network → closure_refusal link lane cell cell m ≡ None) where
    reaches : (m : Traffic) → StreetsStandFor s m → place_refusal link lane cell period m ≡ first_of (later m)
    reaches m stands = first-passes (cell_tests m) (later m) (sym (as-closure m) ∙ passed m (same-network s m stands))

    pub bad-period : is_within 1 most_period period ≡ false → Serves (Some s) (PlaceMeter link lane cell period) (Refused BadCount) Whole (Some s)
    bad-period bad = streets-refused s (PlaceMeter link lane cell period) BadCount (λ m stands. reaches m stands ∙ rw bad refl)

    module _ (good : is_within 1 most_period period ≡ true) where
      pub too-many-meters : most_detectors ≤ length s.sites → Serves (Some s) (PlaceMeter link lane cell period) (Refused TooMany) Whole (Some s)
      too-many-meters full = streets-refused s (PlaceMeter link lane cell period) TooMany (λ m stands.
          let e = le-leb most_detectors (length m.detectors) (omega (arith, full, same-count s m stands)) in
          reaches m stands ∙ rw (good, e) refl)

      module _ (room : length s.sites < most_detectors) (t : StreetsView) where
        accepted : (m : Traffic) → StreetsStandFor s m → place_refusal link lane cell period m ≡ None
        accepted m stands =
            let e = lt-leb most_detectors (length m.detectors) (omega (arith, room, same-count s m stands)) in
            reaches m stands ∙ rw (good, e) refl

        pub meter-starved : StreetsGo (λ m. m) s t → Serves (Some s) (PlaceMeter link lane cell period) StarvedReply Starved (Some t)
        meter-starved keeps = streets-starved s (PlaceMeter link lane cell period) t (λ m stands. subst MayStarveUnder (sym (accepted m stands)) tt) keeps

        pub meter-done : (at : Place) (first steps number : ℕ) → at ≡ named_lane s.tiles.network link lane → first ≡ cell → steps ≡ period → number ≡ length s.sites → StreetsGo (λ m. metered m at first steps) s t → Serves (Some s) (PlaceMeter link lane cell period) (Placed number) Whole (Some t)
        meter-done at first steps number place first_is steps_is number_is goes =
            streets-done s (PlaceMeter link lane cell period) t (Placed number) (λ m. metered m (named_lane m.network link lane) cell period) (λ m. refl)
            (λ m stands.
            let there : at ≡ named_lane m.network link lane = place ∙ ap (λ (net : NetSpec). named_lane net link lane) (sym (same-network s m stands)) in
            subst (λ (p : Place). StreetsStandFor t (metered m p cell period)) there
            (subst (λ n. StreetsStandFor t (metered m at n period)) first_is
            (subst (λ n. StreetsStandFor t (metered m at first n)) steps_is (goes m stands))))
            (λ m stands. (accepted m stands, ap (λ n. Placed n) (number_is ∙ sym (same-count s m stands))))

-- ---- read

told-shown : (o : Option Detector) (r : Reply) → Some r ≡ option_map shown_rows o → r ≡ told_rows o
told-shown None r h = cc
told-shown (Some d) r h = cc

told-none : (o : Option Detector) → None ≡ option_map shown_rows o → Refused NoMeter ≡ told_rows o
told-none None h = refl
told-none (Some d) h = cc

module _ (s : StreetsView) (meter : ℕ) where
  pub no-meter : length s.sites ≤ meter → Serves (Some s) (ReadMeter meter) (Refused NoMeter) Whole (Some s)
  no-meter past = streets-refused s (ReadMeter meter) NoMeter (λ m stands.
      let e = le-leb (length m.detectors) meter (omega (arith, past, same-count s m stands)) in rw e refl)

  module _ (given : meter < length s.sites) where
    known : (m : Traffic) → StreetsStandFor s m → read_refusal meter m ≡ None
    known m stands = let e = lt-leb (length m.detectors) meter (omega (arith, given, same-count s m stands)) in rw e refl

    pub rows-told : (rows : Reply) → ((m : Traffic) → StreetsStandFor s m → Some rows ≡ option_map shown_rows (slice_get m.detectors meter)) → Serves (Some s) (ReadMeter meter) rows Whole (Some s)
    rows-told rows told = streets-told s (ReadMeter meter) rows (λ m. refl) (λ m stands. (known m stands, told-shown (slice_get m.detectors meter) rows (told m stands)))

    pub rows-nowhere : ((m : Traffic) → StreetsStandFor s m → None ≡ option_map shown_rows (slice_get m.detectors meter)) → Serves (Some s) (ReadMeter meter) (Refused NoMeter) Whole (Some s)
    rows-nowhere nowhere = streets-told s (ReadMeter meter) (Refused NoMeter) (λ m. refl) (λ m stands. (known m stands, told-none (slice_get m.detectors meter) (nowhere m stands)))

    pub rows-starved : Serves (Some s) (ReadMeter meter) StarvedReply Starved (Some s)
    rows-starved = streets-starving s (ReadMeter meter) (λ m stands. subst MayStarveUnder (sym (known m stands)) tt)
