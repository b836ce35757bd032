-- How vehicles have ended, by their numbers, and who is about to arrive.
use Rattle.std.specs.Prelude.{ℕ, ◌≡◌, ◌+◌, ◌≤◌, ◌==◌, nat_lt, List, length, Option, count_by}
use Rattle.street_base.specs.declared.reply.End.{End}
use Rattle.street_base.specs.Prelude.{most_vehicles, has_ended, one_if, has_arrived, was_taken}

-- what contracts see of the ends: for each vehicle number, by position, how its vehicle ended, or none while it has
-- not; and `room`, for how many more numbers there is memory
pub record EndsView : Type 0 where
  pub ends : List (Option End)
  pub room : ℕ

-- that `arrived` and `taken` are how many in the list of ends have arrived and were taken, and that the list is no
-- longer than the most vehicles that may be admitted
pub record AreCounted (ends : List (Option End)) (arrived taken : ℕ) : Type 0 where
  pub few : length ends ≤ most_vehicles
  pub arrived_is : arrived ≡ count_by has_arrived ends
  pub taken_is : taken ≡ count_by was_taken ends

-- that these numbers, of vehicles about to arrive, are all different, were given to vehicles, as they are below the
-- length of `ends`, and their vehicles have not ended
abbrev pub AreComing : List ℕ → List (Option End) → Type 0
AreComing numbers ends = (n : ℕ) → count_by (λ k. k == n) numbers + has_ended n ends ≤ one_if (nat_lt n (length ends))
