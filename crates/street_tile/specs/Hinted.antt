-- What contracts see of hints.
use Rattle.std.specs.Prelude.{◌≡◌, ℕ, List, length}

-- what contracts see of hints: for each vehicle number, by position, the position of the link on which it was last put,
-- and `room`, for how many more numbers there is memory
pub record Hinted : Type 0 where
  pub links : List ℕ
  pub room : ℕ

-- that the hints y are for as many vehicle numbers as the hints x, with as much room; a number's link may be another
pub record KeepsHints (x y : Hinted) : Type 0 where
  pub given : length y.links ≡ length x.links
  pub room : y.room ≡ x.room
