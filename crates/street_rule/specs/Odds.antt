-- What a contract sees of a network's dice. No rule stands here.
use Rattle.std.specs.Prelude.{ℕ}

-- what all random draws of a network depend on: the seed, and of 1,000 draws how many make a vehicle dawdle, and let it
-- change lane
pub record Odds : Type 0 where
  pub seed : ℕ
  pub dawdle : ℕ
  pub change : ℕ
