-- What contracts see of steps that a team has made, and of calls that make steps.
use Rattle.std.specs.Prelude.{◌≡◌, ℕ, ◌*◌, ◌+◌, ◌≤◌, Option, Some}
use Rattle.std.specs.Fn.{Shared}
use Rattle.street_base.specs.Prelude.{Traffic, last_clock, steps}
use Rattle.street_engine.specs.Streets.{StreetsView, StreetsStandFor, StreetsGo}
use Rattle.street_engine.specs.Noted.{ToldOf}

-- what contracts see of the result of a shift: the streets after its steps, the sink that was told of them, and the
-- count of steps made
pub record ShiftResultView (K : Type 0) : Type 0 where
  pub streets : StreetsView
  pub sink : K
  pub made : ℕ

-- that `made` steps, at most `most`, led from the streets `begun` to `streets`, for all traffic that these stood for,
-- with a clock as much later, and the sink, which was `start` at first, was told of each step; where `start` is none,
-- nothing is said of the sink
pub record HaveRun {K : Type 0} (notes : K → Traffic → K → Type 0) (begun : StreetsView) (most : ℕ) (start : Option K) (streets : StreetsView) (sink : K) (made : ℕ) : Type 0 where
  pub within : made ≤ most
  pub clock : streets.clock ≡ begun.clock + made
  pub stands : StreetsGo (steps made) begun streets
  pub noted : (k : K) → start ≡ Some k → ToldOf notes begun made k sink

-- that the closure may be called for up to 16 steps that end by the last clock, and makes as many as it answers, at
-- most those asked for: streets and clock are then those after so many steps, each told to the sink
pub record MakesSteps {F K : Type 0} (notes : K → Traffic → K → Type 0) (g : Shared F (StreetsView × (K × (ℕ × Unit {0}))) (StreetsView × K × ℕ)) (f : F) : Type 0 where
  pub may : (x : StreetsView) (k : K) (count : ℕ) → count ≤ 16 → x.clock + count ≤ last_clock → g.pre f (x, (k, (count, tt)))
  pub does : (x : StreetsView) (k : K) (count : ℕ) (r : StreetsView × K × ℕ) → g.post f (x, (k, (count, tt))) r
      → (r.2 ≤ count) × (r.0.clock ≡ x.clock + r.2) × StreetsGo (steps r.2) x r.0
      × ToldOf notes x r.2 k r.1
