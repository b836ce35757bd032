-- The vehicle of a number on a list, and taking it out.
use Rattle.std.specs.Prelude.{ℕ, ◌≡◌, ◌≢◌, ◌⊎◌, ◌+◌, Option, Some, None, IsSomeAnd, ◌∷◌, []}
use Rattle.street_base.specs.declared.car.Car.{Car}
use Rattle.street_yard.specs.Prelude.{Yard, list_at, car_of, list_on, without, Has}
use Rattle.street_lanes.specs.Lists.{cells_list, buffer_list, waiting_list, NoneLoose, Touches}

-- that key `Some k` is on `list`, with a car of this number, perhaps one of several; where none is found, no car on the
-- list has the number
abbrev pub IsSought : Yard → ℕ → ℕ → Option ℕ → Type 0
IsSought y list number None = (k : ℕ) (c : Car) → Has (list_at y list) k → car_of y k ≡ Some c → c.number ≢ number
IsSought y list number (Some k) = Has (list_at y list) k × IsSomeAnd (car_of y k) (λ c. c.number ≡ number)

-- that `list` is one of the three lists of lane n: its cells, its buffer, or those who wait
abbrev pub IsListOfLane : ℕ → ℕ → Type 0
IsListOfLane n list = (list ≡ cells_list n) ⊎ ((list ≡ buffer_list n) ⊎ (list ≡ waiting_list n))

-- that the key found is on one of the three lists of lane n (cells, buffer, who waits), with a car of this number;
-- where none is found, no car on the three lists has the number
abbrev pub IsFound : Yard → ℕ → ℕ → Option ℕ → Type 0
IsFound y n number None = IsSought y (cells_list n) number None × IsSought y (buffer_list n) number None × IsSought y (waiting_list n) number None
IsFound y n number (Some k) = (list : ℕ) × IsListOfLane n list × IsSought y list number (Some k)

-- that the car `gone` of this key, which was on a list, is out of the yard: its list lacks the key, there is room for
-- one car more, and every other car is as it was, as are the other lists
pub record TakesOut (old new : Yard) (key : ℕ) (gone : Car) : Type 0 where
  pub list : ℕ
  pub on : list_on old key ≡ Some list
  pub touches : Touches (list ∷ []) old new
  pub room : new.room ≡ old.room + 1
  pub none_loose : NoneLoose old → NoneLoose new
  pub car : car_of old key ≡ Some gone
  pub left : list_at new list ≡ without key (list_at old list)
  pub others : (k : ℕ) → k ≢ key → car_of new k ≡ car_of old k
