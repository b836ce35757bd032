-- Watches cleared one after another.
use Rattle.std.proofs.Common.{◌≡◌, ℕ, ◌<◌, ◌≤◌, List, [], length, map, get_or, sym, subst, ◌∙◌, arith, All}
use Rattle.std.proofs.lemmas.List.{ext_get_or, get_or-map, length-map}
use Rattle.street_meter.specs.Meter.{Meter}
use Rattle.street_rule.specs.declared.watch.Watch.{Watch}
use Rattle.street_rule.specs.Prelude.{IsReady}
use Rattle.street_lanes.specs.Prelude.{cleared}

-- what stands for a meter where there is none
no_meter : Meter
no_meter = record { place = record { link = 0; lane = 0 }; cell = 0; period = 0; start = 0; rows = []; running = record { start = 0; steps = 0; passes = 0; speeds = 0; occupied = 0 } }

module _ (xs : List Meter) where
  -- the watches before k are those of the meters, cleared
  pub record IsCleared (k : ℕ) (now : List Watch) : Type 0 where
    pub even : length now ≡ length xs
    pub done : (j : ℕ) (w : Watch) (x : Meter) → j < k → j < length xs → get_or now j w ≡ cleared (get_or xs j x)

  pub cleared-all : (k : ℕ) (now : List Watch) → IsCleared k now → length xs ≤ k → now ≡ map cleared xs
  cleared-all k now c all = ext_get_or (cleared no_meter) now (map cleared xs) (c.even ∙ sym (length-map xs cleared)) (λ j h.
      let s = c.even in
      c.done j (cleared no_meter) no_meter (omega arith) (omega arith) ∙ sym (get_or-map cleared xs j no_meter (cleared no_meter) (omega arith)))

  -- such watches can note a motion of a lane that has their cells
  pub cleared-ready : (size : ℕ) → All (λ x. x.cell < size) xs → All (IsReady size) (map cleared xs)
  cleared-ready size within k d h =
      let long = length-map xs cleared in
      let there : k < length xs = omega arith in
      subst (IsReady size) (sym (get_or-map cleared xs k no_meter d there)) (record { cell = within k no_meter there; passes = omega arith; speeds = omega arith })
