-- The walk over a list that gives a sink a row of each car.
use Rattle.std.proofs.Common.{◌≡◌, ℕ, ◌%◌, List, [], ◌∷◌, ◌++◌, map, Option, Some, None, refl, sym, ap, subst, ◌∙◌, filter_map, option_map, append-nil}
use Rattle.std.specs.List.{cons_option, FoldsTo}
use Rattle.std.proofs.lemmas.Fn.{FoldsTo-push}
use Rattle.std.proofs.lemmas.List.{map-append}
use Rattle.std.proofs.lemmas.List.Elements.{filter_map-append}
use Rattle.street_base.specs.declared.car.Car.{Car}
use Rattle.street_yard.specs.Prelude.{Yard, car_of, IsBehind, IsWhole}
use Rattle.street_yard.proofs.YardLemmas.{no_head}
use Rattle.street_lanes.specs.Prelude.{cars_on}
use Rattle.street_base.specs.declared.record.RecordRow.{RecordRow}
use Rattle.street_record.specs.Rows.{as_written}
use Rattle.street_lanes.specs.Record.{car_row}
use Rattle.street_lanes.proofs.ListWalk.{IsWalk, walk-step}

-- the row that is given of a car, from what is read of it
pub row-read : (slot : ℕ) (spot : Car → ℕ) (o : Option Car) (number at speed : ℕ) → option_map (λ (c : Car). c.number) o ≡ Some number → option_map (λ (c : Car). spot c % 4294967296) o ≡ Some at → option_map (λ (c : Car). c.speed) o ≡ Some speed
    → option_map (λ (c : Car). as_written (car_row slot spot c)) o ≡ Some (record { car = number; slot = slot; spot = at; speed = speed })
row-read slot spot None number at speed n s v = absurd (cc)
row-read slot spot (Some car) number at speed n s v =
    let a : car.number ≡ number = cc in
    let b : spot car % 4294967296 ≡ at = cc in
    let c : car.speed ≡ speed = cc in
    λ i. Some (record { car = a i; slot = slot; spot = b i; speed = c i })

module _ (y : Yard) (list : ℕ) {S : Type 0} (takes : S → RecordRow → S → Type 0) (tell : Car → RecordRow) (old : S) where
  -- of each car before the cursor the sink was given a row
  pub record IsGiven (cursor : Option ℕ) (sink : S) : Type 0 where
    pub walk : IsWalk y list cursor
    pub each : FoldsTo takes old (map tell (filter_map (car_of y) walk.done)) sink

  pub given-step : (cursor : Option ℕ) (sink : S) (key : ℕ) → IsWhole y → IsGiven cursor sink → cursor ≡ Some key → (next : Option ℕ) → IsBehind y key next
      → (row : RecordRow) → option_map tell (car_of y key) ≡ Some row → (new : S) → takes sink row new → IsGiven next new
  given-step cursor sink key whole a is next behind row told new taken = record {
    walk = walk-step key whole a.walk is next behind;
    each =
        subst (λ rows. FoldsTo takes old rows new) (sym (more (car_of y key) told))
        (FoldsTo-push takes old (map tell (filter_map (car_of y) a.walk.done)) sink row new a.each taken);
  }
    where
      one : (o : Option Car) → option_map tell o ≡ Some row → map tell (cons_option o []) ≡ row ∷ []
      one None e = absurd (cc)
      one (Some car) e = let same : tell car ≡ row = cc in ap (λ r. r ∷ []) same

      more : (o : Option Car) → option_map tell o ≡ Some row → map tell (filter_map (car_of y) (a.walk.done ++ key ∷ [])) ≡ map tell (filter_map (car_of y) a.walk.done) ++ row ∷ []
      more o e =
          ap (map tell) (filter_map-append (car_of y) a.walk.done (key ∷ []))
          ∙ map-append tell (filter_map (car_of y) a.walk.done) (cons_option (car_of y key) [])
          ∙ ap (λ l. map tell (filter_map (car_of y) a.walk.done) ++ l) (one (car_of y key) told)

  pub given-all : (cursor : Option ℕ) (sink : S) → IsGiven cursor sink → cursor ≡ None → FoldsTo takes old (map tell (cars_on y list)) sink
  given-all cursor sink a is =
      let done = a.walk.split ∙ ap (λ l. a.walk.done ++ l) (no_head a.walk.rest cursor is a.walk.at_cursor) ∙ append-nil a.walk.done in
      subst (λ keys. FoldsTo takes old (map tell (filter_map (car_of y) keys)) sink) (sym done) a.each
