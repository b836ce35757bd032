-- A car that has left its lane is taken out, or comes last into a buffer.
use Rattle.std.proofs.Common.{◌≡◌, ◌≢◌, ℕ, ◌+◌, ◌<◌, true, false, List, [], ◌∷◌, ◌++◌, length, Option, Some, None, refl, sym, ap, subst, ◌∙◌, add-zero, slice_set, Bool, not, is_some, is_none, filter_map, option_map}
use Rattle.std.specs.List.{cons_option}
use Rattle.std.proofs.lemmas.Bool.{cond-true, cond-false}
use Rattle.std.proofs.lemmas.List.{get_or-set_other, append-nil}
use Rattle.std.proofs.lemmas.List.Elements.{filter_map-append}
use Rattle.street_base.specs.declared.car.Car.{Car}
use Rattle.street_base.specs.Prelude.{vehicle_of, next_link, is_on_last}
use Rattle.street_yard.specs.Prelude.{YardEntry, Yard, list_at, car_of, entry_at, car_set, list_set, IsLoose, IsWhole}
use Rattle.street_yard.proofs.YardLemmas.{car_of-car_set, car_of-car_set_other, car_of-list_set, entry-kept_set_other, list-written, mapped-same}
use Rattle.street_lanes.specs.declared.motion.ArrivedCar.{ArrivedCar}
use Rattle.street_lanes.specs.Prelude.{cars_on, NoneLoose, NoneLooseBut, Settles}
use Rattle.street_lanes.proofs.Touches.{touch-trans, touch-more, relisted, not-loose, loose-off, taken, written}
use Rattle.street_lanes.proofs.Loose.{loose-placed, loose-gone}

-- the next link that is asked of a key is that of its car
pub next-of : (car : Car) (y : Yard) (key : ℕ) (next : Option ℕ) → car_of y key ≡ Some car → option_map (λ (c : Car). next_link (vehicle_of c)) (car_of y key) ≡ Some next → next ≡ next_link (vehicle_of car)
next-of car y key next there asked =
    let both : ◌≡◌ {A = Option (Option ℕ)} (Some next) (Some (next_link (vehicle_of car))) = sym asked ∙ ap (option_map (λ (c : Car). next_link (vehicle_of c))) there in
    cc

-- a car is on its last link just where no link follows
pub is_on_last-by : (car : Car) (y : Yard) (key : ℕ) (next : Option ℕ) (b : Bool) → car_of y key ≡ Some car → option_map (λ (c : Car). next_link (vehicle_of c)) (car_of y key) ≡ Some next → is_some next ≡ not b → is_on_last (vehicle_of car) ≡ b
is_on_last-by car y key next b there asked told = ap is_none (sym (next-of car y key next there asked)) ∙ ap not told ∙ twice b
  where
    twice : (b : Bool) → not (not b) ≡ b
    twice true = refl
    twice false = refl

-- a car that has arrived
abbrev pub as_arrived : Car → ArrivedCar
as_arrived car = record { number = car.number; speed = car.speed }

-- a loose key is changed or taken out, and then the cars on a list are as they were
module _ (old : Yard) (key : ℕ) (whole : IsWhole old) (loose : IsLoose old key) (list ready : ℕ) (car : Car) (is : car_of old key ≡ Some car) where
  others-kept : (new : Yard) → ((k : ℕ) → k ≢ key → car_of new k ≡ car_of old k) → filter_map (car_of new) (list_at old list) ≡ cars_on old list
  others-kept new same = mapped-same (car_of new) (car_of old) (list_at old list) (λ k h. same k (not-loose old key list k whole (loose-off old key loose) h))

  -- ---- it is taken out

  abbrev pub without_car : Yard
  without_car = record old { kept = slice_set old.kept key None; room = old.room + 1 }

  taken-settles : is_on_last (vehicle_of car) ≡ true → Settles list ready car old without_car (Some (as_arrived car))
  taken-settles last = record {
    arrived = sym (cond-true _ _ _ last);
    touches = touch-more (list ∷ []) old without_car (taken old key whole loose);
    room = refl;
    queue =
        others-kept without_car (λ k ne. ap (option_map (λ (e : YardEntry). e.car)) (get_or-set_other old.kept key k None None ne))
        ∙ sym (ap (λ (cs : List Car). cars_on old list ++ cs) (cond-true _ _ _ last) ∙ append-nil (cars_on old list));
  }

  pub Settles-taken : (new : Yard) (gone : Car) → new ≡ without_car → car_of old key ≡ Some gone → is_on_last (vehicle_of car) ≡ true → Settles list ready car old new (Some (as_arrived gone))
  Settles-taken new gone after there last =
      let same : ◌≡◌ {A = Option Car} (Some car) (Some gone) = sym is ∙ there in
      let left : car ≡ gone = cc in
      subst (λ (y : Yard). Settles list ready car old y (Some (as_arrived gone))) (sym after) (subst (λ (c : Car). Settles list ready car old without_car (Some (as_arrived c))) left (taken-settles last))

  -- ---- it comes last on a list

  abbrev pub with_step : Yard
  with_step = record old { kept = car_set old.kept key (λ c. record c { step = ready }) }

  abbrev pub put_last : Yard → Yard
  put_last y = record y { lists = slice_set y.lists list (list_at y list ++ key ∷ []); kept = list_set y.kept key (Some list) }

  queued-other : (k : ℕ) → k ≢ key → car_of (put_last with_step) k ≡ car_of old k
  queued-other k ne = car_of-list_set with_step.kept key (Some list) k ∙ car_of-car_set_other old key (λ c. record c { step = ready }) k ne

  queued-car : car_of (put_last with_step) key ≡ Some (record car { step = ready })
  queued-car = car_of-list_set with_step.kept key (Some list) key ∙ car_of-car_set old key (λ c. record c { step = ready }) ∙ ap (option_map (λ (c : Car). record c { step = ready })) is

  queued-settles : list < length old.lists → is_on_last (vehicle_of car) ≡ false → Settles list ready car old (put_last with_step) None
  queued-settles within last = record {
    arrived = sym (cond-false _ _ _ last);
    touches =
        touch-trans (list ∷ []) old with_step (put_last with_step)
        (touch-more (list ∷ []) old with_step (written old key (λ c. record c { step = ready }) whole (loose-off old key loose) (λ c. refl)))
        (relisted with_step list _ _ (λ k. car_of-list_set with_step.kept key (Some list) k));
    room = sym (add-zero old.room);
    queue =
        ap (filter_map (car_of (put_last with_step))) (list-written old.lists list _ within)
        ∙ filter_map-append (car_of (put_last with_step)) (list_at old list) (key ∷ [])
        ∙ ap (λ (cs : List Car). cs ++ filter_map (car_of (put_last with_step)) (key ∷ [])) (others-kept (put_last with_step) queued-other)
        ∙ ap (λ (cs : List Car). cars_on old list ++ cs) (ap (λ (o : Option Car). cons_option o []) queued-car ∙ sym (cond-false _ _ _ last));
  }

  pub Settles-queued : (stepped new : Yard) → stepped ≡ with_step → new ≡ put_last stepped → list < length old.lists → is_on_last (vehicle_of car) ≡ false → Settles list ready car old new None
  Settles-queued stepped new step after within last = subst (λ (y : Yard). Settles list ready car old y None) (sym (after ∙ ap put_last step)) (queued-settles within last)

-- where none but the key was loose, none is

pub none_loose-taken : (old new : Yard) (key : ℕ) → new ≡ record old { kept = slice_set old.kept key None; room = old.room + 1 } → NoneLooseBut key old → NoneLoose new
none_loose-taken old new key after = loose-gone old old new key (λ k ne. refl) (ap (λ (w : Yard). w.kept) after)

pub none_loose-queued : (old stepped new : Yard) (key list ready : ℕ) → stepped ≡ record old { kept = car_set old.kept key (λ c. record c { step = ready }) }
    → new ≡ record stepped { lists = slice_set stepped.lists list (list_at stepped list ++ key ∷ []); kept = list_set stepped.kept key (Some list) } → NoneLooseBut key old → NoneLoose new
none_loose-queued old stepped new key list ready step after =
    loose-placed old stepped new key list
    (λ k ne. ap (λ w. entry_at w k) step ∙ entry-kept_set_other old.kept key (λ e. record e { car = record e.car { step = ready } }) k ne)
    (ap (λ (w : Yard). w.kept) after)
