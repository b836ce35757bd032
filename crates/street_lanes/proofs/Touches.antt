-- Which lists of a yard a call changes.
use Rattle.std.proofs.Common.{◌≡◌, ◌≢◌, ℕ, ◌+◌, false, List, [], ◌∷◌, length, get_or, set, Option, Some, None, IsSomeAnd, refl, sym, ap, subst, ◌∙◌, inl, inr, option_map, option_and_then}
use Rattle.std.proofs.lemmas.Bool.{cases_eq}
use Rattle.std.proofs.lemmas.List.{length-set, get_or-set_other}
use Rattle.street_base.specs.declared.car.Car.{Car}
use Rattle.street_yard.specs.Prelude.{YardEntry, Yard, list_at, entry_at, car_of, list_on, car_set, Has, Away, IsLoose, IsWhole, Updates}
use Rattle.street_yard.proofs.YardLemmas.{entry-gone, list-other, car_of-car_set, car_of-car_set_other}
use Rattle.street_lanes.specs.Prelude.{SameList, Touches, IsShort, AreShort}

pub touch-none-at-all : (ls : List ℕ) (y : Yard) → Touches ls y y
touch-none-at-all ls y = record { count = refl; others = λ list away. record { keys = refl; cars = λ k h. refl }; short = λ h. h }

pub SameList-trans : (a b c : Yard) (list : ℕ) → SameList a b list → SameList b c list → SameList a c list
SameList-trans a b c list s t = record {
  keys = t.keys ∙ s.keys;
  cars = λ k h. t.cars k (subst (λ l. Has l k) (sym s.keys) h) ∙ s.cars k h;
}

pub touch-trans : (ls : List ℕ) (a b c : Yard) → Touches ls a b → Touches ls b c → Touches ls a c
touch-trans ls a b c s t = record {
  count = t.count ∙ s.count;
  others = λ list away. SameList-trans a b c list (s.others list away) (t.others list away);
  short = λ h. t.short (s.short h);
}

pub touch-wider : (ls ms : List ℕ) (a b : Yard) → ((list : ℕ) → Away list ms → Away list ls) → Touches ls a b → Touches ms a b
touch-wider ls ms a b wider t = record {
  count = t.count;
  others = λ list away. t.others list (wider list away);
  short = t.short;
}

-- no list has changed, so at most these have
pub touch-more : (ls : List ℕ) (a b : Yard) → Touches [] a b → Touches ls a b
touch-more ls a b t = touch-wider [] ls a b (λ list away. tt) t

-- one list is written, and no car
pub relisted : (y : Yard) (list : ℕ) (xs : List ℕ) (es : List (Option YardEntry)) → ((k : ℕ) → option_map (λ (e : YardEntry). e.car) (get_or es k None) ≡ car_of y k) → Touches (list ∷ []) y (record y { lists = set y.lists list xs; kept = es })
relisted y list xs es same = record {
  count = length-set y.lists list xs;
  others = λ other away. record { keys = list-other y.lists list other xs away.0; cars = λ k h. same k };
  short = λ short k car is. short k car (sym (same k) ∙ is);
}

loose-place : (o : Option YardEntry) → IsSomeAnd o (λ (e : YardEntry). e.list ≡ None) → option_and_then (λ (e : YardEntry). e.list) o ≡ None
loose-place None h = absurd h
loose-place (Some e) h = h

-- a key on a list is not this one, which is on none
pub not-loose : (y : Yard) (key list k : ℕ) → IsWhole y → list_on y key ≡ None → Has (list_at y list) k → k ≢ key
not-loose y key list k whole loose h e = (let there = whole.names k list h in let here : ◌≡◌ {A = Option ℕ} (Some list) None = sym there ∙ ap (list_on y) e ∙ loose in cc)

pub loose-off : (y : Yard) (key : ℕ) → IsLoose y key → list_on y key ≡ None
loose-off y key h = loose-place (entry_at y key) h

-- a change of the car of a key that is on no list
module _ (y new : Yard) (key : ℕ) (whole : IsWhole y) (loose : list_on y key ≡ None) (lists : new.lists ≡ y.lists) (others : (k : ℕ) → k ≢ key → car_of new k ≡ car_of y k) where
  pub touch-none : (AreShort y → (car : Car) → car_of new key ≡ Some car → IsShort key car) → Touches [] y new
  touch-none here = record {
    count = ap length lists;
    others = λ list away. record { keys = ap (λ ls. get_or ls list []) lists; cars = λ k h. others k (not-loose y key list k whole loose h) };
    short = λ short k car is. elim (cases_eq k key) as (λ _. IsShort k car) [
      | inl e ↦ subst (λ j. IsShort j car) (sym e) (here short car (subst (λ j. car_of new j ≡ Some car) e is))
      | inr ne ↦ short k car (sym (others k ne) ∙ is)
    ];
  }

-- a loose car is taken out
pub taken : (y : Yard) (key : ℕ) → IsWhole y → IsLoose y key → Touches [] y (record y { kept = set y.kept key None; room = y.room + 1 })
taken y key whole loose =
    touch-none y _ key whole (loose-off y key loose) refl (λ k ne. ap (option_map (λ (e : YardEntry). e.car)) (get_or-set_other y.kept key k None None ne))
    (λ short car is. (let none : ◌≡◌ {A = Option Car} (Some car) None = sym is ∙ ap (option_map (λ (e : YardEntry). e.car)) (entry-gone y.kept key) in cc))

mapped-plan : (key : ℕ) (f : Car → Car) → ((c : Car) → (f c).plan ≡ c.plan) → (o : Option Car) → ((c : Car) → o ≡ Some c → IsShort key c) → (car : Car) → option_map f o ≡ Some car → IsShort key car
mapped-plan key f keeps None short car is = cc
mapped-plan key f keeps (Some c) short car is = (let e : f c ≡ car = cc in subst (IsShort key) e (rw (keeps c) (short c refl)))

-- a loose car is written, but not its plan
pub written : (y : Yard) (key : ℕ) (f : Car → Car) → IsWhole y → list_on y key ≡ None → ((c : Car) → (f c).plan ≡ c.plan) → Touches [] y (record y { kept = car_set y.kept key f })
written y key f whole loose keeps =
    touch-none y _ key whole loose refl (λ k ne. car_of-car_set_other y key f k ne)
    (λ short car is. mapped-plan key f keeps (car_of y key) (λ c at. short key c at) car (sym (car_of-car_set y key f) ∙ is))

none-off : (o : Option YardEntry) → o ≡ None → option_and_then (λ (e : YardEntry). e.list) o ≡ None
none-off o e = ap (option_and_then (λ (e : YardEntry). e.list)) e

-- a car comes in
pub admitted : (y new : Yard) (key : ℕ) (car : Car) → IsWhole y → entry_at y key ≡ None → Updates y new key (Some (record { car = car; mark = false; list = None })) → new.lists ≡ y.lists → IsShort key car → Touches [] y new
admitted y new key car whole vacant updates lists short =
    touch-none y new key whole (none-off (entry_at y key) vacant) lists (λ k ne. ap (option_map (λ (e : YardEntry). e.car)) (updates.others k ne))
    (λ rest other is. (let both : ◌≡◌ {A = Option Car} (Some car) (Some other) = sym (ap (option_map (λ (e : YardEntry). e.car)) updates.changed) ∙ is in let same : car ≡ other = cc in subst (IsShort key) same short))
