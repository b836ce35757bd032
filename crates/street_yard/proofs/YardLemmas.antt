-- What every caller of a yard needs, over what contracts see.
use Rattle.std.proofs.Common.{◌≡◌, ◌≢◌, ℕ, zero, suc, ◌<◌, ◌≤◌, Bool, false, cond, eqb, List, [], ◌∷◌, ◌++◌, length, get_or, set, IsSome, IsSomeAnd, Option, Some, None, refl, sym, ap, subst, ◌∙◌, inl, inr, arith, eq-eqb, filter_map, option_map, option_and_then, unwrap_or}
use Rattle.std.proofs.lemmas.Bool.{cases_eq, cases_lt}
use Rattle.std.proofs.lemmas.List.{get_or-set_same, get_or-set_other}
use Rattle.street_base.specs.declared.car.Car.{Car}
use Rattle.street_yard.specs.Prelude.{YardEntry, Yard, list_at, entry_at, car_of, mark_of, list_on, kept_set, list_set, car_set, mark_set, without, first_or, Has, Away, IsApart, IsFirstBut, IsLoose, IsWhole, cell_at, AllAbove}
use Rattle.street_yard.proofs.Keys.{has-later, Away-append, IsApart-split, listed_within, without-split}

-- a change of one key's entry

pub entry-gone : (es : List (Option YardEntry)) (k : ℕ) → get_or (set es k None) k None ≡ None
entry-gone [] k = refl
entry-gone (e ∷ es) zero = refl
entry-gone (e ∷ es) (suc k) = entry-gone es k

-- an entry that is there has a car
pub some_car : (o : Option YardEntry) → IsSome o → (c : Car) × (option_map (λ (e : YardEntry). e.car) o ≡ Some c)
some_car None h = absurd (cc)
some_car (Some e) h = (e.car, refl)

-- what is read of the keys of a list
pub mapped-same : {A : Type 0} (f g : ℕ → Option A) (xs : List ℕ) → ((x : ℕ) → Has xs x → f x ≡ g x) → filter_map f xs ≡ filter_map g xs
mapped-same f g [] same = refl
mapped-same f g (x ∷ xs) same = rw (same x ([], xs, refl), mapped-same f g xs (λ z h. same z (has-later x z xs h))) refl

pub entry-kept_set : (es : List (Option YardEntry)) (k : ℕ) (f : YardEntry → YardEntry) → get_or (kept_set es k f) k None ≡ option_map f (get_or es k None)
entry-kept_set [] k f = refl
entry-kept_set (e ∷ es) zero f = refl
entry-kept_set (e ∷ es) (suc k) f = entry-kept_set es k f

pub entry-kept_set_other : (es : List (Option YardEntry)) (k : ℕ) (f : YardEntry → YardEntry) (j : ℕ) → j ≢ k → get_or (kept_set es k f) j None ≡ get_or es j None
entry-kept_set_other es k f j ne = get_or-set_other es k j _ None ne

field-same : {A : Type 0} (get : YardEntry → A) (f : YardEntry → YardEntry) → ((e : YardEntry) → get (f e) ≡ get e) → (o : Option YardEntry) → option_map get (option_map f o) ≡ option_map get o
field-same get f keeps None = refl
field-same get f keeps (Some e) = ap Some (keeps e)

-- it keeps what it does not change, at every key
pub field-kept_set : {A : Type 0} (get : YardEntry → A) (f : YardEntry → YardEntry) → ((e : YardEntry) → get (f e) ≡ get e) → (es : List (Option YardEntry)) (k j : ℕ) → option_map get (get_or (kept_set es k f) j None) ≡ option_map get (get_or es j None)
field-kept_set get f keeps es k j =
    elim (cases_eq j k) [
      | inl e ↦ rw e (ap (option_map get) (entry-kept_set es k f) ∙ field-same get f keeps (get_or es k None))
      | inr ne ↦ ap (option_map get) (entry-kept_set_other es k f j ne)
    ]

list-same : (f : YardEntry → YardEntry) → ((e : YardEntry) → (f e).list ≡ e.list) → (o : Option YardEntry) → option_and_then (λ (e : YardEntry). e.list) (option_map f o) ≡ option_and_then (λ (e : YardEntry). e.list) o
list-same f keeps None = refl
list-same f keeps (Some e) = keeps e

-- a change that keeps each entry's list keeps which list each key is on
pub list_on-kept_set : (y : Yard) (k : ℕ) (f : YardEntry → YardEntry) → ((e : YardEntry) → (f e).list ≡ e.list) → (j : ℕ) → list_on (record y { kept = kept_set y.kept k f }) j ≡ list_on y j
list_on-kept_set y k f keeps j =
    elim (cases_eq j k) [
      | inl e ↦ rw e (ap (option_and_then (λ (e : YardEntry). e.list)) (entry-kept_set y.kept k f) ∙ list-same f keeps (get_or y.kept k None))
      | inr ne ↦ ap (option_and_then (λ (e : YardEntry). e.list)) (entry-kept_set_other y.kept k f j ne)
    ]

pub IsWhole-kept_set : (y : Yard) (k : ℕ) (f : YardEntry → YardEntry) → ((e : YardEntry) → (f e).list ≡ e.list) → IsWhole y → IsWhole (record y { kept = kept_set y.kept k f })
IsWhole-kept_set y k f keeps w =
    record {
      listed = λ j n h. w.listed j n (sym (list_on-kept_set y k f keeps j) ∙ h);
      names = λ j n h. list_on-kept_set y k f keeps j ∙ w.names j n h;
      apart = w.apart;
    }

-- a write to a car

pub list_on-car_set : (y : Yard) (k : ℕ) (f : Car → Car) (j : ℕ) → list_on (record y { kept = car_set y.kept k f }) j ≡ list_on y j
list_on-car_set y k f j = list_on-kept_set y k (λ e. record e { car = f e.car }) (λ e. refl) j

pub IsWhole-car_set : (y : Yard) (k : ℕ) (f : Car → Car) → IsWhole y → IsWhole (record y { kept = car_set y.kept k f })
IsWhole-car_set y k f w = IsWhole-kept_set y k (λ e. record e { car = f e.car }) (λ e. refl) w

car-change : (f : Car → Car) (o : Option YardEntry) → option_map (λ (e : YardEntry). e.car) (option_map (λ (e : YardEntry). record e { car = f e.car }) o) ≡ option_map f (option_map (λ (e : YardEntry). e.car) o)
car-change f None = refl
car-change f (Some e) = refl

pub car_of-car_set : (y : Yard) (k : ℕ) (f : Car → Car) → car_of (record y { kept = car_set y.kept k f }) k ≡ option_map f (car_of y k)
car_of-car_set y k f = ap (option_map (λ (e : YardEntry). e.car)) (entry-kept_set y.kept k _) ∙ car-change f (get_or y.kept k None)

pub car_of-car_set_other : (y : Yard) (k : ℕ) (f : Car → Car) (j : ℕ) → j ≢ k → car_of (record y { kept = car_set y.kept k f }) j ≡ car_of y j
car_of-car_set_other y k f j ne = ap (option_map (λ (e : YardEntry). e.car)) (entry-kept_set_other y.kept k _ j ne)

pub mark_of-car_set : (y : Yard) (k : ℕ) (f : Car → Car) (j : ℕ) → mark_of (record y { kept = car_set y.kept k f }) j ≡ mark_of y j
mark_of-car_set y k f j = field-kept_set (λ e. e.mark) (λ e. record e { car = f e.car }) (λ e. refl) y.kept k j

-- a write to a mark, and to which list a key is on, keeps the cars

pub car_of-mark_set : (y : Yard) (k : ℕ) (m : Bool) (j : ℕ) → car_of (record y { kept = mark_set y.kept k m }) j ≡ car_of y j
car_of-mark_set y k m j = field-kept_set (λ e. e.car) (λ e. record e { mark = m }) (λ e. refl) y.kept k j

pub list_on-mark_set : (y : Yard) (k : ℕ) (m : Bool) (j : ℕ) → list_on (record y { kept = mark_set y.kept k m }) j ≡ list_on y j
list_on-mark_set y k m j = list_on-kept_set y k (λ e. record e { mark = m }) (λ e. refl) j

pub car_of-list_set : (es : List (Option YardEntry)) (k : ℕ) (n : Option ℕ) (j : ℕ) → option_map (λ (e : YardEntry). e.car) (get_or (list_set es k n) j None) ≡ option_map (λ (e : YardEntry). e.car) (get_or es j None)
car_of-list_set es k n j = field-kept_set (λ e. e.car) (λ e. record e { list = n }) (λ e. refl) es k j

pub mark_of-list_set : (es : List (Option YardEntry)) (k : ℕ) (n : Option ℕ) (j : ℕ) → option_map (λ (e : YardEntry). e.mark) (get_or (list_set es k n) j None) ≡ option_map (λ (e : YardEntry). e.mark) (get_or es j None)
mark_of-list_set es k n j = field-kept_set (λ e. e.mark) (λ e. record e { list = n }) (λ e. refl) es k j

-- keys on lists

some_slot : (o : Option YardEntry) (n : ℕ) → option_and_then (λ (e : YardEntry). e.list) o ≡ Some n → IsSome o
some_slot None n h = absurd (cc)
some_slot (Some e) n h = refl

-- a key on a list has a car
pub on_has_entry : (y : Yard) (k n : ℕ) → list_on y k ≡ Some n → IsSome (entry_at y k)
on_has_entry y k n h = some_slot (entry_at y k) n h

-- and its list is one of the yard's
pub on_within : (y : Yard) (k n : ℕ) → IsWhole y → list_on y k ≡ Some n → n < length y.lists
on_within y k n w h = listed_within y.lists n k (w.listed k n h)

-- what a list is after a key of it is unlinked
module _ (y : Yard) (n key : ℕ) (us vs : List ℕ) (whole : IsWhole y) (split : list_at y n ≡ us ++ key ∷ vs) where
  abbrev pub parts_apart : Away key us × Away key vs × IsApart (us ++ vs)
  parts_apart = IsApart-split us key vs (subst IsApart split (whole.apart n))

  pub split-on : list_on y key ≡ Some n
  split-on = whole.names key n (us, vs, split)

  pub split-within : n < length y.lists
  split-within = listed_within y.lists n key (us, vs, split)

  pub without-is : without key (list_at y n) ≡ us ++ vs
  without-is = ap (without key) split ∙ without-split us key vs parts_apart.0 parts_apart.1

-- a list that was written, and the others
pub list-written : (lists : List (List ℕ)) (n : ℕ) (xs : List ℕ) → n < length lists → get_or (set lists n xs) n [] ≡ xs
list-written lists n xs within = get_or-set_same lists n xs [] within

pub list-other : (lists : List (List ℕ)) (n m : ℕ) (xs : List ℕ) → m ≢ n → get_or (set lists n xs) m [] ≡ get_or lists m []
list-other lists n m xs ne = get_or-set_other lists n m xs [] ne

-- walks along a list

-- the keys from the cursor on
abbrev pub from_key : List ℕ → Option ℕ → List ℕ
from_key [] c = []
from_key (x ∷ xs) None = []
from_key (x ∷ xs) (Some k) = cond (eqb k x) (x ∷ xs) (from_key xs (Some k))

pub from_key-split : (done rest : List ℕ) → IsApart (done ++ rest) → from_key (done ++ rest) (first_or rest None) ≡ rest
from_key-split [] [] h = refl
from_key-split [] (x ∷ rest) h = rw (eq-eqb x x refl) refl
from_key-split (d ∷ done) [] h = refl
from_key-split (d ∷ done) (x ∷ rest) h =
    let away = (Away-append d done (x ∷ rest) h.0).1 in
    let ne : eqb x d ≡ false = grind (arith, away.0) in
    rw ne (from_key-split done (x ∷ rest) h.1)

-- what is left to walk
abbrev pub left : Yard → ℕ → Option ℕ → ℕ
left y n cursor = length (from_key (list_at y n) cursor)

pub left-is : (y : Yard) (n : ℕ) (done rest : List ℕ) (cursor : Option ℕ) → IsWhole y → list_at y n ≡ done ++ rest → cursor ≡ first_or rest None → left y n cursor ≡ length rest
left-is y n done rest cursor whole split at =
    ap length (ap (λ l. from_key l cursor) split ∙ ap (from_key (done ++ rest)) at ∙ from_key-split done rest (subst IsApart split (whole.apart n)))

-- the cursor's key is the first of the rest
pub head_is : (key : ℕ) (rest : List ℕ) (cursor : Option ℕ) → cursor ≡ Some key → cursor ≡ first_or rest None → (tail : List ℕ) × (rest ≡ key ∷ tail)
head_is key [] cursor e f = (let bad : ◌≡◌ {A = Option ℕ} (Some key) None = sym e ∙ f in absurd (cc))
head_is key (x ∷ tail) cursor e f = (tail, (let s : ◌≡◌ {A = Option ℕ} (Some x) (Some key) = sym f ∙ e in let same : x ≡ key = cc in ap (λ j. j ∷ tail) same))

-- with no key at the cursor there is no rest
pub no_head : (rest : List ℕ) (cursor : Option ℕ) → cursor ≡ None → cursor ≡ first_or rest None → rest ≡ []
no_head [] cursor e f = refl
no_head (x ∷ tail) cursor e f = (let bad : ◌≡◌ {A = Option ℕ} (Some x) None = sym f ∙ e in absurd (cc))

-- ---- the first of a list

pub head-of : (y : Yard) (n k : ℕ) → first_or (list_at y n) None ≡ Some k → (rest : List ℕ) × (list_at y n ≡ k ∷ rest)
head-of y n k h = head_is k (list_at y n) (Some k) refl (sym h)

-- the front is on its list
pub head-on : (y : Yard) (n k : ℕ) → IsWhole y → first_or (list_at y n) None ≡ Some k → list_on y k ≡ Some n
head-on y n k whole h = let at = head-of y n k h in whole.names k n ([], at.0, at.1)

pub head-held : (y : Yard) (n k : ℕ) → IsWhole y → first_or (list_at y n) None ≡ Some k → IsSome (entry_at y k)
head-held y n k whole h = on_has_entry y k n (head-on y n k whole h)

-- cells of keys

pub AllAbove-same : (f g : ℕ → ℕ) (cell : ℕ) (xs : List ℕ) → ((k : ℕ) → f k ≡ g k) → AllAbove f cell xs → AllAbove g cell xs
AllAbove-same f g cell [] same a = tt
AllAbove-same f g cell (x ∷ xs) same a = ((let e = same x in let h = a.0 in omega arith), AllAbove-same f g cell xs same a.1)

pub AllAbove-lower : (f : ℕ → ℕ) (low cell : ℕ) (xs : List ℕ) → low ≤ cell → AllAbove f cell xs → AllAbove f low xs
AllAbove-lower f low cell [] le a = tt
AllAbove-lower f low cell (x ∷ xs) le a = ((let h = a.0 in omega arith), AllAbove-lower f low cell xs le a.1)

pub AllAbove-push : (f : ℕ → ℕ) (cell : ℕ) (xs : List ℕ) (x : ℕ) → AllAbove f cell xs → cell < f x → AllAbove f cell (xs ++ x ∷ [])
AllAbove-push f cell [] x a b = (b, tt)
AllAbove-push f cell (u ∷ xs) x a b = (a.0, AllAbove-push f cell xs x a.1 b)

pub cell_is : (y : Yard) (k : ℕ) (car : Car) → car_of y k ≡ Some car → cell_at y k ≡ car.cell
cell_is y k car is = ap (λ o. unwrap_or (option_map (λ (c : Car). c.cell) o) 0) is

pub cell_same : (first now : Yard) → ((k : ℕ) → car_of now k ≡ car_of first k) → (k : ℕ) → cell_at now k ≡ cell_at first k
cell_same first now same k = ap (λ o. unwrap_or (option_map (λ (c : Car). c.cell) o) 0) (same k)

pub cell_reads : (y : Yard) (k cell : ℕ) → option_map (λ (c : Car). c.cell) (car_of y k) ≡ Some cell → cell_at y k ≡ cell
cell_reads y k cell is = ap (λ o. unwrap_or o 0) is

loose_some : (o : Option YardEntry) → IsSomeAnd o (λ (e : YardEntry). e.list ≡ None) → IsSome o
loose_some None h = absurd h
loose_some (Some e) h = refl

-- a loose key has a car
pub loose_has_entry : (y : Yard) (k : ℕ) → IsLoose y k → IsSome (entry_at y k)
loose_has_entry y k h = loose_some (entry_at y k) h

same_entry : (o : Option YardEntry) (f : YardEntry → YardEntry) → IsSome o → IsSome (option_map f o)
same_entry None f h = absurd (cc)
same_entry (Some e) f h = refl

-- a write keeps who has a car
pub named-kept_set : (y : Yard) (k : ℕ) (f : YardEntry → YardEntry) (j : ℕ) → IsSome (entry_at y j) → IsSome (entry_at (record y { kept = kept_set y.kept k f }) j)
named-kept_set y k f j h =
    elim (cases_eq j k) as (λ _. IsSome (get_or (kept_set y.kept k f) j None)) [
      | inl e ↦ subst (λ i. IsSome (get_or (kept_set y.kept k f) i None)) (sym e) (subst IsSome (sym (entry-kept_set y.kept k f)) (same_entry (get_or y.kept k None) f (subst (λ i. IsSome (get_or y.kept i None)) e h)))
      | inr ne ↦ subst IsSome (sym (entry-kept_set_other y.kept k f j ne)) h
    ]

-- ---- the first that is not such

-- all before one are such, and this one if it is not before
pub such-at : {IsSuch : ℕ → Type 0} (from later n : ℕ) → ((k : ℕ) → from ≤ k → k < later → IsSuch k) → from ≤ n → (later ≤ n → IsSuch n) → IsSuch n
such-at {IsSuch} from later n before above else =
    elim (cases_lt n later) as (λ _. IsSuch n) [
      | inl lt ↦ before n above lt
      | inr ge ↦ else ge
    ]

-- all before a later start are such: the first from there on is the first from here on
pub first-further : {IsSuch : ℕ → Type 0} (from later count next : ℕ) → from ≤ later → ((n : ℕ) → from ≤ n → n < later → IsSuch n) → IsFirstBut IsSuch later count next → IsFirstBut IsSuch from count next
first-further from later count next le before first = record {
  not_before = (let ge = first.not_before in omega arith);
  within = first.within;
  here = first.here;
  passed = λ n above below. such-at from later n before above (λ ge. first.passed n ge below);
}

-- below another count, which the first does not pass, the same ones are like this
pub first-like : {IsSuch IsLike : ℕ → Type 0} (from count other next : ℕ) → IsFirstBut IsSuch from count next → next ≤ other → (next < other → next < count)
    → ((n : ℕ) → n < other → IsSuch n → IsLike n) → ((n : ℕ) → n < other → IsLike n → IsSuch n) → IsFirstBut IsLike from other next
first-like from count other next first le lt like such = record {
  not_before = first.not_before;
  within = le;
  here = λ below is. first.here (lt below) (such next below is);
  passed = λ n above below. like n (omega arith) (first.passed n above below);
}
