-- The walks over a list to the place for one more who waits.
use Rattle.std.proofs.Common.{◌≡◌, ℕ, ◌+◌, ◌-◌, ◌<◌, Bool, false, List, [], ◌∷◌, ◌++◌, length, Option, Some, None, refl, sym, ap, subst, ◌∙◌, inl, inr, arith}
use Rattle.std.proofs.lemmas.List.{append-nil, append_assoc, length-append}
use Rattle.street_base.specs.declared.car.Car.{Car}
use Rattle.street_base.specs.Prelude.{is_before}
use Rattle.street_yard.specs.Prelude.{Yard, list_at, car_of, list_on, first_or, last_or, Has, IsOnList, IsAhead, IsBehind, IsWhole}
use Rattle.street_yard.proofs.Keys.{snoc_cases, last_or-push}
use Rattle.street_yard.proofs.YardLemmas.{from_key, left, left-is, head_is}
use Rattle.street_gap.specs.Prelude.{IsNextBehind}
use Rattle.street_lanes.specs.Prelude.{waiting_of, IsNotAfter, IsStart}

-- ---- keys on a list

pub on-key : (y : Yard) (list : ℕ) (cursor : Option ℕ) (key : ℕ) → IsOnList y list cursor → cursor ≡ Some key → list_on y key ≡ Some list
on-key y list cursor key on is = subst (IsOnList y list) is on

-- the first of a part behind is on the list, and so is the last of a part ahead
on-first : (y : Yard) (list : ℕ) (us vs : List ℕ) → IsWhole y → list_at y list ≡ us ++ vs → IsOnList y list (first_or vs None)
on-first y list us [] whole split = tt
on-first y list us (v ∷ vs) whole split = whole.names v list (us, vs, split)

on-last : (y : Yard) (list : ℕ) (us vs : List ℕ) → IsWhole y → list_at y list ≡ us ++ vs → IsOnList y list (last_or us None)
on-last y list us vs whole split = elim (snoc_cases us) as (λ _. IsOnList y list (last_or us None)) [
  | inl none ↦ subst (IsOnList y list) (sym (ap (λ l. last_or l None) none)) tt
  | inr s ↦ subst (IsOnList y list) (sym (ap (λ l. last_or l None) s.2 ∙ last_or-push s.0 s.1 None)) (whole.names s.1 list (s.0, vs, split ∙ ap (λ l. l ++ vs) s.2 ∙ append_assoc s.0 (s.1 ∷ []) vs))
]

pub on-front : (y : Yard) (list : ℕ) (first : Option ℕ) → IsWhole y → first ≡ first_or (list_at y list) None → IsOnList y list first
on-front y list first whole is = subst (IsOnList y list) (sym is) (on-first y list [] (list_at y list) whole refl)

pub on-back : (y : Yard) (list : ℕ) (last : Option ℕ) → IsWhole y → last ≡ last_or (list_at y list) None → IsOnList y list last
on-back y list last whole is = subst (IsOnList y list) (sym is) (on-last y list (list_at y list) [] whole (sym (append-nil (list_at y list))))

-- how many keys are left to look at, towards the front
abbrev pub still : Yard → ℕ → Option ℕ → ℕ
still y list None = 0
still y list (Some k) = length (list_at y list) + 1 - length (from_key (list_at y list) (Some k))

-- by what is ahead of the cursor's key
still-is : (y : Yard) (list : ℕ) (us : List ℕ) (key : ℕ) (down : List ℕ) → IsWhole y → list_at y list ≡ us ++ key ∷ down → still y list (Some key) ≡ length us + 1
still-is y list us key down whole split =
    let here : length (from_key (list_at y list) (Some key)) ≡ length (key ∷ down) = left-is y list us (key ∷ down) (Some key) whole split refl in
    let all : length (list_at y list) ≡ length us + length (key ∷ down) = ap length split ∙ length-append us (key ∷ down) in
    omega (arith, here, all)

still-last : (y : Yard) (list : ℕ) (us vs : List ℕ) → IsWhole y → list_at y list ≡ us ++ vs → still y list (last_or us None) ≡ length us
still-last y list us vs whole split = elim (snoc_cases us) as (λ _. still y list (last_or us None) ≡ length us) [
  | inl none ↦ rw none refl
  | inr s ↦ ap (still y list) (ap (λ l. last_or l None) s.2 ∙ last_or-push s.0 s.1 None) ∙ still-is y list s.0 s.1 vs whole (split ∙ ap (λ l. l ++ vs) s.2 ∙ append_assoc s.0 (s.1 ∷ []) vs) ∙ sym (ap length s.2 ∙ length-append s.0 (s.1 ∷ []))
]

-- a cursor at a key of the list goes on
module _ (y : Yard) (list : ℕ) (cursor : Option ℕ) (key : ℕ) (whole : IsWhole y) (on : IsOnList y list cursor) (is : cursor ≡ Some key) (next : Option ℕ) where
  stands : Has (list_at y list) key
  stands = whole.listed key list (on-key y list cursor key on is)

  module _ (ahead : IsAhead y key next) where
    next-ahead : next ≡ last_or stands.0 None
    next-ahead = ahead list stands.0 stands.1 stands.2

    pub ahead-on : IsOnList y list next
    ahead-on = subst (IsOnList y list) (sym next-ahead) (on-last y list stands.0 (key ∷ stands.1) whole stands.2)

    pub ahead-fewer : still y list next < still y list cursor
    ahead-fewer =
        let now : still y list cursor ≡ length stands.0 + 1 = ap (still y list) is ∙ still-is y list stands.0 key stands.1 whole stands.2 in
        let then : still y list next ≡ length stands.0 = ap (still y list) next-ahead ∙ still-last y list stands.0 (key ∷ stands.1) whole stands.2 in
        omega (arith, now, then)

  module _ (behind : IsBehind y key next) where
    next-behind : next ≡ first_or stands.1 None
    next-behind = behind list stands.0 stands.1 stands.2

    split-behind : list_at y list ≡ (stands.0 ++ key ∷ []) ++ stands.1
    split-behind = stands.2 ∙ sym (append_assoc stands.0 (key ∷ []) stands.1)

    pub behind-on : IsOnList y list next
    behind-on = subst (IsOnList y list) (sym next-behind) (on-first y list (stands.0 ++ key ∷ []) stands.1 whole split-behind)

    pub behind-fewer : left y list next < left y list cursor
    behind-fewer =
        let now = left-is y list stands.0 (key ∷ stands.1) cursor whole stands.2 is in
        let then = left-is y list (stands.0 ++ key ∷ []) stands.1 next whole split-behind next-behind in
        omega (arith, now, then)

-- ---- the walk to the place

-- the list is cut in two at `at`, behind which the car's place is; `next` is the first of the part behind
pub record IsBetween (y : Yard) (list : ℕ) (car : Car) (at next : Option ℕ) : Type 0 where
  pub up : List ℕ
  pub down : List ℕ
  pub split : list_at y list ≡ up ++ down
  pub at_end : at ≡ last_or up None
  pub at_next : next ≡ first_or down None
  pub sooner : IsNotAfter y car at

pub between-start : (y : Yard) (list : ℕ) (car : Car) (at next : Option ℕ) → IsWhole y → IsStart y list car at → IsNextBehind y list at next → IsBetween y list car at next
between-start y list car None next whole start after = record { up = []; down = list_at y list; split = refl; at_end = refl; at_next = after [] (list_at y list) refl refl; sooner = start.1 }
between-start y list car (Some k) next whole start after =
    let on = whole.listed k list start.0 in
    let split : list_at y list ≡ (on.0 ++ k ∷ []) ++ on.1 = on.2 ∙ sym (append_assoc on.0 (k ∷ []) on.1) in
    let at_end = sym (last_or-push on.0 k None) in
    record { up = on.0 ++ k ∷ []; down = on.1; split = split; at_end = at_end; at_next = after (on.0 ++ k ∷ []) on.1 split at_end; sooner = start.1 }

pub between-on : (y : Yard) (list : ℕ) (car : Car) (at next : Option ℕ) → IsWhole y → IsBetween y list car at next → IsOnList y list next
between-on y list car at next whole b = subst (IsOnList y list) (sym b.at_next) (on-first y list b.up b.down whole b.split)

-- whether the car goes before a key's is known
module _ (y : Yard) (list : ℕ) (car : Car) (cursor : Option ℕ) (key : ℕ) (is : cursor ≡ Some key) (goes : Bool) (says : (c : Car) → car_of y key ≡ Some c → goes ≡ is_before (waiting_of car) (waiting_of c)) where
  pub not_after : goes ≡ false → IsNotAfter y car cursor
  not_after stays k c at held =
      let e : ◌≡◌ {A = Option ℕ} (Some k) (Some key) = sym at ∙ is in
      let same : k ≡ key = cc in
      sym (says c (subst (λ j. car_of y j ≡ Some c) same held)) ∙ stays

  module _ (at : Option ℕ) (b : IsBetween y list car at cursor) where
    pub between-step : goes ≡ false → (next : Option ℕ) → IsBehind y key next → IsBetween y list car cursor next
    between-step stays next behind =
        let head = head_is key b.down cursor is b.at_next in
        let listed : list_at y list ≡ b.up ++ key ∷ head.0 = b.split ∙ ap (λ l. b.up ++ l) head.1 in
        record {
          up = b.up ++ key ∷ [];
          down = head.0;
          split = listed ∙ sym (append_assoc b.up (key ∷ []) head.0);
          at_end = is ∙ sym (last_or-push b.up key None);
          at_next = behind list b.up head.0 listed;
          sooner = not_after stays;
        }
