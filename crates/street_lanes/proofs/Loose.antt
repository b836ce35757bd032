-- Who is on no list of a yard after a call.
use Rattle.std.proofs.Common.{◌≡◌, ◌≢◌, ℕ, suc, List, [], ◌∷◌, ◌++◌, get_or, set, Option, Some, None, IsSome, IsSomeAnd, refl, sym, ap, subst, ◌∙◌, inl, inr, filter_map, option_map, option_and_then}
use Rattle.std.proofs.lemmas.Bool.{cases_eq, eq-eqb, ne_eqb}
use Rattle.std.proofs.lemmas.List.{get_or-set_other}
use Rattle.street_base.specs.declared.car.Car.{Car}
use Rattle.street_rule.specs.Prelude.{KeepsRest, MovesList, stopped, left_lists}
use Rattle.street_yard.specs.Prelude.{YardEntry, Yard, list_at, entry_at, list_on, list_set, without, Has, Away, IsLoose, IsWhole}
use Rattle.street_yard.proofs.Keys.{has_or_away, has-later, listed_within}
use Rattle.street_yard.proofs.YardLemmas.{entry-gone, entry-kept_set, entry-kept_set_other, list-written}
use Rattle.street_lanes.specs.Prelude.{NoneLoose, NoneLooseBut}
use Rattle.street_lanes.specs.Inside.{loose_one, loose_in}
use Rattle.street_lanes.proofs.Touches.{loose-off}

-- an entry on no list
abbrev IsOff : Option YardEntry → Type 0
IsOff o = IsSomeAnd o (λ (e : YardEntry). e.list ≡ None)

-- ---- all but one entry are as they were

-- and that one is on a list, or nothing
pub loose-settled : (old new : Yard) (key : ℕ) → ((k : ℕ) → k ≢ key → entry_at new k ≡ entry_at old k) → (IsLoose new key → ⊥) → NoneLooseBut key old → NoneLoose new
loose-settled old new key others settled but k loose = elim (cases_eq k key) as (λ _. ⊥) [
  | inl e ↦ settled (subst (IsLoose new) e loose)
  | inr ne ↦ ne (but k (subst IsOff (others k ne) loose))
]

-- where none is loose, none but any key is
pub loose-but : (y : Yard) (key : ℕ) → NoneLoose y → NoneLooseBut key y
loose-but y key none k loose = absurd (none k loose)

on-list : (o : Option YardEntry) (list : ℕ) → IsOff (option_map (λ (e : YardEntry). record e { list = Some list }) o) → ⊥
on-list None list off = off
on-list (Some e) list off = (let bad : ◌≡◌ {A = Option ℕ} (Some list) None = off in cc)

-- the one has come on a list
pub loose-placed : (old between new : Yard) (key list : ℕ) → ((k : ℕ) → k ≢ key → entry_at between k ≡ entry_at old k) → new.kept ≡ list_set between.kept key (Some list) → NoneLooseBut key old → NoneLoose new
loose-placed old between new key list others placed but =
    loose-settled old new key
    (λ k ne. ap (λ es. get_or es k None) placed ∙ entry-kept_set_other between.kept key (λ e. record e { list = Some list }) k ne ∙ others k ne)
    (λ loose. on-list (get_or between.kept key None) list (subst IsOff (ap (λ es. get_or es key None) placed ∙ entry-kept_set between.kept key (λ e. record e { list = Some list })) loose))
    but

-- the one was taken out
pub loose-gone : (old between new : Yard) (key : ℕ) → ((k : ℕ) → k ≢ key → entry_at between k ≡ entry_at old k) → new.kept ≡ set between.kept key None → NoneLooseBut key old → NoneLoose new
loose-gone old between new key others taken but =
    loose-settled old new key
    (λ k ne. ap (λ es. get_or es k None) taken ∙ get_or-set_other between.kept key k None None ne ∙ others k ne)
    (λ loose. subst IsOff (ap (λ es. get_or es key None) taken ∙ entry-gone between.kept key) loose)
    but

-- ---- a pass over lists

off-car : (o : Option YardEntry) → IsOff o → (c : Car) × (option_map (λ (e : YardEntry). e.car) o ≡ Some c)
off-car None off = absurd off
off-car (Some e) off = (e.car, refl)

-- an entry that is there and not on none is on a list
on-one : (o : Option YardEntry) → IsSome o → (IsOff o → ⊥) → (n : ℕ) × (option_and_then (λ (e : YardEntry). e.list) o ≡ Some n)
on-one None some on = absurd (cc)
on-one (Some e) some on = by e.list refl
  where
    by : (o : Option ℕ) → e.list ≡ o → (n : ℕ) × (e.list ≡ Some n)
    by None q = absurd (on q)
    by (Some n) q = (n, q)

driven-there : (o : Option YardEntry) (c : Car) → option_map stopped (option_map (λ (e : YardEntry). e.car) o) ≡ Some c → IsSome o
driven-there None c e = cc
driven-there (Some k) c e = refl

held-there : (o : Option YardEntry) (c : Car) → option_map (λ (e : YardEntry). e.car) o ≡ Some c → IsSome o
held-there None c e = cc
held-there (Some k) c e = refl

-- who is on no list is on none that is named
off-named : (y : Yard) (k n : ℕ) → IsLoose y k → list_on y k ≡ Some n → ⊥
off-named y k n loose on = (let bad : ◌≡◌ {A = Option ℕ} (Some n) None = sym on ∙ loose-off y k loose in cc)

has-without : (a k : ℕ) (us vs : List ℕ) → k ≢ a → Has (without a (us ++ k ∷ vs)) k
has-without a k [] vs ne = rw (ne_eqb a k (λ e. ne (sym e))) ([], without a vs, refl)
has-without a k (u ∷ us) vs ne = elim (cases_eq a u) as (λ _. Has (without a (u ∷ us ++ k ∷ vs)) k) [
  | inl e ↦ rw (eq-eqb a u e) (has-without a k us vs ne)
  | inr far ↦ rw (ne_eqb a u far) (has-later u k (without a (us ++ k ∷ vs)) (has-without a k us vs ne))
]

still-listed : (lists : List (List ℕ)) (n k : ℕ) (away : Option ℕ) → (away ≡ Some k → ⊥) → Has (get_or lists n []) k → Has (get_or (left_lists lists n away) n []) k
still-listed lists n k None stays h = h
still-listed lists n k (Some a) stays h =
    subst (λ l. Has l k) (sym (list-written lists n (without a (get_or lists n [])) (listed_within lists n k h)))
    (subst (λ l. Has (without a l) k) (sym h.2) (has-without a k h.0 h.1 (λ e. stays (ap Some (sym e)))))

-- motion: none but who has left
pub loose-moved : (old new : Yard) (n : ℕ) (away : Option ℕ) → IsWhole old → MovesList old new n away → NoneLoose old → (k : ℕ) → IsLoose new k → (away ≡ Some k → ⊥) → ⊥
loose-moved old new n away whole moves none k loose stays =
    let c = off-car (entry_at new k) loose in
    let there = driven-there (entry_at old k) (stopped c.0) (sym (moves.cars k) ∙ ap (option_map stopped) c.1) in
    let at = on-one (entry_at old k) there (none k) in
    elim (cases_eq at.0 n) as (λ _. ⊥) [
      | inl e ↦ (
          let was : Has (list_at old n) k = whole.listed k n (at.1 ∙ ap Some e) in
          let is : Has (list_at new n) k = subst (λ (ls : List (List ℕ)). Has (get_or ls n []) k) (sym moves.lists) (still-listed old.lists n k away stays was) in
          off-named new k n loose (moves.whole.names k n is))
      | inr ne ↦ none k (subst IsOff (moves.others k (λ on. ne (let both : ◌≡◌ {A = Option ℕ} (Some at.0) (Some n) = sym at.1 ∙ on in cc))) loose)
    ]

-- lane changes: none
pub loose-changed : (old new : Yard) (lists : List ℕ) → KeepsRest old new lists → NoneLoose old → NoneLoose new
loose-changed old new lists rest none k loose =
    let c = off-car (entry_at new k) loose in
    let at = on-one (entry_at old k) (held-there (entry_at old k) c.0 (sym (rest.cars k) ∙ c.1)) (none k) in
    elim (has_or_away at.0 lists) as (λ _. ⊥) [
      | inl h ↦ (let stays = rest.stays k (record { list = at.0; among = h; on = at.1 }) in off-named new k stays.list loose stays.on)
      | inr away ↦ none k (subst IsOff (rest.entries k (λ n on. (let both : ◌≡◌ {A = Option ℕ} (Some at.0) (Some n) = sym at.1 ∙ on in let same : at.0 ≡ n = cc in subst (λ m. Away m lists) same away))) loose)
    ]

-- ---- what contracts see

pub nobody-loose : (y : Yard) → NoneLoose y → loose_in y ≡ []
nobody-loose y none = by y.kept none
  where
    listed : (e : YardEntry) (n : ℕ) → e.list ≡ Some n → loose_one (Some e) ≡ None
    listed e n on = rw on refl

    one : (e : YardEntry) (o : Option ℕ) → e.list ≡ o → (IsOff (Some e) → ⊥) → loose_one (Some e) ≡ None
    one e None off on = absurd (on off)
    one e (Some n) at on = listed e n at

    by : (es : List (Option YardEntry)) → ((k : ℕ) → IsOff (get_or es k None) → ⊥) → filter_map loose_one es ≡ []
    by [] all = refl
    by (None ∷ es) all = by es (λ k. all (suc k))
    by (Some e ∷ es) all = rw (one e e.list refl (all 0)) (by es (λ k. all (suc k)))
