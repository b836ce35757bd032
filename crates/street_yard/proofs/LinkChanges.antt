-- What taking a key out of a list and putting it into one leave, and what the lists are that the links stand for.
use Rattle.std.proofs.Common.{◌≡◌, ◌≢◌, ℕ, ◌<◌, ◌≤◌, true, false, eqb, List, [], ◌∷◌, ◌++◌, length, get_or, set, Option, Some, None, IsSome, refl, sym, ap, ◌∙◌, inl, inr, arith, option_map}
use Rattle.std.specs.List.{IsDistinct, list_any, AllByRecursion}
use Rattle.std.proofs.lemmas.Bool.{cases_eq}
use Rattle.std.proofs.lemmas.Bool.Decides.{eqb_tells}
use Rattle.std.proofs.lemmas.List.{append_assoc, length-map, ext_get_or, get_or-map}
use Rattle.std.proofs.lemmas.Map.Steps.{length-le_from_distinct_below}
use Rattle.street_yard.specs.declared.list_table.ListRow.{ListRow}
use Rattle.street_yard.specs.declared.hot.Hot.{Hot}
use Rattle.street_yard.specs.declared.yard.Slot.{Slot}
use Rattle.street_yard.specs.Prelude.{first_or, last_or, Has, Away, IsApart, Links, LinksAt, linked, list_of, IsList, no_row, RowsStandFor, walk, rejoined, unlinked_at, row_joined, inserted_at}
use Rattle.street_yard.specs.Inside.{links_at, lists_of, slot_in, hot_at}
use Rattle.street_yard.proofs.Keys.{Away-append, IsApart-split, IsApart-join, last_or-append}
use Rattle.street_yard.proofs.Threads.{modify-same, modify-other, modify-was, IsThread-split, IsThread-join, IsThread-Away, IsThread-modify, walk-thread}
use Rattle.street_yard.proofs.Rejoined.{IsThread-has, RowsStandFor-changed, rejoined-other, list_of-rejoined, rejoined-parts, row-front, row-back, row-count, IsOn-first, IsOn-last}

pub Has-other : (us : List ℕ) (key : ℕ) (vs : List ℕ) (k : ℕ) → k ≢ key → Has (us ++ key ∷ vs) k → Has (us ++ vs) k
Has-other [] key vs k ne ([], bs, e) = absurd (let f : k ≡ key = cc in ne f)
Has-other [] key vs k ne (a ∷ as', bs, e) = let f : vs ≡ as' ++ k ∷ bs = cc in (as', bs, f)
Has-other (u ∷ us) key vs k ne ([], bs, e) = let f : u ≡ k = cc in ([], us ++ vs, ap (λ j. j ∷ (us ++ vs)) f)
Has-other (u ∷ us) key vs k ne (a ∷ as', bs, e) =
    let f : us ++ key ∷ vs ≡ as' ++ k ∷ bs = cc in
    let r = Has-other us key vs k ne (as', bs, f) in
    (u ∷ r.0, r.1, ap (λ l. u ∷ l) r.2)

Has-more : (us : List ℕ) (key : ℕ) (vs : List ℕ) (k : ℕ) → Has (us ++ vs) k → Has (us ++ key ∷ vs) k
Has-more [] key vs k h = (key ∷ h.0, h.1, ap (λ l. key ∷ l) h.2)
Has-more (u ∷ us) key vs k ([], bs, e) = let f : u ≡ k = cc in ([], us ++ key ∷ vs, ap (λ j. j ∷ (us ++ key ∷ vs)) f)
Has-more (u ∷ us) key vs k (a ∷ as', bs, e) =
    let f : us ++ vs ≡ as' ++ k ∷ bs = cc in
    let r = Has-more us key vs k (as', bs, f) in
    (u ∷ r.0, r.1, ap (λ l. u ∷ l) r.2)

list_of-const : (l : Links) (o : Option Links) → l.list ≡ None → list_of (option_map (λ _. l) o) ≡ None
list_of-const l None e = refl
list_of-const l (Some _) e = e

-- the key has left its list
pub RowsStandFor-unlink : (at : LinksAt) (rows : List ListRow) (lists : List (List ℕ)) (n key : ℕ) (us vs : List ℕ) (count : ℕ) → count ≡ length (us ++ vs) → n < length rows → RowsStandFor at rows lists → get_or lists n [] ≡ us ++ key ∷ vs → RowsStandFor (unlinked_at at key us vs) (set rows n (row_joined (get_or rows n no_row) count (last_or us None) (first_or vs None) (first_or vs None) (last_or us None))) (set lists n (us ++ vs))
RowsStandFor-unlink at rows lists n key us vs count counts within y is =
    let e = get_or rows n no_row in
    let p = last_or us None in
    let q = first_or vs None in
    let was : IsList at n (us ++ key ∷ vs) e = rw is at (y.each n within) in
    let apart = IsApart-split us key vs was.distinct in
    let parts = IsThread-split at n None us (key ∷ vs) None was.thread in
    let both = rejoined-parts at n us vs (Some key) (Some key) q p apart.2 parts.0 parts.1.1 in
    let joined = rejoined at p q q p in
    let now = unlinked_at at key us vs in
    let on_p = IsOn-last at n us (Some key) parts.0 in
    let on_q = IsOn-first at n (Some key) vs parts.1.1 in
    let key_on : list_of (at key) ≡ Some n = ap list_of parts.1.0 in
    let gone : list_of (now key) ≡ None = ap list_of (modify-same joined key (λ _. linked None None None)) ∙ list_of-const _ (joined key) refl in
    let lists_stay : (k : ℕ) → k ≢ key → list_of (now k) ≡ list_of (at k) = λ k ne. ap list_of (modify-other joined key _ k ne) ∙ list_of-rejoined at p q q p k in
    RowsStandFor-changed at now rows lists n (us ++ vs) (row_joined e count p q q p) within y
    (record {
      thread = IsThread-join now n None us vs None (IsThread-modify joined n key _ None us q apart.0 both.0) (IsThread-modify joined n key _ p vs None apart.1 both.1);
      front = row-front (record e { count = count }) us vs (key ∷ vs) q q p was.front refl;
      back = row-back (record e { count = count }) vs us (us ++ key ∷ []) p q p (was.back ∙ ap (λ l. last_or l None) (sym (append_assoc us (key ∷ []) vs))) refl;
      counted = row-count (record e { count = count }) p q q p ∙ counts;
      distinct = apart.2;
    })
    (λ k m ne h.
    let off : list_of (at k) ≡ Some n → ⊥ = λ g. let f : m ≡ n = cc in ne f in
    let differs : k ≢ key = λ g. off (ap (λ j. list_of (at j)) g ∙ key_on) in
    modify-other joined key _ k differs ∙ rejoined-other at n p q q p k on_p on_q off)
    (λ k m ne h. elim (cases_eq k key) [
      | inl same ↦ absurd (let f : list_of (now k) ≡ None = rw same gone in cc)
      | inr differs ↦ sym (lists_stay k differs) ∙ h
    ])
    (λ k h. elim (cases_eq k key) [
      | inl same ↦ absurd (let f : list_of (now k) ≡ None = rw same gone in cc)
      | inr differs ↦
          let old : Has (us ++ key ∷ vs) k = rw is at (y.placed k n (sym (lists_stay k differs) ∙ h)) in
          Has-other us key vs k differs old
    ])

pub RowsStandFor-insert : (at : LinksAt) (rows : List ListRow) (lists : List (List ℕ)) (n key : ℕ) (us vs : List ℕ) (count : ℕ) (l : Links) → count ≡ length (us ++ key ∷ vs) → n < length rows → RowsStandFor at rows lists → get_or lists n [] ≡ us ++ vs → at key ≡ Some l → l.list ≡ None → RowsStandFor (inserted_at at n key us vs) (set rows n (row_joined (get_or rows n no_row) count (last_or us None) (first_or vs None) (Some key) (Some key))) (set lists n (us ++ key ∷ vs))
RowsStandFor-insert at rows lists n key us vs count l counts within y is here loose =
    let e = get_or rows n no_row in
    let p = last_or us None in
    let q = first_or vs None in
    let was : IsList at n (us ++ vs) e = rw is at (y.each n within) in
    let parts = IsThread-split at n None us vs None was.thread in
    let both = rejoined-parts at n us vs q p (Some key) (Some key) was.distinct parts.0 parts.1 in
    let joined = rejoined at p q (Some key) (Some key) in
    let now = inserted_at at n key us vs in
    let on_p = IsOn-last at n us q parts.0 in
    let on_q = IsOn-first at n p vs parts.1 in
    let nowhere : list_of (at key) ≡ None = ap list_of here ∙ loose in
    let key_off : list_of (at key) ≡ Some n → ⊥ = λ g. cc in
    let away = Away-append key us vs (IsThread-Away at n None (us ++ vs) None key key_off was.thread) in
    let stays : joined key ≡ Some l = rejoined-other at n p q (Some key) (Some key) key on_p on_q key_off ∙ here in
    let new : now key ≡ Some (linked p q (Some n)) = modify-was joined key _ l stays in
    let lists_stay : (k : ℕ) → k ≢ key → list_of (now k) ≡ list_of (at k) = λ k ne. ap list_of (modify-other joined key _ k ne) ∙ list_of-rejoined at p q (Some key) (Some key) k in
    RowsStandFor-changed at now rows lists n (us ++ key ∷ vs) (row_joined e count p q (Some key) (Some key)) within y
    (record {
      thread = IsThread-join now n None us (key ∷ vs) None (IsThread-modify joined n key _ None us (Some key) away.0 both.0) (new, IsThread-modify joined n key _ (Some key) vs None away.1 both.1);
      front = row-front (record e { count = count }) us (key ∷ vs) vs (Some key) q (Some key) was.front refl;
      back = row-back (record e { count = count }) vs (us ++ key ∷ []) us p (Some key) (Some key) was.back (sym (last_or-append us (key ∷ []) None)) ∙ ap (λ l. last_or l None) (append_assoc us (key ∷ []) vs);
      counted = row-count (record e { count = count }) p q (Some key) (Some key) ∙ counts;
      distinct = IsApart-join us key vs away.0 away.1 was.distinct;
    })
    (λ k m ne h.
    let off : list_of (at k) ≡ Some n → ⊥ = λ g. let f : m ≡ n = cc in ne f in
    let differs : k ≢ key = λ g. let f : list_of (at k) ≡ None = ap (λ j. list_of (at j)) g ∙ nowhere in absurd (cc) in
    modify-other joined key _ k differs ∙ rejoined-other at n p q (Some key) (Some key) k on_p on_q off)
    (λ k m ne h. elim (cases_eq k key) [
      | inl same ↦ absurd (let f : list_of (now k) ≡ Some n = rw same (ap list_of new) in let g : m ≡ n = cc in ne g)
      | inr differs ↦ sym (lists_stay k differs) ∙ h
    ])
    (λ k h. elim (cases_eq k key) [
      | inl same ↦ (us, vs, ap (λ j. us ++ j ∷ vs) (sym same))
      | inr differs ↦
          let old : Has (us ++ vs) k = rw is at (y.placed k n (sym (lists_stay k differs) ∙ h)) in
          Has-more us key vs k old
    ])

-- the lists that links stand for are those that `walk` finds

pub IsDistinct-from_apart : (xs : List ℕ) → IsApart xs → IsDistinct eqb xs
unfolding IsDistinct
IsDistinct-from_apart [] h = tt
IsDistinct-from_apart (x ∷ xs) h = (all xs h.0, IsDistinct-from_apart xs h.1)
  where
    all : (ys : List ℕ) → Away x ys → AllByRecursion (λ y. eqb x y ≡ false) ys
    all [] a = tt
    all (y ∷ ys) a = (grind (arith, eqb_tells x y, a.0), all ys a.1)

Has-from_list_any : (xs : List ℕ) (k : ℕ) → list_any (eqb k) xs ≡ true → Has xs k
Has-from_list_any [] k h = absurd (cc)
Has-from_list_any (x ∷ xs) k h =
    elim (cases_eq k x) [
      | inl same ↦ ([], xs, ap (λ j. j ∷ xs) (sym same))
      | inr ne ↦
          let r = Has-from_list_any xs k (grind (arith, eqb_tells k x)) in
          (x ∷ r.0, r.1, ap (λ l. x ∷ l) r.2)
    ]

module _ (hots : List Hot) (slots : List (Option Slot)) (within : (k : ℕ) → IsSome (slot_in slots k) → k < length hots) where
  slot_some : (o : Option Slot) (p q : Option ℕ) (n : ℕ) → list_of (option_map (λ (x : Slot). linked p q x.list) o) ≡ Some n → IsSome o
  slot_some None p q n h = absurd (cc)
  slot_some (Some x) p q n h = refl

  -- a key on a list has a slot
  pub on_slot : (k n : ℕ) → list_of (links_at hots slots k) ≡ Some n → IsSome (slot_in slots k)
  on_slot k n h = slot_some (slot_in slots k) (hot_at hots k).ahead (hot_at hots k).behind n h

  pub on_below : (k n : ℕ) → list_of (links_at hots slots k) ≡ Some n → k < length hots
  on_below k n h = within k (on_slot k n h)

  -- there are no more keys than slots
  pub keys-few : (xs : List ℕ) → IsApart xs → ((k : ℕ) → Has xs k → k < length hots) → length xs ≤ length hots
  keys-few xs apart below = length-le_from_distinct_below xs (length hots) (IsDistinct-from_apart xs apart) (λ k h. below k (Has-from_list_any xs k h))

  pub lists_of-stands : (rows : List ListRow) (lists : List (List ℕ)) → RowsStandFor (links_at hots slots) rows lists → lists_of hots slots rows ≡ lists
  lists_of-stands rows lists y =
      let find : ListRow → List ℕ = λ e. walk (links_at hots slots) (length hots) e.front in
      ext_get_or [] (lists_of hots slots rows) lists (length-map rows find ∙ sym y.count) (λ i lt.
      let lt' : i < length rows = omega (arith, length-map rows find) in
      let l = y.each i lt' in
      let xs = get_or lists i [] in
      let small : length xs ≤ length hots = keys-few xs l.distinct (λ k h. on_below k i (IsThread-has (links_at hots slots) i None xs None k h l.thread)) in
      get_or-map find rows i no_row [] lt' ∙ ap (walk (links_at hots slots) (length hots)) l.front ∙ walk-thread (links_at hots slots) i (length hots) None xs small l.thread)
