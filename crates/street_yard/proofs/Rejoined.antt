-- What a relinked key leaves of the lists.
use Rattle.std.proofs.Common.{◌≡◌, ◌≢◌, ℕ, ◌<◌, List, [], ◌∷◌, ◌++◌, length, set, Option, Some, None, refl, sym, ap, ◌∙◌, inl, inr, arith, option_map}
use Rattle.std.proofs.lemmas.Bool.{cases_eq}
use Rattle.std.proofs.lemmas.List.{append_assoc, get_or-set_same, get_or-set_other, length-set}
use Rattle.street_yard.specs.declared.list_table.ListRow.{ListRow}
use Rattle.street_yard.specs.Prelude.{first_or, last_or, Has, IsApart, Links, LinksAt, list_of, IsThread, IsList, no_row, RowsStandFor, modify, set_behind, set_ahead, AwayFrom, rejoined, row_behind, row_ahead}
use Rattle.street_yard.proofs.Keys.{Away-append, IsApart-split, snoc_cases, last_or-push, last_or-append}
use Rattle.street_yard.proofs.Threads.{modify-same, modify-other, IsThread-at, IsThread-same, IsThread-set_behind, IsThread-set_ahead, IsThread-behind, IsThread-ahead}

pub IsThread-has : (at : LinksAt) (n : ℕ) (p : Option ℕ) (xs : List ℕ) (q : Option ℕ) (k : ℕ) → Has xs k → IsThread at n p xs q → list_of (at k) ≡ Some n
IsThread-has at n p xs q k h t =
    let t' : IsThread at n p (h.0 ++ k ∷ h.1) q = rw h.2 at t in
    ap list_of (IsThread-at at n p h.0 k h.1 q t')

pub IsList-same : (at now : LinksAt) (n : ℕ) (xs : List ℕ) (e : ListRow) → ((k : ℕ) → Has xs k → now k ≡ at k) → IsList at n xs e → IsList now n xs e
IsList-same at now n xs e same l =
    record { thread = IsThread-same at now n None xs None same l.thread; front = l.front; back = l.back; counted = l.counted; distinct = l.distinct }

-- one list is another, and the keys of the other lists keep their links
pub RowsStandFor-changed : (at now : LinksAt) (rows : List ListRow) (lists : List (List ℕ)) (n : ℕ) (xs : List ℕ) (e : ListRow) → n < length rows → RowsStandFor at rows lists → IsList now n xs e → ((k m : ℕ) → m ≢ n → list_of (at k) ≡ Some m → now k ≡ at k) → ((k m : ℕ) → m ≢ n → list_of (now k) ≡ Some m → list_of (at k) ≡ Some m) → ((k : ℕ) → list_of (now k) ≡ Some n → Has xs k) → RowsStandFor now (set rows n e) (set lists n xs)
RowsStandFor-changed at now rows lists n xs e within y list others back here =
    let within' : n < length lists = omega (arith, y.count) in
    record {
      count = length-set lists n xs ∙ y.count ∙ sym (length-set rows n e);
      each = λ m lt.
          let lt' : m < length rows = omega (arith, length-set rows n e) in
          elim (cases_eq m n) [
            | inl same ↦ rw (same, get_or-set_same lists n xs [] within', get_or-set_same rows n e no_row within) list
            | inr ne ↦
                let old = y.each m lt' in
                rw
                (get_or-set_other lists n m xs [] ne, get_or-set_other rows n m e no_row ne)
                (IsList-same at now m _ _ (λ k h. others k m ne (IsThread-has at m None _ None k h old.thread)) old)
          ];
      placed = λ k m h.
          elim (cases_eq m n) [
            | inl same ↦ rw (same, get_or-set_same lists n xs [] within') (here k (h ∙ ap (λ j. Some j) same))
            | inr ne ↦ rw (get_or-set_other lists n m xs [] ne) (y.placed k m (back k m ne h))
          ];
    }

pub Away-last : (us vs : List ℕ) → IsApart (us ++ vs) → IsApart us × IsApart vs × AwayFrom (last_or us None) vs × AwayFrom (first_or vs None) us
Away-last us vs h = (left us vs h, right us vs h, last us vs h, first us vs h)
  where
    left : (us vs : List ℕ) → IsApart (us ++ vs) → IsApart us
    left [] vs h = tt
    left (u ∷ us) vs h = ((Away-append u us vs h.0).0, left us vs h.1)

    right : (us vs : List ℕ) → IsApart (us ++ vs) → IsApart vs
    right [] vs h = h
    right (u ∷ us) vs h = right us vs h.1

    last : (us vs : List ℕ) → IsApart (us ++ vs) → AwayFrom (last_or us None) vs
    last us vs h =
        elim (snoc_cases us) [
          | inl e ↦ rw e tt
          | inr s ↦
              let h' : IsApart ((s.0 ++ s.1 ∷ []) ++ vs) = rw s.2 at h in
              let h'' : IsApart (s.0 ++ s.1 ∷ vs) = rw append_assoc at h' in
              rw (s.2, last_or-push s.0 s.1 None) (IsApart-split s.0 s.1 vs h'').1
        ]

    first : (us vs : List ℕ) → IsApart (us ++ vs) → AwayFrom (first_or vs None) us
    first us [] h = tt
    first us (v ∷ vs) h = (IsApart-split us v vs h).0

-- the part before and the part after a position, after their outer keys are joined to other keys
pub rejoined-parts : (at : LinksAt) (n : ℕ) (us vs : List ℕ) (r s x y : Option ℕ) → IsApart (us ++ vs) → IsThread at n None us r → IsThread at n s vs None → IsThread (rejoined at (last_or us None) (first_or vs None) x y) n None us x × IsThread (rejoined at (last_or us None) (first_or vs None) x y) n y vs None
rejoined-parts at n us vs r s x y apart tu tv =
    let a = Away-last us vs apart in (
      IsThread-set_ahead (set_behind at (last_or us None) x) n (first_or vs None) y None us x a.3 (IsThread-behind at n us r x a.0 tu),
      IsThread-ahead (set_behind at (last_or us None) x) n s y vs a.1 (IsThread-set_behind at n (last_or us None) x s vs None a.2 tv),
    )

list_of-map : (f : Links → Links) → ((l : Links) → (f l).list ≡ l.list) → (o : Option Links) → list_of (option_map f o) ≡ list_of o
list_of-map f keeps None = refl
list_of-map f keeps (Some l) = keeps l

pub list_of-modify : (at : LinksAt) (a : ℕ) (f : Links → Links) → ((l : Links) → (f l).list ≡ l.list) → (k : ℕ) → list_of (modify at a f k) ≡ list_of (at k)
list_of-modify at a f keeps k =
    elim (cases_eq k a) [
      | inl e ↦ rw e (ap list_of (modify-same at a f) ∙ list_of-map f keeps (at a))
      | inr ne ↦ ap list_of (modify-other at a f k ne)
    ]

pub list_of-set_behind : (at : LinksAt) (p x : Option ℕ) (k : ℕ) → list_of (set_behind at p x k) ≡ list_of (at k)
list_of-set_behind at None x k = refl
list_of-set_behind at (Some a) x k = list_of-modify at a (λ l. record l { behind = x }) (λ l. refl) k

pub list_of-set_ahead : (at : LinksAt) (p x : Option ℕ) (k : ℕ) → list_of (set_ahead at p x k) ≡ list_of (at k)
list_of-set_ahead at None x k = refl
list_of-set_ahead at (Some a) x k = list_of-modify at a (λ l. record l { ahead = x }) (λ l. refl) k

pub list_of-rejoined : (at : LinksAt) (p q x y : Option ℕ) (k : ℕ) → list_of (rejoined at p q x y k) ≡ list_of (at k)
list_of-rejoined at p q x y k = list_of-set_ahead (set_behind at p x) q y k ∙ list_of-set_behind at p x k

-- the key, if there is one, is on list n
abbrev pub IsOn : LinksAt → ℕ → Option ℕ → Type 0
IsOn at n None = Unit {0}
IsOn at n (Some a) = list_of (at a) ≡ Some n

set_behind-other : (at : LinksAt) (n : ℕ) (p x : Option ℕ) (k : ℕ) → IsOn at n p → (list_of (at k) ≡ Some n → ⊥) → set_behind at p x k ≡ at k
set_behind-other at n None x k on off = refl
set_behind-other at n (Some a) x k on off = modify-other at a _ k (λ e. off (ap (λ j. list_of (at j)) e ∙ on))

set_ahead-other : (at : LinksAt) (n : ℕ) (p x : Option ℕ) (k : ℕ) → IsOn at n p → (list_of (at k) ≡ Some n → ⊥) → set_ahead at p x k ≡ at k
set_ahead-other at n None x k on off = refl
set_ahead-other at n (Some a) x k on off = modify-other at a _ k (λ e. off (ap (λ j. list_of (at j)) e ∙ on))

pub IsOn-set_behind : (at : LinksAt) (n : ℕ) (p x q : Option ℕ) → IsOn at n q → IsOn (set_behind at p x) n q
IsOn-set_behind at n p x None on = tt
IsOn-set_behind at n p x (Some b) on = list_of-set_behind at p x b ∙ on

-- a key that is not on list n keeps its links
pub rejoined-other : (at : LinksAt) (n : ℕ) (p q x y : Option ℕ) (k : ℕ) → IsOn at n p → IsOn at n q → (list_of (at k) ≡ Some n → ⊥) → rejoined at p q x y k ≡ at k
rejoined-other at n p q x y k onp onq off =
    set_ahead-other (set_behind at p x) n q y k (IsOn-set_behind at n p x q onq) (λ h. off (sym (list_of-set_behind at p x k) ∙ h)) ∙ set_behind-other at n p x k onp off

pub IsOn-first : (at : LinksAt) (n : ℕ) (s : Option ℕ) (vs : List ℕ) → IsThread at n s vs None → IsOn at n (first_or vs None)
IsOn-first at n s [] t = tt
IsOn-first at n s (v ∷ vs) t = ap list_of t.0

pub IsOn-last : (at : LinksAt) (n : ℕ) (us : List ℕ) (r : Option ℕ) → IsThread at n None us r → IsOn at n (last_or us None)
IsOn-last at n us r t =
    elim (snoc_cases us) [
      | inl e ↦ rw e tt
      | inr s ↦
          let t' : IsThread at n None (s.0 ++ s.1 ∷ []) r = rw s.2 at t in
          rw (s.2, last_or-push s.0 s.1 None) (ap list_of (IsThread-at at n None s.0 s.1 [] r t'))
    ]

row_ahead-front : (e : ListRow) (q y : Option ℕ) → (row_ahead e q y).front ≡ e.front
row_ahead-front e None y = refl
row_ahead-front e (Some _) y = refl

row_behind-back : (e : ListRow) (q y : Option ℕ) → (row_behind e q y).back ≡ e.back
row_behind-back e None y = refl
row_behind-back e (Some _) y = refl

pub row-count : (e : ListRow) (p q x y : Option ℕ) → (row_ahead (row_behind e p x) q y).count ≡ e.count
row-count e None None x y = refl
row-count e None (Some _) x y = refl
row-count e (Some _) None x y = refl
row-count e (Some _) (Some _) x y = refl

last_or-some : (us : List ℕ) (u : ℕ) → (a : ℕ) × (last_or us (Some u) ≡ Some a)
last_or-some [] u = (u, refl)
last_or-some (x ∷ us) u = last_or-some us x

pub row-front : (e : ListRow) (us zs ws : List ℕ) (x q y : Option ℕ) → e.front ≡ first_or (us ++ ws) None → x ≡ first_or zs None → (row_ahead (row_behind e (last_or us None) x) q y).front ≡ first_or (us ++ zs) None
row-front e [] zs ws x q y was is = row_ahead-front _ q y ∙ is
row-front e (u ∷ us) zs ws x q y was is =
    let s = last_or-some us u in
    row_ahead-front _ q y ∙ ap (λ o. (row_behind e o x).front) s.1 ∙ was

pub row-back : (e : ListRow) (vs zs ws : List ℕ) (p x y : Option ℕ) → e.back ≡ last_or (ws ++ vs) None → y ≡ last_or zs None → (row_ahead (row_behind e p x) (first_or vs None) y).back ≡ last_or (zs ++ vs) None
row-back e [] zs ws p x y was is = is ∙ sym (last_or-append zs [] None)
row-back e (v ∷ vs) zs ws p x y was is =
    row_behind-back e p x ∙ was ∙ last_or-append ws (v ∷ vs) None ∙ sym (last_or-append zs (v ∷ vs) None)
