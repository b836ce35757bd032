-- A key leaves its list, or comes onto one.
use Rattle.std.proofs.Common.{◌≡◌, ◌≢◌, ℕ, ◌+◌, ◌-◌, ◌<◌, ◌≤◌, List, [], ◌∷◌, ◌++◌, length, get_or, set, IsSome, Option, Some, None, refl, sym, ap, subst, ◌∙◌, inl, inr, arith, option_map, MatchOption}
use Rattle.std.proofs.lemmas.Bool.{cases_eq}
use Rattle.std.proofs.lemmas.List.{get_or_default, length-set}
use Rattle.street_yard.specs.declared.names.Key.{Key}
use Rattle.street_yard.specs.declared.hot.Hot.{Hot}
use Rattle.street_yard.specs.declared.hot.Cold.{Cold}
use Rattle.street_yard.specs.declared.list_table.ListRow.{ListRow}
use Rattle.street_yard.specs.declared.yard.Slot.{Slot}
use Rattle.street_yard.specs.declared.yard.Yard.TheInside.{Inside}
use Rattle.street_yard.specs.Prelude.{Yard, list_at, list_on, without, put_behind, Has, IsLoose, Links, LinksAt, linked, list_of, no_row, RowsStandFor, modify, rejoined, row_behind, row_ahead, next_of, behind_of}
use Rattle.street_yard.specs.Inside.{hot_at, slot_in, links_at, inner, lists_of, seen, IsSound, IsBelow, hots_behind, hots_ahead, hots_linked, next_behind_of}
use Rattle.street_yard.proofs.Threads.{IsThread-Away}
use Rattle.street_yard.proofs.Rejoined.{IsThread-has, IsOn}
use Rattle.street_yard.proofs.LinkChanges.{on_slot, on_below, keys-few}
use Rattle.street_yard.proofs.Hots.{core-behind, core-ahead, core-linked, length-behind, length-ahead, links-behind, links-ahead, links-linked}
use Rattle.street_yard.proofs.Fields.{names_within, links_steps, row_steps, position, count_on, below-on, links_of-seen, list_on-seen, listed_below, seen_listed, seen_loose, seen_within, RowsStandFor-without, RowsStandFor-pushed, RowsStandFor-put, there_next, on_back}

-- the three writes of a relinking
module _ (hots h1 h2 h3 : List Hot) (slots : List (Option Slot)) (key : ℕ) (old new : Slot) (p q x z a b n : Option ℕ) (p_below : IsBelow (length hots) p) (q_below : IsBelow (length hots) q) (key_below : key < length hots) (is : slot_in slots key ≡ Some old) (s1 : h1 ≡ hots_behind hots p x) (s2 : h2 ≡ hots_ahead h1 q z) (s3 : h3 ≡ hots_linked h2 key a b) (list : new.list ≡ n) where
  length_first : length h1 ≡ length hots
  length_first = ap length s1 ∙ length-behind hots p x

  length_second : length h2 ≡ length hots
  length_second = ap length s2 ∙ length-ahead h1 q z ∙ length_first

  below_first : IsBelow (length h1) q
  below_first = subst (λ m. IsBelow m q) (sym length_first) q_below

  below_second : key < length h2
  below_second = omega (arith, length_second)

  pub steps-length : length h3 ≡ length hots
  steps-length = ap length s3 ∙ length-set h2 key _ ∙ length_second

  pub steps-core : (j : ℕ) → inner (hot_at h3 j) ≡ inner (hot_at hots j)
  steps-core j =
      ap (λ h. inner (hot_at h j)) s3 ∙ core-linked h2 key a b below_second j
      ∙ ap (λ h. inner (hot_at h j)) s2 ∙ core-ahead h1 q z below_first j
      ∙ ap (λ h. inner (hot_at h j)) s1 ∙ core-behind hots p x p_below j

  pub steps-links : links_at h3 (set slots key (Some new)) ≡ modify (rejoined (links_at hots slots) p q x z) key (λ _. linked a b n)
  steps-links =
      links_steps (links_at hots slots) (links_at h1 slots) (links_at h2 slots) (links_at h3 (set slots key (Some new))) key p q x z (linked a b n)
      (ap (λ h. links_at h slots) s1 ∙ links-behind hots slots p x p_below)
      (ap (λ h. links_at h slots) s2 ∙ links-ahead h1 slots q z below_first)
      (ap (λ h. links_at h (set slots key (Some new))) s3 ∙ links-linked h2 slots key old new a b below_second is ∙ ap (λ m. modify (links_at h2 slots) key (λ _. linked a b m)) list)

-- the key of a list and its neighbours
module _ (y : Inside) (v : Yard) (key : ℕ) (old : Slot) (p q : Option ℕ) (s : IsSound y) (is_v : seen y ≡ v) (listed : IsSome (list_on v key)) (is : slot_in y.slots.slots key ≡ Some old) (p_is : p ≡ (hot_at y.hots key).ahead) (q_is : q ≡ (hot_at y.hots key).behind) where
  abbrev pub at_links : LinksAt
  at_links = links_at y.hots y.slots.slots

  abbrev pub its_links : Links
  its_links = linked p q old.list

  pub its_car : (c : Cold) × (old.car ≡ Some c)
  its_car =
      let w = seen_listed y v key s is_v listed in
      let same : old ≡ w.0 = let both : ◌≡◌ {A = Option Slot} (Some old) (Some w.0) = sym is ∙ w.2 in cc in
      (w.1, ap (λ (x : Slot). x.car) same ∙ w.3)

  pub its_below : key < length y.hots
  its_below = listed_below y v key s is_v listed

  pub its_links_are : at_links key ≡ Some its_links
  its_links_are = links_of-seen y key old is ∙ (λ i. Some (linked (sym p_is i) (sym q_is i) old.list))

  pub its_slot : list_on v key ≡ old.list
  its_slot = ap (λ w. list_on w key) (sym is_v) ∙ list_on-seen y s key ∙ ap list_of its_links_are

  module _ (n : ℕ) (on : old.list ≡ Some n) where
    abbrev pub its_lists : List (List ℕ)
    its_lists = lists_of y.hots y.slots.slots y.rows

    pub its_within : n < length y.rows
    its_within = names_within at_links y.rows its_lists key n s.stands (ap list_of its_links_are ∙ on)

    pub ahead_below : IsBelow (length y.hots) p
    ahead_below = below-on y s n p (position at_links y.rows its_lists key n its_links s.stands its_links_are on).5

    pub behind_below : IsBelow (length y.hots) q
    behind_below = below-on y s n q (position at_links y.rows its_lists key n its_links s.stands its_links_are on).6

    pub counted_once : (e : ListRow) → e ≡ get_or y.rows n e → (1 ≤ e.count) × (e.count ≡ (get_or y.rows n no_row).count)
    counted_once e e_is =
        let same : e.count ≡ (get_or y.rows n no_row).count = ap (λ (x : ListRow). x.count) (e_is ∙ get_or_default y.rows n e no_row its_within) in
        let c = count_on at_links y.rows its_lists key n its_links s.stands its_links_are on in
        (omega (arith, same, c), same)

    pub stands_without : (h1 h2 h3 : List Hot) (new : Slot) (e e1 e2 : ListRow) (a b : Option ℕ) → a ≡ None → b ≡ None → h1 ≡ hots_behind y.hots p q → h2 ≡ hots_ahead h1 q p → h3 ≡ hots_linked h2 key a b → new.list ≡ None → e ≡ get_or y.rows n e → e1 ≡ row_behind (record e { count = e.count - 1 }) p q → e2 ≡ row_ahead e1 q p → RowsStandFor (links_at h3 (set y.slots.slots key (Some new))) (set y.rows n e2) (set (seen y).lists n (without key (list_at (seen y) n)))
    stands_without h1 h2 h3 new e e1 e2 a b a_is b_is s1 s2 s3 list e_is t1 t2 =
        let links = steps-links y.hots h1 h2 h3 y.slots.slots key old new p q q p a b None ahead_below behind_below its_below is s1 s2 s3 list in
        let links' = links ∙ ap (λ o. modify (rejoined at_links p q q p) key (λ _. linked o b None)) a_is ∙ ap (λ o. modify (rejoined at_links p q q p) key (λ _. linked None o None)) b_is in
        let c = counted_once e e_is in
        RowsStandFor-without at_links y.rows its_lists key n its_links s.stands its_links_are on _ e2 (e.count - 1) (omega (arith, c)) links' (row_steps y.rows n e e1 e2 (e.count - 1) p q q p its_within e_is t1 t2)

Has-tail : (key k : ℕ) (xs : List ℕ) → k ≢ key → Has (key ∷ xs) k → Has xs k
Has-tail key k xs ne ([], vs, e) = absurd (let f : k ≡ key = cc in ne f)
Has-tail key k xs ne (u ∷ us, vs, e) = let f : xs ≡ us ++ k ∷ vs = cc in (us, vs, f)

-- keys that a contract names fit
pub below_nobody : (o : Option Key) (count : ℕ) → count ≤ 4294967295 → IsBelow count o → MatchOption o (Unit {0}) (λ k. k < 4294967295)
below_nobody None count few b = tt
below_nobody (Some k) count few b = omega arith

-- a loose key comes onto list n
module _ (y : Inside) (v : Yard) (key n : ℕ) (s : IsSound y) (is_v : seen y ≡ v) (loose : IsLoose v key) (in_range : n < length v.lists) where
  abbrev pub now_links : LinksAt
  now_links = links_at y.hots y.slots.slots

  abbrev pub now_lists : List (List ℕ)
  now_lists = lists_of y.hots y.slots.slots y.rows

  pub loose_key : (p : Slot) × (c : Cold) × (slot_in y.slots.slots key ≡ Some p) × (p.car ≡ Some c) × (p.list ≡ None)
  loose_key = seen_loose y v key s is_v loose

  pub key_within : key < length y.hots
  key_within = s.within key (subst IsSome (sym loose_key.2) refl)

  pub list_within : n < length y.rows
  list_within = seen_within y v n is_v in_range

  abbrev pub loose_links : Links
  loose_links = linked (hot_at y.hots key).ahead (hot_at y.hots key).behind loose_key.0.list

  pub loose_links_are : now_links key ≡ Some loose_links
  loose_links_are = links_of-seen y key loose_key.0 loose_key.2

  pub list_number : n < 4294967295
  list_number = let a = s.few_lists in let b = list_within in omega arith

  pub key_number : key < 4294967295
  key_number = let a = s.few in let b = key_within in omega arith

  key_off : list_of (now_links key) ≡ Some n → ⊥
  key_off h = (let none : list_of (now_links key) ≡ None = ap list_of loose_links_are ∙ loose_key.4 in let bad : ◌≡◌ {A = Option ℕ} (Some n) None = sym h ∙ none in cc)

  pub count_small : (e : ListRow) → e ≡ get_or y.rows n e → (e.count + 1 ≤ 4294967295) × (e.count ≡ (get_or y.rows n no_row).count)
  count_small e e_is =
      let same : e.count ≡ (get_or y.rows n no_row).count = ap (λ (x : ListRow). x.count) (e_is ∙ get_or_default y.rows n e no_row list_within) in
      let w = s.stands.each n list_within in
      let xs = get_or now_lists n [] in
      let counted = w.counted in
      let few = keys-few y.hots y.slots.slots s.within (key ∷ xs) (IsThread-Away now_links n None xs None key key_off w.thread, w.distinct) (λ k h. elim (cases_eq k key) as (λ _. k < length y.hots) [
        | inl same ↦ (let b = key_within in omega arith)
        | inr ne ↦ on_below y.hots y.slots.slots s.within k n (IsThread-has now_links n None xs None k (Has-tail key k xs ne h) w.thread)
      ]) in
      let all = s.few in
      (omega (arith, same, counted, few, all), same)

  pub back_below : (e : ListRow) → e ≡ get_or y.rows n e → IsBelow (length y.hots) e.back
  back_below e e_is = below-on y s n e.back (subst (λ (x : ListRow). IsOn now_links n x.back) (sym (e_is ∙ get_or_default y.rows n e no_row list_within)) (on_back now_links y.rows now_lists n s.stands list_within))

  pub stands_pushed : (h1 h2 h3 : List Hot) (new : Slot) (e e1 e2 : ListRow) (x end : Option ℕ) (last : Option ℕ) → x ≡ Some key → end ≡ None → last ≡ None → h1 ≡ hots_behind y.hots e.back x → h2 ≡ hots_ahead h1 end x → h3 ≡ hots_linked h2 key e.back last → new.list ≡ Some n → e ≡ get_or y.rows n e → e1 ≡ row_behind (record e { count = e.count + 1 }) e.back x → e2 ≡ row_ahead e1 end x → RowsStandFor (links_at h3 (set y.slots.slots key (Some new))) (set y.rows n e2) (set (seen y).lists n (list_at (seen y) n ++ key ∷ []))
  stands_pushed h1 h2 h3 new e e1 e2 x end last x_is end_is last_is s1 s2 s3 list e_is t1 t2 =
      let s1' = s1 ∙ ap (hots_behind y.hots e.back) x_is in
      let s2' = s2 ∙ ap (λ o. hots_ahead h1 o x) end_is ∙ ap (hots_ahead h1 None) x_is in
      let s3' = s3 ∙ ap (hots_linked h2 key e.back) last_is in
      let t1' = t1 ∙ ap (row_behind (record e { count = e.count + 1 }) e.back) x_is in
      let t2' = t2 ∙ ap (λ o. row_ahead e1 o x) end_is ∙ ap (row_ahead e1 None) x_is in
      let links = steps-links y.hots h1 h2 h3 y.slots.slots key loose_key.0 new e.back None (Some key) (Some key) e.back None (Some n) (back_below e e_is) tt key_within loose_key.2 s1' s2' s3' list in
      let c = count_small e e_is in
      RowsStandFor-pushed now_links y.rows now_lists key n loose_links s.stands list_within loose_links_are loose_key.4 (e.count + 1) (omega (arith, c)) e.back _ e2 (ap (λ (f : ListRow). f.back) (e_is ∙ get_or_default y.rows n e no_row list_within)) links (row_steps y.rows n e e1 e2 (e.count + 1) e.back None (Some key) (Some key) list_within e_is t1' t2')

  -- what is behind a key of the list, or first on it
  next_some : (a : ℕ) (o : Option Slot) → IsSome o → (hot_at y.hots a).behind ≡ behind_of (option_map (λ (p : Slot). linked (hot_at y.hots a).ahead (hot_at y.hots a).behind p.list) o)
  next_some a None h = absurd (cc)
  next_some a (Some p) h = refl

  next_same : (e : ListRow) (a : Option ℕ) → IsOn now_links n a → next_behind_of y.hots e a ≡ next_of now_links e a
  next_same e None on = refl
  next_same e (Some a) on = next_some a (slot_in y.slots.slots a) (on_slot y.hots y.slots.slots s.within a n on)

  pub next_is : (e : ListRow) (a q : Option ℕ) → IsOn now_links n a → e ≡ get_or y.rows n e → q ≡ next_behind_of y.hots e a → q ≡ next_of now_links (get_or y.rows n no_row) a
  next_is e a q on e_is q_is = q_is ∙ next_same e a on ∙ ap (λ (x : ListRow). next_of now_links x a) (e_is ∙ get_or_default y.rows n e no_row list_within)

  pub next_below : (e : ListRow) (a q : Option ℕ) → IsOn now_links n a → e ≡ get_or y.rows n e → q ≡ next_behind_of y.hots e a → IsBelow (length y.hots) q
  next_below e a q on e_is q_is = below-on y s n q (subst (IsOn now_links n) (sym (next_is e a q on e_is q_is)) (there_next now_links y.rows now_lists n s.stands list_within a on))

  pub stands_put : (h1 h2 h3 : List Hot) (new : Slot) (e e1 e2 : ListRow) (x a q : Option ℕ) → x ≡ Some key → IsOn now_links n a → q ≡ next_behind_of y.hots e a → h1 ≡ hots_behind y.hots a x → h2 ≡ hots_ahead h1 q x → h3 ≡ hots_linked h2 key a q → new.list ≡ Some n → e ≡ get_or y.rows n e → e1 ≡ row_behind (record e { count = e.count + 1 }) a x → e2 ≡ row_ahead e1 q x → RowsStandFor (links_at h3 (set y.slots.slots key (Some new))) (set y.rows n e2) (set (seen y).lists n (put_behind a key (list_at (seen y) n)))
  stands_put h1 h2 h3 new e e1 e2 x a q x_is on q_is s1 s2 s3 list e_is t1 t2 =
      let s1' = s1 ∙ ap (hots_behind y.hots a) x_is in
      let s2' = s2 ∙ ap (hots_ahead h1 q) x_is in
      let t1' = t1 ∙ ap (row_behind (record e { count = e.count + 1 }) a) x_is in
      let t2' = t2 ∙ ap (row_ahead e1 q) x_is in
      let links = steps-links y.hots h1 h2 h3 y.slots.slots key loose_key.0 new a q (Some key) (Some key) a q (Some n) (below-on y s n a on) (next_below e a q on e_is q_is) key_within loose_key.2 s1' s2' s3 list in
      let c = count_small e e_is in
      RowsStandFor-put now_links y.rows now_lists key n loose_links s.stands list_within loose_links_are loose_key.4 (e.count + 1) (omega (arith, c)) a q _ e2 on (next_is e a q on e_is q_is) links (row_steps y.rows n e e1 e2 (e.count + 1) a q (Some key) (Some key) list_within e_is t1' t2')
