-- A key goes to another list.
use Rattle.std.proofs.Common.{◌≡◌, ◌≢◌, ℕ, ◌<◌, true, false, not, [], length, get_or, set, Option, Some, None, refl, sym, ap, ◌∙◌, option_map, option_and_then, unwrap_or}
use Rattle.std.proofs.lemmas.List.{get_or-set_same, get_or-set_other, length-set}
use Rattle.street_yard.specs.Prelude.{YardEntry, Yard, list_at, entry_at, car_of, list_on, list_set, mark_set, without, put_behind, IsWhole}
use Rattle.street_rule.specs.Prelude.{is_unmarked, Carries}
use Rattle.street_yard.proofs.YardLemmas.{entry-kept_set, entry-kept_set_other, field-kept_set}

same_list : (n : Option ℕ) (o : Option YardEntry) → option_and_then (λ (e : YardEntry). e.list) (option_map (λ (e : YardEntry). record e { mark = false }) o) ≡ option_and_then (λ (e : YardEntry). e.list) o
same_list n None = refl
same_list n (Some e) = refl

pub list_on-marked : (y : Yard) (key : ℕ) → list_on (record y { kept = mark_set y.kept key false }) key ≡ list_on y key
list_on-marked y key = ap (option_and_then (λ (e : YardEntry). e.list)) (entry-kept_set y.kept key (λ e. record e { mark = false })) ∙ same_list None (get_or y.kept key None)

no_mark : (o : Option YardEntry) → not (unwrap_or (option_map (λ (e : YardEntry). e.mark) (option_map (λ (e : YardEntry). record e { mark = false }) o)) false) ≡ true
no_mark None = refl
no_mark (Some e) = refl

module _ (y m u now : Yard) (from to key list : ℕ) (position : Option ℕ) (from_in : from < length y.lists) (to_in : to < length y.lists) (apart : from ≢ to) (on : list_on y key ≡ Some from)
    (m_is : m ≡ record y { kept = mark_set y.kept key false }) (list_is : list_on m key ≡ Some list)
    (u_is : u ≡ record m { lists = set m.lists list (without key (list_at m list)); kept = list_set m.kept key None })
    (now_is : now ≡ record u { lists = set u.lists to (put_behind position key (list_at u to)); kept = list_set u.kept key (Some to) }) where
  same : list ≡ from
  same = (let e : ◌≡◌ {A = Option ℕ} (Some list) (Some from) = sym list_is ∙ ap (λ v. list_on v key) m_is ∙ list_on-marked y key ∙ on in cc)

  m_lists : m.lists ≡ y.lists
  m_lists = ap (λ (v : Yard). v.lists) m_is

  u_lists : u.lists ≡ set y.lists from (without key (list_at y from))
  u_lists = ap (λ (v : Yard). v.lists) u_is ∙ ap (λ l. set l list (without key (get_or l list []))) m_lists ∙ ap (λ j. set y.lists j (without key (list_at y j))) same

  now_lists : now.lists ≡ set (set y.lists from (without key (list_at y from))) to (put_behind position key (list_at y to))
  now_lists =
      ap (λ (v : Yard). v.lists) now_is
      ∙ ap (λ l. set l to (put_behind position key (get_or l to []))) u_lists
      ∙ ap (λ l. set (set y.lists from (without key (list_at y from))) to (put_behind position key l)) (get_or-set_other y.lists from to _ [] (λ e. apart (sym e)))

  field : {A : Type 0} (get : YardEntry → A) → ((e : YardEntry) (n : Option ℕ) → get (record e { list = n }) ≡ get e) → (j : ℕ) → option_map get (entry_at now j) ≡ option_map get (entry_at m j)
  field get keeps j =
      ap (λ (v : Yard). option_map get (get_or v.kept j None)) now_is
      ∙ field-kept_set get (λ e. record e { list = Some to }) (λ e. keeps e (Some to)) u.kept key j
      ∙ ap (λ (v : Yard). option_map get (get_or v.kept j None)) u_is
      ∙ field-kept_set get (λ e. record e { list = None }) (λ e. keeps e None) m.kept key j

  pub carries : IsWhole now → Carries y now from to key position
  carries whole = record {
    from_list = ap (λ l. get_or l from []) now_lists ∙ get_or-set_other (set y.lists from _) to from _ [] apart ∙ get_or-set_same y.lists from _ [] from_in;
    to_list = ap (λ l. get_or l to []) now_lists ∙ get_or-set_same (set y.lists from _) to _ [] (rw length-set to_in);
    others = λ n a b. ap (λ l. get_or l n []) now_lists ∙ get_or-set_other (set y.lists from _) to n _ [] b ∙ get_or-set_other y.lists from n _ [] a;
    cars = λ k. field (λ e. e.car) (λ e n. refl) k ∙ ap (λ v. car_of v k) m_is ∙ field-kept_set (λ e. e.car) (λ e. record e { mark = false }) (λ e. refl) y.kept key k;
    cleared = ap (λ o. not (unwrap_or o false)) (field (λ e. e.mark) (λ e n. refl) key) ∙ ap (λ v. is_unmarked v key) m_is ∙ ap (λ o. not (unwrap_or (option_map (λ (e : YardEntry). e.mark) o) false)) (entry-kept_set y.kept key (λ e. record e { mark = false })) ∙ no_mark (get_or y.kept key None);
    entries = λ k ne.
        ap (λ (v : Yard). entry_at v k) now_is ∙ entry-kept_set_other u.kept key _ k ne
        ∙ ap (λ (v : Yard). entry_at v k) u_is ∙ entry-kept_set_other m.kept key _ k ne
        ∙ ap (λ (v : Yard). entry_at v k) m_is ∙ entry-kept_set_other y.kept key _ k ne;
    count = ap length now_lists ∙ length-set (set y.lists from _) to _ ∙ length-set y.lists from _;
    room = ap (λ (v : Yard). v.room) now_is ∙ ap (λ (v : Yard). v.room) u_is ∙ ap (λ (v : Yard). v.room) m_is;
    whole = whole;
  }
