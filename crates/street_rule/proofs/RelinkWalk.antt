-- A walk that carries marked keys to another list.
use Rattle.std.proofs.Common.{◌≡◌, ◌≢◌, ℕ, ◌<◌, ◌≤◌, Bool, true, false, not, cond, List, [], ◌∷◌, ◌++◌, Option, Some, None, refl, sym, ap, subst, ◌∙◌, inl, inr, arith, MatchOption, nat_le, option_map, option_and_then, unwrap_or, filter}
use Rattle.std.proofs.lemmas.Bool.{cases_eq, le-leb, lt-leb, cond-true, cond-false}
use Rattle.std.proofs.lemmas.List.{append_assoc}
use Rattle.street_yard.specs.Prelude.{YardEntry, Yard, list_at, entry_at, list_on, mark_of, without, put_behind, first_or, last_or, Has, Away, IsApart, IsWhole, IsBehind, cell_at, IsFalling, AllAbove}
use Rattle.street_yard.proofs.Keys.{IsApart-split, last_or-push, snoc_cases, without-split, put_behind-split, has-away, has-later}
use Rattle.street_rule.specs.Prelude.{is_marked, is_unmarked, put_falling, put_all, Carries, KeepsOthers, IsOnEither, Relinks, IsFallen}
use Rattle.street_yard.proofs.YardLemmas.{left, left-is, head_is, no_head, AllAbove-same, AllAbove-lower, AllAbove-push, cell_same}
use Rattle.street_gap.specs.Prelude.{IsUpTo, IsPosition}

-- between those above the cell and those not above it
pub put_falling-split : (cell : ℕ → ℕ) (key : ℕ) (up down : List ℕ) → AllAbove cell (cell key) up → MatchOption (first_or down None) (Unit {0}) (λ k. cell k ≤ cell key) → put_falling cell key (up ++ down) ≡ up ++ key ∷ down
put_falling-split cell key [] [] a b = refl
put_falling-split cell key [] (d ∷ down) a b = cond-true _ _ _ (le-leb (cell d) (cell key) b)
put_falling-split cell key (u ∷ up) down a b =
    cond-false _ _ _ (lt-leb (cell u) (cell key) a.0) ∙ ap (λ l. u ∷ l) (put_falling-split cell key up down a.1 b)

pub put_behind-position : (position : Option ℕ) (key : ℕ) (up down : List ℕ) → IsApart (up ++ down) → position ≡ last_or up None → put_behind position key (up ++ down) ≡ up ++ key ∷ down
put_behind-position position key up down apart at =
    elim (snoc_cases up) as (λ _. put_behind position key (up ++ down) ≡ up ++ key ∷ down) [
      | inl e ↦
          ap (λ o. put_behind o key (up ++ down)) (at ∙ ap (λ l. last_or l None) e) ∙ ap (λ l. key ∷ l ++ down) e ∙ ap (λ l. l ++ key ∷ down) (sym e)
      | inr s ↦ (
          let whole : up ++ down ≡ s.0 ++ s.1 ∷ down = ap (λ l. l ++ down) s.2 ∙ append_assoc s.0 (s.1 ∷ []) down in
          let away = IsApart-split s.0 s.1 down (subst IsApart whole apart) in
          ap (λ o. put_behind o key (up ++ down)) (at ∙ ap (λ l. last_or l None) s.2 ∙ last_or-push s.0 s.1 None)
          ∙ ap (put_behind (Some s.1) key) whole ∙ put_behind-split s.0 s.1 down key away.0
          ∙ sym (append_assoc s.0 (s.1 ∷ []) (key ∷ down)) ∙ ap (λ l. l ++ key ∷ down) (sym s.2))
    ]

pub put_falling-same : (f g : ℕ → ℕ) (key : ℕ) (xs : List ℕ) → ((k : ℕ) → f k ≡ g k) → put_falling f key xs ≡ put_falling g key xs
put_falling-same f g key [] same = refl
put_falling-same f g key (x ∷ xs) same =
    ap (λ b. cond b (key ∷ x ∷ xs) (x ∷ put_falling f key xs)) (ap (λ n. nat_le n (f key)) (same x) ∙ ap (λ n. nat_le (g x) n) (same key))
    ∙ ap (λ l. cond (nat_le (g x) (g key)) (key ∷ x ∷ xs) (x ∷ l)) (put_falling-same f g key xs same)

list_on-kept : (now y : Yard) (k : ℕ) → entry_at now k ≡ entry_at y k → list_on now k ≡ list_on y k
list_on-kept now y k e = ap (option_and_then (λ (e : YardEntry). e.list)) e

pub record IsRelink (first now : Yard) (from to : ℕ) (position cursor : Option ℕ) : Type 0 where
  pub kept : List ℕ
  pub rest : List ℕ
  pub split : list_at now from ≡ kept ++ rest
  pub at_cursor : cursor ≡ first_or rest None
  pub bound : ℕ
  pub falls : IsFalling (cell_at first) bound rest
  pub kept_goal : kept ++ filter (is_unmarked first) rest ≡ filter (is_unmarked first) (list_at first from)
  pub up : List ℕ
  pub down : List ℕ
  pub to_split : list_at now to ≡ up ++ down
  pub at_position : position ≡ last_or up None
  pub above : (cell : ℕ) → cell < bound → AllAbove (cell_at first) cell up
  pub to_goal : put_all (cell_at first) (filter (is_marked first) rest) (list_at now to) ≡ put_all (cell_at first) (filter (is_marked first) (list_at first from)) (list_at first to)
  pub origin : (k : ℕ) → Has rest k → list_on first k ≡ Some from
  pub same_marks : (k : ℕ) → Has rest k → mark_of now k ≡ mark_of first k
  pub cleared : (k : ℕ) → list_on first k ≡ Some from → Away k rest → is_unmarked now k ≡ true
  pub others : KeepsOthers first now from to

pub IsRelink-start : (y : Yard) (from to : ℕ) (cursor : Option ℕ) → IsWhole y → IsFallen y from → cursor ≡ first_or (list_at y from) None → IsRelink y y from to None cursor
IsRelink-start y from to cursor whole fallen at = record {
  kept = [];
  rest = list_at y from;
  split = refl;
  at_cursor = at;
  bound = fallen.bound;
  falls = fallen.falls;
  kept_goal = refl;
  up = [];
  down = list_at y to;
  to_split = refl;
  at_position = refl;
  above = λ cell h. tt;
  to_goal = refl;
  origin = λ k h. whole.names k from h;
  same_marks = λ k h. refl;
  cleared = λ k on away. absurd (has-away k (list_at y from) (whole.listed k from on) away);
  others = record { lists = λ n a b. refl; cars = λ k. refl; entries = λ k h. refl; stays = λ k on. inl on; count = refl; room = refl; whole = whole };
}

pub IsRelink-end : (first now : Yard) (from to : ℕ) (position cursor : Option ℕ) → cursor ≡ None → IsRelink first now from to position cursor → Relinks first now from to
IsRelink-end first now from to position cursor cur w =
    let none : w.rest ≡ [] = no_head w.rest cursor cur w.at_cursor in
    record {
      rest = w.others;
      from_list = w.split ∙ ap (λ l. w.kept ++ l) none ∙ sym (ap (λ l. w.kept ++ filter (is_unmarked first) l) none) ∙ w.kept_goal;
      to_list = sym (ap (λ l. put_all (cell_at first) (filter (is_marked first) l) (list_at now to)) none) ∙ w.to_goal;
      cleared = λ k on. w.cleared k on (subst (Away k) (sym none) tt);
    }

module _ (first y : Yard) (from to key : ℕ) (position cursor : Option ℕ) (cur : cursor ≡ Some key) (w : IsRelink first y from to position cursor) where
  tail : (t : List ℕ) × (w.rest ≡ key ∷ t)
  tail = head_is key w.rest cursor cur w.at_cursor

  split : list_at y from ≡ w.kept ++ key ∷ tail.0
  split = w.split ∙ ap (λ l. w.kept ++ l) tail.1

  here : Has w.rest key
  here = ([], tail.0, tail.1)

  later : (k : ℕ) → Has tail.0 k → Has w.rest k
  later k h = subst (λ l. Has l k) (sym tail.1) (has-later key k tail.0 h)

  away : Away key w.kept × Away key tail.0 × IsApart (w.kept ++ tail.0)
  away = IsApart-split w.kept key tail.0 (subst IsApart split (w.others.whole.apart from))

  falls : IsFalling (cell_at first) w.bound (key ∷ tail.0)
  falls = subst (IsFalling (cell_at first) w.bound) tail.1 w.falls

  pub IsRelink-on : list_on y key ≡ Some from
  IsRelink-on = w.others.whole.names key from (w.kept, tail.0, split)

  pub IsRelink-up_to : (at : ℕ) → cell_at y key ≡ at → IsUpTo y to at position
  IsRelink-up_to at is =
      let e : cell_at first key ≡ at = sym (cell_same first y w.others.cars key) ∙ is in
      let f = falls.0 in
      record {
        up = w.up;
        down = w.down;
        split = w.to_split;
        at_position = w.at_position;
        above = AllAbove-same (cell_at first) (cell_at y) at w.up (λ k. sym (cell_same first y w.others.cars k)) (w.above at (omega arith));
      }

  marked : (b : Bool) → mark_of y key ≡ Some b → is_marked first key ≡ b
  marked b is = ap (λ o. unwrap_or o false) (sym (w.same_marks key here) ∙ is)

  kept_before : w.kept ++ filter (is_unmarked first) (key ∷ tail.0) ≡ filter (is_unmarked first) (list_at first from)
  kept_before = ap (λ l. w.kept ++ filter (is_unmarked first) l) (sym tail.1) ∙ w.kept_goal

  to_before : put_all (cell_at first) (filter (is_marked first) (key ∷ tail.0)) (list_at y to) ≡ put_all (cell_at first) (filter (is_marked first) (list_at first from)) (list_at first to)
  to_before = ap (λ l. put_all (cell_at first) (filter (is_marked first) l) (list_at y to)) (sym tail.1) ∙ w.to_goal

  other_or_rest : (k : ℕ) → k ≢ key → Away k tail.0 → Away k w.rest
  other_or_rest k ne a = subst (Away k) (sym tail.1) (ne, a)

  pub IsRelink-stay : (next : Option ℕ) → IsBehind y key next → mark_of y key ≡ Some false → IsRelink first y from to position next × (left y from next < left y from cursor)
  IsRelink-stay next behind is =
      let m = marked false is in
      let step : list_at y from ≡ (w.kept ++ key ∷ []) ++ tail.0 = split ∙ sym (append_assoc w.kept (key ∷ []) tail.0) in
      let is_next : next ≡ first_or tail.0 None = behind from w.kept tail.0 split in
      let f = falls.0 in (
        record {
          kept = w.kept ++ key ∷ [];
          rest = tail.0;
          split = step;
          at_cursor = is_next;
          bound = cell_at first key;
          falls = falls.1;
          kept_goal = append_assoc w.kept (key ∷ []) (filter (is_unmarked first) tail.0) ∙ ap (λ l. w.kept ++ l) (sym (ap (λ b. cond (not b) (key ∷ filter (is_unmarked first) tail.0) (filter (is_unmarked first) tail.0)) m)) ∙ kept_before;
          up = w.up;
          down = w.down;
          to_split = w.to_split;
          at_position = w.at_position;
          above = λ cell h. w.above cell (omega arith);
          to_goal = sym (ap (λ b. put_all (cell_at first) (cond b (key ∷ filter (is_marked first) tail.0) (filter (is_marked first) tail.0)) (list_at y to)) m) ∙ to_before;
          origin = λ k h. w.origin k (later k h);
          same_marks = λ k h. w.same_marks k (later k h);
          cleared = λ k on a. elim (cases_eq k key) as (λ _. is_unmarked y k ≡ true) [
            | inl e ↦ ap (λ j. is_unmarked y j) e ∙ ap (λ o. not (unwrap_or o false)) is
            | inr ne ↦ w.cleared k on (other_or_rest k ne a)
          ];
          others = w.others;
        },
        rw (left-is y from (w.kept ++ key ∷ []) tail.0 next w.others.whole step is_next, left-is y from w.kept (key ∷ tail.0) cursor w.others.whole split cur) (omega arith),
      )

  pub IsRelink-go : (next above : Option ℕ) (at : ℕ) (now : Yard) → from ≢ to → IsBehind y key next → mark_of y key ≡ Some true → cell_at y key ≡ at → IsPosition y to at above → Carries y now from to key above → IsRelink first now from to (Some key) next × (left now from next < left y from cursor)
  IsRelink-go next above at now apart behind is at_is p moved =
      let m = marked true is in
      let is_next : next ≡ first_or tail.0 None = behind from w.kept tail.0 split in
      let f = falls.0 in
      let same : (k : ℕ) → cell_at y k ≡ cell_at first k = cell_same first y w.others.cars in
      let cell : at ≡ cell_at y key = sym at_is in
      let from_now : list_at now from ≡ w.kept ++ tail.0 = moved.from_list ∙ ap (without key) split ∙ without-split w.kept key tail.0 away.0 away.1 in
      let put : put_behind above key (list_at y to) ≡ p.up ++ key ∷ p.down = ap (put_behind above key) p.split ∙ put_behind-position above key p.up p.down (subst IsApart p.split (w.others.whole.apart to)) p.at_position in
      let to_now : list_at now to ≡ p.up ++ key ∷ p.down = moved.to_list ∙ put in
      let over : AllAbove (cell_at y) (cell_at y key) p.up = subst (λ x. AllAbove (cell_at y) x p.up) cell p.above in
      let under : MatchOption (first_or p.down None) (Unit {0}) (λ k. cell_at y k ≤ cell_at y key) = subst (λ x. MatchOption (first_or p.down None) (Unit {0}) (λ k. cell_at y k ≤ x)) cell p.below in
      let falling : put_falling (cell_at first) key (list_at y to) ≡ list_at now to =
      put_falling-same (cell_at first) (cell_at y) key (list_at y to) (λ k. sym (same k)) ∙ ap (put_falling (cell_at y) key) p.split ∙ put_falling-split (cell_at y) key p.up p.down over under ∙ sym to_now in
      let key_from : list_on first key ≡ Some from = w.origin key here in
      let marks_but : (k : ℕ) → k ≢ key → mark_of now k ≡ mark_of y k = λ k ne. ap (option_map (λ (e : YardEntry). e.mark)) (moved.entries k ne) in
      let now_on : list_on now key ≡ Some to = moved.whole.names key to (p.up, p.down, to_now) in (
        record {
          kept = w.kept;
          rest = tail.0;
          split = from_now;
          at_cursor = is_next;
          bound = cell_at first key;
          falls = falls.1;
          kept_goal = ap (λ l. w.kept ++ l) (sym (ap (λ b. cond (not b) (key ∷ filter (is_unmarked first) tail.0) (filter (is_unmarked first) tail.0)) m)) ∙ kept_before;
          up = p.up ++ key ∷ [];
          down = p.down;
          to_split = to_now ∙ sym (append_assoc p.up (key ∷ []) p.down);
          at_position = sym (last_or-push p.up key None);
          above = λ x h. AllAbove-push (cell_at first) x p.up key (AllAbove-same (cell_at y) (cell_at first) x p.up same (AllAbove-lower (cell_at y) x (cell_at y key) p.up (let e = same key in omega arith) over)) h;
          to_goal = ap (put_all (cell_at first) (filter (is_marked first) tail.0)) (sym falling) ∙ sym (ap (λ b. put_all (cell_at first) (cond b (key ∷ filter (is_marked first) tail.0) (filter (is_marked first) tail.0)) (list_at y to)) m) ∙ to_before;
          origin = λ k h. w.origin k (later k h);
          same_marks = λ k h. marks_but k (λ e. has-away k tail.0 h (subst (λ j. Away j tail.0) (sym e) away.1)) ∙ w.same_marks k (later k h);
          cleared = λ k on a. elim (cases_eq k key) as (λ _. is_unmarked now k ≡ true) [
            | inl e ↦ ap (λ j. is_unmarked now j) e ∙ moved.cleared
            | inr ne ↦ ap (λ o. not (unwrap_or o false)) (marks_but k ne) ∙ w.cleared k on (other_or_rest k ne a)
          ];
          others = record {
            lists = λ n a b. moved.others n a b ∙ w.others.lists n a b;
            cars = λ k. moved.cars k ∙ w.others.cars k;
            entries = λ k off. moved.entries k (λ e. off (ap (list_on first) e ∙ key_from)) ∙ w.others.entries k off;
            stays = λ k on. elim (cases_eq k key) as (λ _. IsOnEither now from to k) [
              | inl e ↦ inr (ap (list_on now) e ∙ now_on)
              | inr ne ↦ elim (w.others.stays k on) as (λ _. IsOnEither now from to k) [
                | inl a ↦ inl (list_on-kept now y k (moved.entries k ne) ∙ a)
                | inr b ↦ inr (list_on-kept now y k (moved.entries k ne) ∙ b)
              ]
            ];
            count = moved.count ∙ w.others.count;
            room = moved.room ∙ w.others.room;
            whole = moved.whole;
          };
        },
        rw (left-is now from w.kept tail.0 next moved.whole from_now is_next, left-is y from w.kept (key ∷ tail.0) cursor w.others.whole split cur) (omega arith),
      )
