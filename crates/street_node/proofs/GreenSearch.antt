-- A search among green turns in order.
use Rattle.std.proofs.Common.{◌≡◌, ℕ, zero, suc, ◌<◌, Bool, true, false, List, [], ◌∷◌, map, length, get_or, refl, sym, subst, ◌∙◌, arith, inl, inr, Result, Ok, Err, ◌==◌, ◌&&◌, is_ok}
use Rattle.std.specs.Int.{bit_at}
use Rattle.std.specs.List.{list_any}
use Rattle.std.specs.List.Sorted.{IsBinarySearchResult, IsSearchInRange}
use Rattle.std.specs.declared.cmp.Ordering.{Ordering}
use Rattle.std.specs.declared.cmp.Ordering.TheVariants.{Less, Equal, Greater}
use Rattle.std.specs.Cmp.{IsTotalOrder}
use Rattle.std.specs.Ordering.{nat_cmp, ordering_then}
use Rattle.std.proofs.lemmas.Cmp.{ranked, nat_cmp_total, on_total, then_total, tied_itself}
use Rattle.std.proofs.lemmas.Bool.{cases_Bool, cases_lt, and_parts, eqb-true, eq-eqb}
use Rattle.std.proofs.lemmas.List.Folds.{list_any_at}
use Rattle.std.proofs.lemmas.List.Sorted.{searchable_from_sorted}
use Rattle.street_base.specs.declared.names.Place.{Place}
use Rattle.street_base.specs.Prelude.{Green}
use Rattle.street_net.proofs.KeyLemmas.{list_any-keys}
use Rattle.street_node.specs.declared.phase.GreenTurn.{GreenTurn}
use Rattle.street_node.specs.Prelude.{turn_cmp, green_seen, mark_of, HasMarks, IsInOrder}

pub turns_total : IsTotalOrder turn_cmp
turns_total = then_total (on_total (λ (t : GreenTurn). t.link) nat_cmp_total) (then_total (on_total (λ (t : GreenTurn). t.lane) nat_cmp_total) (on_total (λ (t : GreenTurn). t.next) nat_cmp_total))

both-equal : (x y : Ordering) → ordering_then x y ≡ Equal → (x ≡ Equal) × (y ≡ Equal)
both-equal Less y e = cc
both-equal Equal y e = (refl, e)
both-equal Greater y e = cc

-- this green turn leads from a lane to a next link
abbrev pub leads_from : Place → ℕ → Green → Bool
leads_from place next g = (g.link == place.link) && (g.lane == place.lane) && (g.next == next)

abbrev pub place_from : GreenTurn → Place
place_from t = record { link = t.link; lane = t.lane }

pub none-of : {A : Type 0} (q : A → Bool) (xs : List A) → ((k : ℕ) (d : A) → k < length xs → q (get_or xs k d) ≡ false) → list_any q xs ≡ false
none-of q [] h = refl
none-of q (x ∷ xs) h =
    let here : q x ≡ false = h zero x (omega arith) in
    let rest : list_any q xs ≡ false = none-of q xs (λ k d l. h (suc k) d (omega arith)) in
    rw (here, rest) refl

module _ (turns : List GreenTurn) (wanted : GreenTurn) where
  abbrev is_wanted : GreenTurn → Bool
  is_wanted t = leads_from (place_from wanted) wanted.next (green_seen t)

  seen : list_any (leads_from (place_from wanted) wanted.next) (map green_seen turns) ≡ list_any is_wanted turns
  seen = list_any-keys green_seen (leads_from (place_from wanted) wanted.next) is_wanted (λ t. refl) turns

  -- a turn that ties with the wanted one is the same
  pub found : (at : ℕ) (d : GreenTurn) → at < length turns → turn_cmp (get_or turns at d) wanted ≡ Equal → list_any (leads_from (place_from wanted) wanted.next) (map green_seen turns) ≡ true
  found at d h tied =
      let t : GreenTurn = get_or turns at d in
      let first = both-equal (nat_cmp t.link wanted.link) _ tied in
      let second = both-equal (nat_cmp t.lane wanted.lane) (nat_cmp t.next wanted.next) first.1 in
      let link : t.link ≡ wanted.link = ranked t.link wanted.link Equal (sym first.0) in
      let lane : t.lane ≡ wanted.lane = ranked t.lane wanted.lane Equal (sym second.0) in
      let next : t.next ≡ wanted.next = ranked t.next wanted.next Equal (sym second.1) in
      let same : is_wanted t ≡ true = rw (eq-eqb t.link wanted.link link, eq-eqb t.lane wanted.lane lane, eq-eqb t.next wanted.next next) refl in
      seen ∙ list_any_at is_wanted turns at d h same

  wanted-tied : (t : GreenTurn) → is_wanted t ≡ true → turn_cmp t wanted ≡ Equal
  wanted-tied t e =
      let parts = and_parts _ _ e in
      let both = and_parts _ _ parts.0 in
      let link : t.link ≡ wanted.link = eqb-true _ _ both.0 in
      let lane : t.lane ≡ wanted.lane = eqb-true _ _ both.1 in
      let next : t.next ≡ wanted.next = eqb-true _ _ parts.1 in
      rw (link, lane, next) (tied_itself turns_total wanted)

  not-tied : (t : GreenTurn) (x : Ordering) → turn_cmp t wanted ≡ x → (x ≡ Equal → ⊥) → is_wanted t ≡ false
  not-tied t x e other = elim (cases_Bool (is_wanted t)) as (λ _. is_wanted t ≡ false) [
    | inl same ↦ absurd (other (sym e ∙ wanted-tied t same))
    | inr apart ↦ apart
  ]

  -- where the search ends between turns, none is the wanted one
  pub missing : IsInOrder turns → (at : ℕ) → IsBinarySearchResult (λ t. turn_cmp t wanted) turns (Err at) → list_any (leads_from (place_from wanted) wanted.next) (map green_seen turns) ≡ false
  missing order at parted =
      let compared = parted (searchable_from_sorted turns_total (λ (t : GreenTurn). t) turns wanted order) in
      seen ∙ none-of is_wanted turns (λ k d h. elim (cases_lt k at) as (λ _. is_wanted (get_or turns k d) ≡ false) [
        | inl low ↦ not-tied (get_or turns k d) Less (compared.0 k d (omega arith) low) (λ e. cc)
        | inr high ↦ not-tied (get_or turns k d) Greater (compared.1 k d high h) (λ e. cc)
      ])

  -- where the link of the wanted one has no mark, it is none of these
  pub unmarked : (marks : ℕ) → HasMarks marks turns → bit_at marks (mark_of wanted.link) ≡ 0 → list_any (leads_from (place_from wanted) wanted.next) (map green_seen turns) ≡ false
  unmarked marks marked none = seen ∙ none-of is_wanted turns (λ k d h. elim (cases_Bool (is_wanted (get_or turns k d))) as (λ _. is_wanted (get_or turns k d) ≡ false) [
    | inl same ↦
        let link : (get_or turns k d).link ≡ wanted.link = eqb-true _ _ (and_parts _ _ (and_parts _ _ same).0).0 in
        let one : bit_at marks (mark_of wanted.link) ≡ 1 = subst (λ l. bit_at marks (mark_of l) ≡ 1) link (marked k d h) in
        absurd (omega (arith, one, none))
    | inr apart ↦ apart
  ])

  -- so the search answers whether it is among them
  pub answered : IsInOrder turns → (r : Result ℕ ℕ) → IsSearchInRange r (length turns) → IsBinarySearchResult (λ t. turn_cmp t wanted) turns r → is_ok r ≡ list_any (leads_from (place_from wanted) wanted.next) (map green_seen turns)
  answered order (Ok at) h equal = sym (found at wanted h (equal wanted))
  answered order (Err at) h parted = sym (missing order at parted)
