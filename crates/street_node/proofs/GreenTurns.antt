-- Whether a green turn is one of the network's.
use Rattle.std.proofs.Common.{◌≡◌, ℕ, ◌<◌, ◌≤◌, Bool, true, false, List, [], ◌∷◌, length, get_or, refl, sym, ◌∙◌, ap, arith, inl, inr, Option, Some, None, is_some, find, slice_get, ◌==◌, ◌&&◌, option_and_then}
use Rattle.std.specs.Option.{option_map_or}
use Rattle.std.specs.List.{list_any}
use Rattle.std.proofs.lemmas.Bool.{cases_Bool, and_parts, eqb-true, eq-eqb, eqb-false}
use Rattle.std.proofs.lemmas.Option.{slice_get-get_or}
use Rattle.street_base.specs.declared.net.LinkSpec.{LinkSpec}
use Rattle.street_base.specs.declared.net.NetSpec.{NetSpec}
use Rattle.street_base.specs.declared.net.TurnSpec.{TurnSpec}
use Rattle.street_base.specs.declared.command.GreenSpec.{GreenSpec}
use Rattle.street_base.specs.Prelude.{no_link, link_at, link_of, names_link, serves, network_fault, link_with}
use Rattle.street_net.proofs.KeyLemmas.{find-position}
use Rattle.street_net.proofs.GoodLinks.{IsJoined, joined, named-at, same-id, good-link, good-turn}
use Rattle.street_node.proofs.GreenSearch.{none-of}

find-any : {A : Type 0} (test : A → Bool) (xs : List A) → is_some (find test xs) ≡ list_any test xs
find-any test [] = refl
find-any test (x ∷ xs) = elim (cases_Bool (test x)) as (λ _. is_some (find test (x ∷ xs)) ≡ list_any test (x ∷ xs)) [
  | inl t ↦ rw t refl
  | inr f ↦ rw f (find-any test xs)
]

any-same : {A : Type 0} (p q : A → Bool) (xs : List A) → ((x : A) → p x ≡ q x) → list_any p xs ≡ list_any q xs
any-same p q [] h = refl
any-same p q (x ∷ xs) h = rw (h x, any-same p q xs h) refl

pub and-false : (b : Bool) → (b && false) ≡ false
and-false true = refl
and-false false = refl

module _ (net : NetSpec) (green : GreenSpec) where
  -- a turn of the load is the one that is to be green
  abbrev pub is_green_turn : TurnSpec → Bool
  is_green_turn t = (t.link == green.link) && (t.lane == green.lane) && (t.next == green.next)

  names-same : (id wanted at : ℕ) → link_of net wanted ≡ Some at → names_link net id at ≡ (id == wanted)
  names-same id wanted at is = elim (cases_Bool (id == wanted)) as (λ _. names_link net id at ≡ (id == wanted)) [
    | inl same ↦ ap (λ o. option_map_or (λ i. i == at) o false) (ap (link_of net) (eqb-true id wanted same) ∙ is) ∙ eq-eqb at at refl ∙ sym same
    | inr other ↦ (elim (cases_Bool (names_link net id at)) as (λ _. names_link net id at ≡ (id == wanted)) [
      | inl named ↦ absurd (eqb-false id wanted other (same-id net id wanted at (named-at net id at named) is))
      | inr no_name ↦ no_name ∙ sym other
    ])
  ]

  -- the lane serves the next link where the load lists the turn
  pub served : (link next : ℕ) → link_of net green.link ≡ Some link → link_of net green.next ≡ Some next → serves net (record { link = link; lane = green.lane }) next ≡ list_any is_green_turn net.turns
  served link next a b =
      find-any (λ (t : TurnSpec). names_link net t.link link && (t.lane == green.lane) && names_link net t.next next) net.turns
      ∙ any-same (λ (t : TurnSpec). names_link net t.link link && (t.lane == green.lane) && names_link net t.next next) is_green_turn net.turns (λ t. rw (names-same t.link green.link link a, names-same t.next green.next next b) refl)

  -- the link with the identifier, where it is
  pub with-link : (link : ℕ) → link < length net.links → link_of net green.link ≡ Some link → link_with net green.link ≡ Some (link_at net link)
  with-link link h is = find-position (λ (l : LinkSpec). l.id == green.link) net.links ∙ ap (option_and_then (slice_get net.links)) is ∙ slice_get-get_or net.links link no_link h

  pub without-link : link_of net green.link ≡ None → link_with net green.link ≡ None
  without-link is = find-position (λ (l : LinkSpec). l.id == green.link) net.links ∙ ap (option_and_then (slice_get net.links)) is

  -- a turn that no good turn can be is not listed
  pub unlisted : network_fault net ≡ None → ((t : TurnSpec) → IsJoined net t → is_green_turn t ≡ true → ⊥) → list_any is_green_turn net.turns ≡ false
  unlisted faultless never = none-of is_green_turn net.turns (λ k d h. elim (cases_Bool (is_green_turn (get_or net.turns k d))) as (λ _. is_green_turn (get_or net.turns k d) ≡ false) [
    | inl same ↦ absurd (never (get_or net.turns k d) (joined net (get_or net.turns k d) (good-turn net faultless k d h).0) same)
    | inr other ↦ other
  ])

  pub no-next : network_fault net ≡ None → link_of net green.next ≡ None → list_any is_green_turn net.turns ≡ false
  no-next faultless is = unlisted faultless (λ t g same.
      let next : t.next ≡ green.next = eqb-true _ _ (and_parts _ _ same).1 in
      let found : ◌≡◌ {A = Option ℕ} None (Some g.next) = sym is ∙ ap (link_of net) (sym next) ∙ g.next_is in
      cc)

  pub no-lane : network_fault net ≡ None → 2 ≤ green.lane → list_any is_green_turn net.turns ≡ false
  no-lane faultless high = unlisted faultless (λ t g same.
      let lane : t.lane ≡ green.lane = eqb-true _ _ (and_parts _ _ (and_parts _ _ same).0).1 in
      let few = (good-link net faultless g.link g.link_in).few_lanes in
      omega (arith, g.lane_in))
