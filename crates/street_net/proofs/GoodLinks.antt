-- What a network without a fault keeps, link by link and turn by turn.
use Rattle.std.proofs.Common.{◌≡◌, ℕ, ◌<◌, ◌≤◌, Bool, true, false, length, get_or, take, refl, sym, ◌∙◌, ap, subst, arith, Option, Some, None, is_some, slice_get, ◌==◌, option_and_then}
use Rattle.std.specs.List.{list_any}
use Rattle.std.proofs.lemmas.Bool.{and_parts, or_parts, ltb-true, leb-true, eqb-true, not-false}
use Rattle.std.proofs.lemmas.List.Quantifiers.{position-Some}
use Rattle.std.proofs.lemmas.Option.{slice_get_within, get_or_from_slice_get}
use Rattle.street_base.specs.declared.net.LinkSpec.{LinkSpec}
use Rattle.street_base.specs.declared.net.TurnSpec.{TurnSpec}
use Rattle.street_base.specs.declared.net.NetSpec.{NetSpec}
use Rattle.street_base.specs.Prelude.{most_lanes, most_limit, no_link, link_at, link_of, node_of, names_link, is_within, is_bad_link, is_bad_turn, is_same_turn, link_with, joins, network_fault}
use Rattle.street_base.proofs.OptionLemmas.{holds-some}
use Rattle.street_base.proofs.FirstBadLemmas.{first_bad-none}
use Rattle.street_base.proofs.FaultLemmas.{turns-good, links-good}
use Rattle.street_net.proofs.KeyLemmas.{find-position}

-- what an identifier of a link finds
pub with-at : (net : NetSpec) (id : ℕ) (link : LinkSpec) → link_with net id ≡ Some link → (at : ℕ) × (link_of net id ≡ Some at) × (at < length net.links) × (link_at net at ≡ link)
with-at net id link e = by_position (link_of net id) refl
  where
    test : LinkSpec → Bool
    test l = l.id == id

    found : option_and_then (slice_get net.links) (link_of net id) ≡ Some link
    found = sym (find-position (λ (l : LinkSpec). l.id == id) net.links) ∙ e

    by_position : (o : Option ℕ) → link_of net id ≡ o → (at : ℕ) × (link_of net id ≡ Some at) × (at < length net.links) × (link_at net at ≡ link)
    by_position None is = let none : ◌≡◌ {A = Option LinkSpec} None (Some link) = rw is at found in cc
    by_position (Some at) is =
        let got : slice_get net.links at ≡ Some link = rw is at found in
        (at, is, slice_get_within net.links at link got, get_or_from_slice_get net.links at link no_link got)

-- an identifier that names the link at a position is found there
pub named-at : (net : NetSpec) (id at : ℕ) → names_link net id at ≡ true → link_of net id ≡ Some at
named-at net id at e =
    let h = holds-some (λ i. i == at) (link_of net id) e in
    h.1 ∙ ap Some (eqb-true h.0 at h.2)

pub same-id : (net : NetSpec) (a b at : ℕ) → link_of net a ≡ Some at → link_of net b ≡ Some at → a ≡ b
same-id net a b at ea eb =
    let ha = eqb-true _ _ (position-Some (λ l. l.id == a) net.links at no_link ea).1 in
    let hb = eqb-true _ _ (position-Some (λ l. l.id == b) net.links at no_link eb).1 in
    sym ha ∙ hb

-- the position of an identifier is one of the list's
pub node_of_within : (net : NetSpec) (id at : ℕ) → node_of net id ≡ Some at → at < length net.nodes
node_of_within net id at e = (position-Some (λ n. n.id == id) net.nodes at (record { id = 0; residence = 0; capacity = 0 }) e).0

-- a turn joins two links that are there, and has their lanes
pub record IsJoined (net : NetSpec) (t : TurnSpec) : Type 0 where
  pub link : ℕ
  pub next : ℕ
  pub link_is : link_of net t.link ≡ Some link
  pub next_is : link_of net t.next ≡ Some next
  pub link_in : link < length net.links
  pub next_in : next < length net.links
  pub lane_in : t.lane < (link_at net link).lanes
  pub next_lane_in : t.next_lane < (link_at net next).lanes
  pub meet : (link_at net link).to ≡ (link_at net next).from

pub joined : (net : NetSpec) (t : TurnSpec) → joins net t ≡ true → IsJoined net t
joined net t e =
    let first = holds-some _ (link_with net t.link) e in
    let second = holds-some _ (link_with net t.next) first.2 in
    let link = with-at net t.link first.0 first.1 in
    let next = with-at net t.next second.0 second.1 in
    let lanes = and_parts _ _ second.2 in
    let both = and_parts _ _ lanes.0 in
    record {
      link = link.0;
      next = next.0;
      link_is = link.1;
      next_is = next.1;
      link_in = link.2;
      next_in = next.2;
      lane_in = subst (λ (l : LinkSpec). t.lane < l.lanes) (sym link.3) (ltb-true _ _ both.0);
      next_lane_in = subst (λ (l : LinkSpec). t.next_lane < l.lanes) (sym next.3) (ltb-true _ _ both.1);
      meet = ap (λ (l : LinkSpec). l.to) link.3 ∙ eqb-true _ _ lanes.1 ∙ sym (ap (λ (l : LinkSpec). l.from) next.3);
    }

module _ (net : NetSpec) (faultless : network_fault net ≡ None) where
  -- a link runs to a node, and has at most the lanes that a link may have
  pub record IsGoodLink (link : ℕ) : Type 0 where
    pub some_lane : 0 < (link_at net link).lanes
    pub few_lanes : (link_at net link).lanes ≤ most_lanes
    pub ends : is_some (node_of net (link_at net link).to) ≡ true
    pub slow : (link_at net link).limit ≤ most_limit

  pub good-link : (link : ℕ) → link < length net.links → IsGoodLink link
  good-link link h =
      let spec = link_at net link in
      let limit = or_parts _ _ (first_bad-none (is_bad_link net) net.links (links-good net faultless) link no_link h) in
      let size = or_parts _ _ limit.0 in
      let lanes = or_parts _ _ size.0 in
      let to = or_parts _ _ lanes.0 in
      let of_lanes = and_parts _ _ (not-false (is_within 1 most_lanes spec.lanes) lanes.1) in
      let of_limit = and_parts _ _ (not-false (is_within 1 most_limit spec.limit) limit.1) in
      let some : 1 ≤ spec.lanes = leb-true 1 spec.lanes of_lanes.0 in
      record { some_lane = omega arith; few_lanes = leb-true spec.lanes most_lanes of_lanes.1; ends = not-false (is_some (node_of net spec.to)) to.1; slow = leb-true spec.limit most_limit of_limit.1 }

  -- a turn is good, and not the same as one before it
  pub good-turn : (at : ℕ) (d : TurnSpec) → at < length net.turns → (joins net (get_or net.turns at d) ≡ true) × (list_any (is_same_turn (get_or net.turns at d)) (take at net.turns) ≡ false)
  good-turn at d h =
      let twice = or_parts _ _ (first_bad-none (is_bad_turn net) net.turns (turns-good net faultless) at d h) in
      (not-false (joins net (get_or net.turns at d)) (or_parts _ _ twice.0).1, twice.1)
