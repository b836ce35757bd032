-- Where the turns of a network without a fault lead.
use Rattle.std.proofs.Common.{◌≡◌, ℕ, ◌<◌, Bool, true, false, length, get_or, refl, sym, ◌∙◌, ap, subst, arith, Option, Some, None, option_map, option_and_then, slice_get, ◌&&◌, ◌==◌, nat_le, if◌then◌else◌}
use Rattle.std.specs.Option.{option_map_or}
use Rattle.std.specs.List.{position_or_len}
use Rattle.std.proofs.lemmas.Bool.{and_parts}
use Rattle.std.proofs.lemmas.List.Folds.{find_at}
use Rattle.std.proofs.lemmas.Option.{slice_get_within, get_or_from_slice_get}
use Rattle.street_base.specs.declared.net.NetSpec.{NetSpec}
use Rattle.street_base.specs.declared.net.TurnSpec.{TurnSpec}
use Rattle.street_base.specs.Prelude.{network_fault, link_of, link_at, node_of, names_link, turn, Vehicle, next_link, Queued}
use Rattle.street_base.specs.declared.names.Place.{Place}
use Rattle.street_base.proofs.ReleaseLemmas.{find-holds}
use Rattle.street_net.specs.Prelude.{ends_at}
use Rattle.street_net.proofs.GoodLinks.{named-at, joined, good-link, good-turn}
use Rattle.street_net.proofs.TurnTable.{no_turn}
use Rattle.street_node.specs.Prelude.{begins_at, IsAhead, way_out}

-- what a turn from a lane leads to
pub record Joins (net : NetSpec) (from to : Place) : Type 0 where
  pub link : to.link < length net.links
  pub lane : to.lane < (link_at net to.link).lanes
  pub few : to.lane < 2
  pub meet : (link_at net from.link).to ≡ (link_at net to.link).from

-- a turn leads from this lane to that one
abbrev pub Turns : NetSpec → Place → Place → Type 0
Turns net from to = (t : TurnSpec) × (turn net from to.link ≡ Some t) × (◌≡◌ {A = Place} (record { link = to.link; lane = t.next_lane }) to)

-- where a front goes, a turn leads
pub way-turn : (net : NetSpec) (clock : ℕ) (from to : Place) (o : Option Queued) → way_out net clock from o ≡ Some to → Turns net from to
way-turn net clock from to o e = by_front o e
  where
    by_turn : (next : ℕ) (o : Option TurnSpec) → turn net from next ≡ o → option_map (λ (t : TurnSpec). record { link = next; lane = t.next_lane }) o ≡ Some to → Turns net from to
    by_turn next None t x = cc
    by_turn next (Some t) is x =
        let same : ◌≡◌ {A = Place} (record { link = next; lane = t.next_lane }) to = cc in
        let link : next ≡ to.link = ap (λ (p : Place). p.link) same in
        (t, subst (λ (n : ℕ). turn net from n ≡ Some t) link is, ap (λ (n : ℕ). record { link = n; lane = t.next_lane }) (sym link) ∙ same)

    by_next : (o : Option ℕ) → option_and_then (λ next. option_map (λ (t : TurnSpec). record { link = next; lane = t.next_lane }) (turn net from next)) o ≡ Some to → Turns net from to
    by_next None x = cc
    by_next (Some next) x = by_turn next (turn net from next) refl x

    by_ready : (b : Bool) (v : Vehicle) → (if b then option_and_then (λ next. option_map (λ (t : TurnSpec). record { link = next; lane = t.next_lane }) (turn net from next)) (next_link v) else None) ≡ Some to → Turns net from to
    by_ready true v x = by_next (next_link v) x
    by_ready false v x = cc

    by_front : (o : Option Queued) → way_out net clock from o ≡ Some to → Turns net from to
    by_front None x = cc
    by_front (Some q) x = by_ready (nat_le q.ready clock) q.vehicle x

module _ (net : NetSpec) (faultless : network_fault net ≡ None) where
  pub turn-joins : (from : Place) (next : ℕ) (t : TurnSpec) → turn net from next ≡ Some t → Joins net from (record { link = next; lane = t.next_lane })
  turn-joins from next t e =
      let leads : TurnSpec → Bool = λ u. names_link net u.link from.link && (u.lane == from.lane) && names_link net u.next next in
      let at = position_or_len leads net.turns in
      let found : slice_get net.turns at ≡ Some t = sym (find_at leads net.turns) ∙ e in
      let within = slice_get_within net.turns at t found in
      let is : get_or net.turns at no_turn ≡ t = get_or_from_slice_get net.turns at t no_turn found in
      let good = joined net (get_or net.turns at no_turn) (good-turn net faultless at no_turn within).0 in
      let holds = and_parts _ _ (find-holds leads net.turns t e) in
      let first = and_parts _ _ holds.0 in
      let link_same : good.link ≡ from.link = (let a : ◌≡◌ {A = Option ℕ} (Some good.link) (Some from.link) = sym good.link_is ∙ ap (λ (u : TurnSpec). link_of net u.link) is ∙ named-at net t.link from.link first.0 in cc) in
      let next_same : good.next ≡ next = (let a : ◌≡◌ {A = Option ℕ} (Some good.next) (Some next) = sym good.next_is ∙ ap (λ (u : TurnSpec). link_of net u.next) is ∙ named-at net t.next next holds.1 in cc) in
      let next_in : next < length net.links = subst (λ n. n < length net.links) next_same good.next_in in
      let lane_in : t.next_lane < (link_at net next).lanes = subst (λ n. t.next_lane < (link_at net n).lanes) next_same (subst (λ (u : TurnSpec). u.next_lane < (link_at net good.next).lanes) is good.next_lane_in) in
      record {
        link = next_in;
        lane = lane_in;
        few = (let h = (good-link net faultless next next_in).few_lanes in omega arith);
        meet = ap (λ n. (link_at net n).to) (sym link_same) ∙ good.meet ∙ ap (λ n. (link_at net n).from) next_same;
      }

  -- where a front goes is a lane of a link that begins where its own ends
  pub way-joins : (clock : ℕ) (from to : Place) (o : Option Queued) → way_out net clock from o ≡ Some to → Joins net from to
  way-joins clock from to o e = let way = way-turn net clock from to o e in subst (Joins net from) way.2 (turn-joins from to.link way.0 way.1)

  ends-begins : (node : ℕ) (from to : Place) → ends_at net node from ≡ true → Joins net from to → begins_at net node to ≡ true
  ends-begins node from to ends j = ap (λ (n : ℕ). option_map_or (λ begin. begin == node) (node_of net n) false) (sym j.meet) ∙ ends

  pub joins-ahead : (node : ℕ) (from to : Place) → ends_at net node from ≡ true → Joins net from to → IsAhead net node to
  joins-ahead node from to ends j = record { link = j.link; lane = j.lane; begins = ends-begins node from to ends j }

  -- each lane ahead has few lanes
  pub ahead-few : (node : ℕ) (p : Place) → IsAhead net node p → p.lane < 2
  ahead-few node p a = (let h = (good-link net faultless p.link a.link).few_lanes in let l = a.lane in omega arith)
