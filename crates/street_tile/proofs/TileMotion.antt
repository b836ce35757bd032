-- Motion of a tile, lane after lane.
use Rattle.std.proofs.Common.{◌≡◌, ℕ, ◌+◌, ◌-◌, ◌<◌, ◌≤◌, true, List, [], ◌∷◌, ◌++◌, length, take, get_or, refl, sym, ◌∙◌, ap, arith, Option, Some, None, nat_le, nat_lt, filter_map, option_map, option_to_list, slice_get, inl, inr}
use Rattle.std.specs.List.{cons_option}
use Rattle.std.proofs.lemmas.Bool.{cases_Bool, and_parts, leb-true, ltb-true}
use Rattle.std.proofs.lemmas.List.{take_more, take_all, append_assoc, get_or_default}
use Rattle.std.proofs.lemmas.List.Elements.{filter_map-append}
use Rattle.std.proofs.lemmas.Option.{slice_get_within, get_or_from_slice_get}
use Rattle.street_base.specs.declared.net.NetSpec.{NetSpec}
use Rattle.street_base.specs.declared.names.Place.{Place}
use Rattle.street_base.specs.Prelude.{node_of, link_at, SignalPlan, Traffic, lane_at, driven, driven_lane, Vehicle, is_on_last, arrival, plan_at, last_clock}
use Rattle.street_lanes.specs.declared.motion.ArrivedCar.{ArrivedCar}
use Rattle.street_record.specs.Rows.{arrival_row}
use Rattle.street_net.specs.Prelude.{slot_of}
use Rattle.street_tile.specs.Record.{arrived_from}
use Rattle.street_lanes.specs.Prelude.{arrived_car, IsLane, IsOn, PlanStands, IsStepOf}
use Rattle.street_tile.specs.declared.motion.MotionStep.{MotionStep}
use Rattle.street_tile.specs.Prelude.{IsOfStep, HasPlanFor, ShowSignals, is_own}
use Rattle.street_tile.proofs.Each.{lane_at-each}

pub lane_at-driven : (net : NetSpec) (m : Traffic) → IsOn net m → (p : Place) → IsLane net p → lane_at (driven m) p ≡ driven_lane m p (lane_at m p)
unfolding driven
lane_at-driven net m on p there = lane_at-each net m on p there (driven_lane m)

-- of each lane something or nothing is told, lane after lane
module _ {A : Type 0} (tell : Place → Option A) (ps : List Place) where
  -- one more lane, of which this is told, or nothing
  pub arrivals-more : (n : ℕ) (p : Place) → slice_get ps n ≡ Some p → (before now after : List A) (told : Option A) → now ≡ before ++ filter_map tell (take n ps) → told ≡ tell p → after ≡ now ++ option_to_list told → after ≡ before ++ filter_map tell (take (n + 1) ps)
  arrivals-more n p at before now after told so_far is grown =
      let h = slice_get_within ps n p at in
      let more : take (n + 1) ps ≡ take n ps ++ p ∷ [] = take_more ps n p h ∙ ap (λ (x : Place). take n ps ++ x ∷ []) (get_or_from_slice_get ps n p p at) in
      grown
      ∙ ap (λ (xs : List A). xs ++ option_to_list told) so_far
      ∙ append_assoc before (filter_map tell (take n ps)) (option_to_list told)
      ∙ ap (λ (xs : List A). before ++ xs) (ap (λ (o : Option A). filter_map tell (take n ps) ++ option_to_list o) is ∙ ap (λ (xs : List A). filter_map tell (take n ps) ++ xs) (one (tell p)) ∙ sym (filter_map-append tell (take n ps) (p ∷ [])) ∙ ap (filter_map tell) (sym more))
    where
      one : (o : Option A) → option_to_list o ≡ cons_option o []
      one None = refl
      one (Some k) = refl

  pub arrivals-all : (n : ℕ) (before now : List A) → now ≡ before ++ filter_map tell (take n ps) → length ps ≤ n → now ≡ before ++ filter_map tell ps
  arrivals-all n before now so_far all = so_far ∙ ap (λ (xs : List Place). before ++ filter_map tell xs) (take_all n ps all)

-- the number of who arrives
pub arrival-number : (o : Option Vehicle) → option_map (λ (a : ArrivedCar). a.number) (arrived_car o) ≡ arrival o
arrival-number None = refl
arrival-number (Some v) = elim (cases_Bool (is_on_last v)) as (λ _. option_map (λ (a : ArrivedCar). a.number) (arrived_car (Some v)) ≡ arrival (Some v)) [
  | inl last ↦ rw last refl
  | inr on ↦ rw on refl
]

-- its row
pub arrived-row : (p : Place) (o : Option Vehicle) → option_map (arrived_from (slot_of p)) (arrived_car o) ≡ arrival_row p o
arrived-row p None = refl
arrived-row p (Some v) = elim (cases_Bool (is_on_last v)) as (λ _. option_map (arrived_from (slot_of p)) (arrived_car (Some v)) ≡ arrival_row p (Some v)) [
  | inl last ↦ rw last refl
  | inr on ↦ rw on refl
]

-- an own lane's link runs to an own node
pub own-node : (net : NetSpec) (low high : ℕ) (p : Place) (node : ℕ) → node_of net (link_at net p.link).to ≡ Some node → is_own net low high p ≡ true → (low ≤ node) × (node < high)
own-node net low high p node is own =
    let both = and_parts (nat_le low node) (nat_lt node high) (rw is at own) in
    (leb-true low node both.0, ltb-true node high both.1)

-- the plan of the node to which a link runs
pub plan-of_node : (net : NetSpec) (m : Traffic) → m.network ≡ net → (link node : ℕ) → node_of net (link_at net link).to ≡ Some node → plan_at m link ≡ get_or m.signals node None
plan-of_node net m on link node is = rw (on, is) refl

-- a plan that is kept at that node's place shows as the machine's does
pub plan-shown : (net : NetSpec) (m : Traffic) → m.network ≡ net → (low : ℕ) (signals : List (Option SignalPlan)) (p : Place) (node : ℕ) → node_of net (link_at net p.link).to ≡ Some node → is_own net low (low + length signals) p ≡ true → ShowSignals low (low + length signals) signals m
    → (plan d : Option SignalPlan) → plan ≡ get_or signals (node - low) d → PlanStands plan (plan_at m p.link)
plan-shown net m on low signals p node is own shows plan d e =
    let inside = own-node net low (low + length signals) p node is own in
    let above = inside.0 in
    let below = inside.1 in
    let kept : plan ≡ get_or signals (node - low) None = e ∙ get_or_default signals (node - low) d None (omega arith) in
    rw (kept, plan-of_node net m on p.link node is) (shows node above below)

-- traffic of the step is traffic of this lane's step, with the plan of the node to which the lane runs
pub of-lane : (step : MotionStep) (m : Traffic) → IsOfStep step m → step.clock ≤ last_clock → (p : Place) → HasPlanFor step p → (at : Place) → at ≡ p → (node : ℕ) → node_of step.net.now (link_at step.net.now at.link).to ≡ Some node
    → (position : ℕ) → position ≡ node → (plan : Option SignalPlan) → plan ≡ get_or step.signals.now (position - step.low) None → IsStepOf step.net.now plan step.clock p m
of-lane step m of in_time p own at at_is node node_is position position_is plan plan_is =
    let link : at.link ≡ p.link = ap (λ (q : Place). q.link) at_is in
    let is : node_of step.net.now (link_at step.net.now p.link).to ≡ Some node = rw (← link) node_is in
    record {
      network = of.on.network;
      clock = of.in_time;
      in_time = in_time;
      plan = plan-shown step.net.now m of.on.network step.low step.signals.now p node is own of.signals plan None (plan_is ∙ ap (λ (k : ℕ). get_or step.signals.now (k - step.low) None) position_is);
    }
