-- Who crosses from a buffer, and where to.
use Rattle.std.proofs.Common.{◌≡◌, ℕ, ◌+◌, Bool, true, false, List, [], ◌∷◌, ◌++◌, take, refl, sym, ◌∙◌, ap, subst, inl, inr, Option, Some, None, IsSome, slice_get, filter_map, nat_le, if◌then◌else◌}
use Rattle.std.specs.List.{cons_option}
use Rattle.std.proofs.lemmas.Bool.{cases_Bool}
use Rattle.std.proofs.lemmas.List.{take_more}
use Rattle.std.proofs.lemmas.List.Elements.{filter_map-append}
use Rattle.std.proofs.lemmas.Option.{slice_get_within, get_or_from_slice_get}
use Rattle.street_base.specs.declared.names.Place.{Place}
use Rattle.street_base.specs.Prelude.{link_at, Vehicle, next_link, Traffic, Queued, front, exit_lane, target, is_this, giver, gives, on_next_link}
use Rattle.street_base.proofs.ReleaseLemmas.{is_place-refl}
use Rattle.street_node.specs.Prelude.{Crossing, crossing}
use Rattle.street_node.proofs.BufferWalk.{taken-from, stays}

-- what is known of a front that may go to a lane
pub record Leads (m : Traffic) (from to : Place) (q : Queued) : Type 0 where
  pub front : front m from ≡ Some q
  pub exit : exit_lane m from q.vehicle ≡ Some to
  pub target : target m from ≡ Some to
  pub next : IsSome (next_link q.vehicle)

pub leads-of : (m : Traffic) (from to : Place) → target m from ≡ Some to → (q : Queued) × Leads m from to q
leads-of m from to is = by_front (front m from) refl
  where
    by_ready : (q : Queued) (b : Bool) → (if b then exit_lane m from q.vehicle else None) ≡ Some to → exit_lane m from q.vehicle ≡ Some to
    by_ready q true e = e
    by_ready q false e = cc

    by_next : (v : Vehicle) (o : Option ℕ) → next_link v ≡ o → exit_lane m from v ≡ Some to → IsSome (next_link v)
    by_next v None e x = let none : ◌≡◌ {A = Option Place} None (Some to) = rw e at x in cc
    by_next v (Some n) e x = rw e refl

    by_front : (o : Option Queued) → front m from ≡ o → (q : Queued) × Leads m from to q
    by_front None e = let none : ◌≡◌ {A = Option Place} None (Some to) = rw e at is in cc
    by_front (Some q) e =
        let ready : (if nat_le q.ready m.clock then exit_lane m from q.vehicle else None) ≡ Some to = rw e at is in
        let exits = by_ready q (nat_le q.ready m.clock) ready in
        (q, record { front = e; exit = exits; target = is; next = by_next q.vehicle (next_link q.vehicle) refl exits })

pub crossing-goes : (m : Traffic) (from to : Place) (q : Queued) → Leads m from to q → gives m from ≡ true → crossing m from ≡ Some (record { from = from; to = to; vehicle = on_next_link (link_at m.network to.link).limit q.vehicle })
crossing-goes m from to q l goes =
    let taken : is_this from (giver m to) ≡ true = rw l.target at goes in
    let given : giver m to ≡ Some from = taken-from m (giver m to) from taken in
    rw (l.target, given, l.front, is_place-refl from) refl

pub crossing-stays : (m : Traffic) (from : Place) → gives m from ≡ false → crossing m from ≡ None
crossing-stays m from no_one = rw no_one refl

-- who crosses was a front that leads to where it enters
pub crossing-leads : (m : Traffic) (from : Place) (c : Crossing) → crossing m from ≡ Some c → (q : Queued) × Leads m from c.to q
crossing-leads m from c is = elim (cases_Bool (gives m from)) [
  | inl goes ↦ by_target (target m from) refl goes
  | inr no_one ↦ (let none : ◌≡◌ {A = Option Crossing} None (Some c) = sym (crossing-stays m from no_one) ∙ is in cc)
]
  where
    by_target : (o : Option Place) → target m from ≡ o → gives m from ≡ true → (q : Queued) × Leads m from c.to q
    by_target None e goes = let both : true ≡ false = sym goes ∙ stays m from e in cc
    by_target (Some to) e goes =
        let led = leads-of m from to e in
        let same : ◌≡◌ {A = Option Crossing} (Some (record { from = from; to = to; vehicle = on_next_link (link_at m.network to.link).limit led.0.vehicle })) (Some c) = sym (crossing-goes m from to led.0 led.1 goes) ∙ is in
        let there : to ≡ c.to = cc in
        (led.0, subst (λ (p : Place). Leads m from p led.0) there led.1)

pub crossings-more : {A : Type 0} (c : Place → Option A) (ps : List Place) (k : ℕ) (p : Place) → slice_get ps k ≡ Some p → filter_map c (take (k + 1) ps) ≡ filter_map c (take k ps) ++ cons_option (c p) []
crossings-more c ps k p at =
    let h = slice_get_within ps k p at in
    ap (filter_map c) (take_more ps k p h ∙ ap (λ (x : Place). take k ps ++ x ∷ []) (get_or_from_slice_get ps k p p at))
    ∙ filter_map-append c (take k ps) (p ∷ [])
