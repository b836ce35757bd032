use Rattle.std.proofs.Common.{◌≡◌, ℕ, suc, ◌+◌, ◌-◌, ◌<◌, ◌≤◌, ◌∙◌, length, get_or, refl, sym, ap, subst, arith, inl, inr}
use Rattle.std.proofs.lemmas.Bool.{cases_eq}
use Rattle.street_base.specs.declared.names.Place.{Place}
use Rattle.street_base.specs.Prelude.{link_at, Traffic}
use Rattle.street_lanes.specs.Prelude.{Same, IsOn, LanesStand, place_at}
use Rattle.street_lanes.specs.Lanes.{IsOf}
use Rattle.street_tile.specs.Prelude.{IsRoads, ArePairs, BeginsLink}
use Rattle.street_tile.proofs.SameLanes.{same-then, same-long, even-of, of-same, there-at}
use Rattle.street_tile.proofs.TileChanges.{ChangedTo, begins-next, changed-start, changed-kept, changed-next, changed-past, changed-over, changed-all}
use Rattle.street_tile.proofs.change.change_lanes.Lts.View as View
use Rattle.street_tile.proofs.change.change_lanes.Tie as Tie
use Rattle.street_tile.proofs.change.change_lanes.Reads as Reads
use Rattle.street_tile.proofs.change.change_lanes.Goals as goal
use Rattle.street_tile.proofs.change.change_lanes.Goals.{then-lanes_of-eq2, else-lanes_of-eq2, Joined-lanes_of-eq2}

pub loop-n-init : goal.loop-n-init
loop-n-init c =
    let even = even-of c.args.net.now c.args.own.now c.requires.of in
    let within : c.next_link-n.result ≤ length c.args.own.now.places = omega (arith, even, c.next_link-n.ensures.within) in
    record {
      within = within;
      begins = c.next_link-n.ensures.begins;
      same = record { places = refl; sizes = refl; loose = refl; odds = refl };
      room = omega arith;
      done = λ m on roads of pairs even stand in_time.
          changed-over c.args.net.now m on roads c.args.own.now of pairs even stand 0 c.next_link-n.result c.args.own.now (omega arith) within c.next_link-n.ensures.begins c.next_link-n.ensures.passed
          (changed-start c.args.net.now m on roads c.args.own.now of pairs even stand);
    }

pub at-requires : goal.at-requires
at-requires c = let e = same-long c.args.own.now c.loop-n.own c.loop-n.invariant.same in omega arith

pub lanes_of-requires : goal.lanes_of-requires
lanes_of-requires c =
    let of = of-same c.args.net.now c.args.own.now c.loop-n.own c.loop-n.invariant.same c.requires.of in
    let even = even-of c.args.net.now c.loop-n.own of in
    let e = same-long c.args.own.now c.loop-n.own c.loop-n.invariant.same in
    let there = there-at c.args.net.now c.loop-n.own of.own c.loop-n.n (omega arith) in
    let inside = there.0 in
    let link : c.at.result.link ≡ (place_at c.loop-n.own c.loop-n.n).link = ap (λ (p : Place). p.link) c.at.ensures in
    omega arith

module _ (c : goal.After-change-arg-1) where
  same_place : (n : ℕ) → place_at c.loop-n.own n ≡ place_at c.args.own.now n
  same_place n = rw c.loop-n.invariant.same.places refl

  pair : ((place_at c.loop-n.own c.loop-n.n).lane ≡ 0) × ((link_at c.args.net.now (place_at c.loop-n.own c.loop-n.n).link).lanes ≡ 2)
  pair =
      let e = same-long c.args.own.now c.loop-n.own c.loop-n.invariant.same in
      let places = ap length c.loop-n.invariant.same.places in
      let is = c.lanes_of.ensures in
      let two = c.if-lanes_of-eq2.true in
      (rw (same_place c.loop-n.n) (c.loop-n.invariant.begins (omega (arith, e, places))), subst (λ (p : Place). (link_at c.args.net.now p.link).lanes ≡ 2) c.at.ensures (omega (arith, is, two)))

  next : (suc c.loop-n.n < length c.args.own.now.places) × (place_at c.args.own.now (suc c.loop-n.n) ≡ record { link = (place_at c.args.own.now c.loop-n.n).link; lane = 1 })
  next = let places = ap length c.loop-n.invariant.same.places in c.requires.pairs.next c.loop-n.n (omega (arith, places)) (rw (same_place c.loop-n.n) at pair.0) (rw (same_place c.loop-n.n) at pair.1)

pub change-requires-clause-lanes : goal.change-requires-clause-lanes
change-requires-clause-lanes c = let e = same-long c.args.own.now c.loop-n.own c.loop-n.invariant.same in let places = ap length c.loop-n.invariant.same.places in let h = (next c).0 in omega (arith, e, places)

pub change-requires-clause-of : goal.change-requires-clause-of
change-requires-clause-of c = of-same c.args.net.now c.args.own.now c.loop-n.own c.loop-n.invariant.same c.requires.of

pub change-requires-clause-link : goal.change-requires-clause-link
change-requires-clause-link c =
    let more : c.loop-n.n + 1 ≡ suc c.loop-n.n = omega arith in
    rw (same_place c (c.loop-n.n + 1), same_place c c.loop-n.n, more) (ap (λ (p : Place). p.link) (next c).1)

-- what the loop keeps, once the lanes before `after` are done
abbrev Kept : Joined-lanes_of-eq2 → Type 0
Kept c = record {
  more : c.loop-n.n < c.if-lanes_of-eq2.after;
  within : c.if-lanes_of-eq2.after ≤ length c.args.own.now.places;
  begins : BeginsLink c.args.own.now c.if-lanes_of-eq2.after;
  same : Same c.args.own.now c.if-lanes_of-eq2.own;
  room : c.args.own.now.room ≤ c.if-lanes_of-eq2.own.room;
  done : (m : Traffic) (on : IsOn c.args.net.now m) (roads : IsRoads c.args.net.now) (of : IsOf c.args.net.now c.args.own.now) (pairs : ArePairs c.args.net.now c.args.own.now.places) (even : length c.args.own.now.lanes ≡ length c.args.own.now.places) (stand : LanesStand c.args.own.now.places c.args.own.now.lanes m)
      → m.clock ≡ c.args.clock → ChangedTo c.args.net.now m on roads c.args.own.now of pairs even stand c.if-lanes_of-eq2.after c.if-lanes_of-eq2.own;
}

-- a lane that begins no pair, nor does any behind it before the one that the table tells of it
none-before : (c : Joined-lanes_of-eq2) → ((place_at c.args.own.now c.loop-n.n).lane ≡ 0 → (link_at c.args.net.now (place_at c.args.own.now c.loop-n.n).link).lanes ≡ 2 → ⊥)
    → (i : ℕ) → c.loop-n.n ≤ i → i < get_or c.args.pairs.now c.loop-n.n 0 → (place_at c.args.own.now i).lane ≡ 0 → (link_at c.args.net.now (place_at c.args.own.now i).link).lanes ≡ 2 → ⊥
none-before c no_pair i above below first two =
    let long = ap length c.loop-n.invariant.same.places in
    let inside : c.loop-n.n < length c.args.own.now.places = omega (arith, long) in
    let within = c.requires.next.within c.loop-n.n inside in
    let next = c.requires.pairs.next i (omega (arith, within, below)) first two in
    elim (cases_eq i c.loop-n.n) as (λ _. ⊥) [
      | inl e ↦ no_pair (subst (λ (k : ℕ). (place_at c.args.own.now k).lane ≡ 0) e first) (subst (λ (k : ℕ). (link_at c.args.net.now (place_at c.args.own.now k).link).lanes ≡ 2) e two)
      | inr ne ↦ (
          let one : (place_at c.args.own.now (suc i)).lane ≡ 1 = ap (λ (p : Place). p.lane) next.1 in
          let zero : (place_at c.args.own.now (suc i)).lane ≡ 0 = c.requires.next.none c.loop-n.n i inside (omega arith) below next.0 in
          absurd (omega arith))
    ]

link-done : (c : Joined-lanes_of-eq2) → Kept c
link-done c =
    let places = c.loop-n.invariant.same.places in
    let long = ap length places in
    let net = c.args.net.now in
    let old = c.args.own.now in
    let place : place_at c.loop-n.own c.loop-n.n ≡ place_at old c.loop-n.n = rw places refl in
    elim c.if-lanes_of-eq2.branch [
      | then-lanes_of-eq2 w ↦ (
          let zero : (place_at old c.loop-n.n).lane ≡ 0 = c.loop-n.invariant.begins (omega (arith, long)) in
          let pair : (link_at net (place_at old c.loop-n.n).link).lanes ≡ 2 =
          subst (λ (p : Place). (link_at net p.link).lanes ≡ 2) (c.at.ensures ∙ place) (let is = c.lanes_of.ensures in let two = w.if-lanes_of-eq2.true in omega (arith, is, two)) in
          let next = c.requires.pairs.next c.loop-n.n (omega (arith, long)) zero pair in
          let more : suc c.loop-n.n ≡ c.loop-n.n + 1 = omega arith in
          let second : (place_at old (c.loop-n.n + 1)).lane ≡ 1 = subst (λ (k : ℕ). (place_at old k).lane ≡ 1) more (ap (λ (p : Place). p.lane) next.1) in
          let no_pair : (place_at old (c.loop-n.n + 1)).lane ≡ 0 → (link_at net (place_at old (c.loop-n.n + 1)).link).lanes ≡ 2 → ⊥ = λ zero two. absurd (omega arith) in
          let two_more : c.loop-n.n + 1 + 1 ≡ c.loop-n.n + 2 = omega arith in
          rw (w.own-is, w.after-is) (record {
            more = omega arith;
            within = omega (arith, next.0);
            begins = subst (BeginsLink old) two_more (begins-next net c.requires.roads old c.requires.of c.requires.pairs (c.loop-n.n + 1) no_pair);
            same = same-then old c.loop-n.own w.change.new.self c.loop-n.invariant.same w.change.ensures.same;
            room = omega (arith, c.loop-n.invariant.room, w.change.ensures.room);
            done = λ m on roads of pairs even stand in_time.
                subst (λ (k : ℕ). ChangedTo net m on roads old of pairs even stand k w.change.new.self) two_more
                (changed-kept net m on roads old of pairs even stand (c.loop-n.n + 1) w.change.new.self (omega (arith, next.0)) no_pair
                (changed-next net m on roads old of pairs even stand c.loop-n.n c.loop-n.own w.change.new.self (omega (arith, long)) zero pair (c.loop-n.invariant.done m on roads of pairs even stand in_time) w.change.ensures.same
                (λ a b x y. rw place at (w.change.ensures.first m a b on.network in_time x y))
                (λ a b x y. rw place at (w.change.ensures.second m a b on.network in_time x y))
                (λ k p q. w.change.ensures.others k p q)));
          }))
      | else-lanes_of-eq2 w ↦ (
          let no_pair : (place_at old c.loop-n.n).lane ≡ 0 → (link_at net (place_at old c.loop-n.n).link).lanes ≡ 2 → ⊥ =
          λ first two.
          let yes : c.lanes_of.result ≡ 2 = c.lanes_of.ensures ∙ subst (λ (p : Place). (link_at net p.link).lanes ≡ 2) (sym (c.at.ensures ∙ place)) two in
          let no = w.if-lanes_of-eq2.false in
          absurd (omega (arith, yes, no)) in
          let inside : c.loop-n.n < length old.places = omega (arith, long) in
          let later = c.requires.next.later c.loop-n.n inside in
          let none = none-before c no_pair in
          let back : get_or c.args.pairs.now c.loop-n.n 0 - 1 + 1 ≡ get_or c.args.pairs.now c.loop-n.n 0 = omega (arith, later) in
          rw (w.own-is, w.after-is) (record {
            more = later;
            within = c.requires.next.within c.loop-n.n inside;
            begins = subst (BeginsLink old) back (begins-next net c.requires.roads old c.requires.of c.requires.pairs (get_or c.args.pairs.now c.loop-n.n 0 - 1) (none (get_or c.args.pairs.now c.loop-n.n 0 - 1) (omega (arith, later)) (omega (arith, later))));
            same = c.loop-n.invariant.same;
            room = c.loop-n.invariant.room;
            done = λ m on roads of pairs even stand in_time.
                changed-past net m on roads old of pairs even stand c.loop-n.n (get_or c.args.pairs.now c.loop-n.n 0) c.loop-n.own (omega (arith, later)) (c.requires.next.within c.loop-n.n inside) none (c.loop-n.invariant.done m on roads of pairs even stand in_time);
          }))
    ]

pub next_link-n-requires-in-loop-n-clause-lane : goal.next_link-n-requires-in-loop-n-clause-lane
next_link-n-requires-in-loop-n-clause-lane c =
    let done = link-done c in
    let even = even-of c.args.net.now c.args.own.now c.requires.of in
    let long = same-long c.args.own.now c.if-lanes_of-eq2.own done.same in
    omega (arith, done.within, even, long)

pub next_link-n-requires-in-loop-n-clause-begins : goal.next_link-n-requires-in-loop-n-clause-begins
next_link-n-requires-in-loop-n-clause-begins c = let done = link-done c in rw done.same.places done.begins

pub next_link-n-requires-in-loop-n-clause-pairs : goal.next_link-n-requires-in-loop-n-clause-pairs
next_link-n-requires-in-loop-n-clause-pairs c = let done = link-done c in (c.args.net.now, rw done.same.places c.requires.pairs)

pub loop-n-preserved : goal.loop-n-preserved
loop-n-preserved c =
    let done = link-done (View.up-Joined-lanes_of-eq2 Tie.the-claims Reads.Pre Reads.Post goal.the-invariant-loop-n goal.the-decreases-loop-n Tie.handed_clauses c.before.before) in
    let next = c.next_link-n-in-loop-n.ensures in
    let even = even-of c.args.net.now c.args.own.now c.requires.of in
    let long = same-long c.args.own.now c.if-lanes_of-eq2.own done.same in
    let within : c.next_link-n-in-loop-n.result ≤ length c.args.own.now.places = omega (arith, even, long, next.within) in
    let begins : BeginsLink c.args.own.now c.next_link-n-in-loop-n.result = rw done.same.places at next.begins in
    record {
      within = within;
      begins = begins;
      same = done.same;
      room = done.room;
      done = λ m on roads of pairs even stand in_time.
          changed-over c.args.net.now m on roads c.args.own.now of pairs even stand c.if-lanes_of-eq2.after c.next_link-n-in-loop-n.result c.if-lanes_of-eq2.own next.not_before within begins next.passed
          (done.done m on roads of pairs even stand in_time);
    }

pub returns-clause-stand : goal.returns-clause-stand
returns-clause-stand c = λ m on in_time stand.
    let even = even-of c.args.net.now c.args.own.now c.requires.of in
    let long = same-long c.args.own.now c.loop-n.own c.loop-n.invariant.same in
    changed-all c.args.net.now m on c.requires.roads c.args.own.now c.requires.of c.requires.pairs even stand c.loop-n.n c.loop-n.own (c.loop-n.invariant.done m on c.requires.roads c.requires.of c.requires.pairs even stand in_time) (omega (arith, even, long))
