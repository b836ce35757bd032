-- Turns as numbers stand in the order of turns.
use Rattle.std.proofs.Common.{◌≡◌, ◌<◌, refl, sym, arith}
use Rattle.std.specs.declared.cmp.Ordering.{Ordering}
use Rattle.std.specs.declared.cmp.Ordering.TheVariants.{Less, Equal, Greater}
use Rattle.std.specs.Cmp.{nat_cmp_is}
use Rattle.std.specs.Ordering.{nat_cmp, ordering_then, MatchOrdering}
use Rattle.std.proofs.lemmas.Cmp.{ranked}
use Rattle.street_node.specs.declared.phase.GreenTurn.{GreenTurn}
use Rattle.street_node.specs.Prelude.{turn_cmp, turn_rank}

module _ (t u : GreenTurn) (small : t.lane < 256) (small' : u.lane < 256) (short : t.next < 65536) (short' : u.next < 65536) where
  abbrev Ranks : Ordering → Type 0
  Ranks r = MatchOrdering r (turn_rank t < turn_rank u) (turn_rank t ≡ turn_rank u) (turn_rank u < turn_rank t)

  by-next : t.link ≡ u.link → t.lane ≡ u.lane → (r : Ordering) → MatchOrdering r (t.next < u.next) (t.next ≡ u.next) (u.next < t.next) → Ranks r
  by-next link lane Less h = omega arith
  by-next link lane Equal h = omega arith
  by-next link lane Greater h = omega arith

  by-lane : t.link ≡ u.link → (r : Ordering) → MatchOrdering r (t.lane < u.lane) (t.lane ≡ u.lane) (u.lane < t.lane) → Ranks (ordering_then r (nat_cmp t.next u.next))
  by-lane link Less h = omega arith
  by-lane link Equal h = by-next link h (nat_cmp t.next u.next) (ranked t.next u.next (nat_cmp t.next u.next) refl)
  by-lane link Greater h = omega arith

  by-link : (r : Ordering) → MatchOrdering r (t.link < u.link) (t.link ≡ u.link) (u.link < t.link) → Ranks (ordering_then r (ordering_then (nat_cmp t.lane u.lane) (nat_cmp t.next u.next)))
  by-link Less h = omega arith
  by-link Equal h = by-lane h (nat_cmp t.lane u.lane) (ranked t.lane u.lane (nat_cmp t.lane u.lane) refl)
  by-link Greater h = omega arith

  -- two turns are compared as their numbers are
  pub compared : nat_cmp (turn_rank t) (turn_rank u) ≡ turn_cmp t u
  compared = sym (nat_cmp_is (turn_rank t) (turn_rank u) (turn_cmp t u) (by-link (nat_cmp t.link u.link) (ranked t.link u.link (nat_cmp t.link u.link) refl)))
