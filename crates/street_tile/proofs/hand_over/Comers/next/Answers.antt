use Rattle.std.proofs.Common.{◌≡◌, ◌*◌, ◌+◌, ◌<◌, ◌≤◌, ℕ, List, Bool, false, length, get_or, ap, subst, arith, Option, None}
use Rattle.street_tile.specs.Prelude.{Transfer, AreMarked}
use Rattle.street_tile.proofs.hand_over.Comers.next.Goals as goal

pub next-requires : goal.next-requires
next-requires c = let many = c.self.invariant.many in let all : length c.self.inside.by_lane.items ≡ length c.args.self.now = ap length c.self.view_is in omega (arith, many, all, c.requires)

-- to a lane without a bit nobody comes
unmarked : (cs now : List (Option Transfer)) (bits : List Bool) → AreMarked cs bits → cs ≡ now → (k : ℕ) → get_or bits (3 * k + 0) false ≡ false → get_or now k None ≡ None
unmarked cs now bits are seen k off = subst (λ (os : List (Option Transfer)). get_or os k None ≡ None) seen (are.nobody k (subst (λ j. get_or bits j false ≡ false) (omega arith) off))

pub returns-in-Some-clause-passed : goal.returns-in-Some-clause-passed
returns-in-Some-clause-passed c = λ k low high. unmarked c.self.inside.by_lane.items c.args.self.now c.self.inside.full c.self.invariant c.self.view_is k (c.in-Some.ensures.passed k low (omega (arith, c.min.ensures, high)))

pub returns-in-None-clause-passed : goal.returns-in-None-clause-passed
returns-in-None-clause-passed c = λ k low high. unmarked c.self.inside.by_lane.items c.args.self.now c.self.inside.full c.self.invariant c.self.view_is k (c.in-None.ensures k low)
