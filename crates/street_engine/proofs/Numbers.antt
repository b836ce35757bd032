-- Links, lanes and cells by the numbers that a command names them by.
use Rattle.std.proofs.Common.{◌≡◌, ℕ, zero, suc, ◌<◌, ◌≤◌, Bool, List, [], ◌∷◌, ◌++◌, length, get_or, refl, sym, ◌∙◌, ap, arith, Some, None, nat_lt, ◌||◌}
use Rattle.std.proofs.lemmas.Bool.{or_left, or_right, or_from, lt-ltb, le-ltb, le-leb, lt-leb}
use Rattle.street_base.specs.declared.net.NetSpec.{NetSpec}
use Rattle.street_base.specs.declared.net.LinkSpec.{LinkSpec}
use Rattle.street_base.specs.declared.refusal.Refusal.{Refusal}
use Rattle.street_base.specs.declared.refusal.Refusal.TheVariants.{BadRange}
use Rattle.street_base.specs.Prelude.{no_link, link_at, network_fault, Traffic, position_of, first_of, lane_tests, is_past, closure_refusal}
use Rattle.street_base.proofs.FaultLemmas.{link_keeps_limits}

-- a lane below the lanes of a link: the link is there
pub link-inside : (net : NetSpec) (link lane : ℕ) → lane < (link_at net link).lanes → link < length net.links
link-inside net link lane h = within net.links link (omega (arith, h))
  where
    within : (links : List LinkSpec) (i : ℕ) → 0 < (get_or links i no_link).lanes → i < length links
    within [] i h = absurd (omega arith)
    within (l ∷ links) zero h = omega arith
    within (l ∷ links) (suc i) h = let rest = within links i h in omega arith

module _ (net : NetSpec) (faultless : network_fault net ≡ None) (link : ℕ) where
  pub small-lane : (lane : ℕ) → lane < (link_at net link).lanes → lane < 256
  small-lane lane h = omega (arith, h, (link_keeps_limits net faultless link (link-inside net link lane h)).few_lanes)

-- ---- cells from a first to a last one

-- where the lane is refused, so are its cells
pub lane-refused : (link lane first last : ℕ) (m : Traffic) (q : Refusal) → ((rest : List (Bool × Refusal)) → first_of (lane_tests link lane m ++ rest) ≡ Some q) → closure_refusal link lane first last m ≡ Some q
lane-refused link lane first last m q h = h ((nat_lt last first || is_past link last m, BadRange) ∷ [])

module _ (net : NetSpec) (link lane first last at : ℕ) (m : Traffic) (same : m.network ≡ net) (is : at ≡ position_of net link)
    (passed : (rest : List (Bool × Refusal)) → first_of (lane_tests link lane m ++ rest) ≡ first_of rest) where
  size : (link_at m.network (position_of m.network link)).length ≡ (link_at net at).length
  size = ap (λ (n : NetSpec). (link_at n (position_of n link)).length) same ∙ ap (λ i. (link_at net i).length) (sym is)

  pub turned-round : last < first → closure_refusal link lane first last m ≡ Some BadRange
  turned-round h =
      let e = or_left (nat_lt last first) (is_past link last m) (lt-ltb last first h) in
      passed ((nat_lt last first || is_past link last m, BadRange) ∷ []) ∙ rw e refl

  pub past-the-lane : (link_at net at).length ≤ last → closure_refusal link lane first last m ≡ Some BadRange
  past-the-lane h =
      let e = or_right (nat_lt last first) (is_past link last m) (le-leb _ last (omega (arith, h, size))) in
      passed ((nat_lt last first || is_past link last m, BadRange) ∷ []) ∙ rw e refl

  pub in-the-lane : first ≤ last → last < (link_at net at).length → closure_refusal link lane first last m ≡ None
  in-the-lane order h =
      let e = or_from (nat_lt last first) (is_past link last m) (le-ltb last first order) (lt-leb _ last (omega (arith, h, size))) in
      passed ((nat_lt last first || is_past link last m, BadRange) ∷ []) ∙ rw e refl
