use Rattle.std.proofs.Common.{◌≡◌, ℕ, List, [], ap, subst, IfOk, replicate, slice_index_or}
use Rattle.street_yard.specs.Prelude.{Yard}
use Rattle.street_yard.proofs.FallingLists.{nobody-lane}
use Rattle.street_part_tests.proofs.motion.empty.Goals as goal

pub returns-clause-lane : goal.returns-clause-lane
returns-clause-lane g c =
    let lists = subst (λ r. IfOk r (λ (y : Yard). y.lists ≡ replicate 1 [])) c.in-Ok.is c.new.ensures.lists in
    nobody-lane c.in-Ok.yard 0 40 (ap (λ (ls : List (List ℕ)). slice_index_or ls 0 []) lists)
