-- Hints that go on, one hand-over after another.
use Rattle.std.proofs.Common.{refl, ◌∙◌}
use Rattle.street_tile.specs.Prelude.{Hinted, KeepsHints}

pub hints-none : (x : Hinted) → KeepsHints x x
hints-none x = record { given = refl; room = refl }

pub hints-then : (x y z : Hinted) → KeepsHints x y → KeepsHints y z → KeepsHints x z
hints-then x y z a b = record { given = b.given ∙ a.given; room = b.room ∙ a.room }
