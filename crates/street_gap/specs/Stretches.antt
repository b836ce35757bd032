-- What the fields of `Closures` stand for.
use Rattle.std.specs.Prelude.{◌≢◌, List, [], Option, Some, None}
use Rattle.std.specs.Global.{Box}
use Rattle.street_gap.specs.declared.closures.Closures.TheInside.{Inside}
use Rattle.street_gap.specs.declared.closures.Stretch.{Stretch}
use Rattle.street_gap.specs.declared.stretches.Stretches.{Stretches}

-- the closed stretches that a lane keeps; no stretches where it keeps no box for them
abbrev pub kept_stretches : Option (Box Stretches) → List Stretch
kept_stretches None = []
kept_stretches (Some kept) = kept.value

-- that a box of stretches, if there is one, has a stretch at least
abbrev pub KeepsSome : Option (Box Stretches) → Type 0
KeepsSome None = Unit {0}
KeepsSome (Some kept) = kept.value ≢ []

-- the closed stretches of a lane, as contracts see them: those in its box; no stretches where it keeps no box
abbrev pub seen : Inside → List Stretch
seen x = kept_stretches x.kept

-- that a lane keeps no empty box of stretches: it keeps none, or one with a stretch at least
abbrev pub HasSome : Inside → Type 0
HasSome x = KeepsSome x.kept
