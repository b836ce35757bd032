-- The kinds of a lane's lists.
use Rattle.std.specs.Prelude.{ℕ}
use Rattle.street_yard.specs.declared.names.ListKind.{ListKind}
use Rattle.street_yard.specs.declared.names.ListKind.TheVariants.{Cells, Buffer, Waiting}

-- the number of a list's kind: 0 cells, 1 buffer, 2 waiting; lane n keeps the vehicles in its cells on list 3 * n,
-- those in its buffer on 3 * n + 1, those that wait on 3 * n + 2
abbrev pub class_of : ListKind → ℕ
class_of Cells = 0
class_of Buffer = 1
class_of Waiting = 2
