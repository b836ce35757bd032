-- What a file leads to that a session was kept in, when its lines are done again.
use Rattle.std.specs.Prelude.{◌≡◌, ℕ, List, ◌++◌, take, Option}
use Rattle.std.specs.Io.KnownBytes.{Appends}
use Rattle.street_base.specs.Prelude.{State}
use Rattle.street_stream.specs.Lines.{lines_of}
use Rattle.street_line.specs.Redo.{Redoes}
use Rattle.street_line.specs.Engines.{MachineServes}
use Rattle.street_line.specs.Kept.{GoesKept}

-- that the file begins with lines that, done again from `start`, lead to the state `now` after some lines (`done`),
-- served from some state (`mid`), and all that went out, `before` to `after` (none where unknown), is the first part of
-- these lines' output
pub record KeepsAnswered (start : State) (file : List ℕ) (before after : Option (List ℕ)) : Type 0 where
  pub first : List ℕ
  pub more : List ℕ
  pub mid : State
  pub done : List (List ℕ)
  pub out : List ℕ
  pub kept : List ℕ
  pub now : State
  pub sent : ℕ
  pub split : file ≡ first ++ more
  pub served : GoesKept MachineServes mid done out kept now
  pub written : Appends before after (take sent out)
  pub redo : Redoes MachineServes start (lines_of first) now

-- that of the lines ls the first, perhaps all or none, were served from state `old`, and the lines `redo`, done again
-- from the same state, lead to the same state as these
pub record PartDone (old : State) (ls redo : List (List ℕ)) : Type 0 where
  pub first : List (List ℕ)
  pub rest : List (List ℕ)
  pub out : List ℕ
  pub kept : List ℕ
  pub mid : State
  pub split : ls ≡ first ++ rest
  pub served : GoesKept MachineServes old first out kept mid
  pub leads : Redoes MachineServes old redo mid
