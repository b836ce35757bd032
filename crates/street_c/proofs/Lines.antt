-- A line, from what was read of it.
use Rattle.std.proofs.Common.{◌≡◌, ℕ, List, [], ◌∷◌, ◌&&◌, Result, Err, Some, refl, ap}
use Rattle.std.specs.List.{list_all}
use Rattle.street_base.specs.declared.command.Command.{Command}
use Rattle.street_stream.specs.Lines.{is_blank, is_space}
use Rattle.street_text.specs.FaultLines.{fault_line}
use Rattle.street_text.specs.LineCommands.{Fails}
use Rattle.street_text.specs.declared.fault.LineFault.{LineFault}
use Rattle.street_text.specs.declared.fault.LineFault.TheVariants.{LineTooLong, NotJson, BadCommand, Starved}

-- all bytes of it are spaces, tabs and CR
pub all_blank : (line : List ℕ) → list_all is_space line ≡ is_blank line
all_blank [] = refl
all_blank (b ∷ bs) = ap (λ r. is_space b && r) (all_blank bs)

-- it reads as the fault that is told
pub reads_as : (fault : LineFault) (read : Result Command LineFault) (out : List ℕ) → Fails fault read → fault_line fault ≡ Some out → read ≡ Err fault
reads_as LineTooLong read out is told = is
reads_as NotJson read out is told = is
reads_as BadCommand read out is told = is
reads_as Starved read out is told = absurd (cc)
