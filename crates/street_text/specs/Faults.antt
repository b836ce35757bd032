-- The numbers and names of a line's faults.
use Rattle.std.specs.Prelude.{ℕ, List, Option, Some, None, codes}
use Rattle.street_text.specs.declared.fault.LineFault.{LineFault}
use Rattle.street_text.specs.declared.fault.LineFault.TheVariants.{LineTooLong, NotJson, BadCommand, Starved}

-- the number by which a reply line tells a line's fault: 20 no JSON, 21 no command, 22 too long; none for lack of
-- memory, which ends the run
abbrev pub number_of : LineFault → Option ℕ
number_of LineTooLong = Some 22
number_of NotJson = Some 20
number_of BadCommand = Some 21
number_of Starved = None

-- the name of a line's fault in bytes: LineTooLong, NotJson, BadCommand or Starved
abbrev pub name_of : LineFault → List ℕ
name_of LineTooLong = codes "LineTooLong"
name_of NotJson = codes "NotJson"
name_of BadCommand = codes "BadCommand"
name_of Starved = codes "Starved"
