-- The line that answers a faulty line.
use Rattle.std.specs.Prelude.{ℕ, List, Option, option_map}
use Rattle.street_text.specs.ReplyLines.{line_of, error_data}
use Rattle.street_text.specs.declared.fault.LineFault.{LineFault}
use Rattle.street_text.specs.Faults.{number_of, name_of}

-- the line that answers a faulty line: an object with the number and name of the fault, as compact JSON, and LF; none
-- for lack of memory, which has no number
abbrev pub fault_line : LineFault → Option (List ℕ)
fault_line fault = option_map (λ n. line_of (error_data n (name_of fault))) (number_of fault)
