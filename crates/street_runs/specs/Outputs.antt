-- What is printed of scripts, and what a fault leaves of a text.
use Rattle.std.specs.Prelude.{◌≡◌, ℕ, ◌≤◌, ◌⊎◌, List, length, take, codes, Option, flat_map}
use Rattle.std.specs.Borrow.{Bor}
use Rattle.std.specs.Io.KnownBytes.{Appends}
use Rattle.street_line.specs.declared.script.Script.{Script}
use Rattle.street_stream.specs.declared.counted.Counted.{Counted}
use Rattle.street_stream.specs.Streams.{HasFailed, IsFlushed}
use Rattle.street_runs.specs.declared.fault.ProgramFault.{ProgramFault}
use Rattle.street_runs.specs.declared.fault.ProgramFault.TheVariants.{Write}

-- the bytes of the replies of these scripts, one script's behind the other's, in order
abbrev pub replies_of : {R : Type 0} → List (Script R) → List ℕ
replies_of scripts = flat_map (λ s. s.replies.items) scripts

-- that the first bytes of the text were written, perhaps all or none, from contents `before` to `after` (none where
-- unknown)
pub record IsBegun (before after : Option (List ℕ)) (text : List ℕ) : Type 0 where
  pub sent : ℕ
  pub within : sent ≤ length text
  pub written : Appends before after (take sent text)

-- that the text was written, `before` to `after` (none where unknown), and flushed; or first bytes of it, perhaps all
-- or none, were written, and a call of the writer failed or took no byte
abbrev pub IsPrinted : {W : Type 0} → Option (List ℕ) → Option (List ℕ) → List ℕ → Counted W → Type 0
IsPrinted before after text writer = (Appends before after text × IsFlushed writer) ⊎ (IsBegun before after text × HasFailed writer)

-- that the fault tells that standard output cannot be written
pub record TellsOutput (fault : ProgramFault) : Type 0 where
  pub name : Bor (List ℕ)
  pub is : fault ≡ Write name
  pub says : name.now ≡ codes "standard output"
