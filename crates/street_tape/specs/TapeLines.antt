-- A tape that is read line by line.
-- What is known of it after some lines is what its first line tells of the lines that follow there.
use Rattle.std.specs.Prelude.{◌≡◌, ℕ, Bool, false, List, [], ◌∷◌, ◌++◌, Option, Some, None, Ok, ⊤}
use Rattle.street_desk.specs.declared.journal.Entry.{Entry}
use Rattle.street_tape.specs.Entries.{after_call, entry_reading, head_reading, is_sized, is_whole}
use Rattle.street_tape.specs.declared.head.TapeHead.{TapeHead}
use Rattle.street_tape.specs.declared.tape.Stop.{Stop}
use Rattle.street_tape.specs.declared.tape.Stop.TheVariants.{NotTape, BadEntry, Starved}

-- that a tape's next line was taken, from `old` to `new`, each none or the head with the calls still to follow: the
-- first line gives the head and says no call, each further one says a call that may follow
abbrev pub Takes : Option TapeHead → List ℕ → Option Entry → Option TapeHead → Type 0
Takes None line None (Some new) = head_reading line ≡ Ok new
Takes (Some old) line (Some e) (Some new) = (after_call old ≡ Some new) × (entry_reading (is_sized old) line ≡ Ok e)
Takes old line call new = ⊥

-- that this is why a further line says no call: it is no call that can be read (`BadEntry`), or memory ran out, of
-- which nothing is asked; never that there is no tape
abbrev pub IsNoCall : Bool → List ℕ → Stop → Type 0
IsNoCall sized line NotTape = ⊥
IsNoCall sized line BadEntry = (e : Entry) → entry_reading sized line ≡ Ok e → ⊥
IsNoCall sized line Starved = ⊤

-- that this is why the next line is not taken: the first is not that of a tape, a further one says no call or is one
-- too many, or memory ran out, of which nothing is asked; `old` is none before the first line
abbrev pub Refuses : Option TapeHead → List ℕ → Stop → Type 0
Refuses old line Starved = ⊤
Refuses None line NotTape = (head : TapeHead) → head_reading line ≡ Ok head → ⊥
Refuses (Some old) line BadEntry = (new : TapeHead) (e : Entry) → after_call old ≡ Some new → entry_reading (is_sized old) line ≡ Ok e → ⊥
Refuses old line stop = ⊥

-- whether a tape may end here: after its first line, where its head counts no further call (in version 1 always)
abbrev pub may_end : Option TapeHead → Bool
may_end None = false
may_end (Some head) = is_whole head 0

-- the call of a line as a list of one; an empty list where the line says no call
abbrev pub calls_of : Option Entry → List Entry
calls_of None = []
calls_of (Some e) = e ∷ []

-- that these lines of a tape were taken one after another, from `old` to `new`, the heads with the calls still to
-- follow (`Takes`), and es are the calls that they say; where there are no lines, nothing changes
abbrev pub TakesAll : Option TapeHead → List (List ℕ) → List Entry → Option TapeHead → Type 0
TakesAll old [] es new = (new ≡ old) × (es ≡ [])
TakesAll old (l ∷ ls) es new =
    (mid : Option TapeHead) × (call : Option Entry) × (rest : List Entry) × Takes old l call mid × TakesAll mid ls rest new × (es ≡ calls_of call ++ rest)
