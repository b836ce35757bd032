-- A file that a session is kept in, and a session that goes on from it.
use Rattle.std.specs.Prelude.{◌≡◌, ◌⊎◌, ◌<◌, ◌==◌, ◌||◌, Bool, not, true, false, if◌then◌else◌, ℕ, zero, suc, List, ◌∷◌, [], ◌++◌, length, take, drop, Option, Some, None, option_map, ⊤}
use Rattle.street_base.specs.declared.command.Command.{Command}
use Rattle.std.specs.Io.KnownBytes.{Keeps}
use Rattle.street_stream.specs.Lines.{cut, is_space, IsInsideLine}
use Rattle.street_text.specs.LineCommands.{longest_line}
use Rattle.street_stream.specs.declared.counted.Counted.{Counted}
use Rattle.street_stream.specs.Logs.{Extends}
use Rattle.street_line.specs.Redo.{RedoBroke, Redoes}
use Rattle.street_line.specs.Kept.{IsKeptCaused, KeptUpTo, KeptWhole}
use Rattle.street_line.specs.declared.redo.RedoneLines.{RedoneLines}
use Rattle.street_line.specs.declared.kept_runs.KeptFault.{KeptFault}
use Rattle.street_line.specs.declared.kept_file.BeginFault.{BeginFault}
use Rattle.street_line.specs.declared.kept_file.BeginFault.TheVariants.{Foreign, Recover, Settle}
use Rattle.street_line.specs.declared.kept_file.ServeFault.{ServeFault}
use Rattle.street_line.specs.declared.kept_file.ServeFault.TheVariants.{Begin, Session}
use Rattle.street_line.specs.declared.service.Served.{Served}

-- the bytes of a text from position `at` on; none where the text is not known
abbrev pub left_from : ℕ → Option (List ℕ) → Option (List ℕ)
left_from at held = option_map (λ text. drop at text) held

-- the first `size` bytes of a text; none where the text is not known
abbrev pub first_of : ℕ → Option (List ℕ) → Option (List ℕ)
first_of size held = option_map (λ text. take size text) held

-- how many bytes stand before the first NUL of a text; all where there is none
abbrev pub sound_len : List ℕ → ℕ
sound_len [] = 0
sound_len (zero ∷ xs) = 0
sound_len (suc x ∷ xs) = suc (sound_len xs)

-- the bytes before the first NUL of a text, all where there is none, as no line that is kept has a NUL
abbrev pub sound : List ℕ → List ℕ
sound text = take (sound_len text) text

-- the bytes of a text before its first NUL; none where the text is not known
abbrev pub sound_of : Option (List ℕ) → Option (List ℕ)
sound_of held = option_map sound held

-- that what was had is this text; where what was had is not known, nothing is said
abbrev pub IsText : Option (List ℕ) → List ℕ → Type 0
IsText None text = ⊤
IsText (Some xs) text = xs ≡ text

-- whether the first byte of a text that is no space, tab or CR is one that no line begins with, and no NUL, before which
-- a file ends; false where each byte is blank
abbrev pub begins_foreign : List ℕ → Bool
begins_foreign [] = false
begins_foreign (b ∷ bs) = if is_space b then begins_foreign bs else not ((b == 123) || (b == 0))

-- that a text without an ended line is another's than a session's: it has more bytes than a line may have, or begins
-- with a byte that no line begins with
abbrev pub IsForeign : List ℕ → Type 0
IsForeign text = (longest_line < length text) ⊎ (begins_foreign text ≡ true)

-- that what was had is a text of another's than a session (`IsForeign`); where it is not known, nothing is said
abbrev pub IsForeignText : Option (List ℕ) → Type 0
IsForeignText had = (text : List ℕ) → had ≡ Some text → IsForeign text

module _ {S : Type 0} (serves : S → Command → Served → S → Type 0) where
  -- that all ended lines of a kept file, `whole`, were done again, from `start` to `mid`, and `redo` counts lines and
  -- bytes; behind them, up to a first NUL, stands no further LF, but perhaps a torn end; of a file not known no text is
  -- asked
  pub record Redone (start : S) (had : Option (List ℕ)) (mid : S) (redo : RedoneLines) : Type 0 where
    pub whole : List ℕ
    pub torn : List ℕ
    pub is_text : IsText had (whole ++ torn)
    pub ended : (cut whole).1 ≡ []
    pub inside : IsInsideLine (sound torn)
    pub done : Redoes serves start (cut whole).0 mid
    pub lines : redo.lines ≡ length (cut whole).0
    pub bytes : redo.bytes ≡ length whole

  -- that the ended lines of a kept file were done again from `start` to `mid`, and counted (`Redone`), and `log`, what
  -- the file has now, is just these lines; where the file's text, `had`, was not known (none), nothing is said of `log`
  pub record Recovered (start : S) (had : Option (List ℕ)) (mid : S) (log : Option (List ℕ)) (redo : RedoneLines) : Type 0 where
    pub redone : Redone start had mid redo
    pub cut_off : Keeps (first_of redo.bytes had) log

  -- that the lines of a kept file were done again from `start`, then all lines of the reader served from there to
  -- `now`, their output written, and what the log keeps of them held behind the file's lines and synced
  pub record ServesOn (start : S) (had unread before : Option (List ℕ)) (redo : RedoneLines) (now : S) (left held synced after : Option (List ℕ)) : Type 0 where
    pub mid : S
    pub log : Option (List ℕ)
    pub recovered : Recovered start had mid log redo
    pub whole : KeptWhole serves mid unread log before now left held synced after

  -- that a fault came before a session went on: the file is as it was where a line could not be done again, or it has no
  -- line that ended and is another's (`IsForeign`); where it was to be written anew, it has its text or its ended lines, and what was synced of these
  -- lines still is
  abbrev pub BeginBreaks : S → Option (List ℕ) → Option (List ℕ) → S → Option (List ℕ) → Option (List ℕ) → BeginFault → Type 0
  BeginBreaks start had stayed now held synced (Recover fault) = ((rest : Option (List ℕ)) × RedoBroke serves start (sound_of had) fault now rest) × (held ≡ had) × (synced ≡ stayed)
  BeginBreaks start had stayed now held synced Foreign = ((redo : RedoneLines) × Redone start had now redo × (redo.bytes ≡ 0) × IsForeignText had) × (held ≡ had) × (synced ≡ stayed)
  BeginBreaks start had stayed now held synced Settle =
      (redo : RedoneLines) × Redone start had now redo × (Keeps had held ⊎ Keeps (first_of redo.bytes had) held) × Extends (first_of redo.bytes stayed) synced

  module _ (start : S) (had stayed unread before : Option (List ℕ)) (now : S) (left held synced after : Option (List ℕ)) where
    -- that a fault of a session that goes on from a file came before any line was served, with nothing written to the
    -- output (`BeginBreaks`), or behind the file's lines done again (`Recovered`), in the session (`KeptUpTo`), and
    -- left what these say
    abbrev pub ServeBreaks : ServeFault → Type 0
    ServeBreaks (Begin fault) = BeginBreaks start had stayed now held synced fault × (after ≡ before)
    ServeBreaks (Session fault) = (mid : S) × (log : Option (List ℕ)) × (redo : RedoneLines) × Recovered start had mid log redo × KeptUpTo serves mid unread log before fault now left held synced after

-- that a fault before a session went on has its cause: where the file was to be written anew, the file has failed; of a
-- fault at its lines, or of a file with none, no cause is asked
abbrev pub IsBeginCaused : {K : Type 0} → (K → Type 0) → BeginFault → K → Type 0
IsBeginCaused has_failed (Recover fault) file = ⊤
IsBeginCaused has_failed Foreign file = ⊤
IsBeginCaused has_failed Settle file = has_failed file

-- that a fault of a session on a file has its cause: the file has failed, and what was not synced was cut off it, where
-- that can be done (`withdrawn`); or reader or writer counted it (`IsKeptCaused`)
abbrev pub IsRunCaused : {K R W : Type 0} → (K → Type 0) → (K → Type 0) → KeptFault → Counted R → K → Counted W → ℕ → Type 0
IsRunCaused has_failed withdrawn fault reader file writer reads = IsKeptCaused (λ f. has_failed f × withdrawn f) fault reader file writer reads

-- that a fault of a session that goes on from a file has its cause: that of a fault before it went on
-- (`IsBeginCaused`), or of one in it (`IsRunCaused`); of a fault at the file's lines, or of memory, no cause is asked
abbrev pub IsServeCaused : {K R W : Type 0} → (K → Type 0) → (K → Type 0) → ServeFault → Counted R → K → Counted W → ℕ → Type 0
IsServeCaused has_failed withdrawn (Begin fault) reader file writer reads = IsBeginCaused has_failed fault file
IsServeCaused has_failed withdrawn (Session fault) reader file writer reads = IsRunCaused has_failed withdrawn fault reader file writer reads
