-- What the words of the command line ask for.
use Rattle.std.specs.Prelude.{◌≡◌, ◌≢◌, ◌≤◌, ◌⊎◌, vec_len, IsSome, None, true, ⊤}
use Rattle.clap.specs.Words.{kind_of}
use Rattle.clap.specs.declared.error.Error.{Error}
use Rattle.clap.specs.declared.error.kind.ErrorKind.{ErrorKind}
use Rattle.clap.specs.declared.error.kind.ErrorKind.TheVariants.{DisplayHelp, DisplayVersion, OutOfMemory}
use Rattle.street_base.specs.Prelude.{most_calls, most_sessions, most_workers}
use Rattle.street_runs.specs.declared.words.ProgramOptions.{ProgramOptions}
use Rattle.street_runs.specs.declared.words.WordsFault.{WordsFault}
use Rattle.street_runs.specs.declared.words.WordsFault.TheVariants.{Bad, Help, Starved}

-- that the options' numbers are in their ranges: 1 to `most_workers` workers, 1 to `most_calls` calls, and at most
-- `most_sessions` scripts
pub record IsInRange (found : ProgramOptions) : Type 0 where
  pub some_workers : 1 ≤ found.workers
  pub few_workers : found.workers ≤ most_workers
  pub some_calls : 1 ≤ found.calls
  pub few_calls : found.calls ≤ most_calls
  pub few_scripts : vec_len found.scripts ≤ most_sessions

-- that options which exclude each other are not asked for together: a replay goes with neither scripts nor a tape to be
-- written, nor does an upgrade, nor does an upgrade go with a replay
pub record StandsTogether (found : ProgramOptions) : Type 0 where
  pub replay : IsSome found.replay → (found.tape ≡ None) × (vec_len found.scripts ≡ 0)
  pub upgrade : IsSome found.upgrade → (found.tape ≡ None) × (found.replay ≡ None) × (vec_len found.scripts ≡ 0)

-- that a run without a desk is asked for: with no end of calls, kept in a file, or with a record of its steps
abbrev pub IsDeskless : ProgramOptions → Type 0
IsDeskless found = (found.endless ≡ true) ⊎ IsSome found.keep ⊎ IsSome found.record_file

-- that neither scripts are asked for, nor a tape to be written, replayed or upgraded
abbrev pub HasNoScriptsOrTapes : ProgramOptions → Type 0
HasNoScriptsOrTapes found = (found.tape ≡ None) × (found.replay ≡ None) × (found.upgrade ≡ None) × (vec_len found.scripts ≡ 0)

-- that a run without a desk (endless, kept or with a record), if asked for, has neither scripts nor tapes beside it,
-- and `unsynced` comes only together with `keep`
pub record StandsAlone (found : ProgramOptions) : Type 0 where
  pub alone : IsDeskless found → HasNoScriptsOrTapes found
  pub unsynced : found.unsynced ≡ true → IsSome found.keep

-- that the fault tells of the parser's error: with its text as help where help or the version was asked for, as lack of
-- memory where it is that, and with its text as bad words for any other error
abbrev pub ToldOf : Error → WordsFault → Type 0
ToldOf error (Bad text) = (text ≡ error) × (kind_of error ≢ DisplayHelp) × (kind_of error ≢ DisplayVersion) × (kind_of error ≢ OutOfMemory)
ToldOf error (Help text) = (text ≡ error) × ((kind_of error ≡ DisplayHelp) ⊎ (kind_of error ≡ DisplayVersion))
ToldOf error Starved = kind_of error ≡ OutOfMemory

-- that the fault tells of bad words, with an error of this kind, or of memory that ran out, of which nothing is asked;
-- it never tells a help text
abbrev pub TellsBad : ErrorKind → WordsFault → Type 0
TellsBad kind (Bad text) = kind_of text ≡ kind
TellsBad kind (Help text) = ⊥
TellsBad kind Starved = ⊤
