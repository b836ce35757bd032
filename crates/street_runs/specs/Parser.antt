-- What the parser makes of the words of the command line, by its own rules.
use Rattle.std.specs.Prelude.{◌≡◌, ◌≤◌, ◌⊎◌, ◌++◌, ℕ, List, [], ◌∷◌, Bool, true, false, Option, None, Some, bytes_eq, codes, length, option_map, IsSome, unwrap_or, map, ⊤}
use Rattle.std.specs.Str.Parse.{IsNumeral, digits_value, without_leading_plus}
use Rattle.clap.specs.Lexer.{usize_max}
use Rattle.clap.specs.Words.{App, IsAmong, Kinds, Row, Rule, Text, all_of, fault_of, first_of, kind_of, matches_of, new_app, new_rule}
use Rattle.clap.specs.declared.builder.action.ArgAction.TheVariants.{Append, Set, SetTrue}
use Rattle.clap.specs.declared.error.kind.ErrorKind.TheVariants.{DisplayHelp, DisplayVersion}
use Rattle.street_base.specs.Prelude.{most_calls, most_sessions, most_workers}
use Rattle.street_runs.specs.declared.words.ProgramOptions.{ProgramOptions}
use Rattle.street_runs.specs.declared.words.WordsFault.{WordsFault}
use Rattle.street_runs.specs.declared.words.WordsFault.TheVariants.{Bad, Help, Starved}

-- ---- the command

-- the parser's rule for an option with no value, `--name`
abbrev pub flag_rule : Text → Rule
flag_rule name = record (new_rule name) { long = Some name; action = Some SetTrue }

-- the parser's rule for an option with one value, `--name VALUE`
abbrev pub option_rule : Text → Rule
option_rule name = record (new_rule name) { long = Some name; action = Some Set; value_names = 1 }

-- the parser's rule for the names of scripts: any number of words that belong to no option, none too
abbrev pub script_rule : Rule
script_rule = record (new_rule (codes "script")) {
  action = Some Append;
  range = Some (record { start_inclusive = 0; end_inclusive = usize_max });
  value_names = 1;
}

-- the parser's rules for all words that the program may have: workers, calls, tape, replay, upgrade, keep and record
-- with one value, endless and unsynced with none, then the scripts
abbrev pub streetsim_rules : List Rule
streetsim_rules = option_rule (codes "workers") ∷ option_rule (codes "calls") ∷ option_rule (codes "tape") ∷ option_rule (codes "replay")
    ∷ option_rule (codes "upgrade") ∷ flag_rule (codes "endless")
    ∷ option_rule (codes "keep") ∷ flag_rule (codes "unsynced") ∷ option_rule (codes "record") ∷ script_rule ∷ []

-- the command with these rules behind those that it has
abbrev pub with_rules : App → List Rule → App
with_rules app rules = record app { top = record app.top { rules = app.top.rules ++ rules } }

-- the command as one that tells its version
abbrev pub with_version : App → App
with_version app = record app { top = record app.top { has_version = true } }

-- the command `streetsim`: all that the parser goes by, name, version and rules
abbrev pub streetsim_app : App
streetsim_app = with_rules (with_version (new_app (codes "streetsim"))) streetsim_rules

-- ---- what it finds

-- the rows of options and scripts that the parser finds in these words, of which the first is the program's name
abbrev pub found_in : List Text → List Row
found_in = matches_of streetsim_app

-- the kinds of error with which the parser of the command `streetsim` may refuse these words; an empty list where it
-- takes them
abbrev pub refusals_of : List Text → Kinds
refusals_of = fault_of streetsim_app

-- the names of the scripts that the parser found, in their order; none where it found none
abbrev pub scripts_in : List Row → List Text
scripts_in rows = unwrap_or (all_of (codes "script") rows) []

-- that the word is a decimal number from 1 to `most`, perhaps with a plus before it
abbrev pub IsCount : ℕ → Text → Type 0
IsCount most word = IsNumeral 10 (without_leading_plus word) × (1 ≤ digits_value 10 (without_leading_plus word))
    × (digits_value 10 (without_leading_plus word) ≤ most)

-- that the word of an option is a decimal number from 1 to `most` (`IsCount`); where the option is not used, nothing is
-- asked
abbrev pub IsCountIfSaid : ℕ → Option Text → Type 0
IsCountIfSaid most None = ⊤
IsCountIfSaid most (Some word) = IsCount most word

-- whether an option with no value was used: the parser has the word `true` for it
abbrev pub is_said : Option Text → Bool
is_said None = false
is_said (Some word) = bytes_eq word (codes "true")

-- that the words found ask for a run without a desk: with `--endless`, `--keep` or `--record`
abbrev pub SaysDeskless : List Row → Type 0
SaysDeskless rows = (is_said (first_of (codes "endless") rows) ≡ true) ⊎ IsSome (first_of (codes "keep") rows) ⊎ IsSome (first_of (codes "record") rows)

-- that what the parser found is fit: workers and calls, if said, in their ranges, at most `most_sessions` scripts; no
-- replay with tape or scripts, no upgrade with replay, tape or scripts, no run without a desk with any of these or a
-- count of calls; `--unsynced` only with `--keep`
pub record IsFit (rows : List Row) : Type 0 where
  pub workers : IsCountIfSaid most_workers (first_of (codes "workers") rows)
  pub calls : IsCountIfSaid most_calls (first_of (codes "calls") rows)
  pub scripts : length (scripts_in rows) ≤ most_sessions
  pub replay : IsSome (first_of (codes "replay") rows) → (first_of (codes "tape") rows ≡ None) × (scripts_in rows ≡ [])
  pub upgrade : IsSome (first_of (codes "upgrade") rows)
      → (first_of (codes "tape") rows ≡ None) × (first_of (codes "replay") rows ≡ None) × (scripts_in rows ≡ [])
  pub alone : SaysDeskless rows
      → (first_of (codes "calls") rows ≡ None) × (first_of (codes "tape") rows ≡ None) × (first_of (codes "replay") rows ≡ None)
      × (first_of (codes "upgrade") rows ≡ None) × (scripts_in rows ≡ [])
  pub unsynced : is_said (first_of (codes "unsynced") rows) ≡ true → IsSome (first_of (codes "keep") rows)

-- that n is the number of an option: what its word says in decimal digits, without a plus before them, or the default
-- where the option is not used
abbrev pub IsNumberOf : Option Text → ℕ → ℕ → Type 0
IsNumberOf None default n = n ≡ default
IsNumberOf (Some word) default n = n ≡ digits_value 10 (without_leading_plus word)

-- that the options are just those that the parser found, with 1 worker and 65536 calls where none are named: tape,
-- replay, upgrade, keep and record with their words, endless and unsynced if said, and the scripts
pub record IsFound (rows : List Row) (found : ProgramOptions) : Type 0 where
  pub workers : IsNumberOf (first_of (codes "workers") rows) 1 found.workers
  pub calls : IsNumberOf (first_of (codes "calls") rows) 65536 found.calls
  pub tape : option_map (λ s. s.now) found.tape ≡ first_of (codes "tape") rows
  pub replay : option_map (λ s. s.now) found.replay ≡ first_of (codes "replay") rows
  pub upgrade : option_map (λ s. s.now) found.upgrade ≡ first_of (codes "upgrade") rows
  pub endless : found.endless ≡ is_said (first_of (codes "endless") rows)
  pub keep : option_map (λ s. s.now) found.keep ≡ first_of (codes "keep") rows
  pub unsynced : found.unsynced ≡ is_said (first_of (codes "unsynced") rows)
  pub record_file : option_map (λ s. s.now) found.record_file ≡ first_of (codes "record") rows
  pub scripts : map (λ s. s.now) found.scripts.items ≡ scripts_in rows

-- that the words ask for these options: the parser takes the words, and what it finds is fit, with numbers in their
-- ranges and nothing that excludes each other, and is these options
pub record IsAsked (words : List Text) (found : ProgramOptions) : Type 0 where
  pub taken : refusals_of words ≡ []
  pub fit : IsFit (found_in words)
  pub is : IsFound (found_in words) found

-- that the fault tells of words that are bad, and then `fit` does not hold; or of memory that ran out, of which nothing
-- is asked; it never tells a help text
abbrev pub IsUnfit : Type 0 → WordsFault → Type 0
IsUnfit fit (Bad error) = fit → ⊥
IsUnfit fit (Help error) = ⊥
IsUnfit fit Starved = ⊤

-- that `fault` tells why the words ask for no options: bad, as the parser refuses them with that kind or takes them and
-- they are not fit; help, where they ask for help or the version; or memory, of which nothing is asked
abbrev pub IsRefused : List Text → WordsFault → Type 0
IsRefused words (Bad error) = IsAmong (kind_of error) (refusals_of words) ⊎ ((refusals_of words ≡ []) × (IsFit (found_in words) → ⊥))
IsRefused words (Help error) = IsAmong DisplayHelp (refusals_of words) ⊎ IsAmong DisplayVersion (refusals_of words)
IsRefused words Starved = ⊤
