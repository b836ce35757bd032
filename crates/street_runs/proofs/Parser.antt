-- What the parser reads of the command, and what it finds, as rows.
use Rattle.std.proofs.Common.{Bool, IfErr, Ok, Err, Result, inl, inr, ◌≡◌, ◌∙◌, ◌≤◌, suc, List, [], ◌∷◌, Option, None, Some, All, IsSome, false, true, length, map, codes, is_some, option_map, true≢false, unwrap_or, vec_len, refl, sym, ap, subst, arith, append_assoc, append-nil}
use Rattle.std.specs.Borrow.{Bor}
use Rattle.clap.proofs.OnLiterals.{clap_on_literals}
use Rattle.clap.specs.Words.{AddsArg, AddsInTurn, App, FailsBy, HasKind, HasMatchesOf, IsAmong, Row, Rule, Text, app_of, fault_of, first_of, first_value, found_of, is_simple, kind_of, is_simple_and_free, matched_of, matches_of, raw_values, rows_of, rule_of}
use Rattle.clap.proofs.WalkLemmas.{first_value-rows, raw_values-rows}
use Rattle.clap.specs.declared.error.Error.{Error}
use Rattle.clap.specs.declared.error.kind.ErrorKind.{ErrorKind}
use Rattle.clap.specs.declared.error.kind.ErrorKind.TheVariants.{DisplayHelp, DisplayVersion, OutOfMemory}
use Rattle.clap.specs.declared.builder.arg.Arg.{Arg}
use Rattle.clap.specs.declared.builder.command.Command.{Command}
use Rattle.clap.specs.declared.parser.matches.ArgMatches.{ArgMatches}
use Rattle.street_base.specs.Prelude.{most_calls, most_sessions, most_workers}
use Rattle.street_runs.specs.declared.words.ProgramOptions.{ProgramOptions}
use Rattle.street_runs.specs.declared.words.WordsFault.{WordsFault}
use Rattle.street_runs.specs.declared.words.WordsFault.TheVariants.{Bad, Help, Starved}
use Rattle.street_runs.specs.Parser.{IsCountIfSaid, IsFit, IsFound, IsNumberOf, IsRefused, IsUnfit, SaysDeskless, found_in, is_said, refusals_of, scripts_in, streetsim_app, with_rules}
use Rattle.street_runs.specs.Words.{IsDeskless, StandsAlone, StandsTogether, TellsBad, ToldOf}

-- a command to which arguments are added in turn has their rules behind its own
pub rules_in_turn : (old : Command) (args : List Arg) (new : Command) → AddsInTurn AddsArg old args new → All (λ a. a.global ≡ false) args
    → app_of new ≡ with_rules (app_of old) (map rule_of args)
rules_in_turn old [] new same local = ap app_of (sym same) ∙ ap (λ (rules : List Rule). record (app_of old) { top = record (app_of old).top { rules = rules } }) (sym (append-nil (app_of old).top.rules))
rules_in_turn old (a ∷ args) new (m, adds, more) local =
    rules_in_turn m args new more (λ k d within. local (suc k) d (omega (arith, within)))
    ∙ ap (λ (app : App). with_rules app (map rule_of args)) (adds.shape (local 0 a (omega arith)))
    ∙ ap (λ (rules : List Rule). record (app_of old) { top = record (app_of old).top { rules = rules } }) (append_assoc (app_of old).top.rules (rule_of a ∷ []) (map rule_of args))

-- ---- options and rows

some_back : (o : Option (Bor Text)) → IsSome (option_map (λ s. s.now) o) → IsSome o
some_back None h = h
some_back (Some x) h = refl

some_there : (o : Option (Bor Text)) → IsSome o → IsSome (option_map (λ s. s.now) o)
some_there None h = h
some_there (Some x) h = refl

none_back : (o : Option (Bor Text)) → option_map (λ s. s.now) o ≡ None → o ≡ None
none_back None e = refl
none_back (Some x) e = absurd (true≢false (ap is_some e))

length_of_texts : (xs : List (Bor Text)) → length (map (λ s. s.now) xs) ≡ length xs
length_of_texts [] = refl
length_of_texts (x ∷ xs) = ap suc (length_of_texts xs)

none_of_texts : (xs : List (Bor Text)) → length xs ≡ 0 → map (λ s. s.now) xs ≡ []
none_of_texts [] e = refl
none_of_texts (x ∷ xs) e = absurd (omega arith)

-- what the getters give is what the rows say
pub first_row : (matches : ArgMatches) (name : Text) (value : Option Text) → value ≡ first_value (found_of matches) name
    → value ≡ first_of name (rows_of (found_of matches))
first_row matches name value is = is ∙ first_value-rows (found_of matches) name

pub found_rows : (matches : ArgMatches) (found : ProgramOptions) → IsNumberOf (first_of (codes "workers") (rows_of (found_of matches))) 1 found.workers
    → IsNumberOf (first_of (codes "calls") (rows_of (found_of matches))) 65536 found.calls
    → option_map (λ s. s.now) found.tape ≡ first_value (found_of matches) (codes "tape")
    → option_map (λ s. s.now) found.replay ≡ first_value (found_of matches) (codes "replay")
    → option_map (λ s. s.now) found.upgrade ≡ first_value (found_of matches) (codes "upgrade")
    → found.endless ≡ is_said (first_of (codes "endless") (rows_of (found_of matches)))
    → option_map (λ s. s.now) found.keep ≡ first_value (found_of matches) (codes "keep")
    → found.unsynced ≡ is_said (first_of (codes "unsynced") (rows_of (found_of matches)))
    → option_map (λ s. s.now) found.record_file ≡ first_value (found_of matches) (codes "record")
    → map (λ s. s.now) found.scripts.items ≡ unwrap_or (option_map raw_values (matched_of (found_of matches) (codes "script"))) []
    → IsFound (rows_of (found_of matches)) found
found_rows matches found workers calls tape replay upgrade endless keep unsynced recorded scripts = record {
  workers = workers;
  calls = calls;
  tape = first_row matches (codes "tape") _ tape;
  replay = first_row matches (codes "replay") _ replay;
  upgrade = first_row matches (codes "upgrade") _ upgrade;
  endless = endless;
  keep = first_row matches (codes "keep") _ keep;
  unsynced = unsynced;
  record_file = first_row matches (codes "record") _ recorded;
  scripts = scripts ∙ ap (λ (o : Option (List Text)). unwrap_or o []) (raw_values-rows (found_of matches) (codes "script"));
}

-- an option that no word says is in no row
pub unsaid : (matches : ArgMatches) (name : Text) (word : Option (Bor Text)) (says : Bool) → option_map (λ s. s.now) word ≡ first_value (found_of matches) name
    → says ≡ is_some word → says ≡ false → first_of name (rows_of (found_of matches)) ≡ None
unsaid matches name None says is asks quiet = sym (first_row matches name _ is)
unsaid matches name (Some x) says is asks quiet = absurd (true≢false (sym asks ∙ quiet))

-- and one that is in no row is said by none
pub silent : (matches : ArgMatches) (name : Text) (word : Option (Bor Text)) (says : Bool) → option_map (λ s. s.now) word ≡ first_value (found_of matches) name
    → says ≡ is_some word → first_of name (rows_of (found_of matches)) ≡ None → says ≡ false
silent matches name None says is asks none = asks
silent matches name (Some x) says is asks none = absurd (true≢false (ap is_some (first_row matches name _ is ∙ none)))

-- the rows tell that there is no desk where the options do
rows_deskless : (rows : List Row) (found : ProgramOptions) → IsFound rows found → IsDeskless found → SaysDeskless rows
rows_deskless rows found is (inl endless) = inl (sym is.endless ∙ endless)
rows_deskless rows found is (inr (inl keep)) = inr (inl (subst IsSome is.keep (some_there found.keep keep)))
rows_deskless rows found is (inr (inr recorded)) = inr (inr (subst IsSome is.record_file (some_there found.record_file recorded)))

found_deskless : (rows : List Row) (found : ProgramOptions) → IsFound rows found → SaysDeskless rows → IsDeskless found
found_deskless rows found is (inl endless) = inl (is.endless ∙ endless)
found_deskless rows found is (inr (inl keep)) = inr (inl (some_back found.keep (subst IsSome (sym is.keep) keep)))
found_deskless rows found is (inr (inr recorded)) = inr (inr (some_back found.record_file (subst IsSome (sym is.record_file) recorded)))

-- without a desk no word says how many calls there are
pub unsaid_calls : (rows : List Row) (found : ProgramOptions) → IsFound rows found → IsFit rows → IsDeskless found → first_of (codes "calls") rows ≡ None
unsaid_calls rows found is fits none = (fits.alone (rows_deskless rows found is none)).0

-- words that are told bad are not fit
pub bad_unfit : (kind : ErrorKind) (fault : WordsFault) (fit : Type 0) → TellsBad kind fault → (fit → ⊥) → IsUnfit fit fault
bad_unfit kind (Bad error) fit bad unfit = unfit
bad_unfit kind (Help error) fit bad unfit = bad
bad_unfit kind Starved fit bad unfit = tt

-- options that stand together are found in fit words
pub fit : (rows : List Row) (found : ProgramOptions) → vec_len found.scripts ≡ length found.scripts.items → IsFound rows found
    → IsCountIfSaid most_workers (first_of (codes "workers") rows) → IsCountIfSaid most_calls (first_of (codes "calls") rows)
    → StandsTogether found → StandsAlone found → vec_len found.scripts ≤ most_sessions → (IsDeskless found → first_of (codes "calls") rows ≡ None) → IsFit rows
fit rows found whole is workers calls together alone few unsaid =
    let many : length (scripts_in rows) ≡ vec_len found.scripts = sym (ap length is.scripts) ∙ length_of_texts found.scripts.items ∙ sym whole in
    let none : vec_len found.scripts ≡ 0 → scripts_in rows ≡ [] = λ e. sym is.scripts ∙ none_of_texts found.scripts.items (sym whole ∙ e) in
    record {
      workers = workers;
      calls = calls;
      scripts = omega (arith, many, few);
      replay = λ some. let only = together.replay (some_back found.replay (subst IsSome (sym is.replay) some)) in
          (sym is.tape ∙ ap (option_map (λ s. s.now)) only.0, none only.1);
      upgrade = λ some. let only = together.upgrade (some_back found.upgrade (subst IsSome (sym is.upgrade) some)) in
          (sym is.tape ∙ ap (option_map (λ s. s.now)) only.0, sym is.replay ∙ ap (option_map (λ s. s.now)) only.1, none only.2);
      alone = λ said. let deskless = found_deskless rows found is said in
          let only = alone.alone deskless in (
            unsaid deskless,
            sym is.tape ∙ ap (option_map (λ s. s.now)) only.0,
            sym is.replay ∙ ap (option_map (λ s. s.now)) only.1,
            sym is.upgrade ∙ ap (option_map (λ s. s.now)) only.2,
            none only.3,
          );
      unsynced = λ said. subst IsSome is.keep (some_there found.keep (alone.unsynced (is.unsynced ∙ said)));
    }

-- and options that are found in fit words stand together
pub stands : (rows : List Row) (found : ProgramOptions) → vec_len found.scripts ≡ length found.scripts.items → IsFound rows found → IsFit rows → StandsTogether found
stands rows found whole is fits =
    let none : scripts_in rows ≡ [] → vec_len found.scripts ≡ 0 = λ e. whole ∙ sym (length_of_texts found.scripts.items) ∙ ap length (is.scripts ∙ e) in
    record {
      replay = λ some. let only = fits.replay (subst IsSome is.replay (some_there found.replay some)) in
          (none_back found.tape (is.tape ∙ only.0), none only.1);
      upgrade = λ some. let only = fits.upgrade (subst IsSome is.upgrade (some_there found.upgrade some)) in
          (none_back found.tape (is.tape ∙ only.0), none_back found.replay (is.replay ∙ only.1), none only.2);
    }

pub stands_alone : (rows : List Row) (found : ProgramOptions) → vec_len found.scripts ≡ length found.scripts.items → IsFound rows found → IsFit rows → StandsAlone found
stands_alone rows found whole is fits =
    let none : scripts_in rows ≡ [] → vec_len found.scripts ≡ 0 = λ e. whole ∙ sym (length_of_texts found.scripts.items) ∙ ap length (is.scripts ∙ e) in
    record {
      alone = λ deskless. let only = fits.alone (rows_deskless rows found is deskless) in (
        none_back found.tape (is.tape ∙ only.1),
        none_back found.replay (is.replay ∙ only.2),
        none_back found.upgrade (is.upgrade ∙ only.3),
        none only.4,
      );
      unsynced = λ said. some_back found.keep (subst IsSome (sym is.keep) (fits.unsynced (sym is.unsynced ∙ said)));
    }

pub few : (rows : List Row) (found : ProgramOptions) → vec_len found.scripts ≡ length found.scripts.items → IsFound rows found → IsFit rows → vec_len found.scripts ≤ most_sessions
few rows found whole is fits = omega (arith, whole, length_of_texts found.scripts.items, ap length is.scripts, fits.scripts)

-- ---- a parse

plain : is_simple streetsim_app ≡ true
unfolding clap_on_literals
plain = refl

free : is_simple_and_free streetsim_app ≡ true
unfolding clap_on_literals
free = refl

-- the parser's rules speak of the command
pub found : (app : App) (words : List Text) (matches : ArgMatches) → app ≡ streetsim_app → HasMatchesOf app words matches → rows_of (found_of matches) ≡ found_in words
found app words matches is has = (has (ap is_simple is ∙ plain)).0 ∙ ap (λ (a : App). matches_of a words) is

pub refused : (app : App) (words : List Text) (parse : Result ArgMatches Error) → app ≡ streetsim_app
    → (is_simple_and_free app ≡ true → FailsBy (fault_of app words) parse) → FailsBy (refusals_of words) parse
refused app words parse is fails = subst (λ (a : App). FailsBy (fault_of a words) parse) is (fails (ap is_simple_and_free is ∙ free))

unfit_refused : (words : List Text) (rows : List Row) (fault : WordsFault) → refusals_of words ≡ [] → rows ≡ found_in words
    → IsUnfit (IsFit rows) fault → IsRefused words fault
unfit_refused words rows (Bad error) taken same unfit = inr (taken, λ fits. unfit (subst IsFit (sym same) fits))
unfit_refused words rows (Help error) taken same unfit = absurd unfit
unfit_refused words rows Starved taken same unfit = tt

pub options_refused : (words : List Text) (rows : List Row) (result : Result ProgramOptions WordsFault) → refusals_of words ≡ [] → rows ≡ found_in words
    → IfErr result (IsUnfit (IsFit rows)) → IfErr result (IsRefused words)
options_refused words rows (Ok options) taken same unfit = tt
options_refused words rows (Err fault) taken same unfit = unfit_refused words rows fault taken same unfit

-- what the parser refuses is told so
pub told_refused : (words : List Text) (error : Error) (fault : WordsFault) → ToldOf error fault → HasKind (refusals_of words) error → IsRefused words fault
told_refused words error (Bad text) told (inl memory) = absurd (told.3 memory)
told_refused words error (Bad text) told (inr among) = inl (subst (λ (e : Error). IsAmong (kind_of e) (refusals_of words)) (sym told.0) among)
told_refused words error (Help text) (same, inl help) (inl memory) = absurd (other_kinds (sym help ∙ memory))
  where
    other_kinds : DisplayHelp ≡ OutOfMemory → ⊥
    other_kinds e = absurd (cc)
told_refused words error (Help text) (same, inl help) (inr among) = inl (subst (λ (k : ErrorKind). IsAmong k (refusals_of words)) help among)
told_refused words error (Help text) (same, inr version) (inl memory) = absurd (other_kinds (sym version ∙ memory))
  where
    other_kinds : DisplayVersion ≡ OutOfMemory → ⊥
    other_kinds e = absurd (cc)
told_refused words error (Help text) (same, inr version) (inr among) = inr (subst (λ (k : ErrorKind). IsAmong k (refusals_of words)) version among)
told_refused words error Starved told kind = tt
