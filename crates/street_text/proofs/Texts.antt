-- Which value a line has.
use Rattle.std.proofs.Common.{◌≡◌, ℕ, ◌≤◌, List, ◌∷◌, ap, codes, length, Bool, true, false, if◌then◌else◌, Option, Some, None, Ok, refl, le-ltb, bytes_eq, IsUtf8}
use Rattle.std.specs.Str.{is_utf8}
use Rattle.std.proofs.lemmas.Slice.Eq.{bytes_eq-Decides}
use Rattle.std.proofs.lemmas.Str.{is_utf8-from_IsUtf8, IsUtf8-from_is_utf8}
use Rattle.serde_json.specs.Data.{Data}
use Rattle.serde_json.specs.Find.{as_str}
use Rattle.serde_json.specs.Read.{read}
use Rattle.street_base.specs.declared.command.Command.{Command}
use Rattle.street_text.specs.LineCommands.{value_of, command_in, command_or_fault, field, load_in, named, named_in, number_names, or_fault, reading, signal_in, longest_line}
use Rattle.street_text.specs.declared.fault.LineFault.TheVariants.{BadCommand}

pub value_read : (line : List ℕ) (d : Data) → IsUtf8 line → read line ≡ Some d → value_of line ≡ Some d
unfolding value_of
value_read line d utf8 e = rw (is_utf8-from_IsUtf8 line utf8) e

refused : (b : Bool) (o : Option Data) → (b ≡ true → o ≡ None) → (if b then o else None) ≡ None
refused true o h = h refl
refused false o h = refl

pub value_refused : (line : List ℕ) → (IsUtf8 line → read line ≡ None) → value_of line ≡ None
unfolding value_of
value_refused line h = refused (is_utf8 line) (read line) (λ e. h (IsUtf8-from_is_utf8 line e))

-- a line whose value is a command
pub command_read : (line : List ℕ) (d : Data) (c : Command) → length line ≤ longest_line → IsUtf8 line → read line ≡ Some d → command_in true d ≡ Some c → reading line ≡ Ok c
unfolding reading
command_read line d c short utf8 e is = rw (le-ltb longest_line (length line) short, value_read line d utf8 e, is) refl

skipped : (b : Bool) (x y : Option Command) (c : Command) → (b ≡ true → y ≡ None) → y ≡ Some c → (if b then x else y) ≡ Some c
skipped true x y c none e = let never = none refl in absurd (cc)
skipped false x y c none e = e

-- a command of numbers has another name than a network and a signal
number_named : (name : List ℕ) (d : Data) (c : Command) → named_in (number_names true) name d ≡ Some c → named true name d ≡ Some c
unfolding named
number_named name d c e =
    let signal = skipped (bytes_eq name (codes "signal")) (signal_in d) (named_in (number_names true) name d) c (λ is. rw ((bytes_eq-Decides name (codes "signal")).0 is) refl) e in
    skipped (bytes_eq name (codes "load")) (load_in d) (named_in ((codes "signal", signal_in) ∷ number_names true) name d) c (λ is. rw ((bytes_eq-Decides name (codes "load")).0 is) refl) signal

given : (o : Option Command) (c : Command) → or_fault BadCommand o ≡ Ok c → o ≡ Some c
given None c e = absurd (cc)
given (Some x) c e = let same : x ≡ c = cc in ap Some same

-- a line that says a command of numbers
pub number_command : (line : List ℕ) (d : Data) (name : List ℕ) (c : Command) → value_of line ≡ Some d → field as_str (codes "cmd") d ≡ Some name
    → or_fault BadCommand (named_in (number_names true) name d) ≡ Ok c → command_or_fault (value_of line) ≡ Ok c
unfolding command_in
number_command line d name c e text is = rw (e, text, number_named name d c (given _ c is)) refl

pub command_given : (line : List ℕ) (c : Command) → length line ≤ longest_line → command_or_fault (value_of line) ≡ Ok c → reading line ≡ Ok c
unfolding reading
command_given line c short e = rw (le-ltb longest_line (length line) short) e
