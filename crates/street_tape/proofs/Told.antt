-- A tape says the calls that it was written of.
use Rattle.std.proofs.Common.{◌≡◌, ℕ, ◌+◌, ◌≤◌, List, [], ◌∷◌, ◌++◌, length, All, Bool, true, false, Some, Ok, refl, sym, ap, ◌∙◌, eq-eqb, le-ltb, length-append, decimal, arith}
use Rattle.std.proofs.lemmas.List.Elements.{All-nil, All-cons, All-head, All-tail}
use Rattle.std.proofs.lemmas.Fmt.{length-decimal-le_succ, length-decimal-le}
use Rattle.json.specs.Print.{escape_byte}
use Rattle.serde_json.specs.Data.{Data, depth}
use Rattle.serde_json.specs.Read.{max_depth}
use Rattle.serde_json.specs.Written.{compact_text}
use Rattle.street_desk.specs.declared.journal.Entry.{Entry}
use Rattle.street_stream.specs.Lines.{lines_of}
use Rattle.street_text.proofs.Texts.{value_read}
use Rattle.street_tape.specs.Entries.{longest_tape_line, tape_value, head_reading, entry_reading, entries_of, tape_in, tape_reading, EntryFits, TapeFits}
use Rattle.street_tape.specs.Tapes.{head_data, head_line, old_head_data, old_head_line, entry_data, entry_line, entry_lines, tape_text, old_tape_text}
use Rattle.street_tape.specs.declared.head.TapeHead.TheVariants.{Version1, Version2}
use Rattle.street_tape.proofs.EntryData.{entry_again, head_again, old_head_again, entry_plain, head_plain, old_head_plain, clear_entry, clear_head, clear_old_head, shallow_entry}
use Rattle.street_tape.proofs.Unbroken.{first_line, no_lines, text_unbroken}
use Rattle.street_text.proofs.Plain.{IsPlain, plain_read, plain_utf8}
use Rattle.street_text.specs.CommandTexts.{tells_size}
use Rattle.street_text.specs.Fits.{IsWord}

-- the value of a text that was printed
value_told : (d : Data) → IsPlain d → depth d ≤ max_depth → length (compact_text d) ≤ longest_tape_line → tape_value (compact_text d) ≡ Ok d
unfolding tape_value
value_told d plain shallow short =
    rw (le-ltb longest_tape_line (length (compact_text d)) short, value_read (compact_text d) d (plain_utf8 d plain) (plain_read d plain shallow)) refl

-- a call, which tells a size only where sizes are read
pub entry_told : (sized : Bool) (e : Entry) → EntryFits e → (tells_size e.command ≡ true → sized ≡ true) → entry_reading sized (compact_text (entry_data e)) ≡ Ok e
unfolding entry_reading
entry_told sized e h told = rw (value_told (entry_data e) (entry_plain e h) (shallow_entry e) h.line, entry_again sized e h.part told) refl

-- ---- the first line

head_short : (calls : ℕ) → IsWord calls → length (compact_text (head_data calls)) ≤ longest_tape_line
unfolding escape_byte
head_short calls h =
    let rest : List ℕ = 44 ∷ 34 ∷ 116 ∷ 97 ∷ 112 ∷ 101 ∷ 34 ∷ 58 ∷ (decimal 2 ++ 125 ∷ []) in
    let digits = length-decimal-le 20 calls (omega arith) (omega (arith, h)) h in
    omega (arith, length-append (decimal calls) rest, digits, length-append (decimal 2) (125 ∷ []), length-decimal-le_succ 2 (omega arith))

pub head_told : (calls : ℕ) → IsWord calls → head_reading (compact_text (head_data calls)) ≡ Ok (Version2 calls)
unfolding head_reading
head_told calls h = rw (value_told (head_data calls) (head_plain calls h) (omega arith) (head_short calls h), head_again calls) refl

old_head_short : length (compact_text old_head_data) ≤ longest_tape_line
unfolding escape_byte
old_head_short = omega (arith, length-append (decimal 1) (125 ∷ []), length-decimal-le_succ 1 (omega arith))

pub old_head_told : head_reading (compact_text old_head_data) ≡ Ok Version1
unfolding head_reading
old_head_told = rw (value_told old_head_data old_head_plain (omega arith) old_head_short, old_head_again) refl

-- its text is the line without its end
pub head_first : (calls : ℕ) → IsWord calls → (rest : List ℕ) → lines_of (head_line calls ++ rest) ≡ compact_text (head_data calls) ∷ lines_of rest
unfolding head_line
head_first calls h rest = first_line (compact_text (head_data calls)) rest (text_unbroken (head_data calls) (head_plain calls h) (clear_head calls))

pub old_head_first : (rest : List ℕ) → lines_of (old_head_line ++ rest) ≡ compact_text old_head_data ∷ lines_of rest
unfolding old_head_line
old_head_first rest = first_line (compact_text old_head_data) rest (text_unbroken old_head_data old_head_plain clear_old_head)

-- ---- all lines

pub entry_first : (e : Entry) → EntryFits e → (rest : List ℕ) → lines_of (entry_line e ++ rest) ≡ compact_text (entry_data e) ∷ lines_of rest
unfolding entry_line
entry_first e h rest = first_line (compact_text (entry_data e)) rest (text_unbroken (entry_data e) (entry_plain e h) (clear_entry e))

-- sizes are read, or none is told
abbrev pub MayTell : Bool → Entry → Type 0
MayTell sized e = tells_size e.command ≡ true → sized ≡ true

pub entries_told : (sized : Bool) (es : List Entry) → All EntryFits es → All (MayTell sized) es → entries_of sized (lines_of (entry_lines es)) ≡ Some es
entries_told sized [] h t = ap (entries_of sized) no_lines
entries_told sized (e ∷ es) h t =
    let fits = All-head EntryFits e es h in
    ap (entries_of sized) (entry_first e fits (entry_lines es))
    ∙ rw (entry_told sized e fits (All-head (MayTell sized) e es t), entries_told sized es (All-tail EntryFits e es h) (All-tail (MayTell sized) e es t)) refl

-- as many as the calls
pub entries_count : (es : List Entry) → All EntryFits es → length (lines_of (entry_lines es)) ≡ length es
entries_count [] h = ap length no_lines
entries_count (e ∷ es) h =
    let first = entry_first e (All-head EntryFits e es h) (entry_lines es) in
    let rest = entries_count es (All-tail EntryFits e es h) in
    omega (arith, ap length first, rest)

all_may : (es : List Entry) → All (MayTell true) es
all_may [] = All-nil (MayTell true)
all_may (e ∷ es) = All-cons (MayTell true) e es (λ told. refl) (all_may es)

none_tells : (es : List Entry) → All (λ e. tells_size e.command ≡ false) es → All (MayTell false) es
none_tells [] h = All-nil (MayTell false)
none_tells (e ∷ es) h =
    let untold = All-head (λ (x : Entry). tells_size x.command ≡ false) e es h in
    All-cons (MayTell false) e es (λ told. sym untold ∙ told) (none_tells es (All-tail (λ (x : Entry). tells_size x.command ≡ false) e es h))

pub tape_told : (es : List Entry) → TapeFits es → tape_reading (tape_text es) ≡ Some es
tape_told es h =
    ap tape_in (head_first (length es) h.few (entry_lines es))
    ∙ rw (head_told (length es) h.few, entries_count es h.each, eq-eqb (length es) (length es) refl, entries_told true es h.each (all_may es)) refl

pub old_tape_told : (es : List Entry) → All EntryFits es → All (λ e. tells_size e.command ≡ false) es → tape_reading (old_tape_text es) ≡ Some es
old_tape_told es h untold =
    ap tape_in (old_head_first (entry_lines es)) ∙ rw (old_head_told, entries_told false es h (none_tells es untold)) refl
