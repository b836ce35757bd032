-- A tape that is written line by line.
use Rattle.std.proofs.Common.{◌≡◌, ℕ, ◌+◌, List, [], ◌∷◌, ◌++◌, take, drop, get_or, length, Option, Some, refl, sym, ap, subst, ◌∙◌, append_assoc, append-nil, length-append, arith, slice_get}
use Rattle.std.proofs.KnownBytes.{Appends-nil, Appends-trans, Appends-kept}
use Rattle.std.proofs.Math.Seq.{take-append-add, take-length}
use Rattle.std.proofs.lemmas.List.{take_more, take-append-drop, take-append-le}
use Rattle.std.proofs.lemmas.Option.{get_or_from_slice_get, slice_get_within}
use Rattle.std.specs.Io.KnownBytes.{Appends, Keeps}
use Rattle.street_desk.specs.declared.journal.Entry.{Entry}
use Rattle.street_tape.specs.Tapes.{entry_line, entry_lines}
use Rattle.street_tape.specs.Written.{IsPrefix}

-- ---- lines

pub lines_append : (xs ys : List Entry) → entry_lines (xs ++ ys) ≡ entry_lines xs ++ entry_lines ys
lines_append [] ys = refl
lines_append (x ∷ xs) ys = ap (λ (t : List ℕ). entry_line x ++ t) (lines_append xs ys) ∙ sym (append_assoc (entry_line x) (entry_lines xs) (entry_lines ys))

-- one line more
pub lines_more : (es : List Entry) (i : ℕ) (e : Entry) → slice_get es i ≡ Some e → entry_lines (take (i + 1) es) ≡ entry_lines (take i es) ++ entry_line e
lines_more es i e h =
    let more : take (i + 1) es ≡ take i es ++ get_or es i e ∷ [] = take_more es i e (slice_get_within es i e h) in
    rw (more, get_or_from_slice_get es i e e h) (lines_append (take i es) (e ∷ []) ∙ ap (λ (t : List ℕ). entry_lines (take i es) ++ t) (append-nil (entry_line e)))

-- the lines from one on
lines_split : (es : List Entry) (i : ℕ) → entry_lines es ≡ entry_lines (take i es) ++ entry_lines (drop i es)
lines_split es i = ap entry_lines (sym (take-append-drop i es)) ∙ lines_append (take i es) (drop i es)

-- ---- what is written of it

pub prefix_none : (w : Option (List ℕ)) (n : ℕ) (text : List ℕ) → IsPrefix w n text w n
prefix_none w n text = record { sent = 0; within = omega arith; written = Appends-nil w; counted = omega arith }

-- some bytes were written before
pub prefix_after : (u v w : Option (List ℕ)) (old mid new : ℕ) (a b c : List ℕ) → Appends u v a → mid ≡ old + length a → IsPrefix v mid b w new → IsPrefix u old (a ++ (b ++ c)) w new
prefix_after u v w old mid new a b c wrote counted p =
    let within = p.within in
    let sent : take (length a + p.sent) (a ++ (b ++ c)) ≡ a ++ take p.sent b = take-append-add a (b ++ c) p.sent ∙ ap (λ (t : List ℕ). a ++ t) (take-append-le p.sent b c within) in
    record {
      sent = length a + p.sent;
      within = omega (arith, length-append a (b ++ c), length-append b c);
      written = rw sent (Appends-trans u v w a (take p.sent b) wrote p.written);
      counted = omega (arith, p.counted);
    }

-- all was written
pub prefix_whole : (u v w : Option (List ℕ)) (new : ℕ) (text : List ℕ) → Appends u v text → Keeps v w → new ≡ length text → IsPrefix u 0 text w new
prefix_whole u v w new text wrote keeps counted = record {
  sent = length text;
  within = omega arith;
  written = rw (take-length text) (Appends-kept u v w text wrote keeps);
  counted = omega arith;
}

-- of two texts the first was written, and of the second the first bytes
pub prefix_second : (u v w : Option (List ℕ)) (mid new : ℕ) (a b : List ℕ) → Appends u v a → mid ≡ length a → IsPrefix v mid b w new → IsPrefix u 0 (a ++ b) w new
prefix_second u v w mid new a b wrote counted p =
    subst (λ (t : List ℕ). IsPrefix u 0 (a ++ t) w new) (append-nil b) (prefix_after u v w 0 mid new a b [] wrote (omega arith) p)

-- a call more, or the first bytes of its line
pub prefix_line : (u v w : Option (List ℕ)) (mid new : ℕ) (head : List ℕ) (es : List Entry) (i : ℕ) (e : Entry) → slice_get es i ≡ Some e
    → Appends u v (head ++ entry_lines (take i es)) → mid ≡ length (head ++ entry_lines (take i es)) → IsPrefix v mid (entry_line e) w new → IsPrefix u 0 (head ++ entry_lines es) w new
prefix_line u v w mid new head es i e h wrote counted p =
    let before : List ℕ = entry_lines (take i es) in
    let after : List ℕ = entry_lines (drop (i + 1) es) in
    let lines : entry_lines es ≡ (before ++ entry_line e) ++ after = lines_split es (i + 1) ∙ ap (λ (t : List ℕ). t ++ after) (lines_more es i e h) in
    let whole : head ++ entry_lines es ≡ (head ++ before) ++ (entry_line e ++ after) =
    ap (λ (t : List ℕ). head ++ t) (lines ∙ append_assoc before (entry_line e) after) ∙ sym (append_assoc head before (entry_line e ++ after))
    in
    rw whole (prefix_after u v w 0 mid new (head ++ before) (entry_line e) after wrote (omega arith) p)
