-- A text of which the first bytes were written, among others.
use Rattle.std.proofs.Common.{◌≡◌, ◌<◌, ℕ, ◌+◌, List, [], ◌++◌, take, drop, get_or, length, Option, sym, ap, ◌∙◌, arith, length-append}
use Rattle.std.proofs.KnownBytes.{Appends-trans, Appends-kept}
use Rattle.std.proofs.Math.Seq.{take-append-add}
use Rattle.std.proofs.lemmas.Grind.{flat_map-append}
use Rattle.std.proofs.lemmas.List.{flat_map_more, take-append-le, take-append-drop, take_all, take_more, at_drop_more}
use Rattle.std.specs.Io.KnownBytes.{Appends, Keeps}
use Rattle.street_line.specs.declared.script.Script.{Script}
use Rattle.street_runs.specs.Outputs.{IsBegun, replies_of}

-- the script at i is the next
module _ {R : Type 0} (xs : List (Script R)) (i : ℕ) (d s : Script R) (within : i < length xs) (is : s ≡ get_or xs i d) where
  pub replies_more : replies_of (take (i + 1) xs) ≡ replies_of (take i xs) ++ s.replies.items
  replies_more =
      ap replies_of (take_more xs i d within) ∙ sym (flat_map_more (λ (t : Script R). t.replies.items) [] (take i xs) (get_or xs i d))
      ∙ ap (λ (t : Script R). replies_of (take i xs) ++ t.replies.items) (sym is)

  pub replies_rest : replies_of xs ≡ replies_of (take i xs) ++ (s.replies.items ++ replies_of (drop (i + 1) xs))
  replies_rest =
      ap replies_of (sym (take-append-drop i xs)) ∙ flat_map-append (λ (t : Script R). t.replies.items) (take i xs) (drop i xs)
      ∙ ap (λ (out : List ℕ). replies_of (take i xs) ++ out) (at_drop_more replies_of xs i d within ∙ ap (λ (t : Script R). t.replies.items ++ replies_of (drop (i + 1) xs)) (sym is))

-- what stands before a text is written, and others would have followed
pub begun_within : (before mid after : Option (List ℕ)) (done text rest : List ℕ) → Appends before mid done → IsBegun mid after text → IsBegun before after (done ++ (text ++ rest))
begun_within before mid after done text rest wrote b = record {
  sent = length done + b.sent;
  within = omega (arith, b.within, length-append done (text ++ rest), length-append text rest);
  written = rw (take-append-add done (text ++ rest) b.sent, take-append-le b.sent text rest b.within) (Appends-trans before mid after done (take b.sent text) wrote b.written);
}

-- a text that was written whole, but perhaps not passed on
pub begun_kept : (before mid after : Option (List ℕ)) (text : List ℕ) → Appends before mid text → Keeps mid after → IsBegun before after text
begun_kept before mid after text wrote kept = record {
  sent = length text;
  within = omega arith;
  written = rw (take_all (length text) text (omega arith)) (Appends-kept before mid after text wrote kept);
}
