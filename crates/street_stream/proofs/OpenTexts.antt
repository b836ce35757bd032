-- A text that goes on from a line that has not ended.
use Rattle.std.proofs.Common.{◌≡◌, ◌∙◌, ℕ, List, [], ◌∷◌, ◌++◌, Option, inl, inr, refl, sym, ap, subst, append-nil, append_assoc}
use Rattle.std.specs.Bool.{⊤}
use Rattle.std.proofs.KnownBytes.{Appends-nil}
use Rattle.street_stream.proofs.CutParts.{cut_alone}
use Rattle.street_stream.proofs.Cut.{cut_more, cut_newline}
use Rattle.street_stream.specs.HandledLines.{Effect, Meaning, Handles, IsNext, IsTally, EndsLine, Breaks}
use Rattle.street_stream.specs.OpenTexts.{HaltsAtEnd, HaltsIn}
use Rattle.street_stream.specs.declared.answer.StopCause.{StopCause}
use Rattle.street_stream.specs.declared.answer.StopCause.TheVariants.{Run, Line}
use Rattle.street_stream.specs.declared.tally.Tally.{Tally}
use Rattle.street_stream.specs.Lines.{cut, if_any, lines_of, IsInsideLine, IsPart}
use Rattle.street_stream.specs.Progress.{Stands}
use Rattle.street_stream.specs.declared.driver.Progress.{Progress}

pub opened : {S : Type 0} (takes : S → List ℕ → Effect → S → Type 0) (longest : ℕ) (s : S) (w : Option (List ℕ)) (line : List ℕ) (p : Progress)
    → IsPart longest p.part line → IsInsideLine line → IsTally p.tally [] [] → Stands takes longest s w line s w p
opened takes longest s w line p part inside none = rw (cut_alone line inside) ([], (refl, refl), Appends-nil w, part, none)

-- lines of which the last has ended are the first of the text
ended_lines : (text first rest : List ℕ) (done : List (List ℕ)) (line : List ℕ) → text ≡ first ++ rest → EndsLine first rest ⊥ → lines_of first ≡ done ++ line ∷ []
    → (more : List (List ℕ)) × ((cut text).0 ≡ done ++ line ∷ more)
ended_lines text first rest done line split (inr last) is = absurd last.1
ended_lines text first rest done line split (inl front) is =
    let whole : lines_of first ≡ (cut first).0 = rw (front.1, cut_newline front.0) (append-nil _) in
    let more = cut_more first rest in
    (more.0, ap (λ (t : List ℕ). (cut t).0) split ∙ more.1 ∙ ap (λ (ls : List (List ℕ)). ls ++ more.0) (sym whole ∙ is) ∙ append_assoc done (line ∷ []) more.0)

pub halts_in : {S Stop : Type 0} (meaning : Meaning S Stop) (start : S) (before : Option (List ℕ)) (text : List ℕ) (now : S) (after : Option (List ℕ)) (cause : StopCause Stop) (tally : Tally)
    → Breaks meaning.takes meaning.stops ⊥ start before text now after cause tally → HaltsIn meaning start text now cause tally
halts_in {S} meaning start before text now after (Run kind) tally h =
    let leaves = h.leaves in
    (h.done, h.rest, h.effects, h.first_lines, subst (λ (s : S). Handles meaning.takes start h.done h.effects s) (sym leaves.0) h.handled, leaves.1)
halts_in meaning start before text now after (Line stop) tally h =
    let leaves = h.leaves in
    let next = leaves.1 in
    let more = ended_lines text next.first next.rest h.done leaves.0 next.split next.ended next.lines in
    (h.done, leaves.0, more.0, h.effects, h.mid, more.1, h.handled, leaves.2, leaves.3)

alone_empty : (next : List ℕ) (done : List (List ℕ)) → [] ≡ done ++ next ∷ [] → ⊥
alone_empty next [] is = cc
alone_empty next (d ∷ ds) is = cc

alone_more : (next : List ℕ) (done more : List (List ℕ)) → [] ≡ (done ++ next ∷ []) ++ more → ⊥
alone_more next [] more is = cc
alone_more next (d ∷ ds) more is = cc

-- where one line is all, and another is its last, they are the same
alone_last : (line next : List ℕ) (done : List (List ℕ)) → line ∷ [] ≡ done ++ next ∷ [] → (done ≡ []) × (next ≡ line)
alone_last line next [] is = (refl, cc)
alone_last line next (d ∷ ds) is =
    let none : [] ≡ ds ++ next ∷ [] = cc in
    absurd (alone_empty next ds none)

if_alone : (line next : List ℕ) (done : List (List ℕ)) → if_any line ≡ done ++ next ∷ [] → (done ≡ []) × (next ≡ line) × (if_any line ≡ line ∷ [])
if_alone [] next done is = absurd (alone_empty next done is)
if_alone (x ∷ xs) next done is = let same = alone_last (x ∷ xs) next done is in (same.0, same.1, refl)

-- a line that ended with LF is not inside a line
no_end : (front rest line : List ℕ) → line ≡ (front ++ 10 ∷ []) ++ rest → IsInsideLine line → ⊥
no_end front rest line split inside =
    let cut_short : (cut line).0 ≡ [] = ap (λ p. p.0) (cut_alone line inside) in
    let more = cut_more (front ++ 10 ∷ []) rest in
    let ended : (cut line).0 ≡ ((cut front).0 ++ (cut front).1 ∷ []) ++ more.0 = ap (λ (t : List ℕ). (cut t).0) split ∙ more.1 ∙ ap (λ (p : List (List ℕ) × List ℕ). p.0 ++ more.0) (cut_newline front) in
    alone_more (cut front).1 (cut front).0 more.0 (sym cut_short ∙ ended)

last_alone : {S Stop : Type 0} (meaning : Meaning S Stop) (line : List ℕ) (done : List (List ℕ)) (next : List ℕ) → IsInsideLine line → IsNext ⊤ line done next
    → (done ≡ []) × (next ≡ line) × (if_any line ≡ line ∷ [])
last_alone meaning line done next inside is = elim is.ended [
  | inl front ↦ absurd (no_end front.0 is.rest line (is.split ∙ ap (λ (t : List ℕ). t ++ is.rest) front.1) inside)
  | inr over ↦
      let whole : line ≡ is.first = is.split ∙ ap (λ (t : List ℕ). is.first ++ t) over.0 ∙ append-nil is.first in
      let lines : if_any line ≡ lines_of line = sym (ap (λ p. p.0 ++ if_any p.1) (cut_alone line inside)) in
      if_alone line next done (lines ∙ ap lines_of whole ∙ is.lines)
]

-- a line that ends the text, stopped early
pub halts_at_end : {S Stop : Type 0} (meaning : Meaning S Stop) (start : S) (before : Option (List ℕ)) (line : List ℕ) (now : S) (after : Option (List ℕ)) (cause : StopCause Stop) (tally : Tally)
    → IsInsideLine line → Breaks meaning.takes meaning.stops ⊤ start before line now after cause tally → HaltsAtEnd meaning start line now cause tally
halts_at_end {S} meaning start before line now after (Run kind) tally inside h =
    let leaves = h.leaves in
    let lines : if_any line ≡ lines_of line = sym (ap (λ p. p.0 ++ if_any p.1) (cut_alone line inside)) in
    (h.done, h.rest, h.effects, lines ∙ h.first_lines, subst (λ (s : S). Handles meaning.takes start h.done h.effects s) (sym leaves.0) h.handled, leaves.1)
halts_at_end meaning start before line now after (Line stop) tally inside h =
    let leaves = h.leaves in
    let alone = last_alone meaning line h.done leaves.0 inside leaves.1 in
    let begun : h.mid ≡ start = (rw alone.0 at h.handled).0 in
    (alone.2, rw (← begun, ← alone.1) leaves.2, rw alone.0 at leaves.3)
