-- The lines that a file has.
use Rattle.std.proofs.Common.{◌≡◌, ◌⊎◌, inl, inr, ◌∙◌, ℕ, ◌==◌, if◌then◌else◌, List, [], ◌∷◌, ◌++◌, length, Bool, true, false, Option, refl, sym, ap, arith, append_assoc, length-append}
use Rattle.street_base.specs.declared.command.Command.{Command}
use Rattle.street_stream.proofs.CutParts.{parts_inside}
use Rattle.street_stream.specs.Lines.{cut, onto_first}
use Rattle.street_line.specs.Redo.{RedoDone}
use Rattle.street_line.proofs.SoundText.{whole_text}
use Rattle.street_line.specs.KeptFiles.{Redone, left_from, sound_of}
use Rattle.street_line.specs.declared.redo.RedoneLines.{RedoneLines}
use Rattle.street_line.specs.declared.service.Served.{Served}

abbrev step : Bool → ℕ → List (List ℕ) × List ℕ → List (List ℕ) × List ℕ
step b x p = if b then ([] ∷ p.0, p.1) else onto_first x p

-- a text of which no line has ended is its last part
alone_step : (t : Bool) (x : ℕ) (xs : List ℕ) (p : List (List ℕ) × List ℕ) → (p.0 ≡ [] → p.1 ≡ xs) → (step t x p).0 ≡ [] → (step t x p).1 ≡ x ∷ xs
alone_step true x xs p rest is = absurd (cc)
alone_step false x xs ([], last) rest is = ap (λ (l : List ℕ). x ∷ l) (rest refl)
alone_step false x xs (l ∷ ls, last) rest is = absurd (cc)

alone : (text : List ℕ) → (cut text).0 ≡ [] → (cut text).1 ≡ text
unfolding cut
alone [] is = refl
alone (x ∷ xs) is = alone_step (x == 10) x xs (cut xs) (alone xs) is

-- the lines of a text that have ended stand in front of its last part
abbrev Front : List ℕ → Type 0
Front text = (front : List ℕ) × (text ≡ front ++ (cut text).1) × (cut front ≡ ((cut text).0, []))

front_step : (t : Bool) (x : ℕ) (xs front : List ℕ) (p : List (List ℕ) × List ℕ) → xs ≡ front ++ p.1 → cut front ≡ (p.0, []) → (p.0 ≡ [] → p.1 ≡ xs)
    → (first : List ℕ) × (x ∷ xs ≡ first ++ (step t x p).1) × ((first ≡ []) × ((step t x p).0 ≡ []) ⊎ (first ≡ x ∷ front) × (step t x (cut front) ≡ ((step t x p).0, [])))
front_step true x xs front p is lines none = (x ∷ front, ap (λ (l : List ℕ). x ∷ l) is, inr (refl, ap (step true x) lines))
front_step false x xs front ([], last) is lines none = ([], ap (λ (l : List ℕ). x ∷ l) (sym (none refl)), inl (refl, refl))
front_step false x xs front (l ∷ ls, last) is lines none = (x ∷ front, ap (λ (l : List ℕ). x ∷ l) is, inr (refl, ap (step false x) lines))

pub front_of : (text : List ℕ) → Front text
unfolding cut
front_of [] = ([], refl, refl)
front_of (x ∷ xs) =
    let rest = front_of xs in
    let first = front_step (x == 10) x xs rest.0 (cut xs) rest.1 rest.2 (alone xs) in (
      first.0,
      first.1,
      elim first.2 [
        | inl none ↦ rw (none.0, none.1) refl
        | inr some ↦ rw some.0 some.1
      ],
    )

module _ {S : Type 0} (serves : S → Command → Served → S → Type 0) where
  pub redone : (start : S) (had left : Option (List ℕ)) (mid : S) (redo : RedoneLines) → RedoDone serves start (sound_of (left_from 0 had)) mid left redo → Redone serves start had mid redo
  redone start had left mid redo h =
      let front = front_of h.text in
      let last = (cut h.text).1 in
      let lines : (cut front.0).0 ≡ (cut h.text).0 = ap (λ (p : List (List ℕ) × List ℕ). p.0) front.2 in
      let rest = whole_text had left h.text h.read h.at_end in
      let text : h.text ++ rest.0 ≡ front.0 ++ (last ++ rest.0) = ap (λ (l : List ℕ). l ++ rest.0) front.1 ∙ append_assoc front.0 last rest.0 in
      record {
        whole = front.0;
        torn = last ++ rest.0;
        is_text = rw (← text) rest.1;
        ended = ap (λ (p : List (List ℕ) × List ℕ). p.1) front.2;
        inside = rest.2 front.0 last front.1 (parts_inside h.text).1;
        done = rw lines h.done;
        lines = rw lines h.lines;
        bytes = omega (arith, h.bytes, ap (λ (l : List ℕ). length l) front.1, length-append front.0 last);
      }
