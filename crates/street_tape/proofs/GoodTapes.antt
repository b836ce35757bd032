-- A good tape is never told bad.
use Rattle.std.proofs.Common.{◌≡◌, ℕ, ◌+◌, List, [], ◌∷◌, ◌++◌, Bool, true, false, ◌==◌, if◌then◌else◌, Option, Some, None, inl, inr, refl, sym, ap, ◌∙◌, append_assoc, append-nil, length-append, arith}
use Rattle.std.specs.Prelude.{⊤}
use Rattle.street_desk.specs.declared.journal.Entry.{Entry}
use Rattle.street_stream.specs.HandledLines.{EndsLine, IsNext}
use Rattle.street_stream.specs.Lines.{cut, onto_first, if_any, lines_of}
use Rattle.street_engine.specs.Prelude.{EngineView}
use Rattle.street_tape.proofs.Legal.{replayable_front}
use Rattle.street_tape.specs.BadTapes.{IsNoTape, IsBadAfter}
use Rattle.street_tape.specs.Faults.{TapeBreaks, IsOfRun}
use Rattle.street_tape.specs.Replies.{AreReplayable}
use Rattle.street_tape.specs.Upgrades.{UpgradeBreaks}
use Rattle.street_tape.specs.declared.fault.TapeFault.{TapeFault}
use Rattle.street_tape.specs.declared.fault.TapeFault.TheVariants.{NotTape, BadEntry, Run}
use Rattle.street_tape.proofs.Taken.{tape_head, tape_split}
use Rattle.street_tape.specs.Entries.{tape_in}

-- ---- a text that is cut at the end of a line

onto_first_cut : (x : ℕ) (p q : List (List ℕ) × List ℕ) → onto_first x (p.0 ++ p.1 ∷ q.0, q.1) ≡ ((onto_first x p).0 ++ (onto_first x p).1 ∷ q.0, q.1)
onto_first_cut x ([], last) q = refl
onto_first_cut x (l ∷ ls, last) q = refl

step_cut : (t : Bool) (x : ℕ) (p q : List (List ℕ) × List ℕ) → (if t then ([] ∷ (p.0 ++ p.1 ∷ q.0), q.1) else onto_first x (p.0 ++ p.1 ∷ q.0, q.1))
    ≡ ((if t then ([] ∷ p.0, p.1) else onto_first x p).0 ++ (if t then ([] ∷ p.0, p.1) else onto_first x p).1 ∷ q.0, q.1)
step_cut true x p q = refl
step_cut false x p q = onto_first_cut x p q

cut_at : (front rest : List ℕ) → cut (front ++ 10 ∷ rest) ≡ ((cut front).0 ++ (cut front).1 ∷ (cut rest).0, (cut rest).1)
unfolding cut
cut_at [] rest = refl
cut_at (x ∷ xs) rest =
    ap (λ (p : List (List ℕ) × List ℕ). if x == 10 then ([] ∷ p.0, p.1) else onto_first x p) (cut_at xs rest) ∙ step_cut (x == 10) x (cut xs) (cut rest)

lines_cut : (front : List ℕ) → lines_of (front ++ 10 ∷ []) ≡ (cut front).0 ++ (cut front).1 ∷ []
unfolding cut
lines_cut front = ap (λ (p : List (List ℕ) × List ℕ). p.0 ++ if_any p.1) (cut_at front []) ∙ append-nil ((cut front).0 ++ (cut front).1 ∷ [])

-- its lines come first
lines_at : (front rest : List ℕ) → lines_of ((front ++ 10 ∷ []) ++ rest) ≡ lines_of (front ++ 10 ∷ []) ++ lines_of rest
lines_at front rest =
    let whole : lines_of ((front ++ 10 ∷ []) ++ rest) ≡ ((cut front).0 ++ (cut front).1 ∷ (cut rest).0) ++ if_any (cut rest).1 =
    ap lines_of (append_assoc front (10 ∷ []) rest) ∙ ap (λ (p : List (List ℕ) × List ℕ). p.0 ++ if_any p.1) (cut_at front rest)
    in
    whole
    ∙ append_assoc (cut front).0 ((cut front).1 ∷ (cut rest).0) (if_any (cut rest).1)
    ∙ sym (append_assoc (cut front).0 ((cut front).1 ∷ []) (lines_of rest))
    ∙ ap (λ (ls : List (List ℕ)). ls ++ lines_of rest) (sym (lines_cut front))

-- the lines of a part that ends with a line come first
pub lines_after : (first rest more : List ℕ) (A : Type 0) → EndsLine first rest A → (A → more ≡ []) → (later : List (List ℕ)) × (lines_of ((first ++ rest) ++ more) ≡ lines_of first ++ later)
lines_after first rest more A (inl line) none =
    let text : (first ++ rest) ++ more ≡ (line.0 ++ 10 ∷ []) ++ (rest ++ more) = append_assoc first rest more ∙ ap (λ (t : List ℕ). t ++ (rest ++ more)) line.1 in
    (lines_of (rest ++ more), ap lines_of text ∙ lines_at line.0 (rest ++ more) ∙ ap (λ (t : List ℕ). lines_of t ++ lines_of (rest ++ more)) (sym line.1))
lines_after first rest more A (inr over) none =
    let text : (first ++ rest) ++ more ≡ first = rw (over.0, none over.1) (append-nil (first ++ []) ∙ append-nil first) in
    ([], ap lines_of text ∙ sym (append-nil (lines_of first)))

-- so do those up to a line that was read to its end
pub next_lines : (text more : List ℕ) (A : Type 0) (done : List (List ℕ)) (line : List ℕ) → IsNext A text done line → (A → more ≡ [])
    → (later : List (List ℕ)) × (lines_of (text ++ more) ≡ (done ++ line ∷ []) ++ later)
next_lines text more A done line next none =
    let later = lines_after next.first next.rest more A next.ended none in
    (later.0, ap (λ (t : List ℕ). lines_of (t ++ more)) next.split ∙ later.1 ∙ ap (λ (ls : List (List ℕ)). ls ++ later.0) next.lines)

-- ---- a good tape

module _ (Good : List Entry → Type 0) (front : (xs ys : List Entry) → Good (xs ++ ys) → Good xs) (tape : List ℕ) (all : List Entry) (reads : tape_in (lines_of tape) ≡ Some all) (good : Good all) where
  never_none : (text more : List ℕ) → text ++ more ≡ tape → IsNoTape (more ≡ []) text → ⊥
  never_none text more is (inl bad) =
      let later = next_lines text more (more ≡ []) [] bad.0 bad.1 (λ none. none) in
      let says : tape_in (bad.0 ∷ later.0) ≡ Some all = ap tape_in (sym later.1) ∙ ap (λ (t : List ℕ). tape_in (lines_of t)) is ∙ reads in
      let head = tape_head bad.0 later.0 all says in
      bad.2 head.0 head.1
  never_none text more is (inr over) =
      let same : tape ≡ text = sym is ∙ ap (λ (m : List ℕ). text ++ m) over.0 ∙ append-nil text in
      let nothing : None ≡ Some all = ap tape_in (sym over.1) ∙ ap (λ (t : List ℕ). tape_in (lines_of t)) (sym same) ∙ reads in
      cc

  never_after : (text more : List ℕ) (done : List (List ℕ)) → text ++ more ≡ tape → IsBadAfter (more ≡ []) Good text done → ⊥
  never_after text more done is (inl bad) =
      let ls : List (List ℕ) = done ++ bad.0 ∷ [] in
      let later = next_lines text more (more ≡ []) done bad.0 bad.1 (λ none. none) in
      let says : tape_in (ls ++ later.0) ≡ Some all = ap tape_in (sym later.1) ∙ ap (λ (t : List ℕ). tape_in (lines_of t)) is ∙ reads in
      let split = tape_split ls later.0 all (omega (arith, length-append done (bad.0 ∷ []))) says in
      bad.2 split.0 (record { says = split.2; good = front split.0 split.1 (rw split.3 at good) })
  never_after text more done is (inr over) =
      let same : tape ≡ text = sym is ∙ ap (λ (m : List ℕ). text ++ m) over.0 ∙ append-nil text in
      let nothing : None ≡ Some all = sym over.2 ∙ ap tape_in (sym over.1) ∙ ap (λ (t : List ℕ). tape_in (lines_of t)) (sym same) ∙ reads in
      cc

-- however much of it was read, only the run can have failed
pub never_bad : (tape : List ℕ) (all : List Entry) → tape_in (lines_of tape) ≡ Some all → AreReplayable None all → (text more : List ℕ) → text ++ more ≡ tape
    → (before : Option (List ℕ)) (view : EngineView) (after : Option (List ℕ)) (fault : TapeFault) → TapeBreaks (more ≡ []) None before text view after fault → IsOfRun fault
never_bad tape all reads good text more is before view after NotTape b = never_none (AreReplayable None) (replayable_front None) tape all reads good text more is b.0
never_bad tape all reads good text more is before view after (BadEntry line) b =
    let bad = b.1 in
    never_after (AreReplayable None) (replayable_front None) tape all reads good text more bad.done is bad.bad
never_bad tape all reads good text more is before view after (Run fault) b = tt

-- so with an upgrade, which asks no machine
pub never_refused : (tape : List ℕ) (all : List Entry) → tape_in (lines_of tape) ≡ Some all → (text more : List ℕ) → text ++ more ≡ tape
    → (before after : Option (List ℕ)) (fault : TapeFault) → UpgradeBreaks (more ≡ []) before text after fault → IsOfRun fault
never_refused tape all reads text more is before after NotTape b = never_none (λ es. ⊤) (λ xs ys h. tt) tape all reads tt text more is b.0
never_refused tape all reads text more is before after (BadEntry line) b =
    let bad = b.1 in
    never_after (λ es. ⊤) (λ xs ys h. tt) tape all reads tt text more bad.done is bad.bad
never_refused tape all reads text more is before after (Run fault) b = tt
