-- A session that is kept, served by what stands for something else, is one of that.
use Rattle.std.proofs.Common.{◌≡◌, ◌⊎◌, ℕ, List, [], ◌∷◌, ◌++◌, Option, inl, inr, refl, sym, subst}
use Rattle.street_base.specs.declared.command.Command.{Command}
use Rattle.street_stream.specs.Lines.{cut, lines_of}
use Rattle.street_stream.specs.declared.tally.FaultKind.TheVariants as kinds
use Rattle.street_line.specs.Kept.{GoesKept, HaltsAt, KeepsSaid, KeptUpTo, KeptWhole, PassStops, Passed, Reaches}
use Rattle.street_line.specs.Redo.{RedoSaid, Redoes}
use Rattle.street_line.specs.Runs.{Said, calls, faulty, said, silent}
use Rattle.street_line.specs.declared.kept_runs.KeptFault.{KeptFault}
use Rattle.street_line.specs.declared.kept_runs.KeptFault.TheVariants.{Log, Run}
use Rattle.street_line.specs.declared.service.Served.{Served}
use Rattle.street_line.specs.declared.service.Served.TheVariants.{Answered}

module _ {S M : Type 0} (serves : S → Command → Served → S → Type 0) (answers : M → Command → Served → M → Type 0) (Stands : S → M → Type 0)
    (one : (before : S) (command : Command) (served : Served) (after : S) → serves before command served after → (old : M) → Stands before old
    → (new : M) × answers old command served new × Stands after new) where
  keeps-as : (before : S) (what : Said) (l out entry : List ℕ) (after : S) → KeepsSaid serves before what l out entry after → (old : M) → Stands before old
      → (new : M) × KeepsSaid answers old what l out entry new × Stands after new
  keeps-as before silent l out entry after h old stands = (old, (refl, h.1, h.2), subst (λ (v : S). Stands v old) (sym h.0) stands)
  keeps-as before (faulty f) l out entry after h old stands = (old, (refl, h.1, h.2), subst (λ (v : S). Stands v old) (sym h.0) stands)
  keeps-as before (calls c) l out entry after h old stands =
      let step = one before c h.0 after h.1 old stands in
      (step.0, (h.0, step.1, h.2, h.3), step.2)

  pub kept-as : (before : S) (ls : List (List ℕ)) (out kept : List ℕ) (after : S) → GoesKept serves before ls out kept after → (old : M) → Stands before old
      → (new : M) × GoesKept answers old ls out kept new × Stands after new
  kept-as before [] out kept after h old stands = (old, (refl, h.1, h.2), subst (λ (v : S). Stands v old) (sym h.0) stands)
  kept-as before (l ∷ ls) out kept after h old stands =
      let first = keeps-as before (said l) l h.1 h.2 h.0 h.5 old stands in
      let rest = kept-as h.0 ls h.3 h.4 after h.6 first.0 first.2 in
      (rest.0, (first.0, h.1, h.2, h.3, h.4, first.1, rest.1, h.7, h.8), rest.2)

  passed-as : (before : S) (log out : Option (List ℕ)) (ls : List (List ℕ)) (after : S) (held synced told : Option (List ℕ)) → Passed serves before log out ls after held synced told
      → (old : M) → Stands before old → (new : M) × Passed answers old log out ls new held synced told × Stands after new
  passed-as before log out ls after held synced told h old stands =
      let served = kept-as before ls h.out h.kept after h.served old stands in
      (served.0, record { out = h.out; kept = h.kept; served = served.1; written = h.written; holds = h.holds; stays = h.stays }, served.2)

  -- a line that has no answer
  halts-as : (before : S) (what : Said) (after : S) → HaltsAt serves before what after → (old : M) → Stands before old → (new : M) × HaltsAt answers old what new × Stands after new
  halts-as before what after (inl same) old stands = (old, inl refl, subst (λ (v : S). Stands v old) (sym same) stands)
  halts-as before what after (inr h) old stands =
      let step = one before h.0 h.1 after h.3 old stands in
      (step.0, inr (h.0, h.1, h.2, step.1), step.2)

  ends-as : (mid : S) (rest : List (List ℕ)) (after : S)
      → (after ≡ mid) ⊎ ((line : List ℕ) × (more : List (List ℕ)) × (rest ≡ line ∷ more) × HaltsAt serves mid (said line) after) → (now : M) → Stands mid now
      → (new : M) × ((new ≡ now) ⊎ ((line : List ℕ) × (more : List (List ℕ)) × (rest ≡ line ∷ more) × HaltsAt answers now (said line) new)) × Stands after new
  ends-as mid rest after (inl same) now stands = (now, inl refl, subst (λ (v : S). Stands v now) (sym same) stands)
  ends-as mid rest after (inr h) now stands =
      let step = halts-as mid (said h.0) after h.3 now stands in
      (step.0, inr (h.0, h.1, h.2, step.1), step.2)

  reaches-as : (before : S) (ls : List (List ℕ)) (after : S) → Reaches serves before ls after → (old : M) → Stands before old → (new : M) × Reaches answers old ls new × Stands after new
  reaches-as before ls after h old stands =
      let served = kept-as before h.done h.out h.kept h.mid h.served old stands in
      let end = ends-as h.mid h.rest after h.ends served.0 served.2 in
      (end.0, record { done = h.done; rest = h.rest; out = h.out; kept = h.kept; mid = served.0; first_lines = h.first_lines; served = served.1; ends = end.1 }, end.2)

  stops-as : (before : S) (log stayed out : Option (List ℕ)) (ls begun : List (List ℕ)) (fault : KeptFault) (after : S) (held synced told : Option (List ℕ))
      → PassStops serves before log stayed out ls begun fault after held synced told → (old : M) → Stands before old
      → (new : M) × PassStops answers old log stayed out ls begun fault new held synced told × Stands after new
  stops-as before log stayed out ls begun Log after held synced told h old stands =
      let served = kept-as before ls h.0 h.1 after h.2 old stands in
      (served.0, (h.0, h.1, served.1, h.3, h.4), served.2)
  stops-as before log stayed out ls begun (Run kinds.Write) after held synced told h old stands =
      let served = kept-as before ls h.0 h.1 after h.2 old stands in
      (served.0, (h.0, h.1, served.1, h.3, h.4, h.5), served.2)
  stops-as before log stayed out ls begun (Run kinds.Starved) after held synced told h old stands =
      let reached = reaches-as before (ls ++ begun) after h.3 old stands in
      (reached.0, (h.0, h.1, h.2, reached.1), reached.2)
  stops-as before log stayed out ls begun (Run kinds.Read) after held synced told h old stands = (old, (h.0, h.1, h.2, refl), subst (λ (v : S). Stands v old) (sym h.3) stands)
  stops-as before log stayed out ls begun (Run kinds.Endless) after held synced told h old stands = (old, (h.0, h.1, h.2, refl), subst (λ (v : S). Stands v old) (sym h.3) stands)

  -- a whole run, and one that a fault ended
  pub kept-whole-as : (before : S) (unread log out : Option (List ℕ)) (after : S) (left held synced told : Option (List ℕ)) → KeptWhole serves before unread log out after left held synced told
      → (old : M) → Stands before old → (new : M) × KeptWhole answers old unread log out new left held synced told × Stands after new
  kept-whole-as before unread log out after left held synced told whole old stands =
      let passed = passed-as before log out (lines_of whole.text) after held synced told whole.passed old stands in
      (passed.0, record { text = whole.text; read = whole.read; at_end = whole.at_end; passed = passed.1 }, passed.2)

  pub kept-part-as : (before : S) (unread log out : Option (List ℕ)) (fault : KeptFault) (after : S) (left held synced told : Option (List ℕ)) → KeptUpTo serves before unread log out fault after left held synced told
      → (old : M) → Stands before old → (new : M) × KeptUpTo answers old unread log out fault new left held synced told × Stands after new
  kept-part-as before unread log out fault after left held synced told k old stands =
      let passed = passed-as before log out (cut k.earlier).0 k.mid k.owed k.owed k.told k.passed old stands in
      let stops = stops-as k.mid k.owed k.owed k.told k.last k.begun fault after held synced told k.stops passed.0 passed.2 in (
        stops.0,
        record {
          earlier = k.earlier;
          got = k.got;
          last = k.last;
          begun = k.begun;
          mid = passed.0;
          owed = k.owed;
          told = k.told;
          read = k.read;
          is_last = k.is_last;
          passed = passed.1;
          stops = stops.1;
        },
        stops.2,
      )

  -- lines that are done again
  redo-said-as : (before : S) (what : Said) (after : S) → RedoSaid serves before what after → (old : M) → Stands before old → (new : M) × RedoSaid answers old what new × Stands after new
  redo-said-as before silent after h old stands = (old, refl, subst (λ (v : S). Stands v old) (sym h) stands)
  redo-said-as before (faulty f) after h old stands = absurd h
  redo-said-as before (calls c) after h old stands =
      let step = one before c (Answered h.0) after h.1 old stands in
      (step.0, (h.0, step.1, h.2), step.2)

  pub redoes-as : (before : S) (ls : List (List ℕ)) (after : S) → Redoes serves before ls after → (old : M) → Stands before old → (new : M) × Redoes answers old ls new × Stands after new
  redoes-as before [] after h old stands = (old, refl, subst (λ (v : S). Stands v old) (sym h) stands)
  redoes-as before (l ∷ ls) after h old stands =
      let first = redo-said-as before (said l) h.0 h.1 old stands in
      let rest = redoes-as h.0 ls after h.2 first.0 first.2 in
      (rest.0, (first.0, first.1, rest.1), rest.2)
