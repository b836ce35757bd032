-- A session that goes on from a file, served by what stands for something else, is one of that.
use Rattle.std.proofs.Common.{◌≡◌, ◌⊎◌, inl, inr, ℕ, List, ◌∷◌, Option, refl, sym, subst}
use Rattle.street_base.specs.declared.command.Command.{Command}
use Rattle.street_stream.specs.Lines.{cut}
use Rattle.street_stream.specs.declared.tally.FaultKind.TheVariants as kinds
use Rattle.street_line.proofs.KeptAs.{kept-part-as, kept-whole-as, redoes-as}
use Rattle.street_line.specs.Redo.{BadSaid, RedoHalts, StarvedSaid}
use Rattle.street_line.specs.KeptFiles.{BeginBreaks, Recovered, Redone, ServeBreaks, ServesOn}
use Rattle.street_line.specs.Runs.{Said, silent, faulty, calls, said}
use Rattle.street_line.specs.declared.redo.RedoneLines.{RedoneLines}
use Rattle.street_line.specs.declared.redo.RedoFault.{RedoFault}
use Rattle.street_line.specs.declared.redo.RedoFault.TheVariants.{BadLine}
use Rattle.street_line.specs.declared.redo.RedoFault.TheVariants as ends
use Rattle.street_line.specs.declared.kept_file.BeginFault.{BeginFault}
use Rattle.street_line.specs.declared.kept_file.BeginFault.TheVariants.{Foreign, Recover, Settle}
use Rattle.street_line.specs.declared.kept_file.ServeFault.{ServeFault}
use Rattle.street_line.specs.declared.kept_file.ServeFault.TheVariants.{Begin, Session}
use Rattle.street_line.specs.declared.service.Served.{Served}

module _ {S M : Type 0} (serves : S → Command → Served → S → Type 0) (answers : M → Command → Served → M → Type 0) (Stands : S → M → Type 0)
    (one : (before : S) (command : Command) (served : Served) (after : S) → serves before command served after → (old : M) → Stands before old
    → (new : M) × answers old command served new × Stands after new) where
  redone-as : (before : S) (had : Option (List ℕ)) (mid : S) (redo : RedoneLines) → Redone serves before had mid redo
      → (old : M) → Stands before old → (new : M) × Redone answers old had new redo × Stands mid new
  redone-as before had mid redo r old stands =
      let done = redoes-as serves answers Stands one before (cut r.whole).0 mid r.done old stands in (
        done.0,
        record { whole = r.whole; torn = r.torn; is_text = r.is_text; ended = r.ended; inside = r.inside; done = done.1; lines = r.lines; bytes = r.bytes },
        done.2,
      )

  pub recovered-as : (before : S) (had : Option (List ℕ)) (mid : S) (log : Option (List ℕ)) (redo : RedoneLines) → Recovered serves before had mid log redo
      → (old : M) → Stands before old → (new : M) × Recovered answers old had new log redo × Stands mid new
  recovered-as before had mid log redo h old stands =
      let redone = redone-as before had mid redo h.redone old stands in
      (redone.0, record { redone = redone.1; cut_off = h.cut_off }, redone.2)

  pub goes-on-as : (before : S) (had unread out : Option (List ℕ)) (redo : RedoneLines) (after : S) (left held synced told : Option (List ℕ))
      → ServesOn serves before had unread out redo after left held synced told → (old : M) → Stands before old
      → (new : M) × Stands after new × ServesOn answers old had unread out redo new left held synced told
  goes-on-as before had unread out redo after left held synced told h old stands =
      let recovered = recovered-as before had h.mid h.log redo h.recovered old stands in
      let whole = kept-whole-as serves answers Stands one h.mid unread h.log out after left held synced told h.whole recovered.0 recovered.2 in
      (whole.0, whole.2, record { mid = recovered.0; log = h.log; recovered = recovered.1; whole = whole.1 })

  still : (before after : S) (old : M) → after ≡ before → Stands before old → Stands after old
  still before after old same stands = subst (λ (v : S). Stands v old) (sym same) stands

  bad-as : (before : S) (what : Said) (after : S) → BadSaid serves before what after → (old : M) → Stands before old
      → (new : M) × BadSaid answers old what new × Stands after new
  bad-as before silent after h old stands = absurd h
  bad-as before (faulty f) after h old stands = (old, refl, still before after old h stands)
  bad-as before (calls c) after h old stands =
      let step = one before c h.0 after h.1 old stands in
      (step.0, (h.0, step.1, h.2), step.2)

  starved-as : (before : S) (what : Said) (after : S) → StarvedSaid serves before what after → (old : M) → Stands before old
      → (new : M) × StarvedSaid answers old what new × Stands after new
  starved-as before silent after h old stands = absurd h
  starved-as before (faulty f) after h old stands = (old, refl, still before after old h stands)
  starved-as before (calls c) after (inl same) old stands = (old, inl refl, still before after old same stands)
  starved-as before (calls c) after (inr h) old stands =
      let step = one before c h.0 after h.1 old stands in
      (step.0, inr (h.0, step.1, h.2), step.2)

  part-as : (mid : S) (rest : List (List ℕ)) (after : S)
      → (after ≡ mid) ⊎ ((line : List ℕ) × (more : List (List ℕ)) × (rest ≡ line ∷ more) × StarvedSaid serves mid (said line) after) → (now : M) → Stands mid now
      → (new : M) × ((new ≡ now) ⊎ ((line : List ℕ) × (more : List (List ℕ)) × (rest ≡ line ∷ more) × StarvedSaid answers now (said line) new)) × Stands after new
  part-as mid rest after (inl same) now stands = (now, inl refl, still mid after now same stands)
  part-as mid rest after (inr h) now stands =
      let step = starved-as mid (said h.0) after h.3 now stands in
      (step.0, inr (h.0, h.1, h.2, step.1), step.2)

  halts-as : (before : S) (n : ℕ) (text : List ℕ) (fault : RedoFault) (after : S) → RedoHalts serves before n text fault after
      → (old : M) → Stands before old → (new : M) × RedoHalts answers old n text fault new × Stands after new
  halts-as before n text (BadLine number) after h old stands =
      let done = redoes-as serves answers Stands one before h.0 h.3 h.5 old stands in
      let bad = bad-as h.3 (said h.1) after h.6 done.0 done.2 in
      (bad.0, (h.0, h.1, h.2, done.0, h.4, done.1, bad.1, h.7), bad.2)
  halts-as before n text (ends.Run kinds.Starved) after h old stands =
      let done = redoes-as serves answers Stands one before h.0 h.2 h.4 old stands in
      let part = part-as h.2 h.1 after h.5 done.0 done.2 in
      (part.0, (h.0, h.1, done.0, h.3, done.1, part.1), part.2)
  halts-as before n text (ends.Run kinds.Read) after h old stands =
      let done = redoes-as serves answers Stands one before (cut text).0 after h old stands in
      (done.0, done.1, done.2)
  halts-as before n text (ends.Run kinds.Endless) after h old stands =
      let done = redoes-as serves answers Stands one before (cut text).0 after h old stands in
      (done.0, done.1, done.2)
  halts-as before n text (ends.Run kinds.Write) after h old stands = absurd h

  pub begins-as : (before : S) (had stayed : Option (List ℕ)) (after : S) (held synced : Option (List ℕ)) (fault : BeginFault)
      → BeginBreaks serves before had stayed after held synced fault → (old : M) → Stands before old → (new : M) × BeginBreaks answers old had stayed new held synced fault × Stands after new
  begins-as before had stayed after held synced (Recover fault) h old stands =
      let broke = h.0.1 in
      let halts = halts-as before 0 broke.text fault after broke.halts old stands in
      (halts.0, ((h.0.0, record { text = broke.text; read = broke.read; halts = halts.1 }), h.1, h.2), halts.2)
  begins-as before had stayed after held synced Foreign h old stands =
      let redone = redone-as before had after h.0.0 h.0.1 old stands in
      (redone.0, ((h.0.0, redone.1, h.0.2, h.0.3), h.1, h.2), redone.2)
  begins-as before had stayed after held synced Settle h old stands =
      let redone = redone-as before had after h.0 h.1 old stands in
      (redone.0, (h.0, redone.1, h.2, h.3), redone.2)

  pub breaks-as : (before : S) (had stayed unread out : Option (List ℕ)) (after : S) (left held synced told : Option (List ℕ)) (fault : ServeFault)
      → ServeBreaks serves before had stayed unread out after left held synced told fault → (old : M) → Stands before old
      → (new : M) × Stands after new × ServeBreaks answers old had stayed unread out new left held synced told fault
  breaks-as before had stayed unread out after left held synced told (Begin fault) h old stands =
      let begun = begins-as before had stayed after held synced fault h.0 old stands in
      (begun.0, begun.2, (begun.1, h.1))
  breaks-as before had stayed unread out after left held synced told (Session fault) h old stands =
      let recovered = recovered-as before had h.0 h.1 h.2 h.3 old stands in
      let part = kept-part-as serves answers Stands one h.0 unread h.1 out fault after left held synced told h.4 recovered.0 recovered.2 in
      (part.0, part.2, (recovered.0, h.1, h.2, recovered.1, part.1))
