-- A session of which a record is written stands for the machine and its record.
use Rattle.std.proofs.Common.{◌≡◌, ◌∙◌, ◌⊎◌, ℕ, List, [], ◌∷◌, ◌++◌, length, take, true, false, true≢false, inl, inr, Option, Some, None, IsSome, refl, sym, ap, subst}
use Rattle.std.proofs.KnownBytes.{Appends-nil, Appends-trans}
use Rattle.std.proofs.Math.Seq.{take-append_seam}
use Rattle.std.specs.Io.KnownBytes.{Appends}
use Rattle.street_base.specs.declared.command.Command.{Command}
use Rattle.street_base.specs.declared.reply.Reply.{Reply}
use Rattle.street_base.specs.Prelude.{Traffic, block}
use Rattle.street_engine.proofs.Recorded.{recorded-adds}
use Rattle.street_engine.specs.Prelude.{EngineView, StandsFor, ToldSteps, recorded_in}
use Rattle.street_record.specs.Given.{Adds, HasNoRest, IsGiven, WriterView}
use Rattle.street_line.proofs.EngineRuns.{served-machine}
use Rattle.street_line.specs.Engines.{EngineServes}
use Rattle.street_line.specs.Kept.{GoesKept, KeepsSaid}
use Rattle.street_line.specs.Recorded.{HoldsRecord, IsReplyBehind, MachineRecords, RecordedMachine, StandsRecorded}
use Rattle.street_line.specs.Sinks.{SessionServes, SessionView}
use Rattle.street_line.specs.Runs.{Done, Goes, Said, calls, faulty, said, served_line, silent}
use Rattle.street_line.specs.declared.service.Served.{Served}
use Rattle.street_line.specs.declared.service.Served.TheVariants.{Answered, Full, Unrecorded}

module _ {W : Type 0} (contents : W → Option (List ℕ)) where
  -- nothing was given to a writer of which nothing waits
  nothing-given : (w : WriterView W) → w.waiting ≡ [] → IsGiven contents (contents w.writer.stream) [] w
  nothing-given w none = record { out = []; rest = []; written = Appends-nil (contents w.writer.stream); split = refl; waits = λ _. sym none }

  -- of what a writer was given the first bytes are written
  first-given : (start : Option (List ℕ)) (given : List ℕ) (w : WriterView W) → IsGiven contents start given w → (n : ℕ) × Appends start (contents w.writer.stream) (take n given)
  first-given start given w is = (length is.out, subst (λ (l : List ℕ). Appends start (contents w.writer.stream) l) (sym (ap (take (length is.out)) is.split ∙ take-append_seam is.out is.rest)) is.written)

  -- ---- a session stands for the machine and its record

  module _ (start : Option (List ℕ)) where
    -- a write that has failed has begun a block
    begun-of : (w : WriterView W) (whole : List ℕ) (begun : Option (List ℕ)) → HoldsRecord contents start w whole begun → w.has_failed ≡ true → IsSome begun
    begun-of w whole None holds failed = absurd (true≢false (sym failed ∙ holds.0))
    begun-of w whole (Some bytes) holds failed = refl

    none-begun : (w : WriterView W) (whole : List ℕ) (begun : Option (List ℕ)) → HoldsRecord contents start w whole begun → w.has_failed ≡ false
        → (begun ≡ None) × Appends start (contents w.writer.stream) whole
    none-begun w whole None holds was = (refl, holds.1)
    none-begun w whole (Some bytes) holds was = absurd (true≢false (sym holds.0 ∙ was))

    -- a reply that is let out behind steps of which the writer was told
    let-out-as : (before after : SessionView (WriterView W)) (old : RecordedMachine) (stands : StandsRecorded contents start before old) (c : Command) (reply : Reply) (told v : WriterView W) (served : Served)
        → stands.writer.has_failed ≡ false → EngineServes before.engine c (Answered reply) after.engine → Adds contents (recorded_in old.machine c reply) stands.writer told
        → after.sink ≡ Some v → IsReplyBehind contents told reply served v → (new : RecordedMachine) × MachineRecords old c served new × StandsRecorded contents start after new
    let-out-as before after old stands c reply told v (Answered r) was serves adds is behind =
        let step = served-machine before.engine c (Answered reply) after.engine serves old.machine stands.engine in
        let holds = none-begun stands.writer old.whole old.begun stands.holds was in
        let blocks = recorded_in old.machine c reply in
        let here = contents stands.writer.writer.stream in
        let given = adds here [] (nothing-given stands.writer (stands.rests was)) in
        let new : RecordedMachine = record { machine = step.0; whole = old.whole ++ blocks; begun = None } in (
          new,
          subst (λ (a : Reply). MachineRecords old c (Answered a) new) (sym behind.0) (holds.0, refl, step.1, refl),
          record {
            engine = step.2;
            writer = v;
            written_by = is;
            rests = λ _. behind.1.1;
            holds = (behind.1.0, Appends-trans start here (contents v.writer.stream) old.whole blocks holds.1 (behind.2 here blocks given));
          },
        )
    let-out-as before after old stands c reply told v Full was serves adds is behind = absurd behind
    let-out-as before after old stands c reply told v Unrecorded was serves adds is behind =
        let step = served-machine before.engine c (Answered reply) after.engine serves old.machine stands.engine in
        let holds = none-begun stands.writer old.whole old.begun stands.holds was in
        let blocks = recorded_in old.machine c reply in
        let here = contents stands.writer.writer.stream in
        let given = adds here [] (nothing-given stands.writer (stands.rests was)) in
        let part = first-given here blocks v (behind.2 here blocks given) in (
          record { machine = step.0; whole = old.whole; begun = Some blocks },
          inr (reply, holds.0, step.1, refl, refl),
          record {
            engine = step.2;
            writer = v;
            written_by = is;
            rests = λ none. absurd (true≢false (sym behind.0 ∙ none));
            holds = (behind.0, behind.1, part.0, Appends-trans start here (contents v.writer.stream) old.whole (take part.0 blocks) holds.1 part.1);
          },
        )

    sunk-as : (before after : SessionView (WriterView W)) (old : RecordedMachine) (stands : StandsRecorded contents start before old) (c : Command) (served : Served) (v : WriterView W) → after.sink ≡ Some v
        → ((stands.writer.has_failed ≡ true) × (served ≡ Unrecorded) × (after.engine ≡ before.engine) × (v ≡ stands.writer))
        ⊎ ((stands.writer.has_failed ≡ false) × (reply : Reply) × (told : WriterView W) × EngineServes before.engine c (Answered reply) after.engine
        × ToldSteps (λ (a : WriterView W) (m : Traffic) (b : WriterView W). Adds contents (block m) a b) before.engine c reply stands.writer told × IsReplyBehind contents told reply served v)
        → (new : RecordedMachine) × MachineRecords old c served new × StandsRecorded contents start after new
    sunk-as before after old stands c served v is (inl (failed, none, same, kept)) = (
      old,
      subst (λ (r : Served). MachineRecords old c r old) (sym none) (inl (begun-of stands.writer old.whole old.begun stands.holds failed, refl)),
      record {
        engine = subst (λ (x : EngineView). StandsFor x old.machine) (sym same) stands.engine;
        writer = v;
        written_by = is;
        rests = subst (λ (w : WriterView W). HasNoRest w) (sym kept) stands.rests;
        holds = subst (λ (w : WriterView W). HoldsRecord contents start w old.whole old.begun) (sym kept) stands.holds;
      },
    )
    sunk-as before after old stands c served v is (inr (was, reply, told, serves, steps, behind)) =
        let adds = recorded-adds contents before.engine c reply stands.writer told steps old.machine stands.engine in
        let-out-as before after old stands c reply told v served was serves adds is behind

    pub record-served : (before : SessionView (WriterView W)) (c : Command) (served : Served) (after : SessionView (WriterView W))
        → SessionServes (λ (a : WriterView W) (m : Traffic) (b : WriterView W). Adds contents (block m) a b) (λ (w : WriterView W). w.has_failed) (IsReplyBehind contents) before c served after
        → (old : RecordedMachine) → StandsRecorded contents start before old → (new : RecordedMachine) × MachineRecords old c served new × StandsRecorded contents start after new
    record-served before c served after h old stands =
        let got = h stands.writer stands.written_by in
        sunk-as before after old stands c served got.0 got.1 got.2

-- ---- what is answered

-- a command that is answered begins no block
none-answered : (old : RecordedMachine) (c : Command) (served : Served) (out : List ℕ) (new : RecordedMachine) → MachineRecords old c served new → served_line served ≡ Some out → new.begun ≡ None
unfolding served_line
none-answered old c (Answered reply) out new h is = h.1
none-answered old c Full out new h is = absurd h
none-answered old c Unrecorded out new h is = absurd (cc)

none-done : (old : RecordedMachine) (what : Said) (out : List ℕ) (new : RecordedMachine) → old.begun ≡ None → Done MachineRecords old what out new → new.begun ≡ None
none-done old silent out new none h = ap (λ (m : RecordedMachine). m.begun) h.0 ∙ none
none-done old (faulty f) out new none h = ap (λ (m : RecordedMachine). m.begun) h.0 ∙ none
none-done old (calls c) out new none h = none-answered old c h.0 out new h.1 h.2

-- where each line has its output, no block was left behind
pub none-left : (old : RecordedMachine) (ls : List (List ℕ)) (out : List ℕ) (new : RecordedMachine) → old.begun ≡ None → Goes MachineRecords old ls out new → new.begun ≡ None
none-left old [] out new none h = ap (λ (m : RecordedMachine). m.begun) h.0 ∙ none
none-left old (l ∷ ls) out new none h = none-left h.0 ls h.2 new (none-done old (said l) h.1 h.0 none h.3) h.4

none-kept-said : (old : RecordedMachine) (what : Said) (line out entry : List ℕ) (new : RecordedMachine) → old.begun ≡ None → KeepsSaid MachineRecords old what line out entry new → new.begun ≡ None
none-kept-said old silent line out entry new none h = ap (λ (m : RecordedMachine). m.begun) h.0 ∙ none
none-kept-said old (faulty f) line out entry new none h = ap (λ (m : RecordedMachine). m.begun) h.0 ∙ none
none-kept-said old (calls c) line out entry new none h = none-answered old c h.0 out new h.1 h.2

pub none-kept : (old : RecordedMachine) (ls : List (List ℕ)) (out kept : List ℕ) (new : RecordedMachine) → old.begun ≡ None → GoesKept MachineRecords old ls out kept new → new.begun ≡ None
none-kept old [] out kept new none h = ap (λ (m : RecordedMachine). m.begun) h.0 ∙ none
none-kept old (l ∷ ls) out kept new none h = none-kept h.0 ls h.3 h.4 new (none-kept-said old (said l) l h.1 h.2 h.0 none h.5) h.6
