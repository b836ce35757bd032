-- Lines of a session that is kept.
use Rattle.std.proofs.Common.{◌≡◌, ◌⊎◌, ◌∙◌, ℕ, ◌+◌, ◌-◌, ◌^◌, ◌<◌, ◌≤◌, ◌==◌, min, if◌then◌else◌, List, [], ◌∷◌, ◌++◌, length, take, Bool, true, false, IfErr, OnOk, Option, Some, Result, Ok, Err, refl, sym, ap, subst, arith, inl, inr, append_assoc, append-nil, length-append, lt-ltb}
use Rattle.std.proofs.KnownBytes.{Appends-nil, Appends-trans}
use Rattle.std.proofs.Math.Seq.{take-append-add, take-length}
use Rattle.std.proofs.lemmas.Bool.{cases_lt}
use Rattle.std.proofs.lemmas.List.{take_all, length-take-le}
use Rattle.std.specs.Io.KnownBytes.{Appends, Consumes}
use Rattle.street_base.specs.declared.command.Command.{Command}
use Rattle.street_base.specs.declared.reply.Starved.{Starved as NoMemory}
use Rattle.street_stream.proofs.Cut.{cut_none, lines_more}
use Rattle.street_stream.proofs.CutParts.{cut_append}
use Rattle.street_stream.specs.HandledLines.{Effect, Gives, text_in, Handles, output}
use Rattle.street_stream.specs.declared.answer.LineAnswer.{LineAnswer}
use Rattle.street_stream.specs.Lines.{cut, onto_first, lines_of, if_any, is_blank, kept as kept_of}
use Rattle.street_stream.specs.Logs.{Extends, KeepStops}
use Rattle.street_stream.proofs.Logs.{extends_none}
use Rattle.street_stream.specs.declared.counted.Counted.{Counted}
use Rattle.street_stream.specs.declared.log.KeepFault.{KeepFault}
use Rattle.street_stream.specs.declared.log.KeepFault.TheVariants.{Log, Output}
use Rattle.street_stream.specs.declared.tally.FaultKind.{FaultKind}
use Rattle.street_stream.specs.declared.tally.FaultKind.TheVariants.{Read, Endless}
use Rattle.street_line.specs.declared.kept_runs.KeptFault.{KeptFault}
use Rattle.street_line.specs.declared.kept_runs.KeptFault.TheVariants.{Run, Log as KeptLog}
use Rattle.street_stream.specs.OpenTexts.{HaltsAtEnd, HaltsIn, IsOpen}
use Rattle.street_stream.specs.declared.open_text.OpenText.{OpenText}
use Rattle.street_stream.proofs.HandlerReferences.{TakesPart, StopsPart, handles_part}
use Rattle.street_stream.specs.declared.answer.StopCause.{StopCause}
use Rattle.street_stream.specs.declared.answer.StopCause.TheVariants as causes
use Rattle.street_stream.specs.declared.tally.FaultKind.TheVariants as kinds
use Rattle.street_stream.specs.declared.tally.Tally.{Tally}
use Rattle.street_line.specs.declared.redo.RedoFault.{RedoFault}
use Rattle.street_line.specs.declared.redo.RedoFault.TheVariants.{BadLine, Run as RedoRun}
use Rattle.street_line.specs.declared.redo.RedoStop.{RedoStop}
use Rattle.street_line.specs.declared.redo.RedoStop.TheVariants as stop
use Rattle.street_line.specs.Redo.{RedoLine, Redoes, RedoHalts, IsFaultOf, RedoStopLine}
use Rattle.street_line.proofs.Said.{said_kept}
use Rattle.street_line.specs.Kept.{AnswersKept, HaltsAt, KeepsSaid, KeepsLine, GoesKept, Passed, Reaches, PassStops, IsLast, KeptUpTo, KeptFirst, fault_of}
use Rattle.street_line.specs.Runs.{Said, silent, faulty, calls, said, said_by}
use Rattle.street_line.specs.ServedLine.{effect_of}
use Rattle.street_line.specs.declared.service.Served.{Served}
use Rattle.street_text.specs.LineCommands.{reading, longest_line}
use Rattle.street_text.specs.declared.fault.LineFault.{LineFault}
use Rattle.street_text.specs.declared.fault.LineFault.TheVariants.{LineTooLong}

-- a line that reads as a command is kept whole
pub read_whole : (line : List ℕ) (c : Command) → reading (kept_of longest_line line) ≡ Ok c → kept_of longest_line line ≡ line
unfolding reading kept_of
read_whole line c is = elim (cases_lt longest_line (length line)) [
  | inl over ↦
      let long : longest_line < length (take (longest_line + 1) line) = omega (arith, length-take-le (longest_line + 1) line (omega arith)) in
      let none : Err LineTooLong ≡ Ok c = rw (lt-ltb longest_line (length (take (longest_line + 1) line)) long) at is in
      absurd (cc)
  | inr under ↦ take_all (longest_line + 1) line (omega arith)
]

-- a text has no more lines that have ended than bytes
step_few : (t : Bool) (x : ℕ) (p : List (List ℕ) × List ℕ) → length (if t then ([] ∷ p.0, p.1) else onto_first x p).0 ≤ length p.0 + 1
step_few true x p = omega arith
step_few false x ([], last) = omega arith
step_few false x (l ∷ ls, last) = omega arith

pub lines_few : (text : List ℕ) → length (cut text).0 ≤ length text
unfolding cut
lines_few [] = omega arith
lines_few (x ∷ xs) = omega (arith, step_few (x == 10) x (cut xs), lines_few xs)

module _ {S : Type 0} (serves : S → Command → Served → S → Type 0) where
  -- what a line gives has its output as text
  text_of : (old : S) (what : Said) (line out entry : List ℕ) (new : S) → KeepsSaid serves old what line out entry new → text_in (effect_of what out).reply ≡ out
  text_of old silent line out entry new h = sym h.1
  text_of old (faulty f) line out entry new h = refl
  text_of old (calls c) line out entry new h = refl

  -- lines that are handled are served, and what is kept of them is noted
  pub goes_kept : (old : S × List ℕ) (ls : List (List ℕ)) (es : List Effect) (new : S × List ℕ) → Handles (KeepsLine serves) old ls es new
      → (kept : List ℕ) × GoesKept serves old.0 ls (output es) kept new.0 × (new.1 ≡ old.1 ++ kept)
  goes_kept old [] es new h = ([], (ap (λ (p : S × List ℕ). p.0) h.0, ap output h.1, refl), ap (λ (p : S × List ℕ). p.1) h.0 ∙ sym (append-nil old.1))
  goes_kept old (l ∷ ls) es new h =
      let first = h.3 in
      let rest = goes_kept h.0 ls h.2 new h.4 in
      let text : text_in (h.1).reply ≡ first.0 = ap (λ (e : Effect). text_in e.reply) first.3 ∙ text_of old.0 (said l) l first.0 first.1 (h.0).0 first.2 in (
        first.1 ++ rest.0,
        ((h.0).0, first.0, first.1, output h.2, rest.0, first.2, rest.1, ap output h.5 ∙ ap (λ (out : List ℕ). out ++ output h.2) text, refl),
        rest.2 ∙ ap (λ (k : List ℕ). k ++ rest.0) first.4 ∙ append_assoc old.1 first.1 rest.0,
      )

  -- so beside a number that stays
  abbrev pub KeepsAt : (S × List ℕ) × ℕ → List ℕ → Effect → (S × List ℕ) × ℕ → Type 0
  KeepsAt old line effect new = (new.1 ≡ old.1) × KeepsLine serves old.0 line effect new.0

  -- from nothing that was noted and nothing that was written
  pub owed_goes : (old : S) (noted : List ℕ) (ls : List (List ℕ)) (es : List Effect) (new : S) (entries written before replies : List ℕ) → Handles (KeepsLine serves) (old, noted) ls es (new, entries)
      → noted ≡ [] → before ≡ [] → Appends (Some before) (Some written) (output es) → replies ≡ written → GoesKept serves old ls replies entries new
  owed_goes old noted ls es new entries written before replies handled none nothing wrote is =
      let goes = goes_kept (old, noted) ls es (new, entries) handled in
      let text : replies ≡ output es = is ∙ wrote ∙ ap (λ (b : List ℕ). b ++ output es) nothing in
      let kept : entries ≡ goes.0 = goes.2 ∙ ap (λ (b : List ℕ). b ++ goes.0) none in
      rw (text, kept) goes.1

  -- one list of lines after another
  pub goes_both : (old mid new : S) (ls ms : List (List ℕ)) (o k p q : List ℕ) → GoesKept serves old ls o k mid → GoesKept serves mid ms p q new
      → GoesKept serves old (ls ++ ms) (o ++ p) (k ++ q) new
  goes_both old mid new [] ms o k p q h g =
      rw (h.1, h.2) (subst (λ (s : S). GoesKept serves s ms p q new) h.0 g)
  goes_both old mid new (l ∷ ls) ms o k p q h g = (
    h.0,
    h.1,
    h.2,
    h.3 ++ p,
    h.4 ++ q,
    h.5,
    goes_both h.0 mid new ls ms h.3 h.4 p q h.6 g,
    ap (λ (b : List ℕ). b ++ p) h.7 ∙ append_assoc h.1 h.3 p,
    ap (λ (b : List ℕ). b ++ q) h.8 ∙ append_assoc h.2 h.4 q,
  )

  -- the lines of a text that were served so far, and those of its next bytes
  pub passed_more : (start old new : S) (log before l0 w0 held synced after : Option (List ℕ)) (earlier bytes : List ℕ)
      → Passed serves start log before (cut earlier).0 old l0 l0 w0 → Passed serves old l0 w0 (cut ((cut earlier).1 ++ bytes)).0 new held synced after
      → Passed serves start log before (cut (earlier ++ bytes)).0 new held synced after
  passed_more start old new log before l0 w0 held synced after earlier bytes h g = record {
    out = h.out ++ g.out;
    kept = h.kept ++ g.kept;
    served = rw (cut_append earlier bytes) (goes_both start old new (cut earlier).0 (cut ((cut earlier).1 ++ bytes)).0 h.out h.kept g.out g.kept h.served g.served);
    written = Appends-trans before w0 after h.out g.out h.written g.written;
    holds = Appends-trans log l0 held h.kept g.kept h.holds g.holds;
    stays = g.stays;
  }

  pub passed_last : (start old new : S) (log before l0 w0 held synced after : Option (List ℕ)) (earlier : List ℕ)
      → Passed serves start log before (cut earlier).0 old l0 l0 w0 → Passed serves old l0 w0 (if_any (cut earlier).1) new held synced after
      → Passed serves start log before (lines_of earlier) new held synced after
  passed_last start old new log before l0 w0 held synced after earlier h g = record {
    out = h.out ++ g.out;
    kept = h.kept ++ g.kept;
    served = goes_both start old new (cut earlier).0 (if_any (cut earlier).1) h.out h.kept g.out g.kept h.served g.served;
    written = Appends-trans before w0 after h.out g.out h.written g.written;
    holds = Appends-trans log l0 held h.kept g.kept h.holds g.holds;
    stays = g.stays;
  }

  -- a fault ended the run between two reads
  pub ends_between : (start now : S) (unread log before left l0 w0 : Option (List ℕ)) (earlier : List ℕ) (kind : FaultKind) → (kind ≡ Read) ⊎ (kind ≡ Endless)
      → Passed serves start log before (cut earlier).0 now l0 l0 w0 → Consumes unread left earlier → KeptUpTo serves start unread log before (Run kind) now left l0 l0 w0
  ends_between start now unread log before left l0 w0 earlier kind which h read = record {
    earlier = earlier;
    got = [];
    last = (cut ((cut earlier).1 ++ [])).0;
    begun = if_any (cut ((cut earlier).1 ++ [])).1;
    mid = now;
    owed = l0;
    told = w0;
    read = rw (append-nil earlier) read;
    is_last = inl (refl, refl);
    passed = h;
    stops = elim which [
      | inl is ↦ rw is (refl, refl, refl, refl)
      | inr is ↦ rw is (refl, refl, refl, refl)
    ];
  }

  -- the lines that were done are the first of the text
  last_lines : (left : Option (List ℕ)) (earlier got : List ℕ) (ls begun : List (List ℕ)) → IsLast left earlier got ls begun → (rest : List (List ℕ)) × (lines_of (earlier ++ got) ≡ ((cut earlier).0 ++ ls) ++ rest)
  last_lines left earlier got ls begun (inl is) = (if_any (cut ((cut earlier).1 ++ got)).1, rw is.0 (ap (λ (p : List (List ℕ) × List ℕ). p.0 ++ if_any p.1) (cut_append earlier got)))
  last_lines left earlier got ls begun (inr is) = ([], rw (is.0, is.2) (ap lines_of (append-nil earlier) ∙ sym (append-nil (lines_of earlier))))

  -- nothing but what passed is out, and that and perhaps more is held and stays
  first_passed : (start : S) (unread log before : Option (List ℕ)) (fault : KeptFault) (now : S) (left held synced after : Option (List ℕ)) (h : KeptUpTo serves start unread log before fault now left held synced after)
      → after ≡ h.told → Extends h.owed held → Extends h.owed synced → KeptFirst serves start unread log before left held synced after
  first_passed start unread log before fault now left held synced after h is more stayed =
      let passed = h.passed in
      let lines = lines_more h.earlier h.got in
      record {
        text = h.earlier ++ h.got;
        done = (cut h.earlier).0;
        rest = lines.0;
        out = passed.out;
        kept = passed.kept;
        mid = h.mid;
        sent = length passed.out;
        read = h.read;
        first_lines = lines.1;
        served = passed.served;
        within = omega arith;
        written = rw (is, take-length passed.out) passed.written;
        holds = (more.0, Appends-trans log h.owed held passed.kept more.0 passed.holds more.1);
        stays = (stayed.0, Appends-trans log h.owed synced passed.kept stayed.0 passed.holds stayed.1);
      }

  -- what is exact says so
  pub first_up_to : (start : S) (unread log before : Option (List ℕ)) (fault : KeptFault) (now : S) (left held synced after : Option (List ℕ)) → KeptUpTo serves start unread log before fault now left held synced after
      → KeptFirst serves start unread log before left held synced after
  first_up_to start unread log before KeptLog now left held synced after h =
      let stops = h.stops in
      first_passed start unread log before KeptLog now left held synced after h stops.3 (take stops.4.0 stops.1, stops.4.3) (take stops.4.1 stops.1, stops.4.4)
  first_up_to start unread log before (Run Read) now left held synced after h =
      first_passed start unread log before (Run Read) now left held synced after h h.stops.0 (rw h.stops.1 (extends_none h.owed)) (rw h.stops.2 (extends_none h.owed))
  first_up_to start unread log before (Run Endless) now left held synced after h =
      first_passed start unread log before (Run Endless) now left held synced after h h.stops.0 (rw h.stops.1 (extends_none h.owed)) (rw h.stops.2 (extends_none h.owed))
  first_up_to start unread log before (Run kinds.Starved) now left held synced after h =
      first_passed start unread log before (Run kinds.Starved) now left held synced after h h.stops.0 (rw h.stops.1 (extends_none h.owed)) (rw h.stops.2 (extends_none h.owed))
  first_up_to start unread log before (Run kinds.Write) now left held synced after h =
      let passed = h.passed in
      let stops = h.stops in
      let lines = last_lines left h.earlier h.got h.last h.begun h.is_last in
      let holds : Appends log held (passed.kept ++ stops.1) = Appends-trans log h.owed held passed.kept stops.1 passed.holds stops.4 in
      record {
        text = h.earlier ++ h.got;
        done = (cut h.earlier).0 ++ h.last;
        rest = lines.0;
        out = passed.out ++ stops.0;
        kept = passed.kept ++ stops.1;
        mid = now;
        sent = length passed.out + stops.3.0;
        read = h.read;
        first_lines = lines.1;
        served = goes_both start h.mid now (cut h.earlier).0 h.last passed.out passed.kept stops.0 stops.1 passed.served stops.2;
        within = omega (arith, stops.3.1, length-append passed.out stops.0);
        written = rw (take-append-add passed.out stops.0 stops.3.0) (Appends-trans before h.told after passed.out (take stops.3.0 stops.0) passed.written stops.3.2);
        holds = ([], rw (append-nil (passed.kept ++ stops.1)) holds);
        stays = rw stops.5 ([], rw (append-nil (passed.kept ++ stops.1)) holds);
      }

  -- what is kept of a line is answered as the whole line
  pub answers_whole : (old : S × List ℕ) (line bytes : List ℕ) (answer : LineAnswer) (new : S × List ℕ) → is_blank line ≡ false → bytes ≡ kept_of longest_line line
      → AnswersKept serves old (said_by (reading bytes)) bytes answer new → (effect : Effect) × KeepsLine serves old line effect new × Gives answer effect
  answers_whole old line bytes answer new blank is got =
      let says = said_kept line bytes blank is in
      let kept : KeepsSaid serves old.0 (said line) line got.0 got.1 new.0 =
      subst (λ (what : Said). KeepsSaid serves old.0 what line got.0 got.1 new.0) (sym says) (same_line old.0 (reading bytes) line bytes got.0 got.1 new.0 (λ c reads. is ∙ read_whole line c (rw is at reads)) got.2) in
      (effect_of (said line) got.0, (got.0, got.1, kept, refl, got.4), subst (λ (what : Said). Gives answer (effect_of what got.0)) (sym says) got.3)
    where
      same_line : (old : S) (r : Result Command LineFault) (line bytes out entry : List ℕ) (new : S) → ((c : Command) → r ≡ Ok c → bytes ≡ line)
          → KeepsSaid serves old (said_by r) bytes out entry new → KeepsSaid serves old (said_by r) line out entry new
      same_line old (Ok c) line bytes out entry new same h = subst (λ (l : List ℕ). KeepsSaid serves old (calls c) l out entry new) (same c refl) h
      same_line old (Err f) line bytes out entry new same h = h

  -- what the log or the writer left where it failed
  pub stops_kept : {L W : Type 0} (held synced : L → Option (List ℕ)) (has_failed : L → Type 0) (contents : W → Option (List ℕ)) (old new : S) (ls begun : List (List ℕ)) (l k : L) (w v : Counted W)
      (entries replies : List ℕ) (fault : KeepFault) → GoesKept serves old ls replies entries new → KeepStops held synced has_failed contents l w entries replies k v fault
      → PassStops serves old (held l) (synced l) (contents w.stream) ls begun (fault_of fault) new (held k) (synced k) (contents v.stream)
  stops_kept {L} {W} held synced has_failed contents old new ls begun l k w v entries replies Log goes h =
      (replies, entries, goes, ap (λ (x : Counted W). contents x.stream) h.0, h.1)
  stops_kept held synced has_failed contents old new ls begun l k w v entries replies Output goes h = (replies, entries, goes, h.2, h.0, h.1)

  -- ---- lines of which one has no answer

  abbrev pub HaltsLine : (S × List ℕ) × ℕ → List ℕ → NoMemory → (S × List ℕ) × ℕ → Type 0
  HaltsLine old line stop new = HaltsAt serves (old.0).0 (said line) (new.0).0

  -- lines that were handled by what holds the service and the entries, each by a reference
  went_kept : {A : Type 0} (part : A → (S × List ℕ) × ℕ) (name : A → ℕ) (old : A) (ls : List (List ℕ)) (es : List Effect) (new : A)
      → Handles (TakesPart part name KeepsAt HaltsLine) old ls es new → (name new ≡ name old) × ((kept : List ℕ) × GoesKept serves ((part old).0).0 ls (output es) kept ((part new).0).0)
  went_kept part name old ls es new h =
      let went = handles_part part name KeepsAt HaltsLine old ls es new h in
      let both = handles_part (λ (p : (S × List ℕ) × ℕ). p.0) (λ p. p.1) (KeepsLine serves) (λ b l (stop : NoMemory) n. HaltsAt serves b.0 (said l) n.0) (part old) ls es (part new) went.1 in
      let goes = goes_kept (part old).0 ls es (part new).0 both.1 in
      (went.0, (goes.0, goes.1))

  pub halts_kept : {A : Type 0} (part : A → (S × List ℕ) × ℕ) (name : A → ℕ) (old : A) (text : List ℕ) (new : A) (cause : StopCause NoMemory) (tally : Tally)
      → HaltsIn (record { longest = longest_line; takes = TakesPart part name KeepsAt HaltsLine; stops = StopsPart part name KeepsAt HaltsLine }) old text new cause tally
      → (name new ≡ name old) × Reaches serves ((part old).0).0 (lines_of text) ((part new).0).0
  halts_kept part name old text new (causes.Run why) tally h =
      let went = went_kept part name old h.0 h.2 new h.4 in
      (went.0, record { done = h.0; rest = h.1; out = output h.2; kept = went.1.0; mid = ((part new).0).0; first_lines = h.3; served = went.1.1; ends = inl refl })
  halts_kept part name old text new (causes.Line stop) tally h =
      let went = went_kept part name old h.0 h.3 h.4 h.6 in
      let last : List (List ℕ) = if_any (cut text).1 in
      let lines : lines_of text ≡ h.0 ++ h.1 ∷ (h.2 ++ last) = ap (λ (ls : List (List ℕ)). ls ++ last) h.5 ∙ append_assoc h.0 (h.1 ∷ h.2) last in
      (h.7.0 ∙ went.0, record { done = h.0; rest = h.1 ∷ (h.2 ++ last); out = output h.3; kept = went.1.0; mid = ((part h.4).0).0; first_lines = lines; served = went.1.1; ends = inr (h.1, h.2 ++ last, refl, h.7.1) })

  pub halts_last : {A : Type 0} (part : A → (S × List ℕ) × ℕ) (name : A → ℕ) (old : A) (line : List ℕ) (new : A) (cause : StopCause NoMemory) (tally : Tally)
      → HaltsAtEnd (record { longest = longest_line; takes = TakesPart part name KeepsAt HaltsLine; stops = StopsPart part name KeepsAt HaltsLine }) old line new cause tally
      → (name new ≡ name old) × Reaches serves ((part old).0).0 (if_any line) ((part new).0).0
  halts_last part name old line new (causes.Run why) tally h =
      let went = went_kept part name old h.0 h.2 new h.4 in
      (went.0, record { done = h.0; rest = h.1; out = output h.2; kept = went.1.0; mid = ((part new).0).0; first_lines = h.3; served = went.1.1; ends = inl refl })
  halts_last part name old line new (causes.Line stop) tally h =
      (h.1.0, record { done = []; rest = line ∷ []; out = []; kept = []; mid = ((part old).0).0; first_lines = h.0; served = (refl, refl, refl); ends = inr (line, [], refl, h.1.1) })

  -- ---- what passed

  -- what passed is held
  pub passed_held : (old new : S) (log before held synced after : Option (List ℕ)) (ls : List (List ℕ)) → Passed serves old log before ls new held synced after
      → Passed serves old log before ls new held held after
  passed_held old new log before held synced after ls h =
      record { out = h.out; kept = h.kept; served = h.served; written = h.written; holds = h.holds; stays = refl }

  -- nothing has passed yet
  pub passed_none : (old : S) (log before : Option (List ℕ)) → Passed serves old log before (cut []).0 old log log before
  passed_none old log before =
      record { out = []; kept = []; served = rw cut_none (refl, refl, refl); written = Appends-nil before; holds = Appends-nil log; stays = refl }

  -- ---- lines that are done again

  pub goes_redo : (old : S) (ls : List (List ℕ)) (es : List Effect) (new : S) → Handles (RedoLine serves) old ls es new → Redoes serves old ls new
  goes_redo old [] es new h = h.0
  goes_redo old (l ∷ ls) es new h = (h.0, h.3.0, goes_redo h.0 ls h.2 new h.4)

  pub redo_both : (old mid new : S) (ls ms : List (List ℕ)) → Redoes serves old ls mid → Redoes serves mid ms new → Redoes serves old (ls ++ ms) new
  redo_both old mid new [] ms h g = subst (λ (s : S). Redoes serves s ms new) h g
  redo_both old mid new (l ∷ ls) ms h g = (h.0, h.1, redo_both h.0 mid new ls ms h.2 g)

  pub redo_more : (old mid new : S) (earlier bytes : List ℕ) → Redoes serves old (cut earlier).0 mid → Redoes serves mid (cut ((cut earlier).1 ++ bytes)).0 new
      → Redoes serves old (cut (earlier ++ bytes)).0 new
  redo_more old mid new earlier bytes h g = rw (cut_append earlier bytes) (redo_both old mid new (cut earlier).0 (cut ((cut earlier).1 ++ bytes)).0 h g)

  pub redo_none : (old : S) → Redoes serves old (cut []).0 old
  redo_none old = rw cut_none refl

  -- ---- a line that is not done

  -- lines that were handled by what holds the service, and a fault of theirs
  pub halts_redo : {A : Type 0} (part : A → S) (name : A → ℕ) (old : A) (before : ℕ) (text : List ℕ) (new : A) (cause : StopCause RedoStop) (tally : Tally) (fault : RedoFault)
      → HaltsIn (record { longest = longest_line; takes = TakesPart part name (RedoLine serves) (RedoStopLine serves); stops = StopsPart part name (RedoLine serves) (RedoStopLine serves) }) old text new cause tally
      → IsFaultOf before cause tally fault → before + length text < 2 ^ 127 → (name new ≡ name old) × RedoHalts serves (part old) before text fault (part new)
  halts_redo part name old before text new (causes.Line stop.Bad) tally fault h is few =
      let went = handles_part part name (RedoLine serves) (RedoStopLine serves) old h.0 h.3 h.4 h.6 in
      let lines : length (cut text).0 ≡ length h.0 + length (h.1 ∷ h.2) = ap (λ (ls : List (List ℕ)). length ls) h.5 ∙ length-append h.0 (h.1 ∷ h.2) in
      let number : min (before + tally.lines) (2 ^ 128 - 1) ≡ before + length h.0 + 1 = omega (arith, h.8, lines, lines_few text, few) in
      (h.7.0 ∙ went.0, rw is (h.0, h.1, h.2, part h.4, h.5, goes_redo (part old) h.0 h.3 (part h.4) went.1, h.7.1, number))
  halts_redo part name old before text new (causes.Line stop.Starved) tally fault h is few =
      let went = handles_part part name (RedoLine serves) (RedoStopLine serves) old h.0 h.3 h.4 h.6 in
      let last : List (List ℕ) = if_any (cut text).1 in
      let lines : lines_of text ≡ h.0 ++ h.1 ∷ (h.2 ++ last) = ap (λ (ls : List (List ℕ)). ls ++ last) h.5 ∙ append_assoc h.0 (h.1 ∷ h.2) last in
      (h.7.0 ∙ went.0, rw is (h.0, h.1 ∷ (h.2 ++ last), part h.4, lines, goes_redo (part old) h.0 h.3 (part h.4) went.1, inr (h.1, h.2 ++ last, refl, h.7.1)))
  halts_redo part name old before text new (causes.Run why) tally fault h is few =
      let went = handles_part part name (RedoLine serves) (RedoStopLine serves) old h.0 h.2 new h.4 in
      (went.0, rw is (h.0, h.1, part new, h.3, goes_redo (part old) h.0 h.2 (part new) went.1, inl refl))

  -- the lines of a text that were done so far, and a fault in its next bytes
  pub redo_halts : (start old new : S) (earlier bytes : List ℕ) (fault : RedoFault) → Redoes serves start (cut earlier).0 old
      → RedoHalts serves old (length (cut earlier).0) ((cut earlier).1 ++ bytes) fault new → RedoHalts serves start 0 (earlier ++ bytes) fault new
  redo_halts start old new earlier bytes (RedoRun kinds.Read) h g = redo_more start old new earlier bytes h g
  redo_halts start old new earlier bytes (RedoRun kinds.Endless) h g = redo_more start old new earlier bytes h g
  redo_halts start old new earlier bytes (RedoRun kinds.Write) h g = g
  redo_halts start old new earlier bytes (RedoRun kinds.Starved) h g =
      let more : List ℕ = (cut earlier).1 ++ bytes in
      let lines : lines_of (earlier ++ bytes) ≡ ((cut earlier).0 ++ g.0) ++ g.1 = ap (λ (p : List (List ℕ) × List ℕ). p.0 ++ if_any p.1) (cut_append earlier bytes)
      ∙ append_assoc (cut earlier).0 (cut more).0 (if_any (cut more).1) ∙ ap (λ (ls : List (List ℕ)). (cut earlier).0 ++ ls) g.3 ∙ sym (append_assoc (cut earlier).0 g.0 g.1) in
      ((cut earlier).0 ++ g.0, g.1, g.2, lines, redo_both start old g.2 (cut earlier).0 g.0 h g.4, g.5)
  redo_halts start old new earlier bytes (BadLine number) h g =
      let lines : (cut (earlier ++ bytes)).0 ≡ ((cut earlier).0 ++ g.0) ++ g.1 ∷ g.2 = ap (λ (p : List (List ℕ) × List ℕ). p.0) (cut_append earlier bytes)
      ∙ ap (λ (ls : List (List ℕ)). (cut earlier).0 ++ ls) g.4 ∙ sym (append_assoc (cut earlier).0 g.0 (g.1 ∷ g.2)) in
      let at : number ≡ 0 + length ((cut earlier).0 ++ g.0) + 1 = omega (arith, g.7, length-append (cut earlier).0 g.0) in
      ((cut earlier).0 ++ g.0, g.1, g.2, g.3, lines, redo_both start old g.3 (cut earlier).0 g.0 h g.5, g.6, at)

-- the line that has not ended goes on
pub open_more : (most : ℕ) (text : OpenText) (earlier bytes : List ℕ) → IsOpen most text (cut ((cut earlier).1 ++ bytes)).1 → IsOpen most text (cut (earlier ++ bytes)).1
open_more most text earlier bytes is = rw (cut_append earlier bytes) is

pub open_none : (most : ℕ) (text : OpenText) → IsOpen most text [] → IsOpen most text (cut []).1
open_none most text is = rw cut_none is

-- where something holds anyway, it holds after an error
pub always_err : {T E : Type 0} (r : Result T E) (P : Type 0) → P → IfErr r (λ e. P)
always_err (Ok x) P p = tt
always_err (Err e) P p = p

pub on_ok : {T E : Type 0} (r : Result T E) (P Q : Type 0) → (P → Q) → OnOk r P → OnOk r Q
on_ok (Ok x) P Q f h = f h
on_ok (Err e) P Q f h = h
