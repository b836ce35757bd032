-- What a replay as a handler of lines has done.
use Rattle.std.proofs.Common.{◌≡◌, ℕ, ◌+◌, ◌<◌, ◌≤◌, List, [], ◌∷◌, ◌++◌, length, take, Bool, true, false, if◌then◌else◌, Option, Some, None, inl, inr, refl, sym, ap, ◌∙◌, subst, append_assoc, append-nil, arith}
use Rattle.std.proofs.Math.Seq.{take-length}
use Rattle.std.specs.Io.KnownBytes.{Appends}
use Rattle.street_base.specs.Prelude.{reply_to, state_after, State}
use Rattle.street_desk.specs.declared.journal.Entry.{Entry}
use Rattle.street_desk.specs.History.{state_from}
use Rattle.street_stream.proofs.Handles.{all_replies}
use Rattle.street_stream.specs.HandledLines.{Effect, has_text, has_reply, text_in, Handles, output, calls_in as calls_of_effects, replies_in, IsNext, Breaks as LinesBreak, Whole, Broke}
use Rattle.street_stream.specs.Lines.{lines_of}
use Rattle.street_stream.specs.declared.answer.StopCause.{StopCause}
use Rattle.street_stream.specs.declared.answer.StopCause.TheVariants as cause
use Rattle.street_stream.specs.declared.tally.FaultKind.{FaultKind}
use Rattle.street_stream.specs.declared.tally.Tally.{Tally}
use Rattle.street_engine.specs.Prelude.{EngineView, StandsFor}
use Rattle.street_text.specs.ReplyLines.{reply_line}
use Rattle.street_tape.proofs.Counts.{calls_first, replies_first, none_more}
use Rattle.street_tape.proofs.GoodTapes.{next_lines}
use Rattle.street_tape.proofs.Legal.{replayable_last}
use Rattle.street_tape.specs.BadTapes.{SaysCalls}
use Rattle.street_tape.specs.Faults.{HasBegunNext, BreaksAfter, ReplaysWhole, ReplayStops, TapeBreaks}
use Rattle.street_tape.specs.ReplayHandler.{Applies, ReplaysLine, StopsLine, fault_of, Misses}
use Rattle.street_tape.specs.Replies.{AreReplayable, output_from}
use Rattle.street_tape.specs.declared.fault.TapeFault.{TapeFault}
use Rattle.street_tape.specs.declared.fault.TapeFault.TheVariants as fault
use Rattle.street_tape.proofs.Taken.{says, none_read, some_read, whole_read, missing_read, takes_more, refused_entry, refused_head}
use Rattle.street_tape.specs.Entries.{calls_in}
use Rattle.street_tape.specs.TapeLines.{Takes, Refuses, TakesAll, may_end}
use Rattle.street_tape.specs.declared.head.TapeHead.{TapeHead}
use Rattle.street_tape.specs.declared.tape.Stop.{Stop}
use Rattle.street_tape.specs.declared.tape.Stop.TheVariants.{NotTape, BadEntry, Starved}

-- ---- lines

-- the lines said these calls, which were applied, and replied to
record AreReplayed (m : State) (old : Option TapeHead) (ls : List (List ℕ)) (es : List Entry) (effects : List Effect) (new : Option TapeHead × EngineView) : Type 0 where
  taken : TakesAll old ls es new.0
  good : AreReplayable m es
  state : StandsFor new.1 (state_from m es)
  out : output effects ≡ output_from m es
  calls : calls_of_effects effects ≡ length es
  replies : replies_in effects ≡ length es

line_more : (m : State) (old mid new : Option TapeHead × EngineView) (l : List ℕ) (ls : List (List ℕ)) (call : Option Entry) (first : Effect) (rest : List Effect)
    → Takes old.0 l call mid.0 → Applies old.1 call first mid.1 → StandsFor old.1 m → ((k : State) → StandsFor mid.1 k → (es : List Entry) × AreReplayed k mid.0 ls es rest new)
    → (es : List Entry) × AreReplayed m old.0 (l ∷ ls) es (first ∷ rest) new
line_more m old mid new l ls None first rest takes applies stands later =
    let more = later m (rw applies.0 stands) in
    let r = more.1 in
    let text : text_in first.reply ≡ [] = ap (λ (e : Effect). text_in e.reply) applies.1 in
    let none : first.is_call ≡ false = ap (λ (e : Effect). e.is_call) applies.1 in
    let silent : has_reply first ≡ false = ap has_reply applies.1 in (
      more.0,
      record {
        taken = (mid.0, None, more.0, takes, r.taken, refl);
        good = r.good;
        state = r.state;
        out = ap (λ (out : List ℕ). out ++ output rest) text ∙ r.out;
        calls = calls_first first rest 0 (length more.0) (ap (λ (b : Bool). if b then 1 else 0) none) r.calls ∙ none_more (length more.0);
        replies = replies_first first rest 0 (length more.0) (ap (λ (b : Bool). if b then 1 else 0) silent) r.replies ∙ none_more (length more.0);
      },
    )
line_more m old mid new l ls (Some e) first rest takes applies stands later =
    let did = applies.1 m stands in
    let more = later (state_after m e.command e.outcome) did.2 in
    let r = more.1 in
    let line : List ℕ = reply_line (reply_to m e.command e.outcome) in
    let text : text_in first.reply ≡ line = ap text_in did.1 in
    let loud : has_reply first ≡ true = ap has_text did.1 in
    let count : 1 + length more.0 ≡ length (e ∷ more.0) = omega arith in (
      e ∷ more.0,
      record {
        taken = (mid.0, Some e, more.0, takes, r.taken, refl);
        good = (did.0, r.good);
        state = r.state;
        out = ap (λ (out : List ℕ). out ++ output rest) text ∙ ap (λ (out : List ℕ). line ++ out) r.out;
        calls = calls_first first rest 1 (length more.0) (ap (λ (b : Bool). if b then 1 else 0) applies.0) r.calls ∙ count;
        replies = replies_first first rest 1 (length more.0) (ap (λ (b : Bool). if b then 1 else 0) loud) r.replies ∙ count;
      },
    )

replayed : (m : State) (old : Option TapeHead × EngineView) (ls : List (List ℕ)) (effects : List Effect) (new : Option TapeHead × EngineView) → Handles ReplaysLine old ls effects new → StandsFor old.1 m
    → (es : List Entry) × AreReplayed m old.0 ls es effects new
replayed m old [] effects new h stands = (
  [],
  record {
    taken = (ap (λ (s : Option TapeHead × EngineView). s.0) h.0, refl);
    good = tt;
    state = subst (λ (s : Option TapeHead × EngineView). StandsFor s.1 m) (sym h.0) stands;
    out = ap output h.1;
    calls = ap calls_of_effects h.1;
    replies = ap replies_in h.1;
  },
)
replayed m old (l ∷ ls) effects new h stands =
    let one = h.3 in
    let all = line_more m old h.0 new l ls one.0 h.1 h.2 one.1 one.2 stands (λ k on. replayed k h.0 ls h.2 new h.4 on) in
    (all.0, subst (λ (es : List Effect). AreReplayed m old.0 (l ∷ ls) all.0 es new) (sym h.5) all.1)

-- so from the first line on
from_first : (start : Option TapeHead × EngineView) → start.0 ≡ None → StandsFor start.1 None → (ls : List (List ℕ)) (effects : List Effect) (new : Option TapeHead × EngineView) → Handles ReplaysLine start ls effects new
    → (es : List Entry) × AreReplayed None None ls es effects new
from_first start fresh stands ls effects new h =
    let all = replayed None start ls effects new h stands in
    (all.0, subst (λ (o : Option TapeHead). AreReplayed None o ls all.0 effects new) fresh all.1)

-- ---- a tape that was read to its end

module _ (start : Option TapeHead × EngineView) (fresh : start.0 ≡ None) (stands : StandsFor start.1 None) (unread before : Option (List ℕ)) (now : Option TapeHead × EngineView) (left after : Option (List ℕ)) where
  pub replays_whole : (tally : Tally) → Whole ReplaysLine start unread before now left after tally → may_end now.0 ≡ true → ReplaysWhole unread before now.1 left after tally
  replays_whole tally h end =
      let all = from_first start fresh stands (lines_of h.text) h.effects now h.handled in
      let r = all.1 in
      let counted = h.counted in
      record {
        text = h.text;
        entries = all.0;
        read = h.read;
        at_end = h.at_end;
        says = whole_read (lines_of h.text) all.0 now.0 r.taken end;
        good = r.good;
        state = r.state;
        written = subst (Appends before after) r.out h.written;
        counted = record { lines = counted.lines; calls = counted.calls ∙ r.calls; replies = counted.replies ∙ r.replies; bytes = counted.bytes ∙ ap length r.out };
      }

  missing_by : (rest : Option TapeHead) (tally : Tally) (fault : TapeFault) (h : Whole ReplaysLine start unread before now left after tally) (es : List Entry)
      → AreReplayed None None (lines_of h.text) es h.effects now → now.0 ≡ rest → Misses rest tally fault → ReplayStops unread before now.1 left after fault
  missing_by None tally fault.NotTape h es r is missing =
      let none = none_read (lines_of h.text) es (subst (TakesAll None (lines_of h.text) es) is r.taken) in
      let state : StandsFor now.1 None = subst (λ (xs : List Entry). StandsFor now.1 (state_from None xs)) none.1 r.state in
      let out : output h.effects ≡ [] = r.out ∙ ap (output_from None) none.1 in
      record { text = h.text; read = h.read; breaks = (inr (h.at_end, none.0), state, subst (Appends before after) out h.written) }
  missing_by None tally (fault.BadEntry line) h es r is missing = absurd missing
  missing_by None tally (fault.Run f) h es r is missing = absurd missing
  missing_by (Some rest) tally fault.NotTape h es r is missing = absurd missing
  missing_by (Some rest) tally (fault.BadEntry line) h es r is missing =
      let ls : List (List ℕ) = lines_of h.text in
      let taken = subst (TakesAll None ls es) is r.taken in
      record {
        text = h.text;
        read = h.read;
        breaks = (
          es,
          record {
            done = ls;
            some = some_read ls es rest taken;
            calls = record { says = says ls es (Some rest) taken; good = r.good };
            bad = inr (h.at_end, refl, missing_read ls es rest taken missing.0);
            number_is = missing.1 ∙ ap (λ n. n + 1) h.counted.lines;
          },
          r.state,
          subst (Appends before after) r.out h.written,
        );
      }
  missing_by (Some rest) tally (fault.Run f) h es r is missing = absurd missing

  -- it has no line, or too few
  pub misses : (tally : Tally) (fault : TapeFault) → Whole ReplaysLine start unread before now left after tally → Misses now.0 tally fault → ReplayStops unread before now.1 left after fault
  misses tally fault h missing =
      let all = from_first start fresh stands (lines_of h.text) h.effects now h.handled in
      missing_by now.0 tally fault h all.0 all.1 refl missing

-- ---- a replay that was broken off

begun_none : (start : State) (done : List (List ℕ)) (es : List Entry) (rest : List (List ℕ)) (view : EngineView) → StandsFor view (state_from start es) → HasBegunNext start done es rest view
begun_none start done es [] view h = h
begun_none start done es (l ∷ ls) view h = inl h

module _ (start : Option TapeHead × EngineView) (fresh : start.0 ≡ None) (stands : StandsFor start.1 None) (at_end : Type 0) (before : Option (List ℕ)) (text : List ℕ) (now : Option TapeHead × EngineView) (after : Option (List ℕ)) (tally : Tally) where
  abbrev Broken : StopCause Stop → Type 0
  Broken why = LinesBreak ReplaysLine StopsLine at_end start before text now after why tally

  -- what is counted and written of the lines that were handled
  breaks_after : (why : StopCause Stop) (h : Broken why) (es : List Entry) (r : AreReplayed None None h.done es h.effects h.mid) (rest : List (List ℕ)) → HasBegunNext None h.done es rest now.1
      → BreaksAfter None before h.done rest now.1 after tally
  breaks_after why h es r rest begun = record {
    entries = es;
    says = record { says = says h.done es h.mid.0 r.taken; good = r.good };
    state = begun;
    within = subst (λ (out : List ℕ). tally.bytes ≤ length out) r.out h.within;
    written = subst (λ (out : List ℕ). Appends before after (take tally.bytes out)) r.out h.written;
    calls = h.calls ∙ r.calls;
    replies = rw (r.out, r.replies) at h.replies;
  }

  run_broken : (kind : FaultKind) (h : Broken (cause.Run kind)) (es : List Entry) → AreReplayed None None h.done es h.effects h.mid → TapeBreaks at_end None before text now.1 after (fault_of (cause.Run kind) tally)
  run_broken kind h es r =
      let leaves = h.leaves in
      let state = subst (λ (s : Option TapeHead × EngineView). StandsFor s.1 (state_from None es)) (sym leaves.0) r.state in
      record {
        done = h.done;
        rest = h.rest;
        first_lines = h.first_lines;
        broken = breaks_after (cause.Run kind) h es r h.rest (begun_none None h.done es h.rest now.1 state);
        lines = inl leaves.1;
        whole = λ read.
            let whole = leaves.2 read in
            (whole.0, all_replies tally (output h.effects) (replies_in h.effects) h.replies whole.1 ∙ r.replies ∙ sym (h.calls ∙ r.calls));
      }

  -- all that was done is written
  all_written : (effects : List Effect) (es : List Entry) → output effects ≡ output_from None es → tally.bytes ≡ length (output effects) → Appends before after (take tally.bytes (output effects))
      → Appends before after (output_from None es)
  all_written effects es out all written =
      subst (Appends before after) (ap (λ n. take n (output effects)) all ∙ take-length (output effects) ∙ out) written

  head_broken : (h : Broken (cause.Line NotTape)) (es : List Entry) → AreReplayed None None h.done es h.effects h.mid → (line : List ℕ) → IsNext at_end text h.done line → Refuses h.mid.0 line NotTape
      → now.1 ≡ h.mid.1 → tally.bytes ≡ length (output h.effects) → TapeBreaks at_end None before text now.1 after fault.NotTape
  head_broken h es r line next bad same all =
      let first = refused_head h.done es h.mid.0 line r.taken bad in
      let none : es ≡ [] = let says_none = says h.done es h.mid.0 r.taken in let nothing = ap calls_in first.0 in cc in
      let state : StandsFor now.1 None = subst (λ (v : EngineView). StandsFor v None) (sym same) (subst (λ (xs : List Entry). StandsFor h.mid.1 (state_from None xs)) none r.state) in
      let written = all_written h.effects es r.out all h.written in (
        inl (line, subst (λ (ls : List (List ℕ)). IsNext at_end text ls line) first.0 next, first.1),
        state,
        subst (λ (xs : List Entry). Appends before after (output_from None xs)) none written,
      )

  -- the next line is bad
  line_broken : (h : Broken (cause.Line BadEntry)) (es : List Entry) → AreReplayed None None h.done es h.effects h.mid → (line : List ℕ) → IsNext at_end text h.done line → 0 < length h.done
      → ((fs : List Entry) → SaysCalls (AreReplayable None) (h.done ++ line ∷ []) fs → ⊥) → StandsFor now.1 (state_from None es) → tally.lines ≡ length h.done + 1 → tally.bytes ≡ length (output h.effects)
      → TapeBreaks at_end None before text now.1 after (fault.BadEntry tally.lines)
  line_broken h es r line next some unfit state lines all = (
    es,
    record {
      done = h.done;
      some = some;
      calls = record { says = says h.done es h.mid.0 r.taken; good = r.good };
      bad = inl (line, next, unfit);
      number_is = lines;
    },
    state,
    all_written h.effects es r.out all h.written,
  )

  taken_some : (old : Option TapeHead) (line : List ℕ) (e : Entry) (new : Option TapeHead) (ls : List (List ℕ)) (es : List Entry) → TakesAll None ls es old → Takes old line (Some e) new → 0 < length ls
  taken_some None line e (Some new) ls es all takes = absurd takes
  taken_some None line e None ls es all takes = absurd takes
  taken_some (Some old) line e new ls es all takes = some_read ls es old all

  entry_broken : (h : Broken (cause.Line BadEntry)) (es : List Entry) → AreReplayed None None h.done es h.effects h.mid → (line : List ℕ) → IsNext at_end text h.done line → StopsLine h.mid line BadEntry now
      → tally.lines ≡ length h.done + 1 → tally.bytes ≡ length (output h.effects) → TapeBreaks at_end None before text now.1 after (fault.BadEntry tally.lines)
  entry_broken h es r line next (inl refused) lines all =
      let bad = refused_entry h.done es h.mid.0 line r.taken refused.0 in
      let state = subst (λ (v : EngineView). StandsFor v (state_from None es)) (sym refused.1) r.state in
      line_broken h es r line next bad.0 (λ fs said. bad.1 fs said.says) state lines all
  entry_broken h es r line next (inr stopped) lines all =
      let e : Entry = stopped.0 in
      let halt = stopped.3 (state_from None es) r.state in
      let more = says (h.done ++ line ∷ []) (es ++ e ∷ []) stopped.1 (takes_more None h.done es h.mid.0 line (Some e) stopped.1 r.taken stopped.2) in
      line_broken h es r line next (taken_some h.mid.0 line e stopped.1 h.done es r.taken stopped.2)
      (λ fs said. let read = said.says in let same : fs ≡ es ++ e ∷ [] = cc in halt.0 (replayable_last None es e (subst (AreReplayable None) same said.good)))
      halt.1 lines all

  begun_by : (mid : Option TapeHead × EngineView) (done : List (List ℕ)) (es : List Entry) (line : List ℕ) (later : List (List ℕ)) → TakesAll None done es mid.0 → StandsFor mid.1 (state_from None es) → StopsLine mid line Starved now
      → HasBegunNext None done es (line ∷ later) now.1
  begun_by mid done es line later taken state (inl refused) = inl (subst (λ (v : EngineView). StandsFor v (state_from None es)) (sym refused.1) state)
  begun_by mid done es line later taken state (inr stopped) =
      let e : Entry = stopped.0 in
      inr (e, says (done ++ line ∷ []) (es ++ e ∷ []) stopped.1 (takes_more None done es mid.0 line (Some e) stopped.1 taken stopped.2), stopped.3 (state_from None es) state)

  starved_broken : (h : Broken (cause.Line Starved)) (es : List Entry) → AreReplayed None None h.done es h.effects h.mid → (line : List ℕ) → IsNext at_end text h.done line → StopsLine h.mid line Starved now
      → tally.lines ≡ length h.done + 1 → TapeBreaks at_end None before text now.1 after (fault_of (cause.Line Starved) tally)
  starved_broken h es r line next stopped lines =
      let later = next_lines text [] at_end h.done line next (λ over. refl) in
      record {
        done = h.done;
        rest = line ∷ later.0;
        first_lines = ap lines_of (sym (append-nil text)) ∙ later.1 ∙ append_assoc h.done (line ∷ []) later.0;
        broken = breaks_after (cause.Line Starved) h es r (line ∷ later.0) (begun_by h.mid h.done es line later.0 r.taken r.state stopped);
        lines = inr (refl, lines);
        whole = λ read. absurd read;
      }

  no_head : (mid : Option TapeHead × EngineView) (m : State) (line : List ℕ) → StandsFor mid.1 m → StopsLine mid line NotTape now → Refuses mid.0 line NotTape × (now.1 ≡ mid.1)
  no_head mid m line state (inl refused) = refused
  no_head mid m line state (inr stopped) = absurd (stopped.3 m state)

  broken_by : (why : StopCause Stop) (h : Broken why) (es : List Entry) → AreReplayed None None h.done es h.effects h.mid → TapeBreaks at_end None before text now.1 after (fault_of why tally)
  broken_by (cause.Run kind) h es r = run_broken kind h es r
  broken_by (cause.Line NotTape) h es r =
      let l = h.leaves in
      let refused = no_head h.mid (state_from None es) l.0 r.state l.2 in
      head_broken h es r l.0 l.1 refused.0 refused.1 l.4
  broken_by (cause.Line BadEntry) h es r = let l = h.leaves in entry_broken h es r l.0 l.1 l.2 l.3 l.4
  broken_by (cause.Line Starved) h es r = let l = h.leaves in starved_broken h es r l.0 l.1 l.2 l.3

  breaks_by : (why : StopCause Stop) → Broken why → TapeBreaks at_end None before text now.1 after (fault_of why tally)
  breaks_by why h =
      let all = from_first start fresh stands h.done h.effects h.mid h.handled in
      broken_by why h all.0 all.1

pub replay_broke : (start : Option TapeHead × EngineView) → start.0 ≡ None → StandsFor start.1 None → (unread before : Option (List ℕ)) (now : Option TapeHead × EngineView) (left after : Option (List ℕ)) (why : StopCause Stop) (tally : Tally)
    → Broke ReplaysLine StopsLine start unread before now left after why tally → ReplayStops unread before now.1 left after (fault_of why tally)
replay_broke start fresh stands unread before now left after why tally h =
    record { text = h.text; read = h.read; breaks = breaks_by start fresh stands _ before h.text now after tally why h.breaks }
