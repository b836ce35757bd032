-- What an upgrade as a handler of lines has done.
use Rattle.std.proofs.Common.{◌≡◌, ℕ, ◌+◌, ◌<◌, ◌≤◌, ◌^◌, List, [], ◌∷◌, ◌++◌, length, take, Bool, true, false, if◌then◌else◌, Option, Some, None, inl, inr, refl, sym, ap, ◌∙◌, subst, append_assoc, append-nil, length-append, arith}
use Rattle.std.proofs.KnownBytes.{Appends-trans}
use Rattle.std.proofs.lemmas.List.{take_all}
use Rattle.std.specs.Io.KnownBytes.{Appends}
use Rattle.serde_json.specs.Written.{compact_text}
use Rattle.street_desk.specs.declared.journal.Entry.{Entry}
use Rattle.street_stream.proofs.Handles.{all_replies}
use Rattle.street_stream.specs.HandledLines.{Effect, has_reply, text_in, Handles, output, calls_in as calls_of_effects, replies_in, IsNext, Breaks as LinesBreak, Whole, Broke}
use Rattle.street_stream.specs.Lines.{lines_of}
use Rattle.street_stream.specs.declared.answer.StopCause.{StopCause}
use Rattle.street_stream.specs.declared.answer.StopCause.TheVariants as cause
use Rattle.street_stream.specs.Faults.{CountsLines}
use Rattle.street_stream.specs.declared.tally.FaultKind.{FaultKind}
use Rattle.street_stream.specs.declared.tally.FaultKind.TheVariants as kinds
use Rattle.street_stream.specs.declared.tally.RunFault.{RunFault}
use Rattle.street_stream.specs.declared.tally.Tally.{Tally}
use Rattle.street_tape.proofs.Counts.{calls_first, replies_first, none_more}
use Rattle.street_tape.proofs.GoodTapes.{next_lines}
use Rattle.street_tape.specs.ReplayHandler.{fault_of, Misses}
use Rattle.street_tape.specs.Upgrades.{Cuts, CutShort, UpgradesWhole, UpgradeStops, UpgradeBreaks, UpgradesLine, RefusesLine, line_of_call, is_call, with_bytes}
use Rattle.street_tape.specs.declared.fault.TapeFault.{TapeFault}
use Rattle.street_tape.specs.declared.fault.TapeFault.TheVariants as fault
use Rattle.street_tape.specs.declared.upgrades.Upgrader.{Upgrader}
use Rattle.street_tape.proofs.Prefixes.{lines_append, prefix_second}
use Rattle.street_tape.proofs.Taken.{says, none_read, some_read, whole_read, missing_read, refused_entry, refused_head}
use Rattle.street_tape.specs.TapeLines.{TakesAll, calls_of, may_end}
use Rattle.street_tape.specs.Tapes.{entry_data, entry_line, entry_lines, head_line, tape_text}
use Rattle.street_tape.specs.Written.{IsPrefix}
use Rattle.street_tape.specs.declared.head.TapeHead.{TapeHead}
use Rattle.street_tape.specs.declared.tape.Stop.{Stop}
use Rattle.street_tape.specs.declared.tape.Stop.TheVariants.{NotTape, BadEntry, Starved}

-- ---- lines

-- the lines said these calls, whose lines were kept, and nothing was replied
pub record AreUpgraded (old : Upgrader) (ls : List (List ℕ)) (es : List Entry) (effects : List Effect) (new : Upgrader) : Type 0 where
  pub taken : TakesAll old.tape.rest ls es new.tape.rest
  pub lines : new.lines.items ≡ old.lines.items ++ entry_lines es
  pub out : output effects ≡ []
  pub calls : calls_of_effects effects ≡ length es
  pub replies : replies_in effects ≡ 0

one_line : (call : Option Entry) → line_of_call call ≡ entry_lines (calls_of call)
one_line None = refl
one_line (Some e) = sym (append-nil (entry_line e))

one_call : (call : Option Entry) → (if is_call call then 1 else 0) ≡ length (calls_of call)
one_call None = refl
one_call (Some e) = refl

upgraded : (old : Upgrader) (ls : List (List ℕ)) (effects : List Effect) (new : Upgrader) → Handles UpgradesLine old ls effects new → (es : List Entry) × AreUpgraded old ls es effects new
upgraded old [] effects new h = (
  [],
  record {
    taken = (ap (λ (u : Upgrader). u.tape.rest) h.0, refl);
    lines = ap (λ (u : Upgrader). u.lines.items) h.0 ∙ sym (append-nil old.lines.items);
    out = ap output h.1;
    calls = ap calls_of_effects h.1;
    replies = ap replies_in h.1;
  },
)
upgraded old (l ∷ ls) effects new h =
    let one = h.3 in
    let call : Option Entry = one.0 in
    let more = upgraded h.0 ls h.2 new h.4 in
    let r = more.1 in
    let es : List Entry = calls_of call ++ more.0 in
    let line : h.0.lines.items ≡ old.lines.items ++ entry_lines (calls_of call) = one.2 ∙ ap (λ (t : List ℕ). old.lines.items ++ t) (one_line call) in
    let all : new.lines.items ≡ old.lines.items ++ entry_lines es =
    r.lines
    ∙ ap (λ (t : List ℕ). t ++ entry_lines more.0) line
    ∙ append_assoc old.lines.items (entry_lines (calls_of call)) (entry_lines more.0)
    ∙ ap (λ (t : List ℕ). old.lines.items ++ t) (sym (lines_append (calls_of call) more.0))
    in
    let text : text_in (h.1).reply ≡ [] = ap (λ (e : Effect). text_in e.reply) one.3 in
    let count : (h.1).is_call ≡ is_call call = ap (λ (e : Effect). e.is_call) one.3 in
    let silent : has_reply h.1 ≡ false = ap has_reply one.3 in (
      es,
      record {
        taken = (h.0.tape.rest, call, more.0, one.1, r.taken, refl);
        lines = all;
        out = ap output h.5 ∙ ap (λ (out : List ℕ). out ++ output h.2) text ∙ r.out;
        calls = ap calls_of_effects h.5
            ∙ calls_first h.1 h.2 (length (calls_of call)) (length more.0) (ap (λ (b : Bool). if b then 1 else 0) count ∙ one_call call) r.calls
            ∙ sym (length-append (calls_of call) more.0);
        replies = ap replies_in h.5 ∙ replies_first h.1 h.2 0 0 (ap (λ (b : Bool). if b then 1 else 0) silent) r.replies ∙ none_more 0;
      },
    )

-- a line has some bytes
some_line : (e : Entry) → 0 < length (entry_line e)
unfolding entry_line
some_line e = omega (arith, length-append (compact_text (entry_data e)) (10 ∷ []))

pub few_calls : (es : List Entry) → length es ≤ length (entry_lines es)
few_calls [] = omega arith
few_calls (e ∷ es) = omega (arith, few_calls es, some_line e, length-append (entry_line e) (entry_lines es))

-- ---- a tape that was read to its end

module _ (start : Upgrader) (fresh : start.tape.rest ≡ None) (none : start.lines.items ≡ []) (unread before : Option (List ℕ)) (now : Upgrader) (left mid : Option (List ℕ)) (tally : Tally)
    (h : Whole UpgradesLine start unread before now left mid tally) where
  pub record AreKept (es : List Entry) : Type 0 where
    pub taken : TakesAll None (lines_of h.text) es now.tape.rest
    pub lines : now.lines.items ≡ entry_lines es
    pub written : Appends before mid []
    pub calls : tally.calls ≡ length es
    pub replies : tally.replies ≡ 0
    pub bytes : tally.bytes ≡ 0

  pub kept : (es : List Entry) × AreKept es
  kept =
      let all = upgraded start (lines_of h.text) h.effects now h.handled in
      let r = all.1 in (
        all.0,
        record {
          taken = subst (λ (o : Option TapeHead). TakesAll o (lines_of h.text) all.0 now.tape.rest) fresh r.taken;
          lines = r.lines ∙ ap (λ (t : List ℕ). t ++ entry_lines all.0) none;
          written = subst (Appends before mid) r.out h.written;
          calls = h.counted.calls ∙ r.calls;
          replies = h.counted.replies ∙ r.replies;
          bytes = h.counted.bytes ∙ ap length r.out;
        },
      )

  -- the number of calls is one of 64 bits, since their lines are kept
  pub calls_fit : length now.lines.items < 2 ^ 64 → tally.calls < 2 ^ 64
  calls_fit few = let all = kept.1 in omega (arith, all.calls, few_calls kept.0, ap length all.lines, few)

  text_is : (es : List Entry) → AreKept es → head_line tally.calls ++ now.lines.items ≡ tape_text es
  text_is es k = ap (λ n. head_line n ++ now.lines.items) k.calls ∙ ap (λ (t : List ℕ). head_line (length es) ++ t) k.lines

  pub upgrades_whole : (after : Option (List ℕ)) (all : Tally) → may_end now.tape.rest ≡ true → all ≡ with_bytes tally (length (head_line tally.calls ++ now.lines.items))
      → Appends mid after (head_line tally.calls ++ now.lines.items) → UpgradesWhole unread before left after all
  upgrades_whole after all end is wrote =
      let k = kept.1 in
      let text = text_is kept.0 k in
      rw is (record {
        text = h.text;
        entries = kept.0;
        read = h.read;
        at_end = h.at_end;
        says = whole_read (lines_of h.text) kept.0 now.tape.rest k.taken end;
        written = subst (Appends before after) text (Appends-trans before mid after [] (head_line tally.calls ++ now.lines.items) k.written wrote);
        counted = record { lines = h.counted.lines; calls = k.calls; replies = k.replies; bytes = ap length text };
      })

  -- of the tape only the first bytes were written
  pub upgrade_cut : (after : Option (List ℕ)) (told : RunFault) → may_end now.tape.rest ≡ true → CutShort tally mid (head_line tally.calls ++ now.lines.items) after told
      → UpgradeStops unread before left after (fault.Run told)
  upgrade_cut after told end cut =
      let is = cut.0 in
      let part = cut.1 in
      let k = kept.1 in
      let says_all = whole_read (lines_of h.text) kept.0 now.tape.rest k.taken end in
      let bytes : ℕ = told.tally.bytes in
      let prefix : IsPrefix before 0 (tape_text kept.0) after bytes = subst (λ (t : List ℕ). IsPrefix before 0 t after bytes) (text_is kept.0 k) (prefix_second before mid after 0 bytes [] _ k.written refl part) in
      record {
        text = h.text;
        read = h.read;
        breaks = record {
          done = lines_of h.text;
          rest = [];
          entries = kept.0;
          first_lines = sym (append-nil (lines_of h.text));
          says = says (lines_of h.text) kept.0 now.tape.rest k.taken;
          written = prefix;
          whole = inr (h.at_end, says_all);
          lines = inl (ap (λ (t : Tally). t.lines) is ∙ h.counted.lines);
          calls = ap (λ (t : Tally). t.calls) is ∙ k.calls;
          replies = ap (λ (t : Tally). t.replies) is ∙ k.replies;
        };
      }

  missing_by : (rest : Option TapeHead) (fault : TapeFault) (es : List Entry) → AreKept es → now.tape.rest ≡ rest → Misses rest tally fault → UpgradeStops unread before left mid fault
  missing_by None fault.NotTape es k is missing =
      let nothing = none_read (lines_of h.text) es (subst (TakesAll None (lines_of h.text) es) is k.taken) in
      record { text = h.text; read = h.read; breaks = (inr (h.at_end, nothing.0), k.written) }
  missing_by None (fault.BadEntry line) es k is missing = absurd missing
  missing_by None (fault.Run f) es k is missing = absurd missing
  missing_by (Some rest) fault.NotTape es k is missing = absurd missing
  missing_by (Some rest) (fault.BadEntry line) es k is missing =
      let ls : List (List ℕ) = lines_of h.text in
      let taken = subst (TakesAll None ls es) is k.taken in
      record {
        text = h.text;
        read = h.read;
        breaks = (
          es,
          record {
            done = ls;
            some = some_read ls es rest taken;
            calls = record { says = says ls es (Some rest) taken; good = tt };
            bad = inr (h.at_end, refl, missing_read ls es rest taken missing.0);
            number_is = missing.1 ∙ ap (λ n. n + 1) h.counted.lines;
          },
          k.written,
        );
      }
  missing_by (Some rest) (fault.Run f) es k is missing = absurd missing

  -- it has no line, or too few
  pub upgrade_misses : (fault : TapeFault) → Misses now.tape.rest tally fault → UpgradeStops unread before left mid fault
  upgrade_misses fault missing = missing_by now.tape.rest fault kept.0 kept.1 refl missing

-- ---- an upgrade that was broken off before anything was written

module _ (start : Upgrader) (fresh : start.tape.rest ≡ None) (at_end : Type 0) (before : Option (List ℕ)) (text : List ℕ) (now : Upgrader) (after : Option (List ℕ)) (tally : Tally) where
  abbrev Broken : StopCause Stop → Type 0
  Broken why = LinesBreak UpgradesLine RefusesLine at_end start before text now after why tally

  record IsUnwritten (ls : List (List ℕ)) (es : List Entry) (rest : Option TapeHead) : Type 0 where
    taken : TakesAll None ls es rest
    written : Appends before after []
    bytes : tally.bytes ≡ 0
    calls : tally.calls ≡ length es
    replies : tally.replies ≡ 0

  unwritten : (why : StopCause Stop) (h : Broken why) → (es : List Entry) × IsUnwritten h.done es h.mid.tape.rest
  unwritten why h =
      let all = upgraded start h.done h.effects h.mid h.handled in
      let r = all.1 in
      let none : length (output h.effects) ≡ 0 = ap length r.out in
      let nothing : take tally.bytes (output h.effects) ≡ [] = ap (take tally.bytes) r.out ∙ take_all tally.bytes [] (omega arith) in (
        all.0,
        record {
          taken = subst (λ (o : Option TapeHead). TakesAll o h.done all.0 h.mid.tape.rest) fresh r.taken;
          written = subst (Appends before after) nothing h.written;
          bytes = omega (arith, h.within, none);
          calls = h.calls ∙ r.calls;
          replies = all_replies tally (output h.effects) (replies_in h.effects) h.replies (omega (arith, h.within, none)) ∙ r.replies;
        },
      )

  cuts : (kind : FaultKind) (done rest : List (List ℕ)) (es : List Entry) (mid : Option TapeHead) → IsUnwritten done es mid → lines_of text ≡ done ++ rest
      → CountsLines kind tally done → Cuts at_end before text after kind tally
  cuts kind done rest es mid u first lines = record {
    done = done;
    rest = rest;
    entries = es;
    first_lines = first;
    says = says done es mid u.taken;
    written = record { sent = 0; within = omega arith; written = u.written; counted = u.bytes };
    whole = inl u.bytes;
    lines = lines;
    calls = u.calls;
    replies = u.replies;
  }

  broken_by : (why : StopCause Stop) (h : Broken why) (es : List Entry) → IsUnwritten h.done es h.mid.tape.rest → UpgradeBreaks at_end before text after (fault_of why tally)
  broken_by (cause.Run kind) h es u = cuts kind h.done h.rest es h.mid.tape.rest u h.first_lines (inl h.leaves.1)
  broken_by (cause.Line NotTape) h es u =
      let l = h.leaves in
      let first = refused_head h.done es h.mid.tape.rest l.0 u.taken l.2 in
      (inl (l.0, subst (λ (ls : List (List ℕ)). IsNext at_end text ls l.0) first.0 l.1, first.1), u.written)
  broken_by (cause.Line BadEntry) h es u =
      let l = h.leaves in
      let bad = refused_entry h.done es h.mid.tape.rest l.0 u.taken l.2 in (
        es,
        record {
          done = h.done;
          some = bad.0;
          calls = record { says = says h.done es h.mid.tape.rest u.taken; good = tt };
          bad = inl (l.0, l.1, λ fs said. bad.1 fs said.says);
          number_is = l.3;
        },
        u.written,
      )
  broken_by (cause.Line Starved) h es u =
      let l = h.leaves in
      let later = next_lines text [] at_end h.done l.0 l.1 (λ over. refl) in
      cuts kinds.Starved h.done (l.0 ∷ later.0) es h.mid.tape.rest u (ap lines_of (sym (append-nil text)) ∙ later.1 ∙ append_assoc h.done (l.0 ∷ []) later.0) (inr (refl, l.3))

  breaks_by : (why : StopCause Stop) → Broken why → UpgradeBreaks at_end before text after (fault_of why tally)
  breaks_by why h = let all = unwritten why h in broken_by why h all.0 all.1

pub upgrade_broke : (start : Upgrader) → start.tape.rest ≡ None → (unread before : Option (List ℕ)) (now : Upgrader) (left after : Option (List ℕ)) (why : StopCause Stop) (tally : Tally)
    → Broke UpgradesLine RefusesLine start unread before now left after why tally → UpgradeStops unread before left after (fault_of why tally)
upgrade_broke start fresh unread before now left after why tally h = record { text = h.text; read = h.read; breaks = breaks_by start fresh _ before h.text now after tally why h.breaks }
