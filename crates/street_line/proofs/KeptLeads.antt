-- What is kept of lines leads to the state that the lines lead to.
use Rattle.std.proofs.Common.{◌≡◌, ◌∙◌, ℕ, List, [], ◌∷◌, ◌++◌, Bool, true, false, true≢false, Option, Some, None, refl, sym, ap, subst, append_assoc}
use Rattle.street_base.specs.declared.command.Command.{Command}
use Rattle.street_base.specs.declared.command.Command.TheVariants.{Load, Enter, Signal, Advance, CloseLane, ReopenLane, TakeOut, PlaceMeter, ReadMeter, Vehicle as AskVehicle, Lane as AskLane, Count}
use Rattle.street_base.specs.declared.refusal.Refusal.{Refusal}
use Rattle.street_base.specs.declared.reply.Reply.{Reply}
use Rattle.street_base.specs.declared.reply.Reply.TheVariants as told
use Rattle.street_base.specs.declared.reply.Outcome.{Outcome}
use Rattle.street_base.specs.declared.reply.Outcome.TheVariants.{Whole, Starved, Short}
use Rattle.street_base.specs.Machine.{answered, done, refusal}
use Rattle.street_base.specs.Prelude.{State, reply_of_whole, reply_to, state_after, state_of_whole}
use Rattle.street_engine.specs.Prelude.{EngineView, StandsFor}
use Rattle.street_stream.proofs.Cut.{cut_none}
use Rattle.street_stream.proofs.CutParts.{AllInside, lines_inside, lines_onto}
use Rattle.street_stream.specs.Lines.{IsInsideLine, lines_of}
use Rattle.street_line.proofs.EngineRuns.{served-machine}
use Rattle.street_line.proofs.KeptAs.{kept-as, redoes-as}
use Rattle.street_line.proofs.Said.{line_is}
use Rattle.street_line.specs.Redo.{RedoSaid, Redoes, is_done}
use Rattle.street_line.specs.Engines.{EngineServes, MachineServes}
use Rattle.street_line.specs.Kept.{GoesKept, KeepsSaid, entry_of, is_change, is_short}
use Rattle.street_text.specs.ReplyLines.{reply_line}
use Rattle.street_line.specs.Runs.{Done, Goes, Said, calls, faulty, said, silent}
use Rattle.street_line.specs.declared.service.Served.TheVariants.{Answered, Full, Unrecorded}

-- ---- the machine stays where no change is told

done_same : (m : State) (c : Command) → is_change (answered m c) ≡ false → done m c ≡ m
done_same None (Load net) h = absurd (true≢false h)
done_same None (Enter plan lane depart size) h = refl
done_same None (Signal node offset phases) h = refl
done_same None (Advance n) h = refl
done_same None (CloseLane link lane first last) h = refl
done_same None (ReopenLane link lane first last) h = refl
done_same None (TakeOut car) h = refl
done_same None (PlaceMeter link lane cell period) h = refl
done_same None (ReadMeter meter) h = refl
done_same None (AskVehicle car) h = refl
done_same None (AskLane link lane) h = refl
done_same None Count h = refl
done_same (Some m) (Load net) h = absurd (true≢false h)
done_same (Some m) (Enter plan lane depart size) h = absurd (true≢false h)
done_same (Some m) (Signal node offset phases) h = absurd (true≢false h)
done_same (Some m) (Advance n) h = absurd (true≢false h)
done_same (Some m) (CloseLane link lane first last) h = absurd (true≢false h)
done_same (Some m) (ReopenLane link lane first last) h = absurd (true≢false h)
done_same (Some m) (TakeOut car) h = absurd (true≢false h)
done_same (Some m) (PlaceMeter link lane cell period) h = absurd (true≢false h)
done_same (Some m) (ReadMeter meter) h = refl
done_same (Some m) (AskVehicle car) h = refl
done_same (Some m) (AskLane link lane) h = refl
done_same (Some m) Count h = refl

whole_same : (m : State) (c : Command) (o : Option Refusal) → is_change (reply_of_whole m c o) ≡ false → state_of_whole m c o ≡ m
whole_same m c None h = done_same m c h
whole_same m c (Some r) h = refl

after_same : (m : State) (c : Command) (o : Outcome) → is_change (reply_to m c o) ≡ false → is_short (reply_to m c o) ≡ false → state_after m c o ≡ m
after_same m c Whole h short = whole_same m c (refusal m c) h
after_same m c Starved h short = refl
after_same None c (Short k) h short = refl
after_same (Some m) c (Short k) h short = absurd (true≢false short)

pub unchanged : (old : State) (c : Command) (reply : Reply) (new : State) → MachineServes old c (Answered reply) new → is_change reply ≡ false → is_short reply ≡ false → new ≡ old
unchanged old c reply new (o, answers) h short =
    answers.state_is ∙ after_same old c o (ap is_change (sym answers.reply_is) ∙ h) (ap is_short (sym answers.reply_is) ∙ short)

pub change_is_done : (reply : Reply) → is_change reply ≡ true → is_done reply ≡ true
change_is_done (told.Loaded links nodes turns) h = refl
change_is_done (told.Signalled cycle) h = refl
change_is_done (told.Entered car) h = refl
change_is_done (told.Clock clock) h = refl
change_is_done (told.Short clock short) h = absurd (true≢false (sym h))
change_is_done (told.Closed closed) h = refl
change_is_done (told.Taken taken) h = refl
change_is_done (told.Placed meter) h = refl
change_is_done (told.Rows now rows) h = refl
change_is_done (told.Vehicle car whereabouts) h = refl
change_is_done (told.Lane buffer cells closed waiting) h = refl
change_is_done (told.Census admitted arrived buffers cells clock taken waiting) h = refl
change_is_done (told.Refused r) h = absurd (true≢false (sym h))
change_is_done told.Starved h = absurd (true≢false (sym h))

-- ---- lines

-- a text serves as a session, and is done again, to this state
abbrev pub LeadsTo : State → List ℕ → State → Type 0
LeadsTo old text new = (out : List ℕ) × Goes MachineServes old (lines_of text) out new × Redoes MachineServes old (lines_of text) new

leads_same : (old mid new : State) (entry more : List ℕ) → mid ≡ old → entry ≡ [] → LeadsTo mid more new → LeadsTo old (entry ++ more) new
leads_same old mid new entry more same none leads = rw none (subst (λ (s : State). LeadsTo s more new) same leads)

leads_call : (b : Bool) (old mid new : State) (c : Command) (reply : Reply) (l entry more : List ℕ) → is_change reply ≡ b → is_short reply ≡ false → said l ≡ calls c → IsInsideLine l
    → MachineServes old c (Answered reply) mid → entry ≡ entry_of b l → LeadsTo mid more new → LeadsTo old (entry ++ more) new
leads_call false old mid new c reply l entry more change short says inside served is leads =
    leads_same old mid new entry more (unchanged old c reply mid served change short) is leads
leads_call true old mid new c reply l entry more change short says inside served is leads =
    let text : entry ++ more ≡ l ++ 10 ∷ more = ap (λ (e : List ℕ). e ++ more) is ∙ append_assoc l (10 ∷ []) more in
    let done : Done MachineServes old (said l) (reply_line reply) mid = rw says (Answered reply, served, line_is reply) in
    let redo : RedoSaid MachineServes old (said l) mid = rw says (reply, served, change_is_done reply change) in
    rw (text, lines_onto l more inside)
    (reply_line reply ++ leads.0, (mid, reply_line reply, leads.0, done, leads.1, refl), (mid, redo, leads.2))

leads_said : (old mid new : State) (what : Said) (l first entry more : List ℕ) → said l ≡ what → IsInsideLine l → KeepsSaid MachineServes old what l first entry mid
    → LeadsTo mid more new → LeadsTo old (entry ++ more) new
leads_said old mid new silent l first entry more says inside h leads = leads_same old mid new entry more h.0 h.2 leads
leads_said old mid new (faulty f) l first entry more says inside h leads = leads_same old mid new entry more h.0 h.2 leads
leads_said old mid new (calls c) l first entry more says inside (Answered reply, served, out, is) leads =
    leads_call (is_change reply) old mid new c reply l entry more refl is.0 says inside served is.1 leads
leads_said old mid new (calls c) l first entry more says inside (Full, served, out, is) leads = absurd served
leads_said old mid new (calls c) l first entry more says inside (Unrecorded, served, out, is) leads = absurd served

pub kept_leads : (old : State) (ls : List (List ℕ)) (out kept : List ℕ) (new : State) → AllInside ls → GoesKept MachineServes old ls out kept new → LeadsTo old kept new
kept_leads old [] out kept new inside h = rw (h.2, no_lines) ([], (h.0, refl), h.0)
  where
    no_lines : lines_of [] ≡ []
    no_lines = rw cut_none refl
kept_leads old (l ∷ ls) out kept new inside h =
    rw h.8 (leads_said old h.0 new (said l) l h.1 h.2 h.4 refl inside.0 h.5 (kept_leads h.0 ls h.3 h.4 new inside.1 h.6))

pub text_leads : (old : State) (text out kept : List ℕ) (new : State) → GoesKept MachineServes old (lines_of text) out kept new → LeadsTo old kept new
text_leads old text out kept new h = kept_leads old (lines_of text) out kept new (lines_inside text) h

-- ---- an engine serves as the machine

pub kept-machine : (before : EngineView) (ls : List (List ℕ)) (out kept : List ℕ) (after : EngineView) → GoesKept EngineServes before ls out kept after
    → (old : State) → StandsFor before old → (new : State) × GoesKept MachineServes old ls out kept new × StandsFor after new
kept-machine = kept-as EngineServes MachineServes StandsFor served-machine

pub redo-machine : (before : EngineView) (ls : List (List ℕ)) (after : EngineView) → Redoes EngineServes before ls after → (old : State) → StandsFor before old
    → (new : State) × Redoes MachineServes old ls new × StandsFor after new
redo-machine = redoes-as EngineServes MachineServes StandsFor served-machine
