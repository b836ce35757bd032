-- A kept session as a function is what the relations say of one whose commands are all answered whole.
use Rattle.std.proofs.Common.{◌≡◌, ◌∙◌, ℕ, ◌+◌, ◌-◌, List, [], ◌∷◌, ◌++◌, length, take, Bool, true, false, if◌then◌else◌, nat_lt, Option, Some, None, Result, Ok, Err, refl, sym, ap, subst, append_assoc, append-nil, length-append, arith}
use Rattle.std.proofs.lemmas.List.{length-take-le}
use Rattle.std.specs.Option.{option_map_or}
use Rattle.serde_json.specs.Data.{Data}
use Rattle.street_base.specs.declared.command.Command.{Command}
use Rattle.street_base.specs.declared.command.Command.TheVariants.{Load, Enter, Signal, Advance, CloseLane, ReopenLane, TakeOut, PlaceMeter, ReadMeter, Vehicle as AskVehicle, Lane as AskLane, Count}
use Rattle.street_base.specs.Shown.{census, shown_lane, shown_rows}
use Rattle.street_base.specs.declared.refusal.Refusal.{Refusal}
use Rattle.street_base.specs.declared.refusal.Refusal.TheVariants.{NoVehicle}
use Rattle.street_base.specs.declared.reply.Outcome.TheVariants.{Whole}
use Rattle.street_base.specs.declared.reply.Reply.{Reply}
use Rattle.street_base.specs.declared.reply.Reply.TheVariants.{Refused, Vehicle as TellVehicle}
use Rattle.street_base.specs.declared.reply.Whereabouts.{Whereabouts}
use Rattle.street_base.specs.Machine.{answered, refusal, told_rows, whereabouts}
use Rattle.street_base.specs.Prelude.{Detector, LaneState, State, Traffic, reply_of_whole, reply_to, state_after}
use Rattle.street_stream.specs.Lines.{cut, lines_of, is_blank}
use Rattle.street_text.specs.FaultLines.{fault_line}
use Rattle.street_text.specs.LineCommands.{command_in, command_or_fault, longest_line, or_fault, reading, value_of}
use Rattle.street_text.specs.declared.fault.LineFault.{LineFault}
use Rattle.street_text.specs.declared.fault.LineFault.TheVariants.{LineTooLong, NotJson, BadCommand, Starved}
use Rattle.street_text.specs.ReplyLines.{reply_line}
use Rattle.street_line.proofs.KeptFiles.{front_of, redone}
use Rattle.street_line.proofs.Said.{line_is}
use Rattle.street_line.proofs.SoundText.{take_less, within_text}
use Rattle.street_line.specs.Redo.{RedoSaid, RedoDone, Redoes, is_done}
use Rattle.street_line.specs.Engines.{MachineServes}
use Rattle.street_line.specs.Kept.{GoesKept, KeepsSaid, entry_of, is_change, is_short}
use Rattle.street_line.specs.KeptFiles.{sound, sound_len}
use Rattle.street_line.specs.KeptSessions.{IsSession, Left, Session, WholeServes, redo_line, redo_lines, begun_at, ended, goes_on, kept_session, told, with_line, with_lines}
use Rattle.street_line.specs.Runs.{Said, calls, faulty, said, said_by, silent}
use Rattle.street_line.specs.declared.redo.RedoneLines.{RedoneLines}
use Rattle.street_line.specs.declared.service.Served.{Served}
use Rattle.street_line.specs.declared.service.Served.TheVariants.{Answered, Full, Unrecorded}

-- ---- replies and faults

told_not_short : (o : Option Whereabouts) (car : ℕ) → is_short (option_map_or (λ found. TellVehicle car found) o (Refused NoVehicle)) ≡ false
told_not_short None car = refl
told_not_short (Some found) car = refl

rows_not_short : (o : Option Detector) → is_short (told_rows o) ≡ false
unfolding shown_rows
rows_not_short None = refl
rows_not_short (Some d) = refl

lane_not_short : (lane : LaneState) → is_short (shown_lane lane) ≡ false
unfolding shown_lane
lane_not_short lane = refl

census_not_short : (m : Traffic) → is_short (census m) ≡ false
unfolding census
census_not_short m = refl

answered_not_short : (m : State) (c : Command) → is_short (answered m c) ≡ false
answered_not_short None (Load net) = refl
answered_not_short None (Enter plan lane depart size) = refl
answered_not_short None (Signal node offset phases) = refl
answered_not_short None (Advance n) = refl
answered_not_short None (CloseLane link lane first last) = refl
answered_not_short None (ReopenLane link lane first last) = refl
answered_not_short None (TakeOut car) = refl
answered_not_short None (PlaceMeter link lane cell period) = refl
answered_not_short None (ReadMeter meter) = refl
answered_not_short None (AskVehicle car) = refl
answered_not_short None (AskLane link lane) = refl
answered_not_short None Count = refl
answered_not_short (Some m) (Load net) = refl
answered_not_short (Some m) (Enter plan lane depart size) = refl
answered_not_short (Some m) (Signal node offset phases) = refl
answered_not_short (Some m) (Advance n) = refl
answered_not_short (Some m) (CloseLane link lane first last) = refl
answered_not_short (Some m) (ReopenLane link lane first last) = refl
answered_not_short (Some m) (TakeOut car) = refl
answered_not_short (Some m) (PlaceMeter link lane cell period) = refl
answered_not_short (Some m) (ReadMeter meter) = rows_not_short _
answered_not_short (Some m) (AskVehicle car) = told_not_short (whereabouts m car) car
answered_not_short (Some m) (AskLane link lane) = lane_not_short _
answered_not_short (Some m) Count = census_not_short m

whole_not_short : (m : State) (c : Command) (o : Option Refusal) → is_short (reply_of_whole m c o) ≡ false
whole_not_short m c None = answered_not_short m c
whole_not_short m c (Some r) = refl

-- lack of memory is no fault of a line
found_fault : (o : Option Command) → said_by (or_fault BadCommand o) ≡ faulty Starved → ⊥
found_fault None is = absurd (cc)
found_fault (Some c) is = absurd (cc)

valued_fault : (o : Option Data) → said_by (command_or_fault o) ≡ faulty Starved → ⊥
valued_fault None is = absurd (cc)
valued_fault (Some d) is = found_fault (command_in true d) is

long_fault : (b : Bool) (o : Option Data) → said_by (if b then Err LineTooLong else command_or_fault o) ≡ faulty Starved → ⊥
long_fault true o is = absurd (cc)
long_fault false o is = valued_fault o is

reading_fault : (line : List ℕ) → said_by (reading line) ≡ faulty Starved → ⊥
unfolding reading
reading_fault line is = long_fault (nat_lt longest_line (length line)) (value_of line) is

blank_fault : (b : Bool) (line : List ℕ) → (if b then silent else said_by (reading line)) ≡ faulty Starved → ⊥
blank_fault true line is = absurd (cc)
blank_fault false line is = reading_fault line is

line_fault : (line : List ℕ) → said line ≡ faulty Starved → ⊥
unfolding said
line_fault line is = blank_fault (is_blank line) line is

-- a faulty line is told its fault
fault_told : (line : List ℕ) (fault : LineFault) → said line ≡ faulty fault → fault_line fault ≡ Some (told (fault_line fault))
fault_told line LineTooLong is = refl
fault_told line NotJson is = refl
fault_told line BadCommand is = refl
fault_told line Starved is = absurd (line_fault line is)

-- ---- what answers each command whole

-- the machine does, whatever else it may answer
pub whole_machine : (old : State) (c : Command) → MachineServes old c (Answered (reply_to old c Whole)) (state_after old c Whole)
whole_machine old c = (Whole, record { allowed = tt; state_is = refl; reply_is = refl })

module _ (serves : State → Command → Served → State → Type 0) (whole : (old : State) (c : Command) → serves old c (Answered (reply_to old c Whole)) (state_after old c Whole)) where
  -- one line
  line_kept : (s : Session) (line : List ℕ) (what : Said) → said line ≡ what
      → (out : List ℕ) × (entry : List ℕ) × KeepsSaid serves s.machine what line out entry (with_line s what line).machine × ((with_line s what line).replies ≡ s.replies ++ out) × ((with_line s what line).kept ≡ s.kept ++ entry)
  line_kept s line silent is = ([], [], (refl, refl, refl), sym (append-nil s.replies), sym (append-nil s.kept))
  line_kept s line (faulty fault) is = (told (fault_line fault), [], (refl, fault_told line fault is, refl), refl, sym (append-nil s.kept))
  line_kept s line (calls c) is =
      let reply = reply_to s.machine c Whole in (
        reply_line reply,
        entry_of (is_change reply) line,
        (Answered reply, whole s.machine c, line_is reply, (whole_not_short s.machine c (refusal s.machine c), refl)),
        refl,
        refl,
      )

  -- all lines
  lines_kept : (s : Session) (ls : List (List ℕ)) → (out : List ℕ) × (kept : List ℕ) × GoesKept serves s.machine ls out kept (with_lines s ls).machine × ((with_lines s ls).replies ≡ s.replies ++ out) × ((with_lines s ls).kept ≡ s.kept ++ kept)
  lines_kept s [] = ([], [], (refl, refl, refl), sym (append-nil s.replies), sym (append-nil s.kept))
  lines_kept s (l ∷ ls) =
      let first = line_kept s l (said l) refl in
      let next = with_line s (said l) l in
      let rest = lines_kept next ls in (
        first.0 ++ rest.0,
        first.1 ++ rest.1,
        (next.machine, first.0, first.1, rest.0, rest.1, first.2, rest.2, refl, refl),
        rest.3 ∙ ap (λ (l : List ℕ). l ++ rest.0) first.3 ∙ append_assoc s.replies first.0 rest.0,
        rest.4 ∙ ap (λ (l : List ℕ). l ++ rest.1) first.4 ∙ append_assoc s.kept first.1 rest.1,
      )

  -- lines that are done again
  stays_bad : (n bad : ℕ) (ls : List (List ℕ)) → redo_lines n (Err bad) ls ≡ Err bad
  stays_bad n bad [] = refl
  stays_bad n bad (l ∷ ls) = stays_bad (n + 1) bad ls

  -- one of them
  line_redo : (b : Bool) (n : ℕ) (old : State) (c : Command) (new : State) → is_done (reply_to old c Whole) ≡ b → (if b then Ok (state_after old c Whole) else Err n) ≡ Ok new → RedoSaid serves old (calls c) new
  line_redo true n old c new done is = (let same : state_after old c Whole ≡ new = cc in (reply_to old c Whole, subst (λ (s : State). serves old c (Answered (reply_to old c Whole)) s) same (whole old c), done))
  line_redo false n old c new done is = absurd (cc)

  said_redo : (n : ℕ) (old : State) (what : Said) (new : State) → redo_line n (Ok old) what ≡ Ok new → RedoSaid serves old what new
  said_redo n old silent new is = (let same : old ≡ new = cc in sym same)
  said_redo n old (faulty fault) new is = absurd (cc)
  said_redo n old (calls c) new is = line_redo (is_done (reply_to old c Whole)) n old c new refl is

  lines_redo : (n : ℕ) (old : State) (ls : List (List ℕ)) (new : State) → redo_lines n (Ok old) ls ≡ Ok new → Redoes serves old ls new
  lines_redo n old [] new is = (let same : old ≡ new = cc in sym same)
  lines_redo n old (l ∷ ls) new is = by (redo_line n (Ok old) (said l)) refl is (λ mid rest. lines_redo (n + 1) mid ls new rest)
    where
      by : (r : Result State ℕ) → redo_line n (Ok old) (said l) ≡ r → redo_lines (n + 1) r ls ≡ Ok new → ((mid : State) → redo_lines (n + 1) (Ok mid) ls ≡ Ok new → Redoes serves mid ls new)
          → Redoes serves old (l ∷ ls) new
      by (Err bad) e is later = (let none : Err bad ≡ Ok new = sym (stays_bad (n + 1) bad ls) ∙ is in absurd (cc))
      by (Ok mid) e is later = (mid, said_redo n old (said l) mid e, later mid is)

  -- ---- a session

  session_of : (had text : List ℕ) (m : State) → redo_lines 1 (Ok None) (cut (sound had)).0 ≡ Ok m → (left : Left) → goes_on had text (Ok m) ≡ Ok left → IsSession serves had text left
  session_of had text m is left gives =
      let front = front_of (sound had) in
      let bytes : ℕ = length (sound had) - length (cut (sound had)).1 in
      let long : length (sound had) ≡ length front.0 + length (cut (sound had)).1 = ap (λ (l : List ℕ). length l) front.1 ∙ length-append front.0 (cut (sound had)).1 in
      let within : length (sound had) ≡ sound_len had = length-take-le (sound_len had) had (within_text had) in
      let redo : RedoneLines = record { lines = length (cut (sound had)).0; bytes = bytes } in
      let done : RedoDone serves None (Some (sound had)) m (Some []) redo = record {
        text = sound had;
        read = sym (append-nil (sound had));
        at_end = refl;
        done = lines_redo 1 None (cut (sound had)).0 m is;
        lines = refl;
        bytes = omega (arith, long);
      } in
      let first : ended had ≡ take bytes had = take_less bytes (sound_len had) had (omega (arith, within)) in
      let s = with_lines (begun_at m) (lines_of text) in
      let served = lines_kept (begun_at m) (lines_of text) in
      let same : record { lines = length (cut (sound had)).0; replies = s.replies; file = ended had ++ s.kept } ≡ left = cc in
      subst (λ (l : Left). IsSession serves had text l) same (record {
        redo = redo;
        now = s.machine;
        lines = refl;
        serves_on = record {
          mid = m;
          log = Some (ended had);
          recovered = record { redone = redone serves None (Some had) (Some []) m redo done; cut_off = first };
          whole = record {
            text = text;
            read = sym (append-nil text);
            at_end = refl;
            passed = record { out = served.0; kept = served.1; served = served.2; written = served.3; holds = ap (λ (l : List ℕ). ended had ++ l) served.4; stays = refl };
          };
        };
      })

  pub is_session : (had text : List ℕ) (left : Left) → kept_session had text ≡ Ok left → IsSession serves had text left
  is_session had text left gives = by (redo_lines 1 (Ok None) (cut (sound had)).0) refl gives
    where
      by : (r : Result State ℕ) → redo_lines 1 (Ok None) (cut (sound had)).0 ≡ r → goes_on had text r ≡ Ok left → IsSession serves had text left
      by (Err bad) e is = absurd (cc)
      by (Ok m) e is = session_of had text m e left is

-- ---- each session of commands that are answered whole is the function's

said_is : (s : Session) (what : Said) (line out entry : List ℕ) (new : State) → KeepsSaid WholeServes s.machine what line out entry new
    → with_line s what line ≡ record { machine = new; replies = s.replies ++ out; kept = s.kept ++ entry }
said_is s silent line out entry new h = rw (h.0, h.1, h.2) (λ i. record { machine = s.machine; replies = sym (append-nil s.replies) i; kept = sym (append-nil s.kept) i })
said_is s (faulty fault) line out entry new h =
    let same : told (fault_line fault) ≡ out = ap told h.1 in
    rw (h.0, h.2) (λ i. record { machine = s.machine; replies = s.replies ++ same i; kept = sym (append-nil s.kept) i })
said_is s (calls c) line out entry new (Answered reply, served, text, is) =
    let told_so : reply_line (reply_to s.machine c Whole) ≡ out = ap reply_line (sym served.reply_is) ∙ (let line : Some (reply_line reply) ≡ Some out = sym (line_is reply) ∙ text in cc) in
    let noted : entry_of (is_change (reply_to s.machine c Whole)) line ≡ entry = ap (λ (r : Reply). entry_of (is_change r) line) (sym served.reply_is) ∙ sym is.1 in
    λ i. record { machine = sym served.state_is i; replies = s.replies ++ told_so i; kept = s.kept ++ noted i }
said_is s (calls c) line out entry new (Full, served, text, is) = absurd served
said_is s (calls c) line out entry new (Unrecorded, served, text, is) = absurd served

pub lines_are : (s : Session) (ls : List (List ℕ)) (out kept : List ℕ) (new : State) → GoesKept WholeServes s.machine ls out kept new
    → with_lines s ls ≡ record { machine = new; replies = s.replies ++ out; kept = s.kept ++ kept }
lines_are s [] out kept new h = rw (h.0, h.1, h.2) (λ i. record { machine = s.machine; replies = sym (append-nil s.replies) i; kept = sym (append-nil s.kept) i })
lines_are s (l ∷ ls) out kept new h =
    let next : Session = record { machine = h.0; replies = s.replies ++ h.1; kept = s.kept ++ h.2 } in
    let first = said_is s (said l) l h.1 h.2 h.0 h.5 in
    let rest = lines_are next ls h.3 h.4 new h.6 in
    let replies : (s.replies ++ h.1) ++ h.3 ≡ s.replies ++ out = append_assoc s.replies h.1 h.3 ∙ ap (λ (l : List ℕ). s.replies ++ l) (sym h.7) in
    let entries : (s.kept ++ h.2) ++ h.4 ≡ s.kept ++ kept = append_assoc s.kept h.2 h.4 ∙ ap (λ (l : List ℕ). s.kept ++ l) (sym h.8) in
    ap (λ (t : Session). with_lines t ls) first ∙ rest ∙ (λ i. record { machine = new; replies = replies i; kept = entries i })

redo_is : (n : ℕ) (old : State) (what : Said) (new : State) → RedoSaid WholeServes old what new → redo_line n (Ok old) what ≡ Ok new
redo_is n old silent new h = ap (λ (s : State). Ok s) (sym h)
redo_is n old (faulty fault) new h = absurd h
redo_is n old (calls c) new h =
    let done : is_done (reply_to old c Whole) ≡ true = ap is_done (sym h.1.reply_is) ∙ h.2 in
    rw done (ap (λ (s : State). Ok s) (sym h.1.state_is))

pub redo_are : (n : ℕ) (old : State) (ls : List (List ℕ)) (new : State) → Redoes WholeServes old ls new → redo_lines n (Ok old) ls ≡ Ok new
redo_are n old [] new h = ap (λ (s : State). Ok s) (sym h)
redo_are n old (l ∷ ls) new h = ap (λ (r : Result State ℕ). redo_lines (n + 1) r ls) (redo_is n old (said l) h.0 h.1) ∙ redo_are (n + 1) h.0 ls new h.2
