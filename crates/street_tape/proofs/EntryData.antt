-- The value of a call: it has no float, prints no LF, is no deeper than the parser reads, and says that call.
use Rattle.std.proofs.Common.{◌≡◌, ℕ, ◌≤◌, ◌==◌, List, [], ◌∷◌, Bool, true, false, Some, refl, inl, inr, arith}
use Rattle.std.proofs.lemmas.Bool.{cases_Bool}
use Rattle.json.proofs.Printed.Utf8.{IsUtf8-are_ascii}
use Rattle.json.specs.Print.{escape_byte}
use Rattle.serde_json.specs.Data.{Data, depth}
use Rattle.serde_json.specs.Read.{max_depth}
use Rattle.serde_json.specs.Written.{has_float}
use Rattle.street_base.specs.declared.command.Command.{Command}
use Rattle.street_base.specs.declared.command.Command.TheVariants.{Load, Enter, Signal, Advance, CloseLane, ReopenLane, TakeOut, PlaceMeter, ReadMeter, Vehicle, Lane, Count}
use Rattle.street_base.specs.declared.command.PhaseSpec.{PhaseSpec}
use Rattle.street_base.specs.declared.reply.Outcome.{Outcome}
use Rattle.street_base.specs.declared.reply.Outcome.TheVariants.{Whole, Starved, Short}
use Rattle.street_desk.specs.declared.journal.Entry.{Entry}
use Rattle.street_text.specs.ReplyLines.{items_from, number_data, node_data, link_data, turn_data, green_data, phase_data}
use Rattle.street_tape.specs.Entries.{head_in, is_part, outcome_in, call_in, entry_in, OutcomeFits, EntryFits}
use Rattle.street_tape.specs.Tapes.{outcome_data, entry_data, head_data, old_head_data}
use Rattle.street_tape.specs.declared.head.TapeHead.TheVariants.{Version1, Version2}
use Rattle.street_tape.proofs.Unbroken.{is_clear, are_items_clear}
use Rattle.street_text.proofs.Again.{command_again, command_plain}
use Rattle.street_text.proofs.CommandData.{flat_command, whole_command}
use Rattle.street_text.proofs.Plain.{IsPlain}
use Rattle.street_text.specs.CommandTexts.{command_data, tells_size}
use Rattle.street_text.specs.Fits.{IsWord}

-- ---- it has no float

whole_outcome : (o : Outcome) → has_float (outcome_data o) ≡ false
whole_outcome Whole = refl
whole_outcome Starved = refl
whole_outcome (Short k) = refl

pub whole_entry : (e : Entry) → has_float (entry_data e) ≡ false
whole_entry e = rw (whole_command e.command, whole_outcome e.outcome) refl

-- ---- it says the call

outcome_again : (o : Outcome) → outcome_in (outcome_data o) ≡ Some o
unfolding outcome_in
outcome_again Whole = refl
outcome_again Starved = refl
outcome_again (Short k) = refl

call_again : (sized : Bool) (e : Entry) → (tells_size e.command ≡ true → sized ≡ true) → call_in sized (entry_data e) ≡ Some e
unfolding call_in
call_again sized e told = rw (command_again sized e.command told, outcome_again e.outcome) refl

-- where a size is told, sizes are read
pub entry_again : (sized : Bool) (e : Entry) → is_part e.command e.outcome ≡ true → (tells_size e.command ≡ true → sized ≡ true) → entry_in sized (entry_data e) ≡ Some e
unfolding entry_in
entry_again sized e part told = rw (call_again sized e told, part) refl

pub head_again : (calls : ℕ) → head_in (head_data calls) ≡ Some (Version2 calls)
unfolding head_in
head_again calls = refl

pub old_head_again : head_in old_head_data ≡ Some Version1
unfolding head_in
old_head_again = refl

-- ---- with numbers of 64 bits it is plain

outcome_plain : (o : Outcome) → OutcomeFits o → IsPlain (outcome_data o)
outcome_plain Whole h = IsUtf8-are_ascii _ refl
outcome_plain Starved h = IsUtf8-are_ascii _ refl
outcome_plain (Short k) h = h

pub entry_plain : (e : Entry) → EntryFits e → IsPlain (entry_data e)
entry_plain e h =
    ((IsUtf8-are_ascii _ refl, command_plain e.command h.command, (IsUtf8-are_ascii _ refl, outcome_plain e.outcome h.outcome, (IsUtf8-are_ascii _ refl, h.session, tt))), refl)

pub head_plain : (calls : ℕ) → IsWord calls → IsPlain (head_data calls)
head_plain calls h = ((IsUtf8-are_ascii _ refl, h, (IsUtf8-are_ascii _ refl, omega arith, tt)), refl)

pub old_head_plain : IsPlain old_head_data
old_head_plain = ((IsUtf8-are_ascii _ refl, omega arith, tt), refl)

-- ---- it prints no LF

clear_list : {T : Type 0} (one : T → Data) → ((x : T) → is_clear (one x) ≡ true) → (xs : List T) → are_items_clear (items_from one xs) ≡ true
clear_list one each [] = refl
clear_list one each (x ∷ xs) = rw (each x) (clear_list one each xs)

clear_phase : (p : PhaseSpec) → is_clear (phase_data p) ≡ true
clear_phase p = rw (clear_list green_data (λ g. refl) p.greens) refl

clear_command : (c : Command) → is_clear (command_data c) ≡ true
unfolding escape_byte
clear_command (Load net) = rw (clear_list link_data (λ l. refl) net.links, clear_list node_data (λ n. refl) net.nodes, clear_list turn_data (λ t. refl) net.turns) refl
clear_command (Enter plan lane depart size) = elim (cases_Bool (size == 1)) as (λ _. is_clear (command_data (Enter plan lane depart size)) ≡ true) [
  | inl one ↦ rw (one, clear_list number_data (λ n. refl) plan) refl
  | inr other ↦ rw (other, clear_list number_data (λ n. refl) plan) refl
]
clear_command (Signal node offset phases) = rw (clear_list phase_data clear_phase phases) refl
clear_command (Advance steps) = refl
clear_command (CloseLane link lane first last) = refl
clear_command (ReopenLane link lane first last) = refl
clear_command (TakeOut car) = refl
clear_command (PlaceMeter link lane cell period) = refl
clear_command (ReadMeter meter) = refl
clear_command (Vehicle car) = refl
clear_command (Lane link lane) = refl
clear_command Count = refl

clear_outcome : (o : Outcome) → is_clear (outcome_data o) ≡ true
unfolding escape_byte
clear_outcome Whole = refl
clear_outcome Starved = refl
clear_outcome (Short k) = refl

pub clear_entry : (e : Entry) → is_clear (entry_data e) ≡ true
unfolding escape_byte
clear_entry e = rw (clear_command e.command, clear_outcome e.outcome) refl

pub clear_head : (calls : ℕ) → is_clear (head_data calls) ≡ true
unfolding escape_byte
clear_head calls = refl

pub clear_old_head : is_clear old_head_data ≡ true
unfolding escape_byte
clear_old_head = refl

-- ---- it is no deeper than the parser reads

flat_outcome : (o : Outcome) → depth (outcome_data o) ≤ 1
flat_outcome Whole = omega arith
flat_outcome Starved = omega arith
flat_outcome (Short k) = omega arith

pub shallow_entry : (e : Entry) → depth (entry_data e) ≤ max_depth
shallow_entry e = let command = flat_command e.command in let outcome = flat_outcome e.outcome in omega arith
