-- What is legal can be replayed.
use Rattle.std.proofs.Common.{◌≡◌, List, [], ◌∷◌, ◌++◌, true, All, refl, arith, nat_lt}
use Rattle.std.proofs.lemmas.Bool.{lt-ltb, and_from}
use Rattle.std.proofs.lemmas.List.Elements.{All-nil, All-cons}
use Rattle.street_base.specs.Prelude.{state_after, Allows, State}
use Rattle.street_base.specs.declared.command.Command.{Command}
use Rattle.street_base.specs.declared.command.Command.TheVariants.{Load, Enter, Signal, Advance, CloseLane, ReopenLane, TakeOut, PlaceMeter, ReadMeter, Vehicle, Lane, Count}
use Rattle.street_base.specs.declared.reply.Outcome.{Outcome}
use Rattle.street_base.specs.declared.reply.Outcome.TheVariants.{Whole, Starved, Short}
use Rattle.street_desk.specs.declared.journal.Entry.{Entry}
use Rattle.street_desk.specs.History.{state_from, IsLegalFrom}
use Rattle.street_tape.specs.Replies.{IsReplayable, AreReplayable}
use Rattle.street_tape.specs.Entries.{is_part}

allowed_again : (m : State) (c : Command) (o : Outcome) → Allows m c o → IsReplayable m c o
allowed_again m c Whole h = tt
allowed_again m c Starved h = tt
allowed_again m c (Short k) h = h

pub legal_again : (m : State) (es : List Entry) → IsLegalFrom m es → AreReplayable m es
legal_again m [] h = tt
legal_again m (e ∷ es) h = (allowed_again m e.command e.outcome h.0, legal_again (state_after m e.command e.outcome) es h.1)

-- of a list of calls that can be replayed the first can
pub replayable_front : (m : State) (xs ys : List Entry) → AreReplayable m (xs ++ ys) → AreReplayable m xs
replayable_front m [] ys h = tt
replayable_front m (x ∷ xs) ys h = (h.0, replayable_front (state_after m x.command x.outcome) xs ys h.1)

-- and the last can, after those before it
pub replayable_last : (m : State) (es : List Entry) (e : Entry) → AreReplayable m (es ++ e ∷ []) → IsReplayable (state_from m es) e.command e.outcome
replayable_last m [] e h = h.0
replayable_last m (x ∷ es) e h = replayable_last (state_after m x.command x.outcome) es e h.1

-- a number of steps is that of a part of an advance
part_of : (m : State) (c : Command) (o : Outcome) → Allows m c o → is_part c o ≡ true
part_of m (Advance steps) (Short k) h = and_from (nat_lt 0 k) (nat_lt k steps) (lt-ltb 0 k (omega (arith, h.0))) (lt-ltb k steps h.1)
part_of m (Load net) (Short k) h = absurd h
part_of m (Enter plan lane depart size) (Short k) h = absurd h
part_of m (Signal node offset phases) (Short k) h = absurd h
part_of m (CloseLane link lane first last) (Short k) h = absurd h
part_of m (ReopenLane link lane first last) (Short k) h = absurd h
part_of m (TakeOut car) (Short k) h = absurd h
part_of m (PlaceMeter link lane cell period) (Short k) h = absurd h
part_of m (ReadMeter meter) (Short k) h = absurd h
part_of m (Vehicle car) (Short k) h = absurd h
part_of m (Lane link lane) (Short k) h = absurd h
part_of m Count (Short k) h = absurd h
part_of m (Load net) Whole h = refl
part_of m (Load net) Starved h = refl
part_of m (Enter plan lane depart size) Whole h = refl
part_of m (Enter plan lane depart size) Starved h = refl
part_of m (Signal node offset phases) Whole h = refl
part_of m (Signal node offset phases) Starved h = refl
part_of m (Advance steps) Whole h = refl
part_of m (Advance steps) Starved h = refl
part_of m (CloseLane link lane first last) Whole h = refl
part_of m (CloseLane link lane first last) Starved h = refl
part_of m (ReopenLane link lane first last) Whole h = refl
part_of m (ReopenLane link lane first last) Starved h = refl
part_of m (TakeOut car) Whole h = refl
part_of m (TakeOut car) Starved h = refl
part_of m (PlaceMeter link lane cell period) Whole h = refl
part_of m (PlaceMeter link lane cell period) Starved h = refl
part_of m (ReadMeter meter) Whole h = refl
part_of m (ReadMeter meter) Starved h = refl
part_of m (Vehicle car) Whole h = refl
part_of m (Vehicle car) Starved h = refl
part_of m (Lane link lane) Whole h = refl
part_of m (Lane link lane) Starved h = refl
part_of m Count Whole h = refl
part_of m Count Starved h = refl

pub legal_parts : (m : State) (es : List Entry) → IsLegalFrom m es → All (λ e. is_part e.command e.outcome ≡ true) es
legal_parts m [] h = All-nil (λ (e : Entry). is_part e.command e.outcome ≡ true)
legal_parts m (e ∷ es) h =
    All-cons (λ (x : Entry). is_part x.command x.outcome ≡ true) e es (part_of m e.command e.outcome h.0) (legal_parts (state_after m e.command e.outcome) es h.1)
