-- What a replay from memory into memory leaves.
use Rattle.std.proofs.Common.{◌≡◌, ◌∙◌, ℕ, List, [], ◌++◌, IfSome, Option, None, Some, ap, subst}
use Rattle.std.proofs.KnownBytes.{Consumes-whole}
use Rattle.std.specs.Io.KnownBytes.{Consumes, IsAtEnd}
use Rattle.street_base.specs.declared.command.Command.TheVariants.{Count}
use Rattle.street_base.specs.declared.reply.Outcome.{Outcome}
use Rattle.street_base.specs.declared.reply.Reply.{Reply}
use Rattle.street_clients.specs.Replies.{IsRetold, IsStopped}
use Rattle.street_clients.specs.declared.tapes.Retold.{Retold}
use Rattle.street_desk.specs.History.{state_of}
use Rattle.street_stream.specs.declared.tally.Tally.{Tally}
use Rattle.street_engine.specs.Prelude.{EngineView, Serves}
use Rattle.street_tape.specs.declared.fault.TapeFault.{TapeFault}
use Rattle.street_tape.specs.Faults.{ReplaysWhole, ReplayStops, TapeBreaks}
use Rattle.street_tape.specs.Replies.{output_from}
use Rattle.street_tape.specs.Entries.{tape_reading}
use Rattle.street_tape.proofs.Counts.{counted}

-- the reader had this text, and the writer nothing
module _ (had left : Option (List ℕ)) (before text : List ℕ) (from : had ≡ Some text) (none : before ≡ []) where
  pub retold : (after : List ℕ) (view now : EngineView) (tally : Tally) (count : Reply) (outcome : Outcome) (told : Retold) → ReplaysWhole had (Some before) view left (Some after) tally
      → Serves view Count count outcome now → told.replies.items ≡ after → told.count ≡ count → IsRetold text told
  retold after view now tally count outcome told run serves replies is =
      let served = (serves (state_of run.entries) run.state).1 in
      record {
        entries = run.entries;
        says = subst (λ (o : Option (List ℕ)). IfSome o (λ t. tape_reading t ≡ Some run.entries)) from
            (Consumes-whole had left run.text (λ t. tape_reading t ≡ Some run.entries) run.read run.at_end run.says);
        replayable = run.good;
        output = replies ∙ run.written ∙ ap (λ (l : List ℕ). l ++ output_from None run.entries) none;
        count = is ∙ counted (state_of run.entries) count outcome served.allowed served.reply_is;
      }

  pub stopped : (view : EngineView) (after : Option (List ℕ)) (fault : TapeFault) → ReplayStops had (Some before) view left after fault → IsStopped text fault
  stopped view after fault run = record {
    read = run.text;
    left = left;
    view = view;
    after = after;
    consumed = subst (λ (o : Option (List ℕ)). Consumes o left run.text) from run.read;
    breaks = subst (λ (l : List ℕ). TapeBreaks (IsAtEnd left) None (Some l) run.text view after fault) none run.breaks;
  }
