-- The line of a count after a replay.
use Rattle.std.proofs.Common.{◌≡◌, ℕ, List, Option, subst, ap}
use Rattle.std.proofs.KnownBytes.{Appends-trans}
use Rattle.std.specs.Io.KnownBytes.{Appends}
use Rattle.street_base.specs.declared.command.Command.TheVariants.{Count}
use Rattle.street_base.specs.declared.reply.Outcome.{Outcome}
use Rattle.street_base.specs.declared.reply.Reply.{Reply}
use Rattle.street_desk.specs.History.{state_of}
use Rattle.street_engine.specs.Prelude.{EngineView, Serves}
use Rattle.street_runs.specs.Outputs.{IsBegun}
use Rattle.street_runs.specs.Replays.{ReadsTape, ReplaysCounted, CountStops, count_line}
use Rattle.street_stream.specs.declared.tally.RunFault.{RunFault}
use Rattle.street_stream.specs.declared.tally.Tally.{Tally}
use Rattle.street_tape.specs.declared.fault.TapeFault.TheVariants.{Run}
use Rattle.street_tape.specs.Faults.{ReplaysWhole}
use Rattle.street_text.specs.ReplyLines.{reply_line}
use Rattle.street_tape.proofs.Counts.{counted}

module _ (unread before left mid : Option (List ℕ)) (view now : EngineView) (tally : Tally) (reply : Reply) (outcome : Outcome) (run : ReplaysWhole unread before view left mid tally)
    (serves : Serves view Count reply outcome now) where
  reads : ReadsTape unread left run.entries
  reads = record { text = run.text; read = run.read; at_end = run.at_end; says = run.says; good = run.good }

  told : reply_line reply ≡ count_line run.entries
  told =
      let served = (serves (state_of run.entries) run.state).1 in
      ap reply_line (counted (state_of run.entries) reply outcome served.allowed served.reply_is)

  pub counts : (after : Option (List ℕ)) → Appends mid after (reply_line reply) → ReplaysCounted unread before left after
  counts after wrote = (run.entries, reads, Appends-trans before mid after _ _ run.written (subst (Appends mid after) told wrote))

  pub count_stops : (after : Option (List ℕ)) (fault : RunFault) → IsBegun mid after (reply_line reply) → CountStops unread before left after (Run fault)
  count_stops after fault begun = (run.entries, reads, tt, mid, run.written, subst (IsBegun mid after) told begun)
