-- What the scripts of one desk are told.
use Rattle.std.proofs.Common.{◌≡◌, ◌∙◌, ℕ, ◌<◌, List, Option, None, Some, Result, IsNone, IsSome, length, get_or, refl, sym, ap, subst, true≢false}
use Rattle.std.specs.Borrow.{Bor}
use Rattle.street_desk.specs.declared.journal.Entry.{Entry}
use Rattle.street_desk.specs.History.{BeginsWith, IsHistory}
use Rattle.street_desk.specs.Passes.{DeskView, PassView}
use Rattle.street_line.specs.declared.script.Script.{Script}
use Rattle.street_line.specs.Scripts.{IsRunFrom, ScriptServed}
use Rattle.street_stream.specs.declared.counted.Counted.{Counted}
use Rattle.street_stream.specs.declared.tally.FaultKind.{FaultKind}
use Rattle.street_runs.specs.declared.fault.ProgramFault.{ProgramFault}
use Rattle.street_runs.specs.Ends.{IsEnded}
use Rattle.street_runs.specs.Scripts.{ArePlayed, IsOpened}
use Rattle.street_runs.specs.Told.{AreTold, IsTold}

-- a script that was opened, if it had no fault, and has none at its end
told_at : {F R : Type 0} (file : Option F) (fault : Option FaultKind) (desk : DeskView) (place : ℕ) (old new : Script R) (journal : List Entry)
    → IsOpened desk place old → (IsNone old.fault → IsSome file) → IsRunFrom file old new → new.fault ≡ fault → IsNone fault
    → BeginsWith journal new.session.seen → IsTold place new.replies.items journal
told_at file (Some kind) desk place old new journal first opened run is none begins = absurd (true≢false none)
told_at None None desk place old new journal first opened run is none begins =
    absurd (true≢false (sym (opened (subst (λ (k : Option FaultKind). IsNone k) (sym is ∙ run.2) refl))))
told_at (Some f) None desk place old new journal first opened run is none begins =
    record {
      before = old.session;
      after = new.session;
      text = run.0;
      least = ap (λ (p : PassView). p.least) first.session;
      none = ap (λ (p : PassView). p.seen) first.session;
      served = subst (λ (k : Option FaultKind). ScriptServed old.session run.0 new.replies.items k new.session) is run.1;
      begins = begins;
    }

pub are_told : {R W : Type 0} (desk : DeskView) (names : List (Bor (List ℕ))) (before after : Option (List ℕ)) (writer : Counted W)
    (told : Result (Unit {0}) ProgramFault) (pass : PassView) (journal : List Entry)
    → ArePlayed R desk names before after writer told pass → pass.desk ≡ desk → IsEnded pass journal → AreTold R desk names before after writer journal
are_told {R} {W} desk names before after writer told pass journal played of ended = record {
  scripts = played.ran;
  many = played.run.same ∙ played.many;
  printed = played.printed;
  is_history = subst (λ (d : DeskView). IsHistory d.sessions journal) of ended.finished.is_history;
  each = λ k d within none.
      let was : k < length played.opened = subst (λ (n : ℕ). k < n) played.run.same within in
      let first = played.new k d was in
      let heard = ended.heard (get_or played.ran k d).session.seen (played.heard k d within) in
      told_at (get_or played.opened k d).file (get_or played.ran k d).fault desk k (get_or played.opened k d) (get_or played.ran k d) journal
      first first.fault.0 (played.run.each k d was) refl none heard;
}
