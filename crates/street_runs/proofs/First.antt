-- The pass of the first script, which is the session 0 before and after it was served.
use Rattle.std.proofs.Common.{◌≡◌, ◌∙◌, ◌<◌, ℕ, List, [], ◌∷◌, Option, None, Some, length, get_or, ap, arith}
use Rattle.street_base.specs.declared.command.Command.{Command}
use Rattle.street_desk.specs.Passes.{DeskView, PassView}
use Rattle.street_line.proofs.Alone.{went}
use Rattle.street_line.specs.declared.script.Script.{Script}
use Rattle.street_line.specs.declared.service.Served.{Served}
use Rattle.street_line.specs.declared.service.Served.TheVariants.{Answered, Full, Unrecorded}
use Rattle.street_line.specs.Runs.{Said, silent, faulty, calls, said, Done, Goes}
use Rattle.street_line.specs.Scripts.{IsRunFrom, ScriptServed}
use Rattle.street_line.specs.Sessions.{DeskServes}
use Rattle.street_stream.specs.Lines.{lines_of}
use Rattle.street_stream.specs.declared.tally.FaultKind.{FaultKind}
use Rattle.street_runs.specs.Scripts.{AreOpened, AreRun}

least_served : (old : PassView) (command : Command) (r : Served) (new : PassView) → DeskServes old command r new → new.least ≡ old.least
least_served old command (Answered reply) new is = is.same.1
least_served old command Full new is = is.learns.same.1
least_served old command Unrecorded new is = absurd is

least_done : (old : PassView) (what : Said) (out : List ℕ) (new : PassView) → Done DeskServes old what out new → new.least ≡ old.least
least_done old silent out new done = ap (λ (p : PassView). p.least) done.0
least_done old (faulty f) out new done = ap (λ (p : PassView). p.least) done.0
least_done old (calls c) out new done = least_served old c done.0 new done.1

least_gone : (old : PassView) (ls : List (List ℕ)) (out : List ℕ) (new : PassView) → Goes DeskServes old ls out new → new.least ≡ old.least
least_gone old [] out new goes = ap (λ (p : PassView). p.least) goes.0
least_gone old (l ∷ ls) out new goes = least_gone goes.0 ls goes.2 new goes.4 ∙ least_done old (said l) goes.1 goes.0 goes.3

least_read : (old : PassView) (text replies : List ℕ) (fault : Option FaultKind) (new : PassView) → ScriptServed old text replies fault new → new.least ≡ old.least
least_read old text replies None new served = least_gone old (lines_of text) replies new served
least_read old text replies (Some kind) new served = least_gone old served.3.done served.3.out new (went old (Some []) text new (Some replies) served.0 served.1 served.3)

least_run : {F R : Type 0} (file : Option F) (old new : Script R) → IsRunFrom file old new → new.session.least ≡ old.session.least
least_run None old new run = ap (λ (p : PassView). p.least) run.0
least_run (Some f) old new run = least_read old.session run.0 new.replies.items new.fault new.session run.1

pub first_of : {R : Type 0} (desk : DeskView) (opened ran : List (Script R)) (pass : PassView) → 0 < length opened → AreOpened desk opened → AreRun opened ran
    → ((d : Script R) → pass.least ≡ (get_or ran 0 d).session.least) → pass.least ≡ 0
first_of {R} desk [] ran pass some opened run is = absurd (omega arith)
first_of {R} desk (s ∷ ss) ran pass some opened run is =
    is s ∙ (least_run s.file s (get_or ran 0 s) (run.each 0 s some) ∙ ap (λ (p : PassView). p.least) (opened 0 s some).session)
