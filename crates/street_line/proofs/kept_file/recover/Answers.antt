use Rattle.std.proofs.lemmas.Result.{IfOk-weaker}
use Rattle.street_line.proofs.KeptFiles.{redone}
use Rattle.street_line.proofs.kept_file.recover.Goals as goal

pub returns-clause-done : goal.returns-clause-done
returns-clause-done g c =
    let done = rw c.new-reader.ensures.stream at c.redo_log.ensures.done in
    IfOk-weaker c.redo_log.result _ _ (λ redo is. redone g.S.Service.serves c.args.service.now (g.K.WriteAheadLog.held c.args.file.now) _ c.redo_log.new.service redo is) done
