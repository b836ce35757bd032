use Rattle.std.proofs.Common.{◌∙◌, Some, ap, refl}
use Rattle.street_clients.proofs.Stopped.{retold, stopped}
use Rattle.street_clients.proofs.tapes.retell.Goals as goal

pub returns-in-Ok-clause-retold : goal.returns-in-Ok-clause-retold
returns-in-Ok-clause-retold g c =
    let run = c.in-Ok.ensures.replayed in
    let from = ap (λ s. Some s.now) c.new-reader.ensures.stream in
    let none = ap (λ v. v.items) c.new-writer.ensures.stream ∙ c.new.ensures.items in
    retold _ (Some c.replay.new.reader.stream.now) c.new-writer.result.stream.items _ from none c.replay.new.writer.stream.items c.replay.new.engine _ _ _ _ _ run c.apply-count.ensures.serves (ap (λ v. v.items) c.into_inner.ensures) refl

pub returns-clause-stopped : goal.returns-clause-stopped
returns-clause-stopped g c =
    let from = ap (λ s. Some s.now) c.new-reader.ensures.stream in
    let none = ap (λ v. v.items) c.new-writer.ensures.stream ∙ c.new.ensures.items in
    stopped _ (Some c.replay.new.reader.stream.now) c.new-writer.result.stream.items _ from none c.replay.new.engine (Some c.replay.new.writer.stream.items) c.in-Err.fault c.in-Err.ensures.stops
