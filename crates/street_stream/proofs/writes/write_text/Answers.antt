use Rattle.std.proofs.KnownBytes.{Appends-trans}
use Rattle.std.proofs.Common.{refl}
use Rattle.street_stream.proofs.Calls.{writes_more}
use Rattle.street_stream.proofs.Sent.{next_part}
use Rattle.street_stream.proofs.writes.write_text.Goals as goal

pub loop-at-preserved : goal.loop-at-preserved
loop-at-preserved g c =
    let next = next_part c.args.text.now c.loop-at.at c.in-Ok.n c.loop-at.invariant.0 c.in-Ok.ensures.bound in (
      next.0,
      rw next.1 (Appends-trans (g.W.Write.contents c.args.writer.now.stream) (g.W.Write.contents c.loop-at.writer.stream) (g.W.Write.contents c.write.new.self.stream) _ _ c.loop-at.invariant.1 c.in-Ok.ensures.bytes),
      writes_more g.W.Sink.takes c.args.writer.now.stream c.loop-at.writer.stream c.write.new.self.stream c.loop-at.invariant.2 (1, (c.loop-at.writer.stream, _, _, refl, c.in-Ok.ensures.once)),
    )

pub returns-in-Ok-eq0-clause-calls : goal.returns-in-Ok-eq0-clause-calls
returns-in-Ok-eq0-clause-calls g c = writes_more g.W.Sink.takes c.args.writer.now.stream c.loop-at.writer.stream c.write.new.self.stream c.loop-at.invariant.2 (1, (c.loop-at.writer.stream, _, _, refl, c.in-Ok-eq0.ensures.once))

pub returns-in-Ok-eq0-2-clause-calls : goal.returns-in-Ok-eq0-2-clause-calls
returns-in-Ok-eq0-2-clause-calls g c = writes_more g.W.Sink.takes c.args.writer.now.stream c.loop-at.writer.stream c.write.new.self.stream c.loop-at.invariant.2 (1, (c.loop-at.writer.stream, _, _, refl, c.write.ensures.once))
