use Rattle.std.proofs.Common.{arith}
use Rattle.std.proofs.KnownBytes.{Appends-nil, Appends-trans}
use Rattle.street_stream.proofs.Logs.{extends_none, extends_more}
use Rattle.street_stream.proofs.Sent.{next_part}
use Rattle.street_stream.proofs.log.append_all.Goals as goal

pub loop-at-init : goal.loop-at-init
loop-at-init g c = (omega arith, Appends-nil _, extends_none _, λ within. within, λ failed. failed)

pub loop-at-preserved : goal.loop-at-preserved
loop-at-preserved g c =
    let next = next_part c.args.text.now c.loop-at.at c.in-Ok.n c.loop-at.invariant.0 c.in-Ok.ensures.bound in (
      next.0,
      rw next.1 (Appends-trans (g.L.WriteAheadLog.held c.args.log.now) (g.L.WriteAheadLog.held c.loop-at.log) (g.L.WriteAheadLog.held c.append.new.self) _ _ c.loop-at.invariant.1 c.in-Ok.ensures.bytes),
      extends_more _ _ _ c.loop-at.invariant.2 c.in-Ok.ensures.synced,
      λ _. c.in-Ok.ensures.within,
      λ failed. c.loop-at.invariant.4 (c.in-Ok.ensures.sound (omega arith) failed),
    )

pub returns-in-Ok-eq0-clause-synced : goal.returns-in-Ok-eq0-clause-synced
returns-in-Ok-eq0-clause-synced g c = extends_more _ _ _ c.loop-at.invariant.2 c.append.ensures.synced

pub returns-in-Ok-eq0-2-clause-synced : goal.returns-in-Ok-eq0-2-clause-synced
returns-in-Ok-eq0-2-clause-synced g c = extends_more _ _ _ c.loop-at.invariant.2 c.append.ensures.synced
