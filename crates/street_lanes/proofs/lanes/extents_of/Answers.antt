use Rattle.std.proofs.Common.{refl, subst, arith}
use Rattle.std.proofs.lemmas.List.{take_all}
use Rattle.std.proofs.lemmas.Result.{IfOk-from_err}
use Rattle.street_lanes.specs.Inside.{AreExtents}
use Rattle.street_lanes.proofs.Fresh.{own-link, one-more-extent}
use Rattle.street_lanes.proofs.lanes.extents_of.Goals as goal

pub length_of-length-requires : goal.length_of-length-requires
length_of-length-requires c = own-link c.args.net.now c.args.own.now c.loop-at.at-index c.at-item.result c.requires c.loop-at-test.true c.at-item.is

pub returns-in_err-extents : goal.returns-in_err-extents
returns-in_err-extents c = IfOk-from_err c.from_residual.result _ c.from_residual.ensures.0

pub loop-at-init : goal.loop-at-init
loop-at-init c = rw c.in_ok-extents.ensures.items (record { at = refl; length = refl })

pub returns-in_err-push : goal.returns-in_err-push
returns-in_err-push c = IfOk-from_err c.from_residual-in_err-push.result _ c.from_residual-in_err-push.ensures.0

pub loop-at-preserved : goal.loop-at-preserved
loop-at-preserved c = one-more-extent c.args.net.now c.args.own.now c.loop-at.at-index c.at-item.result c.length_of-length.result c.loop-at.extents.items c.push.new.self.items c.loop-at.invariant c.loop-at-test.true c.at-item.is c.length_of-length.ensures c.in_ok-push.ensures.items

pub returns : goal.returns
returns c = subst (λ own. AreExtents c.args.net.now own c.loop-at.extents.items) (take_all c.loop-at.at-index c.args.own.now (omega arith)) c.loop-at.invariant
