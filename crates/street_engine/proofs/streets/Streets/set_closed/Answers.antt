use Rattle.std.proofs.Common.{refl}
use Rattle.std.proofs.lemmas.Result.{on_ok_weaker, on_err_weaker, IfOk-weaker}
use Rattle.street_base.specs.Prelude.{with_closure}
use Rattle.street_engine.proofs.StreetsStandFor.{kept-still, goes-still, closure-stands, kept-goes, kept-either, goes-with, traffic-of}
use Rattle.street_engine.proofs.streets.Streets.set_closed.Goals as goal

pub invariant_of-self : goal.invariant_of-self
invariant_of-self c =
    kept-either c.set_closed.result _
    (on_ok_weaker c.set_closed.result (λ does. kept-goes (with_closure c.args.closed c.args.at c.args.first c.args.last) c.self.invariant does (closure-stands c.args.closed c.args.at c.args.first c.args.last does)) c.set_closed.ensures.marks)
    (on_err_weaker c.set_closed.result (λ keeps. kept-still refl refl c.self.invariant keeps) c.set_closed.ensures.starved)

pub returns-clause-marks : goal.returns-clause-marks
returns-clause-marks c = on_ok_weaker c.set_closed.result (λ does. goes-with (with_closure c.args.closed c.args.at c.args.first c.args.last) c.self.view_is (closure-stands c.args.closed c.args.at c.args.first c.args.last does)) c.set_closed.ensures.marks

pub returns-clause-count : goal.returns-clause-count
returns-clause-count c = IfOk-weaker c.set_closed.result _ _ (λ count is m stands. is m (traffic-of c.self.view_is stands).tiles) c.set_closed.ensures.count

pub returns-clause-starved : goal.returns-clause-starved
returns-clause-starved c = on_err_weaker c.set_closed.result (λ keeps. goes-still refl refl c.self.view_is keeps) c.set_closed.ensures.starved
