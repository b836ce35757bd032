use Rattle.std.proofs.Common.{◌≡◌, List, [], length, refl, sym, ◌∙◌, ap, subst, arith, Option, None}
use Rattle.std.proofs.Math.ListN.{length-map}
use Rattle.street_base.specs.declared.net.NetSpec.{NetSpec}
use Rattle.street_base.specs.declared.reply.End.{End}
use Rattle.street_base.specs.Prelude.{network_fault, loaded}
use Rattle.street_base.proofs.FaultLemmas.{good_start}
use Rattle.street_base.proofs.LoadLemmas.{loaded-sound}
use Rattle.street_tile.specs.Prelude.{TilesView, TilesStandFor}
use Rattle.street_engine.specs.declared.sites.DetectorSite.{DetectorSite}
use Rattle.street_engine.specs.Prelude.{AreDetectorSites, IsTrafficOf, StreetsStandFor, streets_of}
use Rattle.street_engine.proofs.streets.Streets.load.Goals as goal

-- nobody and no detector is there yet
loaded-traffic : {own net : NetSpec} {x : TilesView} {sites : List DetectorSite} {ends : List (Option End)} → own ≡ net → network_fault net ≡ None → x.network ≡ own → TilesStandFor x (loaded own) → sites ≡ [] → ends ≡ [] → IsTrafficOf (streets_of x sites net.start ends) (loaded net)
unfolding loaded
loaded-traffic {own} {net} {x} is faultless network stands bare none = record {
  clock = refl;
  ends = none;
  tiles = subst (λ (n : NetSpec). TilesStandFor x (loaded n)) is stands;
  sound = loaded-sound net faultless;
  signals = length-map net.nodes (λ node. None) ∙ ap (λ (n : NetSpec). length n.nodes) (sym (network ∙ is));
  sites = subst (λ (ss : List DetectorSite). AreDetectorSites x.network ss []) (sym bare) (record { even = refl; few = omega arith; each = λ i d l. absurd (omega arith) });
}

pub overflow_cast-result : goal.overflow_cast-result
overflow_cast-result c = omega (arith, good_start c.args.net.now c.in_ok-network.ensures.faultless)

pub invariant_of-result : goal.invariant_of-result
invariant_of-result c = record {
  nobody = c.in-Ok.ensures.nobody;
  in_time = good_start c.args.net.now c.in_ok-network.ensures.faultless;
  some = (loaded c.args.net.now, loaded-traffic c.in_ok-network.ensures.value c.in_ok-network.ensures.faultless c.in-Ok.ensures.network c.in-Ok.ensures.stand c.new-3.ensures.items c.new-2.ensures);
}

pub returns-clause-stands : goal.returns-clause-stands
unfolding StreetsStandFor
returns-clause-stands c = loaded-traffic c.in_ok-network.ensures.value c.in_ok-network.ensures.faultless c.in-Ok.ensures.network c.in-Ok.ensures.stand c.new-3.ensures.items c.new-2.ensures
