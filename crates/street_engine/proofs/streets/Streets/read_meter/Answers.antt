use Rattle.std.proofs.Common.{◌≡◌, ◌<◌, ◌≤◌, List, length, sym, ◌∙◌, ap, subst, Some, None, option_map, slice_get}
use Rattle.std.proofs.lemmas.Bool.{ltb-true}
use Rattle.std.proofs.lemmas.Option.{slice_get-get_or, slice_get_past}
use Rattle.std.proofs.lemmas.Result.{IfOk-weaker}
use Rattle.street_base.specs.Prelude.{shown_rows}
use Rattle.street_engine.specs.declared.sites.DetectorSite.{DetectorSite}
use Rattle.street_engine.proofs.AreSites.{site-at, no-site}
use Rattle.street_engine.proofs.StreetsStandFor.{traffic-of}
use Rattle.street_engine.proofs.streets.Streets.read_meter.Goals as goal

pub returns-in-Some : goal.returns-in-Some
returns-in-Some c =
    let s = c.self.inside in
    let site : DetectorSite = c.in-Some.site.now in
    let within : c.args.number < length c.deref.result.now = ltb-true _ _ (sym c.in-Some.ensures.lookup.0) in
    let seen : slice_get c.deref.result.now c.args.number ≡ Some site = slice_get-get_or c.deref.result.now c.args.number site within ∙ ap (λ (t : DetectorSite). Some t) (sym c.in-Some.ensures.lookup.1) in
    let at : slice_get s.sites.items c.args.number ≡ Some site = subst (λ (ss : List DetectorSite). slice_get ss c.args.number ≡ Some site) c.deref.ensures.value seen in
    IfOk-weaker c.read_meter.result _ _ (λ found is m stands.
    let t = traffic-of c.self.view_is stands in
    is m t.tiles ∙ ap (option_map shown_rows) (site-at s.tiles.network s.sites.items m.detectors c.args.number site t.sites at).there) c.read_meter.ensures

pub returns-in-None : goal.returns-in-None
returns-in-None c = λ m stands.
    let s = c.self.inside in
    let past : length c.deref.result.now ≤ c.args.number = c.in-None.ensures.lookup.3 in
    let none : slice_get s.sites.items c.args.number ≡ None = subst (λ (ss : List DetectorSite). slice_get ss c.args.number ≡ None) c.deref.ensures.value (slice_get_past c.deref.result.now c.args.number past) in
    sym (ap (option_map shown_rows) (no-site s.tiles.network s.sites.items m.detectors c.args.number (traffic-of c.self.view_is stands).sites none))
