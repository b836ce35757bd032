use Rattle.std.proofs.Common.{◌≡◌, ◌<◌, length, get_or, ap, subst, sym, ◌∙◌, arith, OnOk, OnErr}
use Rattle.std.proofs.lemmas.Result.{IfOk-weaker, on_ok_weaker, on_err_weaker}
use Rattle.street_base.specs.Prelude.{link_at}
use Rattle.street_lanes.specs.Prelude.{Detectors, Placed}
use Rattle.street_tile.proofs.PlacesMeter.{seen-there, seen-sized, seen-meters, seen-placed, seen-same, placed-or-not}
use Rattle.street_tile.proofs.tile.Tile.place_meter.Goals as goal

pub place-requires-clause-cell : goal.place-requires-clause-cell
place-requires-clause-cell c =
    let g = c.index_mut.result.now in
    let size : (get_or c.self.inside.detectors.items c.number-n.result g).size ≡ (link_at c.args.net.now c.args.at.link).length = seen-sized c.args.net.now c.self.view_is c.requires.tile c.number-n.result c.args.at c.number-n.ensures g in
    let is : g.size ≡ (get_or c.self.inside.detectors.items c.number-n.result g).size = ap (λ (h : Detectors). h.size) c.index_mut.ensures.value in
    let h : c.args.cell < (link_at c.args.net.now c.args.at.link).length = c.requires.cell in
    omega (arith, size, is, h)

pub returns-clause-placed : goal.returns-clause-placed
returns-clause-placed c =
    let g = c.index_mut.result.now in
    on_ok_weaker c.place.result (λ placed. seen-placed c.args.net.now c.self.view_is c.requires.tile c.number-n.result c.args.at c.number-n.ensures c.args.cell c.args.period g c.place.new.self
    (subst (λ (h : Detectors). Placed c.args.at c.args.cell c.args.period c.self.inside.clock h c.place.new.self) c.index_mut.ensures.value placed)) c.place.ensures.ok

pub returns-clause-starved : goal.returns-clause-starved
returns-clause-starved c =
    let g = c.index_mut.result.now in
    on_err_weaker c.place.result (λ same. seen-same c.args.net.now c.self.view_is c.requires.tile c.number-n.result c.args.at c.number-n.ensures g c.place.new.self (same ∙ c.index_mut.ensures.value)) c.place.ensures.err

pub returns-clause-number : goal.returns-clause-number
returns-clause-number c =
    let p = c.args.at in
    let g = c.index_mut.result.now in
    IfOk-weaker c.place.result _ _ (λ number is m stand. is ∙ ap (λ (h : Detectors). length h.meters) c.index_mut.ensures.value ∙ sym (seen-meters c.args.net.now c.self.view_is c.requires.tile c.number-n.result p c.number-n.ensures g m stand).even) c.place.ensures.number

pub invariant_of-self : goal.invariant_of-self
invariant_of-self c =
    let inv = c.self.invariant in
    let s = c.self.inside in
    let g = c.index_mut.result.now in
    let n = c.number-n.result in
    let p = c.args.at in
    let is : g ≡ get_or s.detectors.items n g = c.index_mut.ensures.value in
    let ok = subst (λ (h : Detectors). OnOk c.place.result (Placed p c.args.cell c.args.period s.clock h c.place.new.self)) is c.place.ensures.ok in
    let err = subst (λ (h : Detectors). OnErr c.place.result (c.place.new.self ≡ h)) is c.place.ensures.err in
    record {
      wide = record {
        nodes = inv.wide.nodes;
        numbered = inv.wide.numbered;
        pairs = inv.wide.pairs;
        mouths = inv.wide.mouths;
        coming = inv.wide.coming;
        handed = inv.wide.handed;
        arrived = inv.wide.arrived;
        left = inv.wide.left;
      };
      noted = record {
        bare = λ none. cc;
        due = placed-or-not s.clock s.detectors.items n p c.args.cell c.args.period g c.place.new.self (seen-there c.args.net.now c.self.view_is c.requires.tile n p c.number-n.ensures) c.place.result ok err inv.noted.due;
      };
    }
