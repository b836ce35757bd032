use Rattle.std.proofs.Common.{[], ◌∷◌, ◌++◌, List, refl, ◌∙◌, ap, arith}
use Rattle.street_base.specs.Prelude.{Traffic, metered}
use Rattle.street_engine.specs.declared.sites.DetectorSite.{DetectorSite}
use Rattle.street_engine.specs.Prelude.{IsTrafficOf, streets_of}
use Rattle.street_tile.proofs.Together.{always-err}
use Rattle.street_engine.proofs.StreetsStandFor.{kept-still, goes-still, metered-stands, kept-goes, goes-with}
use Rattle.street_engine.proofs.streets.Streets.place_meter.Goals as goal

pub place_meter-requires-clause-stand : goal.place_meter-requires-clause-stand
place_meter-requires-clause-stand c =
    let t = c.self.invariant.some.1 in
    (c.self.invariant.some.0, t.tiles, omega (arith, c.self.invariant.in_time, t.clock))

pub invariant_of-self-in_err-number : goal.invariant_of-self-in_err-number
invariant_of-self-in_err-number c = kept-still c.reserve.ensures.items refl c.self.invariant c.in_err-number.ensures.starved

pub returns-in_err-number-clause-starved : goal.returns-in_err-number-clause-starved
returns-in_err-number-clause-starved c = always-err _ c.from_residual-in_err-number.result (goes-still c.reserve.ensures.items refl c.self.view_is c.in_err-number.ensures.starved)

-- what they stand for once the detector is placed
stands : (c : goal.After-push_reserved) (m : Traffic) → IsTrafficOf (streets_of c.self.inside.tiles c.self.inside.sites.items c.self.inside.clock c.self.inside.ends.ends) m
    → IsTrafficOf (streets_of c.place_meter.new.self c.push_reserved.new.self.items c.self.inside.clock c.self.inside.ends.ends) (metered m c.args.at c.args.cell c.args.period)
stands c =
    let site : DetectorSite = record { at = c.args.at; number = c.in_ok-number.number } in
    let pushed = c.push_reserved.ensures.items ∙ ap (λ (ss : List DetectorSite). ss ++ site ∷ []) c.reserve.ensures.items in
    metered-stands c.self.view_is site c.args.cell c.args.period pushed c.in_ok-number.ensures.placed c.requires.lane c.requires.few c.in_ok-number.ensures.number

pub invariant_of-self-2 : goal.invariant_of-self-2
invariant_of-self-2 c = kept-goes (λ m. metered m c.args.at c.args.cell c.args.period) c.self.invariant c.in_ok-number.ensures.placed (stands c)

pub returns-clause-placed : goal.returns-clause-placed
returns-clause-placed c = goes-with (λ m. metered m c.args.at c.args.cell c.args.period) c.self.view_is (stands c)
