use Rattle.std.proofs.Common.{◌≡◌, ℕ, List, [], ◌∷◌, ◌++◌, get_or, refl, ◌∙◌, ap, Option, None}
use Rattle.std.proofs.lemmas.List.{get_or_default}
use Rattle.street_base.specs.declared.reply.End.{End}
use Rattle.street_base.specs.Prelude.{Traffic, plan_links, entered}
use Rattle.street_engine.specs.Prelude.{IsTrafficOf, streets_of}
use Rattle.street_tile.proofs.Together.{always-err}
use Rattle.street_engine.proofs.StreetsStandFor.{kept-still, goes-still, admitted-stands, kept-goes, goes-with}
use Rattle.street_engine.proofs.streets.Streets.admit.Goals as goal

pub invariant_of-self-in_err-admit : goal.invariant_of-self-in_err-admit
invariant_of-self-in_err-admit c = kept-still refl c.reserve.ensures.kept c.self.invariant c.in_err-admit.ensures.starved

pub returns-in_err-admit-clause-starved : goal.returns-in_err-admit-clause-starved
returns-in_err-admit-clause-starved c = always-err _ c.from_residual-in_err-admit.result (goes-still refl c.reserve.ensures.kept c.self.view_is c.in_err-admit.ensures.starved)

-- what they stand for once the number is given, for whichever identifiers make the plan
stands : (c : goal.After-note_given) (ids : List ℕ) → c.args.plan ≡ plan_links c.args.self.now.tiles.network ids
    → (m : Traffic) → IsTrafficOf (streets_of c.self.inside.tiles c.self.inside.sites.items c.self.inside.clock c.self.inside.ends.ends) m
    → IsTrafficOf (streets_of c.admit.new.self c.self.inside.sites.items c.self.inside.clock c.note_given.new.self.ends) (entered m ids c.args.lane c.args.depart c.args.size)
stands c ids same =
    let begin : c.index-as_slice-0.result ≡ get_or c.args.plan 0 0 = c.index-as_slice-0.is ∙ ap (λ (l : List ℕ). get_or l 0 c.index-as_slice-0.result) c.as_slice.ensures ∙ get_or_default c.args.plan 0 c.index-as_slice-0.result 0 c.requires.some in
    let given = c.note_given.ensures ∙ ap (λ (es : List (Option End)). es ++ None ∷ []) c.reserve.ensures.kept in
    admitted-stands c.self.view_is given c.len.result c.index-as_slice-0.result c.args.lane c.args.depart c.args.size c.args.plan c.in_ok-new.field-0.value ids c.in_ok-admit.ensures.waits c.len.ensures.count c.in_ok-new.ensures.ok same begin c.requires.lane

pub invariant_of-self-2 : goal.invariant_of-self-2
invariant_of-self-2 c = kept-goes (λ m. entered m c.requires.links.0 c.args.lane c.args.depart c.args.size) c.self.invariant c.in_ok-admit.ensures.waits (stands c c.requires.links.0 c.requires.links.1)

pub returns-clause-waits : goal.returns-clause-waits
returns-clause-waits c = λ ids same. goes-with (λ m. entered m ids c.args.lane c.args.depart c.args.size) c.self.view_is (stands c ids same)
