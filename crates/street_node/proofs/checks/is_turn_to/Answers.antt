use Rattle.std.proofs.Common.{◌≡◌, ◌∙◌, true, false, refl, sym, ap, Some, None, ◌==◌, ◌&&◌}
use Rattle.std.specs.List.{list_any}
use Rattle.std.specs.Option.{option_map_or}
use Rattle.street_base.specs.declared.net.LinkSpec.{LinkSpec}
use Rattle.street_base.specs.Prelude.{link_of, link_at, link_with}
use Rattle.street_node.proofs.GreenTurns.{is_green_turn, served, with-link, without-link, no-next, no-lane, and-false}
use Rattle.street_node.proofs.checks.is_turn_to.Goals as goal

pub returns-in_default : goal.returns-in_default
returns-in_default c =
    let net = c.args.net.now in
    let green = c.args.green.now in
    let none : link_of net green.link ≡ None = sym c.link_of.ensures.position ∙ c.in_default.is in
    sym (ap (λ o. list_any (is_green_turn net green) net.turns && option_map_or (λ (link : LinkSpec). link.to == c.args.node) o false) (without-link net green none) ∙ and-false (list_any (is_green_turn net green) net.turns))

pub returns-in_default-link_of : goal.returns-in_default-link_of
returns-in_default-link_of c =
    let net = c.args.net.now in
    let green = c.args.green.now in
    let none : link_of net green.next ≡ None = sym c.link_of-2.ensures.position ∙ c.in_default-link_of.is in
    sym (ap (λ b. b && option_map_or (λ (link : LinkSpec). link.to == c.args.node) (link_with net green.link) false) (no-next net green c.spec.ensures.faultless none))

pub returns-then-green-ge-MOST_LANES : goal.returns-then-green-ge-MOST_LANES
returns-then-green-ge-MOST_LANES c =
    let net = c.args.net.now in
    let green = c.args.green.now in
    sym (ap (λ b. b && option_map_or (λ (link : LinkSpec). link.to == c.args.node) (link_with net green.link) false) (no-lane net green c.spec.ensures.faultless c.if-green-ge-MOST_LANES.true))

pub returns-then-not-serves : goal.returns-then-not-serves
returns-then-not-serves c =
    let net = c.args.net.now in
    let green = c.args.green.now in
    let link : link_of net green.link ≡ Some c.in-Some.link = sym c.link_of.ensures.position ∙ c.in-Some.is in
    let next : link_of net green.next ≡ Some c.in-Some-link_of.next = sym c.link_of-2.ensures.position ∙ c.in-Some-link_of.is in
    let listed : list_any (is_green_turn net green) net.turns ≡ false = sym (served net green c.in-Some.link c.in-Some-link_of.next link next) ∙ sym c.serves.ensures ∙ c.if-not-serves.true in
    sym (ap (λ b. b && option_map_or (λ (link : LinkSpec). link.to == c.args.node) (link_with net green.link) false) listed)

pub returns : goal.returns
returns c =
    let net = c.args.net.now in
    let green = c.args.green.now in
    let link : link_of net green.link ≡ Some c.in-Some.link = sym c.link_of.ensures.position ∙ c.in-Some.is in
    let next : link_of net green.next ≡ Some c.in-Some-link_of.next = sym c.link_of-2.ensures.position ∙ c.in-Some-link_of.is in
    let listed : list_any (is_green_turn net green) net.turns ≡ true = sym (served net green c.in-Some.link c.in-Some-link_of.next link next) ∙ sym c.serves.ensures ∙ c.if-not-serves.false in
    let there : option_map_or (λ (link : LinkSpec). link.to == c.args.node) (link_with net green.link) false ≡ ((link_at net c.in-Some.link).to == c.args.node) = ap (λ o. option_map_or (λ (link : LinkSpec). link.to == c.args.node) o false) (with-link net green c.in-Some.link c.in-Some.ensures.within link) in
    rw (listed, there) (rw (c.as_slice-links.ensures, c.spec.ensures.value, c.position.ensures) refl)
