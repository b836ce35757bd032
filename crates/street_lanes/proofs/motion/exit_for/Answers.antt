use Rattle.std.proofs.Common.{◌≡◌, ℕ, ◌<◌, length, sym, ap, ◌∙◌, subst, inl, inr, arith, Option, Some, option_map}
use Rattle.street_base.specs.declared.car.Car.{Car as CarOf}
use Rattle.street_base.specs.declared.net.NetSpec.{NetSpec}
use Rattle.street_base.specs.Prelude.{link_at}
use Rattle.street_net.proofs.GoodLinks.{good-link}
use Rattle.street_yard.specs.Prelude.{list_at}
use Rattle.street_lanes.specs.Prelude.{opens_to}
use Rattle.street_lanes.proofs.Settles.{next-of}
use Rattle.street_lanes.proofs.motion.exit_for.Goals as goal

pub returns-then-reach-length : goal.returns-then-reach-length
returns-then-reach-length c = λ car is.
    let net = c.args.leg.now.net.now in
    let link = c.args.leg.now.at.link in
    let on_road : link_at c.args.road.now.network c.args.road.now.link ≡ link_at net link = ap (λ (n : NetSpec). link_at n c.args.road.now.link) c.requires.network ∙ ap (link_at net) c.requires.link in
    let on_it : link < length c.args.road.now.network.links = (let w = c.link-within.ensures.within in let v = c.link-within.ensures.value in let l = c.requires.link in omega arith) in
    let there : link < length net.links = subst (λ (n : NetSpec). link < length n.links) c.requires.network on_it in
    let slow = (good-link net c.spec-faultless.ensures.faultless link there).slow in
    let both : ◌≡◌ {A = Option ℕ} (Some c.cell.result) (Some car.cell) = sym c.cell.ensures ∙ ap (option_map (λ (k : CarOf). k.cell)) is in
    let cell : c.cell.result ≡ car.cell = cc in
    let limit : c.limit.result ≡ (link_at net link).limit = c.limit.ensures ∙ ap (λ l. l.limit) on_road in
    let size : c.length.result ≡ (link_at net link).length = c.length.ensures ∙ ap (λ l. l.length) on_road in
    inl (omega (arith, slow), omega arith)

pub returns : goal.returns
returns c = λ car is.
    let leg = c.args.leg.now in
    inr (c.exit_is_open.ensures ∙ ap (opens_to leg.net.now leg.signal.now leg.clock leg.at (length (list_at c.args.yard.now c.args.buffer.0))) (next-of car c.args.yard.now c.args.front _ is c.next_link.ensures.next))
