use Rattle.std.proofs.Common.{◌≡◌, ◌<◌, ◌++◌, ◌∷◌, [], Some, None, length, take, Vec, sym, ◌∙◌, ap, arith, List, ℕ}
use Rattle.std.proofs.lemmas.List.{append-nil}
use Rattle.std.specs.declared.alloc.Global.{Global}
use Rattle.street_base.specs.declared.names.LinkIx.{LinkIx}
use Rattle.street_base.specs.Prelude.{plan_links}
use Rattle.street_net.proofs.PlanRefusal.{some-link, short-plan, links-more, all-taken}
use Rattle.street_net.proofs.network.Network.links_of.Goals as goal
use Rattle.street_net.proofs.network.Network.links_of.Goals.{in-Some+in_ok-push, in_default}

pub loop-id-preserved : goal.loop-id-preserved
loop-id-preserved c =
    let net = c.args.self.now in
    let plan = c.args.plan.now in
    let within : c.loop-id.id-index < length plan = omega arith in
    elim c.match-link_of.branch [
      | in-Some+in_ok-push w ↦
          ap (λ (v : Vec LinkIx Global). v.items) w.links-is
          ∙ w.in_ok-push.ensures.items
          ∙ ap (λ (xs : List ℕ). xs ++ w.in-Some.link ∷ []) c.loop-id.invariant
          ∙ sym (links-more net plan c.loop-id.id-index (Some w.in-Some.link) within (sym w.in-Some.ensures.position))
      | in_default w ↦
          ap (λ (v : Vec LinkIx Global). v.items) w.links-is
          ∙ c.loop-id.invariant
          ∙ sym (append-nil (plan_links net (take c.loop-id.id-index plan)))
          ∙ sym (links-more net plan c.loop-id.id-index None within (sym w.in_default.ensures.position))
    ]

pub returns-clause-some : goal.returns-clause-some
returns-clause-some c =
    let net = c.args.self.now in
    let plan = c.args.plan.now in
    let links : c.from_vec.result ≡ plan_links net plan = c.from_vec.ensures ∙ c.loop-id.invariant ∙ all-taken net plan c.loop-id.id-index c.loop-id-test.false in
    omega (arith, some-link net plan c.requires, ap length links)

pub returns-clause-short : goal.returns-clause-short
returns-clause-short c =
    let net = c.args.self.now in
    let plan = c.args.plan.now in
    let links : c.from_vec.result ≡ plan_links net plan = c.from_vec.ensures ∙ c.loop-id.invariant ∙ all-taken net plan c.loop-id.id-index c.loop-id-test.false in
    omega (arith, short-plan net plan c.requires, ap length links)
