use Rattle.std.proofs.Common.{None, sym, ◌∙◌, subst}
use Rattle.street_base.specs.Prelude.{State}
use Rattle.street_engine.specs.Prelude.{StandsFor}
use Rattle.street_desk.specs.History.{entry, state_of}
use Rattle.street_desk.proofs.Histories.{legal_snoc, state_snoc}
use Rattle.street_desk.proofs.journal.Recorder.call.Goals as goal

pub invariant_of-self : goal.invariant_of-self
invariant_of-self g c =
    let es = c.self.inside.entries.items in
    let e = entry c.args.session c.args.command c.apply_recording_by_team-reply.result.1 in
    let serves = c.apply_recording_by_team-reply.ensures.serves (state_of es) c.self.invariant.1 in (
      rw c.push_reserved.ensures.items (legal_snoc None es e c.self.invariant.0 serves.1.allowed),
      rw c.push_reserved.ensures.items (subst (λ (m : State). StandsFor c.apply_recording_by_team-reply.new.self m) (serves.1.state_is ∙ sym (state_snoc None es e)) serves.2),
      rw c.push_reserved.ensures.capacity c.self.invariant.2,
    )

pub returns-clause-allowed : goal.returns-clause-allowed
returns-clause-allowed g c = rw (← c.self.view_is) (c.apply_recording_by_team-reply.ensures.serves (state_of c.self.inside.entries.items) c.self.invariant.1).1.allowed

pub returns-clause-reply : goal.returns-clause-reply
returns-clause-reply g c = rw (← c.self.view_is) (c.apply_recording_by_team-reply.ensures.serves (state_of c.self.inside.entries.items) c.self.invariant.1).1.reply_is

pub returns-clause-legal : goal.returns-clause-legal
returns-clause-legal g c =
    let es = c.self.inside.entries.items in
    let e = entry c.args.session c.args.command c.apply_recording_by_team-reply.result.1 in
    rw c.push_reserved.ensures.items (legal_snoc None es e c.self.invariant.0 (c.apply_recording_by_team-reply.ensures.serves (state_of es) c.self.invariant.1).1.allowed)
