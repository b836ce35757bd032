use Rattle.std.proofs.Common.{◌∙◌, ◌+◌, length, vec_len, get_or, sym, subst, refl, arith}
use Rattle.std.proofs.lemmas.Option.{slice_get_read}
use Rattle.street_team.proofs.Moved.{moved_again}
use Rattle.street_team.proofs.team.Team.send.Goals as goal

pub new-task-requires-clause-may : goal.new-task-requires-clause-may
new-task-requires-clause-may g c = λ j k d at.
    let n = vec_len c.fill.new.items in
    let x = get_or c.fill.new.self.items.items j d in
    let there = c.requires.may (n + k) d (omega arith) in
    let here = subst (λ y. g.W.TeamWork.may c.args.part (n + k) c.args.shown.now y) (sym (c.fill.ensures.back j k d (omega arith))) there in
    let shown = subst (λ bs. g.W.TeamWork.may c.args.part (n + k) bs x) (sym (c.fill.ensures.shown c.if-not-fill.false)) here in
    subst (λ m. g.W.TeamWork.may c.args.part (m + k) c.fill.new.self.shown.items x) (sym c.len-first.ensures) shown

pub returns-in-Ok-clause-lock : goal.returns-in-Ok-clause-lock
returns-in-Ok-clause-lock g c =
    let there = c.in_ok-lock.ensures.lookup in
    let known = c.args.self.now.known c.args.at c.in_ok-lock.lock.now (slice_get_read c.args.self.now.locks.now (length c.args.self.now.locks.now) c.args.at c.in_ok-lock.lock.now refl there.3.0 there.1) in
    c.again-own.ensures.0 ∙ c.in-Ok.ensures.0.0 ∙ known

pub returns-clause-rest : goal.returns-clause-rest
returns-clause-rest g c = λ i d h.
    moved_again c.args.items.now.items c.fill.new.items.items c.empty_into.new.items.items c.fill.new.self.items.items (vec_len c.fill.new.items) (vec_len c.fill.new.self.items)
    c.empty_into.ensures.front c.empty_into.ensures.back c.fill.ensures.front c.fill.ensures.back i d (omega arith)
