use Rattle.std.proofs.Common.{◌+◌, ◌∙◌, ap, get_or, vec_len, sym, arith}
use Rattle.street_team.proofs.Moved.{both_done}
use Rattle.street_team.proofs.team.Team.+lend_to.Goals as goal

pub returns-in-Some-sent-clause-does : goal.returns-in-Some-sent-clause-does
returns-in-Some-sent-clause-does g t c = λ i d h.
    let s = c.send-sent in
    let was = c.in-Some-sent.was.value.value in
    let b = vec_len was.items in
    both_done (g.W.TeamWork.does c.args.part) c.args.shown.now was.shown.items c.args.items.now.items s.new.items.items c.lend_to.new.items.items c.empty_into.new.items.items was.items.items
    c.receive-block.result.items.items (vec_len s.new.items) b c.in-Some-sent.first c.in-Some-sent.ensures.shown c.in-Some-sent.ensures.first
    s.ensures.rest
    (λ i d h. c.lend_to.ensures.does i d (omega arith))
    (λ i d h. c.empty_into.ensures.front i d (omega arith))
    c.in-Some-sent.ensures.back
    (λ j k d h. c.receive-block.ensures.does j k d (omega arith))
    (λ j k d h. ap (λ m. get_or c.empty_into.new.items.items (m + k) d) (sym c.lend_to.ensures.len) ∙ c.empty_into.ensures.back j k d (omega arith))
    i d (omega (arith, c.in-Some-sent.ensures.len))
