use Rattle.std.proofs.Common.{◌≡◌, ◌+◌, ◌*◌, ◌∙◌, sym, ap, subst, arith, option_map}
use Rattle.street_base.specs.declared.names.Place.{Place}
use Rattle.street_net.specs.Prelude.{turn_by_position, turns_at, AreTurnsFrom}
use Rattle.street_net.proofs.TurnTable.{turn-nowhere, turn-answer}
use Rattle.street_net.proofs.Starts.{turns-at}
use Rattle.street_net.proofs.network.Network.turn.Goals as goal
use Rattle.street_net.proofs.network.Network.turn.Goals.{then-position-len-via-then-position-len, then-position-len-via-else-position-len+then-from-ge-LISTS}

pub returns-then-position-len : goal.returns-then-position-len
returns-then-position-len c =
    let net = c.self.inside.spec in
    let place : Place = record { link = c.args.link; lane = c.args.lane } in
    rw (← c.self.view_is) (sym (ap (option_map (turn_by_position place c.args.next)) (turn-nowhere net c.self.invariant.faultless place c.args.next (λ there.
    elim c.then-position-len.branch [
      | then-position-len-via-then-position-len w ↦ omega (arith, there.0, c.self.invariant.briefs_kept.one_each, w.if-position-len.true, c.position.ensures, c.len.ensures)
      | then-position-len-via-else-position-len+then-from-ge-LISTS w ↦ omega (arith, there.1, w.from.ensures, w.if-from-ge-LISTS.true)
    ]))))

pub turn_to-requires : goal.turn_to-requires
turn_to-requires c =
    let net = c.self.inside.spec in
    let table = c.self.inside.turns in
    let place : Place = record { link = c.args.link; lane = c.args.lane } in
    let are = turns-at net c.self.invariant.faultless table.starts.items table.turns.items c.self.invariant.turns_kept place (omega (arith, c.self.invariant.briefs_kept.one_each, c.if-position-len.false, c.position.ensures, c.len.ensures)) (omega (arith, c.from.ensures)) in
    let is : c.list.result.now ≡ turns_at table.starts.items table.turns.items (2 * c.args.link + c.args.lane) = c.list.ensures ∙ ap (turns_at table.starts.items table.turns.items) c.list_of.ensures.value in
    (subst (AreTurnsFrom net place) (sym is) are).rising

pub returns : goal.returns
returns c =
    let net = c.self.inside.spec in
    let table = c.self.inside.turns in
    let place : Place = record { link = c.args.link; lane = c.args.lane } in
    let are = turns-at net c.self.invariant.faultless table.starts.items table.turns.items c.self.invariant.turns_kept place (omega (arith, c.self.invariant.briefs_kept.one_each, c.if-position-len.false, c.position.ensures, c.len.ensures)) (omega (arith, c.from.ensures)) in
    let is : c.list.result.now ≡ turns_at table.starts.items table.turns.items (2 * c.args.link + c.args.lane) = c.list.ensures ∙ ap (turns_at table.starts.items table.turns.items) c.list_of.ensures.value in
    rw (← c.self.view_is) (turn-answer net c.self.invariant.faultless place c.args.next c.list.result.now (subst (AreTurnsFrom net place) (sym is) are) c.turn_to.result c.turn_to.ensures)
