use Rattle.std.proofs.Common.{◌+◌, get_or, arith}
use Rattle.street_net.specs.Prelude.{IsStart}
use Rattle.street_net.proofs.Starts.{starts-rise}
use Rattle.street_net.proofs.turns.TurnTable.list.Goals as goal

pub slice_bounds-result-count : goal.slice_bounds-result-count
slice_bounds-result-count c =
    let starts = c.args.self.now.starts.items in
    let turns = c.args.self.now.turns.items in
    let start = get_or starts c.args.list c.index.result.now in
    let next = get_or starts (c.args.list + 1) c.index-2.result.now in
    let from : IsStart turns c.args.list start = c.requires.cut c.args.list c.index.result.now (omega (arith, c.requires.there)) in
    let to : IsStart turns (c.args.list + 1) next = c.requires.cut (c.args.list + 1) c.index-2.result.now c.requires.there in
    let rise = starts-rise turns c.args.list start next from to in
    omega (arith, c.index.ensures, c.index-2.ensures, c.from-start.ensures, c.from-end.ensures)

pub slice_bounds-result-start : goal.slice_bounds-result-start
slice_bounds-result-start c = slice_bounds-result-count c
