use Rattle.std.proofs.Common.{◌<◌, length, subst, arith}
use Rattle.street_tile.specs.Prelude.{TilesView, TakesArrivalOf}
use Rattle.street_tile.proofs.NextArrival.{takes-arrival}
use Rattle.street_tile.proofs.tiles.Tiles.next_arrival.Goals as goal

pub returns-in-Some-clause-some : goal.returns-in-Some-clause-some
returns-in-Some-clause-some c =
    let i = c.loop-i.i in
    let n = c.in-Some.number in
    let h : i < length c.args.self.now.tiles = omega (arith, c.loop-i-test.true, c.len-i-end.ensures.len) in
    takes-arrival c.args.self.now c.arrival_of.new.self i n h c.loop-i.invariant.none
    (subst (λ (v : TilesView). TakesArrivalOf i n v c.arrival_of.new.self) c.loop-i.invariant.same c.in-Some.ensures.some)
