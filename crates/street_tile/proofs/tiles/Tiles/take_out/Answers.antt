use Rattle.std.proofs.Common.{◌≡◌, length, ap, sym, ◌∙◌, subst, arith}
use Rattle.street_base.specs.Prelude.{IsWhole}
use Rattle.street_tile.specs.Prelude.{without, TilesView, TilesGo, TileHasNot}
use Rattle.street_tile.proofs.TileCommands.{nowhere-does}
use Rattle.street_tile.proofs.tiles.Tiles.take_out.Goals as goal
use Rattle.street_tile.proofs.tiles.Tiles.take_out.Goals.{in_default-via-in-None-1, in_default-via-in-Some+else-take_on_link}

-- where it was not on the lanes of its link nothing has changed
unchanged : (c : goal.After-loop-i) → c.in_default.self ≡ c.args.self.now
unchanged c = elim c.in_default.branch [
  | in_default-via-in-None-1 w ↦ w.self-is
  | in_default-via-in-Some+else-take_on_link w ↦ w.self-is ∙ w.take_on_link.ensures.kept w.if-take_on_link.false
]

pub returns-2 : goal.returns-2
returns-2 c =
    let s = c.self.inside in
    let net = s.network.value in
    let xs = s.tiles.items in
    let number = c.args.number in
    let seen = c.self.view_is in
    let count = c.len-i-end.ensures.len in
    let same = ap (λ (v : TilesView). length v.tiles) (unchanged c) in
    let long = ap (λ (v : TilesView). length v.tiles) seen in
    subst (TilesGo IsWhole (without number) c.args.self.now) (sym c.loop-i.invariant.same)
    (subst (λ (v : TilesView). TilesGo IsWhole (without number) v v) seen
    (nowhere-does net number xs c.self.invariant.tiles (λ k d h m whole stands. subst (λ (v : TilesView). TileHasNot v k number) (sym seen) (c.loop-i.invariant.none k (omega (arith, h, count, same, long, c.loop-i-test.false))) m whole stands d)))
