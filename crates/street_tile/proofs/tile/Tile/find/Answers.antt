use Rattle.std.proofs.Common.{◌≡◌, ◌∙◌, length, ap, sym, arith}
use Rattle.std.proofs.lemmas.Option.{slice_get_within}
use Rattle.street_lanes.specs.Prelude.{place_at}
use Rattle.street_tile.specs.Prelude.{TileView}
use Rattle.street_tile.proofs.SameLanes.{place-is}
use Rattle.street_tile.proofs.NumberOnce.{not-more}
use Rattle.street_tile.proofs.tile.Tile.find.Goals as goal

pub loop-n-preserved : goal.loop-n-preserved
loop-n-preserved c = λ m on stand few. not-more c.args.number c.args.self.now.own m c.loop-n.n (c.in_ok-found.ensures.there m on stand few c.in_default.is) (c.loop-n.invariant m on stand few)

pub returns-in-Some : goal.returns-in-Some
returns-in-Some c = λ m on stand few.
    let x = c.args.self.now in
    let places : length c.self.inside.own.places ≡ length x.own.places = ap (λ (t : TileView). length t.own.places) c.self.view_is in
    (c.loop-n.n, place_at x.own c.loop-n.n, place-is x.own c.loop-n.n (omega arith), sym (c.in_ok-found.ensures.found m on stand few) ∙ c.in-Some.is)

pub returns : goal.returns
returns c = λ m on stand few k p at.
    let h = slice_get_within c.args.self.now.own.places k p at in
    let places : length c.self.inside.own.places ≡ length c.args.self.now.own.places = ap (λ (t : TileView). length t.own.places) c.self.view_is in
    c.loop-n.invariant m on stand few k p (omega arith) at
