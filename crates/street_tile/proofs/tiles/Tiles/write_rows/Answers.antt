use Rattle.std.proofs.Common.{List, ℕ, map, subst}
use Rattle.street_base.specs.Prelude.{rows_of_step}
use Rattle.street_record.specs.Given.{Adds}
use Rattle.street_record.specs.Rows.{as_written}
use Rattle.street_record.proofs.Writes.{given-rows}
use Rattle.street_record.proofs.Written.{rows-same}
use Rattle.street_tile.proofs.tiles.Tiles.write_rows.Goals as goal

pub returns : goal.returns
returns g c m s =
    subst (λ (bytes : List ℕ). Adds g.W.Write.contents bytes c.args.writer.now c.record.new.sink) (rows-same (rows_of_step m))
    (given-rows g.W.Write.contents c.args.writer.now c.record.new.sink (map as_written (rows_of_step m)) (c.record.ensures m s))
