use Rattle.std.proofs.Common.{refl, ◌∙◌}
use Rattle.street_stream.proofs.PartialLines.{kept_none}
use Rattle.street_stream.proofs.part.PartialLine.new.Goals as goal

pub returns : goal.returns
returns c = record { limit = refl; bytes = c.new.ensures.items ∙ kept_none c.args.most; is_blank = refl }
