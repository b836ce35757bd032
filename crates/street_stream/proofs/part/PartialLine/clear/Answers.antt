use Rattle.std.proofs.Common.{refl, ◌∙◌}
use Rattle.street_stream.proofs.PartialLines.{kept_none}
use Rattle.street_stream.proofs.part.PartialLine.clear.Goals as goal

pub returns : goal.returns
returns c = λ most line part. record { limit = part.limit; bytes = c.clear.ensures.items ∙ kept_none most; is_blank = refl }
