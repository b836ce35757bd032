use Rattle.std.proofs.Common.{◌∙◌}
use Rattle.street_c.proofs.Lines.{all_blank}
use Rattle.street_c.proofs.session.is_blank.Goals as goal

pub returns : goal.returns
returns c = c.are_spaces.ensures ∙ all_blank c.args.line.now
