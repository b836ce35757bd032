use Rattle.std.proofs.Common.{◌∙◌}
use Rattle.street_line.proofs.SoundText.{first_nul}
use Rattle.street_line.proofs.kept_file.sound_count.Goals as goal

pub returns : goal.returns
returns c = c.unwrap_or.ensures ∙ first_nul c.args.bytes.now c.memchr.result c.memchr.ensures
