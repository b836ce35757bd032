use Rattle.street_stream.proofs.CutParts.{lines_inside}
use Rattle.street_stream.specs.Lines.{lines_of}
use Rattle.street_line.proofs.PartLeads.{part_done}
use Rattle.street_line.proofs.Leads.{broken_goes_on, whole_goes_on}
use Rattle.street_line.proofs.restarts.kept_files_go_on.Goals as goal

pub returns-clause-whole : goal.returns-clause-whole
returns-clause-whole c = whole_goes_on

pub returns-clause-broken : goal.returns-clause-broken
returns-clause-broken c = broken_goes_on

pub returns-clause-torn : goal.returns-clause-torn
returns-clause-torn c = λ old text out kept new size h. part_done old (lines_of text) out kept new (lines_inside text) h size
