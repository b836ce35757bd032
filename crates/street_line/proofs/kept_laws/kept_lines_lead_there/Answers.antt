use Rattle.street_line.proofs.KeptLeads.{text_leads}
use Rattle.street_line.proofs.kept_laws.kept_lines_lead_there.Goals as goal

pub returns-clause-session : goal.returns-clause-session
returns-clause-session c = λ old text out kept new h. let leads = text_leads old text out kept new h in (leads.0, leads.1)

pub returns-clause-redo : goal.returns-clause-redo
returns-clause-redo c = λ old text out kept new h. (text_leads old text out kept new h).2
