use Rattle.std.proofs.Common.{take, drop, ap, ◌∙◌, sym, List, ℕ}
use Rattle.std.proofs.lemmas.List.{take-append-drop}
use Rattle.street_stream.proofs.Cut.{cut_more}
use Rattle.street_stream.specs.Lines.{cut}
use Rattle.street_stream.proofs.open_text.cut_off_text.Goals as goal

pub returns : goal.returns
returns c = λ text n.
    let more = cut_more (take n text) (drop n text) in
    (more.0, ap (λ (t : List ℕ). (cut t).0) (sym (take-append-drop n text)) ∙ more.1)
