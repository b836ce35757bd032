use Rattle.std.proofs.Common.{◌≡◌, sym, ap, ◌∙◌, ◌&&◌, ◌++◌}
use Rattle.street_stream.specs.Lines.{is_blank}
use Rattle.street_stream.proofs.PartialLines.{is_blank_more, all_blank}
use Rattle.street_stream.proofs.part.PartialLine.extend.Goals as goal
use Rattle.street_stream.proofs.part.PartialLine.extend.Goals.{then-self, else-self}

pub returns : goal.returns
returns c = λ most line part.
    let bytes = c.args.bytes.now in
    let blank : c.if-self.self ≡ is_blank (line ++ bytes) = elim c.if-self.branch [
      | then-self w ↦ w.self-is ∙ w.are_spaces-self.ensures ∙ all_blank bytes ∙ ap (λ b. b && is_blank bytes) (sym w.if-self.true ∙ part.is_blank) ∙ sym (is_blank_more line bytes)
      | else-self w ↦ w.self-is ∙ w.if-self.false ∙ ap (λ b. b && is_blank bytes) (sym w.if-self.false ∙ part.is_blank) ∙ sym (is_blank_more line bytes)
    ] in
    record {
      limit = part.limit;
      bytes = rw part.limit at (c.in_ok-keep.ensures line (rw part.limit part.bytes));
      is_blank = blank;
    }
