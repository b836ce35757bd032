use Rattle.std.proofs.Common.{refl, sym, subst}
use Rattle.street_record.specs.Given.{IsGiven, WriterView}
use Rattle.street_record.proofs.Writes.{given-cut, given-out}
use Rattle.street_record.proofs.writer.RecordWriter.write_out.Goals as goal

pub returns-in-Err-clause-keeps : goal.returns-in-Err-clause-keeps
returns-in-Err-clause-keeps g c start given a =
    let had = subst (λ (w : WriterView g.row.W.Denot). IsGiven g.W.Write.contents start given w) (sym c.self.view_is) a in
    given-cut g.W.Write.contents start given _ _ had c.in-Err._sent c.if-self.false c.in-Err.ensures.part refl

pub returns-in-Ok-clause-keeps : goal.returns-in-Ok-clause-keeps
returns-in-Ok-clause-keeps g c start given a =
    let had = subst (λ (w : WriterView g.row.W.Denot). IsGiven g.W.Write.contents start given w) (sym c.self.view_is) a in
    given-out g.W.Write.contents start given _ _ had c.if-self.false c.in-Ok.ensures.written c.in-Ok.ensures.emptied.0
