use Rattle.std.proofs.Common.{refl, sym, subst, true}
use Rattle.street_record.specs.Given.{IsGiven, WriterView}
use Rattle.street_record.proofs.Writes.{given-cut, given-lost}
use Rattle.street_record.proofs.writer.RecordWriter.put.Goals as goal

pub returns-in-Err : goal.returns-in-Err
returns-in-Err g c start given a =
    let had = subst (λ (w : WriterView g.row.W.Denot). IsGiven g.W.Write.contents start given w) (sym c.self.view_is) a in
    let cut = given-cut g.W.Write.contents start given _ (record { writer = c.empty.new.writer; waiting = c.empty.new.buffer.items; has_failed = true }) had c.in-Err._sent c.if-self.false c.in-Err.ensures.part refl in
    given-lost g.W.Write.contents start given _ _ cut c.args.bytes.now refl refl
