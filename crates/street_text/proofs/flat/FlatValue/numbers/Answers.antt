use Rattle.std.proofs.Common.{sym}
use Rattle.street_text.proofs.FlatReading.{list_again}
use Rattle.street_text.proofs.flat.FlatValue.numbers.Goals as goal

pub returns-in-Numbers : goal.returns-in-Numbers
returns-in-Numbers c = rw (c.in-Numbers.is, c.as_slice.ensures.value) (sym (list_again c.in-Numbers.list.items))
