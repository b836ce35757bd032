use Rattle.std.proofs.Common.{◌≡◌, ◌∷◌, arith}
use Rattle.json.specs.Token.{Token}
use Rattle.street_text.proofs.FlatReading.{number_read, text_read, list_read}
use Rattle.street_text.proofs.flat.read_value.Goals as goal

pub returns-in_ok-whole_number-in-Number-clause-value :
    goal.returns-in_ok-whole_number-in-Number-clause-value
returns-in_ok-whole_number-in-Number-clause-value c = λ depth.
    let first : c.args.reader.now ≡ Token.number c.in-Number.text.now ∷ c.next.new.self = grind arith in
    rw first (number_read _ _ _ _ c.in_ok-whole_number-in-Number.ensures)

pub returns-in-String-clause-value : goal.returns-in-String-clause-value
returns-in-String-clause-value c = λ depth.
    let first : c.args.reader.now ≡ Token.string c.in-String.text.now ∷ c.next.new.self = grind arith in
    rw first (text_read _ _ _)

pub returns-in_ok-read_numbers-in-BeginArray-clause-value :
    goal.returns-in_ok-read_numbers-in-BeginArray-clause-value
returns-in_ok-read_numbers-in-BeginArray-clause-value c = λ depth.
    let first : c.args.reader.now ≡ Token.begin_array ∷ c.next.new.self = grind arith in
    rw first (list_read depth _ _ _ (c.in_ok-read_numbers-in-BeginArray.ensures.list depth))
