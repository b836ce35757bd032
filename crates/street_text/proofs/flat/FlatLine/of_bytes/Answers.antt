use Rattle.std.proofs.Common.{◌≡◌, arith, IsUtf8}
use Rattle.street_text.proofs.FlatReading.{flat_value}
use Rattle.street_text.proofs.flat.FlatLine.of_bytes.Goals as goal

pub returns : goal.returns
returns c =
    let text : (c.in_ok-text.text.now ≡ c.args.bytes.now) × IsUtf8 c.args.bytes.now = grind arith in
    flat_value c.args.bytes.now c.in_ok-text.text.now c.read_text.result text.0 text.1 c.read_text.ensures
