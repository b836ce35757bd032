use Rattle.std.proofs.Common.{◌≡◌, ◌==◌, sym, false, get_or}
use Rattle.street_text.proofs.FlatReading.{whole_number}
use Rattle.street_text.proofs.flat.whole_number.Goals as goal

pub returns : goal.returns
returns c =
    let digits = c.as_bytes-digits.result.now in
    let plain : (get_or digits 0 0 == 45) ≡ false = sym c.if-has_minus.ensures in
    rw (← c.as_bytes-digits.ensures.value) (whole_number digits c.to_u64.result plain (rw c.scan.ensures.parts at c.to_u64.ensures))
