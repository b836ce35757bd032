use Rattle.std.proofs.Common.{◌≡◌, ◌<◌, ◌+◌, ◌∙◌, ◌++◌, List, ℕ, ap, arith, length, take}
use Rattle.street_stream.specs.Lines.{kept}
use Rattle.street_stream.proofs.PartialLines.{kept_more, kept_full}
use Rattle.street_stream.proofs.part.keep.Goals as goal

pub returns : goal.returns
returns c = λ line is.
    let n = c.min.result in
    let same = ap length is in
    let full : n < length c.args.bytes.now → n + length (kept c.args.most line) ≡ c.args.most + 1 = λ less. omega (arith, same, c.args.held.now.ok.0, c.min.ensures, c.saturating_add-room.ensures, c.ranges.most.fits, less) in
    c.in_ok-extend_from_slice.ensures.items ∙ ap (λ (xs : List ℕ). xs ++ take n c.args.bytes.now) is
    ∙ kept_more c.args.most line c.args.bytes.now n (omega (arith, same, c.args.held.now.ok.0)) (omega (arith, same, c.args.held.now.ok.0, c.min.ensures, c.saturating_add-room.ensures)) full

pub returns-then-len-most : goal.returns-then-len-most
returns-then-len-most c = λ line is. is ∙ kept_full c.args.most line c.args.bytes.now (omega (arith, ap length is, c.args.held.now.ok.0))
