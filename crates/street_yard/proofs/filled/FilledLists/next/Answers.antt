use Rattle.std.proofs.Common.{◌≡◌, ◌+◌, ◌*◌, ◌/◌, ◌<◌, length, ap, arith, rules}
use Rattle.street_yard.specs.Kinds.{class_of}
use Rattle.street_yard.specs.Bits.{bits_of}
use Rattle.street_yard.proofs.NextFilled.{class-few}
use Rattle.street_yard.proofs.Bits.{length-bits, word-is, lane-none, lane-first, further}
use Rattle.street_yard.proofs.filled.FilledLists.next.Goals as goal

pub index-requires : goal.index-requires
index-requires c =
    let long = length-bits c.self.inside.words.items in
    let seen : length (bits_of c.self.inside.words.items) ≡ length c.args.self.now = ap length c.self.view_is in
    omega (arith, c.class.ensures.few, c.self.invariant.even, c.requires, c.self.inside.words.ok.0)

pub returns-then-word-ne0 : goal.returns-then-word-ne0
returns-then-word-ne0 c =
    let words = c.self.inside.words.items in
    let class = class_of c.args.kind in
    let long = length-bits words in
    let seen : length (bits_of words) ≡ length c.args.self.now = ap length c.self.view_is in
    let within : 3 * (c.args.lane / 64) + c.class.result < length words = omega (arith, c.class.ensures.few, c.self.invariant.even, c.requires) in
    let is = word-is words (c.args.lane / 64) c.class.result class c.index.result.now c.class.ensures.class within c.index.ensures in
    lane-first words c.self.invariant c.args.self.now c.self.view_is class (class-few c.args.kind) c.args.lane c.index.result.now is (omega (arith, c.if-word-ne0.true)) (search rules) (omega (arith, c.class.ensures.class))

pub returns : goal.returns
returns c =
    let words = c.self.inside.words.items in
    let class = class_of c.args.kind in
    let long = length-bits words in
    let seen : length (bits_of words) ≡ length c.args.self.now = ap length c.self.view_is in
    let within : 3 * (c.args.lane / 64) + c.class.result < length words = omega (arith, c.class.ensures.few, c.self.invariant.even, c.requires) in
    let is = word-is words (c.args.lane / 64) c.class.result class c.index.result.now c.class.ensures.class within c.index.ensures in
    further words c.self.invariant c.args.self.now c.self.view_is class (class-few c.args.kind) c.args.lane (64 * (c.args.lane / 64 + 1)) c.next_from.result (omega arith) (lane-none words c.self.invariant c.args.self.now c.self.view_is class (class-few c.args.kind) c.args.lane c.index.result.now is c.if-word-ne0.false) c.next_from.ensures
