use Rattle.std.proofs.Common.{◌+◌, ◌*◌, ◌<◌, length, Some, w64, arith, rules}
use Rattle.std.specs.Int.{trailing_zeros}
use Rattle.street_yard.specs.Kinds.{class_of}
use Rattle.street_yard.proofs.YardLemmas.{such-at}
use Rattle.street_yard.proofs.NextFilled.{class-few}
use Rattle.street_yard.proofs.Bits.{word-is, word-none, word-first, past-none, further}
use Rattle.street_yard.proofs.filled.FilledLists.next_from.Goals as goal

pub loop-at-init : goal.loop-at-init
loop-at-init c = λ n from lt. absurd (omega arith)

pub loop-at-preserved : goal.loop-at-preserved
loop-at-preserved c = λ n from lt. such-at (64 * c.args.group) (64 * c.loop-at.at) n c.loop-at.invariant from (λ ge.
    let words = c.self.inside.words.items in
    let class = class_of c.args.kind in
    let within : 3 * c.loop-at.at + c.class.result < length words = omega (arith, c.class.ensures.few, c.self.invariant.even, c.len-at-end.ensures, c.self.inside.words.ok.0, c.loop-at-test.true) in
    let is = word-is words c.loop-at.at c.class.result class c.index-word.result.now c.class.ensures.class within c.index-word.ensures in
    word-none words c.self.invariant c.args.self.now c.self.view_is class (class-few c.args.kind) c.loop-at.at c.index-word.result.now is c.if-word-ne0.false n ge lt)

pub returns-then-word-ne0 : goal.returns-then-word-ne0
returns-then-word-ne0 c =
    let words = c.self.inside.words.items in
    let class = class_of c.args.kind in
    let word = c.index-word.result.now in
    let within : 3 * c.loop-at.at + c.class.result < length words = omega (arith, c.class.ensures.few, c.self.invariant.even, c.len-at-end.ensures, c.self.inside.words.ok.0, c.loop-at-test.true) in
    let within' : 3 * c.loop-at.at + class < length words = omega (arith, c.class.ensures.class) in
    let is = word-is words c.loop-at.at c.class.result class word c.class.ensures.class within c.index-word.ensures in
    let first = word-first words c.self.invariant c.args.self.now c.self.view_is class (class-few c.args.kind) c.loop-at.at word is (omega (arith, c.if-word-ne0.true)) (search rules) within' in
    further words c.self.invariant c.args.self.now c.self.view_is class (class-few c.args.kind) (64 * c.args.group) (64 * c.loop-at.at) (Some (64 * c.loop-at.at + trailing_zeros w64 word)) (omega (arith, c.loop-at.auto.at)) c.loop-at.invariant first

pub returns : goal.returns
returns c = λ n from. such-at (64 * c.args.group) (64 * c.loop-at.at) n c.loop-at.invariant from (λ ge.
    past-none c.self.inside.words.items c.self.invariant c.args.self.now c.self.view_is (class_of c.args.kind) (class-few c.args.kind) n (omega (arith, c.self.invariant.even, c.len-at-end.ensures, c.self.inside.words.ok.0, c.loop-at-test.false)))
