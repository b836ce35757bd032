use Rattle.std.proofs.Common.{arith}
use Rattle.street_yard.proofs.Bits.{word-within, bits-added}
use Rattle.street_yard.proofs.filled.FilledLists.add.Goals as goal

pub index_mut-requires : goal.index_mut-requires
index_mut-requires c = let lt = word-within c.self.inside.words.items c.self.invariant c.args.self.now c.self.view_is c.args.list c.requires in omega (arith, c.self.inside.words.ok.0)

pub returns : goal.returns
returns c = bits-added c.self.inside.words.items c.self.invariant c.args.self.now c.self.view_is c.args.list c.requires c.index_mut.result.now c.index_mut.ensures.value
