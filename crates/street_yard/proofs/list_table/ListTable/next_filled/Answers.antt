use Rattle.std.proofs.Common.{◌∙◌, subst}
use Rattle.street_yard.specs.Prelude.{class_of}
use Rattle.street_yard.specs.Bits.{IsNextBit}
use Rattle.street_yard.proofs.NextFilled.{lane-within, first-some, first-none}
use Rattle.street_yard.proofs.list_table.ListTable.next_filled.Goals as goal

pub next-requires : goal.next-requires
next-requires c = lane-within c.self.inside.fronts.items c.self.inside.rests.items c.self.inside.totals c.self.inside.filled c.self.invariant c.args.self.now c.self.view_is c.args.lane c.requires

pub returns-in-Some : goal.returns-in-Some
returns-in-Some c =
    first-some c.self.inside.fronts.items c.self.inside.rests.items c.self.inside.totals c.self.inside.filled c.self.invariant c.args.self.now c.self.view_is (class_of c.args.kind) c.args.lane c.in-Some.next
    (subst (IsNextBit c.self.inside.filled (class_of c.args.kind) c.args.lane) c.in-Some.is c.next.ensures)

pub returns-in-None : goal.returns-in-None
returns-in-None c =
    first-none c.self.inside.fronts.items c.self.inside.rests.items c.self.inside.totals c.self.inside.filled c.self.invariant c.args.self.now c.self.view_is (class_of c.args.kind) c.args.lane c.len.result c.requires (c.len.ensures ∙ c.self.inside.rests.ok.0)
    (subst (IsNextBit c.self.inside.filled (class_of c.args.kind) c.args.lane) c.in-None.is c.next.ensures)
