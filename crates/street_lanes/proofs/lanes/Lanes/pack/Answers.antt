use Rattle.std.proofs.Common.{ap, subst, ◌∙◌, length}
use Rattle.street_yard.specs.Prelude.{Yard}
use Rattle.street_rule.specs.Prelude.{Odds}
use Rattle.street_lanes.specs.Prelude.{Packs}
use Rattle.street_lanes.specs.Inside.{view_of}
use Rattle.street_lanes.proofs.PackLemmas.{packed-sound, packed-view}
use Rattle.street_lanes.proofs.FirstDue.{due-packed}
use Rattle.street_lanes.proofs.lanes.Lanes.pack.Goals as goal

packs : (c : goal.After-self-2-1) → Packs c.self.inside.yard c.pack_lanes-self-inside.new.yard
packs c = subst (λ (y : Yard). Packs y c.pack_lanes-self-inside.new.yard) c.sort_spare.ensures c.pack_lanes-self-inside.ensures.packs

pub invariant_of-self : goal.invariant_of-self
invariant_of-self c = record {
  laid = packed-sound c.self.inside.yard c.pack_lanes-self-inside.new.yard c.self.inside.closures.items c.self.inside.extents.items c.self.invariant.laid (packs c);
  due = due-packed c.self.inside.yard c.pack_lanes-self-inside.new.yard (length c.self.inside.extents.items) c.self.inside.due.items (packs c) c.self.invariant.due;
  none_closed = c.self.invariant.none_closed;
}

pub returns : goal.returns
returns c =
    ap (λ (d : Odds). view_of c.pack_lanes-self-inside.new.yard c.self.inside.closures.items c.self.inside.extents.items d) c.pack_lanes-self-inside.ensures.dice
    ∙ packed-view c.self.inside.yard c.pack_lanes-self-inside.new.yard c.self.inside.closures.items c.self.inside.extents.items c.self.invariant.laid (packs c) c.self.inside.dice
    ∙ c.self.view_is
