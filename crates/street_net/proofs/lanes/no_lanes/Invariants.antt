use Rattle.std.proofs.Common.{◌≡◌, ℕ, ◌<◌, [], length, get_or, Vec}
use Rattle.std.specs.declared.alloc.Global.{Global}
use Rattle.street_base.specs.declared.names.Place.{Place}
use Rattle.street_net.proofs.lanes.no_lanes.Given as goal

abbrev pub invariant-loop-listed : goal.invariant-loop-listed
invariant-loop-listed l = (length l.lists.items ≡ l._listed) × ((k : ℕ) → k < length l.lists.items → (d : Vec Place Global) → (get_or l.lists.items k d).items ≡ [])
