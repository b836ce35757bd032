use Rattle.std.proofs.Common.{◌≡◌, ◌∙◌, ap, Some, None, slice_get}
use Rattle.street_engine.specs.Prelude.{EndsView}
use Rattle.street_engine.proofs.AreCounted.{one-arrived}
use Rattle.street_engine.proofs.ends.Ends.note_arrived.Goals as goal

pub invariant_of-self : goal.invariant_of-self
invariant_of-self c =
    let s = c.self.inside in
    let going : slice_get s.ends.items c.args.number ≡ Some None = ap (λ (e : EndsView). slice_get e.ends c.args.number) c.self.view_is ∙ c.requires in
    one-arrived s.ends.items s.arrived s.taken c.args.number c.self.invariant going c.from.result
