use Rattle.street_base.specs.Prelude.{taken_out}
use Rattle.street_engine.proofs.StreetsStandFor.{taken-stands, kept-goes, goes-with}
use Rattle.street_engine.proofs.streets.Streets.take_out.Goals as goal

pub invariant_of-self : goal.invariant_of-self
invariant_of-self c = kept-goes (λ m. taken_out m c.args.number) c.self.invariant c.take_out.ensures (taken-stands c.self.view_is c.args.number c.note_taken.ensures c.take_out.ensures c.requires.given)

pub returns : goal.returns
returns c = goes-with (λ m. taken_out m c.args.number) c.self.view_is (taken-stands c.self.view_is c.args.number c.note_taken.ensures c.take_out.ensures c.requires.given)
