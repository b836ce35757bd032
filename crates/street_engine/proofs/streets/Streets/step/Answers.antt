use Rattle.std.proofs.Common.{refl}
use Rattle.street_base.specs.Prelude.{step}
use Rattle.street_tile.proofs.Together.{always-err}
use Rattle.street_engine.proofs.StreetsStandFor.{kept-still, goes-still, prepared, may-step, step-coming, step-kept, step-stands, step-rows, goes-with, stands-seen, traffic-of}
use Rattle.street_engine.proofs.streets.Streets.step.Goals as goal

pub invariant_of-self : goal.invariant_of-self
invariant_of-self g c = kept-still refl refl c.self.invariant c.prepare.ensures.kept

pub returns-in_err-prepare-clause-starved : goal.returns-in_err-prepare-clause-starved
returns-in_err-prepare-clause-starved g c = always-err _ c.from_residual.result (goes-still refl refl c.self.view_is c.prepare.ensures.kept)

pub step-requires-clause-nobody : goal.step-requires-clause-nobody
step-requires-clause-nobody g c = (prepared c.self.invariant c.prepare.ensures.kept).nobody

pub step-requires-clause-stand : goal.step-requires-clause-stand
step-requires-clause-stand g c = may-step c.self.invariant c.prepare.ensures.kept c.self.view_is c.requires.in_time

pub note_arrivals-requires : goal.note_arrivals-requires
note_arrivals-requires g c =
    let went = c.step.ensures in
    step-coming c.self.invariant c.prepare.ensures.kept went.cut went.network went.len went.steps

pub invariant_of-self-2 : goal.invariant_of-self-2
invariant_of-self-2 g c =
    let went = c.step.ensures in
    let noted = c.note_arrivals.ensures in
    step-kept c.self.invariant c.prepare.ensures.kept went.cut went.network went.len went.steps noted.network noted.long noted.tiles noted.ends c.self.view_is c.requires.in_time

pub returns-clause-step : goal.returns-clause-step
returns-clause-step g c =
    let went = c.step.ensures in
    let noted = c.note_arrivals.ensures in
    goes-with step c.self.view_is (step-stands c.self.invariant c.prepare.ensures.kept went.cut went.network went.len went.steps noted.network noted.long noted.tiles noted.ends)

-- the streets after the step, told of by the traffic before it
pub note-requires : goal.note-requires
note-requires g c =
    let went = c.step.ensures in
    let noted = c.note_arrivals.ensures in
    let some = c.self.invariant.some in (
      some.0,
      record {
        stands = goes-with step c.self.view_is (step-stands c.self.invariant c.prepare.ensures.kept went.cut went.network went.len went.steps noted.network noted.long noted.tiles noted.ends) some.0 (stands-seen c.self.view_is some.1);
        tiles = step-rows c.self.invariant c.prepare.ensures.kept went.cut went.network went.len went.steps noted.network noted.long noted.tiles noted.ends went.stepped some.0 some.1;
        sound = some.1.sound;
      },
    )

pub returns-clause-noted : goal.returns-clause-noted
returns-clause-noted g c m s =
    let went = c.step.ensures in
    let noted = c.note_arrivals.ensures in
    let before = traffic-of c.self.view_is s in
    c.note.ensures m (record {
      stands = returns-clause-step g c m s;
      tiles = step-rows c.self.invariant c.prepare.ensures.kept went.cut went.network went.len went.steps noted.network noted.long noted.tiles noted.ends went.stepped m before;
      sound = before.sound;
    })
