use Rattle.std.proofs.Common.{◌≡◌, ℕ, length, refl, ◌∙◌, ap, arith, count_by}
use Rattle.street_base.specs.declared.record.RecordHead.{RecordHead}
use Rattle.street_base.specs.Prelude.{has_arrived, was_taken}
use Rattle.street_engine.proofs.StepArrivals.{ends-kept}
use Rattle.street_engine.proofs.StreetsStandFor.{stepped-of}
use Rattle.street_engine.proofs.streets.Streets.record_head.Goals as goal

abbrev head_of : ℕ → ℕ → ℕ → ℕ → RecordHead
head_of clock rows arrived taken = record { clock = clock; rows = rows; arrived = arrived; taken = taken }

head-is : {a b d e clock rows arrived taken : ℕ} → a ≡ clock → b ≡ rows → d ≡ arrived → e ≡ taken → head_of a b d e ≡ head_of clock rows arrived taken
head-is p q r s = rw (p, q, r, s) refl

pub rows-requires : goal.rows-requires
rows-requires c =
    let m = c.requires.0 in
    let t = stepped-of c.self.view_is c.requires.1 in
    let long = ap length t.0.ends in
    (m, t.1, c.requires.1.sound, omega (arith, long, ends-kept m, c.arrived-arrived.ensures.few))

pub returns : goal.returns
returns c m s =
    let t = stepped-of c.self.view_is s in
    head-is t.0.clock (c.rows.ensures m t.1) (c.arrived-arrived.ensures.count ∙ ap (count_by has_arrived) t.0.ends) (c.taken.ensures ∙ ap (count_by was_taken) t.0.ends)
