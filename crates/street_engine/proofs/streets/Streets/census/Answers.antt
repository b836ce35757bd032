use Rattle.std.proofs.Common.{◌≡◌, ℕ, length, refl, ◌∙◌, ap, arith, count_by}
use Rattle.street_base.specs.declared.reply.Reply.TheVariants.{Census}
use Rattle.street_base.specs.Prelude.{Traffic, census, has_arrived, was_taken, have_arrived, were_taken, in_buffers, in_cells, in_wait}
use Rattle.street_engine.proofs.StreetsStandFor.{traffic-of}
use Rattle.street_engine.proofs.streets.Streets.census.Goals as goal

census-is : (m : Traffic) (admitted arrived buffers cells clock taken waiting : ℕ) → admitted ≡ length m.ends → arrived ≡ have_arrived m → buffers ≡ in_buffers m → cells ≡ in_cells m → clock ≡ m.clock → taken ≡ were_taken m → waiting ≡ in_wait m → Census admitted arrived buffers cells clock taken waiting ≡ census m
unfolding census
census-is m admitted arrived buffers cells clock taken waiting a b c d e f g = rw (a, b, c, d, e, f, g) refl

pub totals-totals-requires : goal.totals-totals-requires
totals-totals-requires c =
    let t = c.self.invariant.some.1 in
    let long = ap length t.ends in
    let few = c.len.ensures.few in
    (c.self.invariant.some.0, t.tiles, t.sound, omega arith)

pub returns : goal.returns
returns c = λ m stands.
    let t = traffic-of c.self.view_is stands in
    census-is m _ _ _ _ _ _ _
    (c.from-admitted.ensures ∙ c.len.ensures.count ∙ ap length t.ends)
    (c.from.ensures ∙ c.arrived.ensures.count ∙ ap (count_by has_arrived) t.ends)
    (c.totals-totals.ensures.buffers m t.tiles)
    (c.totals-totals.ensures.cells m t.tiles)
    (c.from-2.ensures ∙ t.clock)
    (c.from-3.ensures ∙ c.taken.ensures ∙ ap (count_by was_taken) t.ends)
    (c.totals-totals.ensures.waiting m t.tiles)
