use Rattle.std.proofs.Common.{◌≡◌, ◌<◌, ◌≤◌, true, false, eqb, take, length, get_or, ◌∙◌, sym, ap, arith, ℕ}
use Rattle.std.specs.List.{list_any}
use Rattle.std.proofs.lemmas.Bool.{or_parts}
use Rattle.street_base.specs.declared.net.LinkSpec.{LinkSpec}
use Rattle.street_base.specs.declared.net.NetSpec.{NetSpec}
use Rattle.street_base.specs.declared.refusal.Part.TheVariants.{Links}
use Rattle.street_base.specs.Prelude.{is_bad_link, in_part, no_link}
use Rattle.street_base.proofs.Counting.{eqb-sym}
use Rattle.street_net.proofs.KeyLemmas.{keys-more}
use Rattle.street_net.proofs.FirstBad.{NoneBad-more, first_bad-here, first_bad-none}
use Rattle.street_net.proofs.lists.read_links.Goals as goal

fresh : (net : NetSpec) (at : ℕ) (link : LinkSpec) → is_bad_link net at link ≡ false → list_any (λ l. eqb l.id link.id) (take at net.links) ≡ false
fresh net at link good = (or_parts _ _ (or_parts _ _ (or_parts _ _ (or_parts _ _ (or_parts _ _ (or_parts _ _ good).0).0).0).0).0).1

pub returns-then-is_bad_link-clause-fault : goal.returns-then-is_bad_link-clause-fault
returns-then-is_bad_link-clause-fault c =
    let links = c.args.spec.now.links in
    let within : c.loop-at.at < length links = rw (← c.as_slice-links.ensures) c.loop-at-test.true in
    let here : is_bad_link c.args.spec.now c.loop-at.at (get_or links c.loop-at.at no_link) ≡ true =
    ap (λ xs. is_bad_link c.args.spec.now c.loop-at.at (get_or xs c.loop-at.at no_link)) (sym c.as_slice-links.ensures) ∙ sym c.is_bad_link.ensures ∙ c.if-is_bad_link.true in
    ap (in_part Links) (first_bad-here (is_bad_link c.args.spec.now) links c.loop-at.at no_link within c.loop-at.invariant.none_bad here)

pub loop-at-preserved : goal.loop-at-preserved
loop-at-preserved c =
    let links = c.args.spec.now.links in
    let link : LinkSpec = get_or links c.loop-at.at no_link in
    let within : c.loop-at.at < length links = rw (← c.as_slice-links.ensures) c.loop-at-test.true in
    let good : is_bad_link c.args.spec.now c.loop-at.at link ≡ false =
    ap (λ xs. is_bad_link c.args.spec.now c.loop-at.at (get_or xs c.loop-at.at no_link)) (sym c.as_slice-links.ensures) ∙ sym c.is_bad_link.ensures ∙ c.if-is_bad_link.false in
    record {
      keys = keys-more (λ (link : LinkSpec). link.id) eqb (λ (x y : LinkSpec). eqb y.id x.id) (λ x y. eqb-sym x.id y.id) links c.loop-at.at no_link c.loop-at.ids.keys c.insert.new.self.keys within (fresh c.args.spec.now c.loop-at.at link good) c.loop-at.invariant.keys
          (rw c.as_slice-links.ensures at c.in_ok-insert.ensures.keys);
      none_bad = NoneBad-more (is_bad_link c.args.spec.now) links c.loop-at.at no_link within c.loop-at.invariant.none_bad good;
    }

pub returns-clause-faultless : goal.returns-clause-faultless
returns-clause-faultless c =
    let links = c.args.spec.now.links in
    let all : length links ≤ c.loop-at.at = rw (← c.as_slice-links.ensures) c.loop-at-test.false in
    first_bad-none (is_bad_link c.args.spec.now) links (λ j d l. c.loop-at.invariant.none_bad j d (omega arith))
