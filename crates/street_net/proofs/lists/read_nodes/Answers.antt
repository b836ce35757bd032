use Rattle.std.proofs.Common.{◌≡◌, ◌<◌, ◌≤◌, true, false, eqb, take, length, get_or, ◌∙◌, sym, ap, arith, ℕ}
use Rattle.std.specs.List.{list_any}
use Rattle.std.proofs.lemmas.Bool.{or_parts, cond-false, ne_eqb, eqb-false}
use Rattle.street_base.specs.declared.net.NodeSpec.{NodeSpec}
use Rattle.street_base.specs.declared.net.NetSpec.{NetSpec}
use Rattle.street_base.specs.declared.refusal.Part.TheVariants.{Nodes}
use Rattle.street_base.specs.Prelude.{is_bad_node, in_part, first_bad, nodes_fault}
use Rattle.street_base.proofs.Counting.{eqb-sym}
use Rattle.street_net.proofs.KeyLemmas.{keys-more}
use Rattle.street_net.proofs.FirstBad.{NoneBad-more, first_bad-here, first_bad-none}
use Rattle.street_net.proofs.lists.read_nodes.Goals as goal

-- past the end
abbrev none : NodeSpec
none = record { id = 0; residence = 0; capacity = 0 }

fresh : (net : NetSpec) (at : ℕ) (node : NodeSpec) → is_bad_node net at node ≡ false → list_any (λ n. eqb n.id node.id) (take at net.nodes) ≡ false
fresh net at node good = (or_parts _ _ (or_parts _ _ (or_parts _ _ good).0).0).1

some-nodes : (net : NetSpec) → 0 < length net.nodes → nodes_fault net ≡ first_bad (is_bad_node net) net.nodes
some-nodes net some = cond-false _ _ _ (ne_eqb (length net.nodes) 0 (λ e. omega arith))

pub returns-then-is_bad_node-clause-fault : goal.returns-then-is_bad_node-clause-fault
returns-then-is_bad_node-clause-fault c =
    let nodes = c.args.spec.now.nodes in
    let within : c.loop-at.at < length nodes = rw (← c.as_slice-nodes.ensures) c.loop-at-test.true in
    let here : is_bad_node c.args.spec.now c.loop-at.at (get_or nodes c.loop-at.at none) ≡ true =
    ap (λ xs. is_bad_node c.args.spec.now c.loop-at.at (get_or xs c.loop-at.at none)) (sym c.as_slice-nodes.ensures) ∙ sym c.is_bad_node.ensures ∙ c.if-is_bad_node.true in
    ap (in_part Nodes) (some-nodes c.args.spec.now (omega arith) ∙ first_bad-here (is_bad_node c.args.spec.now) nodes c.loop-at.at none within c.loop-at.invariant.none_bad here)

pub loop-at-preserved : goal.loop-at-preserved
loop-at-preserved c =
    let nodes = c.args.spec.now.nodes in
    let node : NodeSpec = get_or nodes c.loop-at.at none in
    let within : c.loop-at.at < length nodes = rw (← c.as_slice-nodes.ensures) c.loop-at-test.true in
    let good : is_bad_node c.args.spec.now c.loop-at.at node ≡ false =
    ap (λ xs. is_bad_node c.args.spec.now c.loop-at.at (get_or xs c.loop-at.at none)) (sym c.as_slice-nodes.ensures) ∙ sym c.is_bad_node.ensures ∙ c.if-is_bad_node.false in
    record {
      keys = keys-more (λ (node : NodeSpec). node.id) eqb (λ (x y : NodeSpec). eqb y.id x.id) (λ x y. eqb-sym x.id y.id) nodes c.loop-at.at none c.loop-at.ids.keys c.insert.new.self.keys within (fresh c.args.spec.now c.loop-at.at node good) c.loop-at.invariant.keys
          (rw c.as_slice-nodes.ensures at c.in_ok-insert.ensures.keys);
      none_bad = NoneBad-more (is_bad_node c.args.spec.now) nodes c.loop-at.at none within c.loop-at.invariant.none_bad good;
    }

pub returns-clause-faultless : goal.returns-clause-faultless
returns-clause-faultless c =
    let nodes = c.args.spec.now.nodes in
    let all : length nodes ≤ c.loop-at.at = rw (← c.as_slice-nodes.ensures) c.loop-at-test.false in
    let some : 0 < length nodes = (let h : length nodes ≡ 0 → ⊥ = eqb-false _ _ (ap (λ xs. eqb (length xs) 0) (sym c.as_slice-nodes.ensures) ∙ sym c.is_empty.ensures ∙ c.if-is_empty.false) in omega arith) in
    some-nodes c.args.spec.now some ∙ first_bad-none (is_bad_node c.args.spec.now) nodes (λ j d l. c.loop-at.invariant.none_bad j d (omega arith))
