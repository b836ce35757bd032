use Rattle.std.proofs.Common.{◌≡◌, ◌+◌, ◌-◌, [], ◌∷◌, ◌++◌, ℕ, List, take, sym, ap, ◌∙◌, arith, true≢false}
use Rattle.std.proofs.lemmas.List.{take_more}
use Rattle.std.proofs.lemmas.Slice.Eq.{bytes_eq-Decides}
use Rattle.serde_json.specs.Find.{get_member}
use Rattle.street_text.specs.FlatLines.{flat_members}
use Rattle.street_text.specs.declared.flat.FlatMember.{FlatMember}
use Rattle.street_text.proofs.FlatReading.{last_here, last_elsewhere}
use Rattle.street_text.proofs.flat.FlatLine.get.Goals as goal

pub returns-then-eq : goal.returns-then-eq
returns-then-eq c =
    let xs = c.args.self.now.members.items in
    let i = c.loop-left.left - 1 in
    let m = c.index-member.result.now in
    let name = c.args.name.now in
    let next : c.loop-left.left ≡ i + 1 = omega arith in
    let front : take c.loop-left.left xs ≡ take i xs ++ m ∷ [] = ap (λ (k : ℕ). take k xs) next ∙ take_more xs i m (omega arith) ∙ ap (λ (y : FlatMember). take i xs ++ y ∷ []) (sym c.index-member.ensures) in
    sym (c.loop-left.invariant.0 ∙ ap (λ (ys : List FlatMember). get_member name (flat_members ys)) front ∙ last_here name (take i xs) m (sym c.if-eq.ensures))

pub loop-left-preserved : goal.loop-left-preserved
loop-left-preserved c =
    let xs = c.args.self.now.members.items in
    let i = c.loop-left.left - 1 in
    let m = c.index-member.result.now in
    let name = c.args.name.now in
    let next : c.loop-left.left ≡ i + 1 = omega arith in
    let front : take c.loop-left.left xs ≡ take i xs ++ m ∷ [] = ap (λ (k : ℕ). take k xs) next ∙ take_more xs i m (omega arith) ∙ ap (λ (y : FlatMember). take i xs ++ y ∷ []) (sym c.index-member.ensures) in
    let other = λ (e : m.name.now ≡ name). true≢false (sym ((bytes_eq-Decides m.name.now name).1 e) ∙ sym c.if-eq.ensures) in
    (c.loop-left.invariant.0 ∙ ap (λ (ys : List FlatMember). get_member name (flat_members ys)) front ∙ last_elsewhere name (take i xs) m other, omega arith)
