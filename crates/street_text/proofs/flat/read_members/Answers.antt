use Rattle.std.proofs.Common.{◌≡◌, ◌-◌, [], ◌∷◌, ◌++◌, List, suc, length, None, Some, sym, ap, ◌∙◌, arith}
use Rattle.json.specs.Json.{read_key, members, value}
use Rattle.json.proofs.Grammar.{read_key-shorter}
use Rattle.serde_json.specs.Data.{Members}
use Rattle.serde_json.specs.Read.{of_members, converted}
use Rattle.street_text.specs.FlatLines.{flat_data, flat_members}
use Rattle.street_text.specs.declared.flat.FlatMember.{FlatMember}
use Rattle.street_text.proofs.Converted.{member_read, members_over}
use Rattle.street_text.proofs.FlatReading.{flat_push}
use Rattle.street_text.proofs.flat.read_members.Goals as goal

pub members-init : goal.members-init
members-init c =
    let none : c.in_ok-found.found.items ≡ [] = grind arith in
    let ts = c.args.reader.now in
    (length ts, omega arith, λ depth. ap (λ (ms : List FlatMember). converted (λ js. of_members js (flat_members ms)) (members (value (suc depth)) (length ts) ts)) (sym none))

pub members-preserved : goal.members-preserved
members-preserved c =
    let l = c.members in
    let n = l.invariant.0 in
    let k = c.in-Some.name.now in
    let s = c.next_key.new.self in
    let named : read_key l.reader ≡ Some (Some k, s) = grind arith in
    let less = read_key-shorter l.reader (Some k) s named in
    let v = c.in_ok-value.value in
    let done = c.in_ok-value.ensures in
    let r = c.read_value.new.reader in
    let m : FlatMember = record { name = c.in-Some.name; value = v } in
    let pushed : c.push.new.self.items ≡ l.found.items ++ m ∷ [] = grind arith in
    let lesser = done.shorter in (
      n - 1,
      omega (arith, l.invariant.1),
      λ depth. l.invariant.2 depth
          ∙ member_read (value (suc depth)) (flat_members l.found.items) n k l.reader s r (flat_data v) (omega (arith, l.invariant.1)) named (done.value depth)
          ∙ ap (λ (ms : Members). converted (λ js. of_members js ms) (members (value (suc depth)) (n - 1) r)) (sym (ap flat_members pushed ∙ flat_push l.found.items m)),
    )

pub returns : goal.returns
returns c = λ depth.
    let l = c.members in
    let over : read_key l.reader ≡ Some (None, c.next_key.new.self) = grind arith in
    l.invariant.2 depth ∙ members_over (value (suc depth)) (flat_members l.found.items) l.invariant.0 l.reader c.next_key.new.self l.invariant.1 over
