use Rattle.std.proofs.Common.{◌≡◌, ℕ, ◌+◌, ◌∷◌, ◌++◌, [], List, Option, Some, None, refl, sym, subst, ap, ◌∙◌, arith, IsSome, vec_capacity, option_to_list}
use Rattle.street_base.specs.declared.car.Car.{Car}
use Rattle.street_yard.specs.declared.yard.Slot.{Slot}
use Rattle.street_yard.specs.Inside.{vacant}
use Rattle.street_yard.proofs.SlotLemmas.{cold_of, spare_slot, spare_key, was_nobody, admitted-sound, admitted-lists, admitted-updates}
use Rattle.street_yard.proofs.Fields.{IsWhole-seen}
use Rattle.street_yard.specs.Prelude.{IsWhole}
use Rattle.street_yard.proofs.yard.Yard.admit_with.Goals as goal

popped_is : (xs rest : List ℕ) (o : Option ℕ) (key : ℕ) → xs ≡ rest ++ option_to_list o → o ≡ Some key → xs ≡ rest ++ key ∷ []
popped_is xs rest o key e is = e ∙ ap (λ p. rest ++ option_to_list p) is

new_of : (car : Car) (p : Slot) (o : Option Slot) → o ≡ Some p → o ≡ Some vacant → ◌≡◌ {A = Slot} (record { car = Some (cold_of car); list = p.list }) (record { car = Some (cold_of car); list = None })
new_of car p o a b =
    let both : ◌≡◌ {A = Option Slot} (Some p) (Some vacant) = sym a ∙ b in
    let same : p ≡ vacant = cc in
    ap (λ (x : Slot). record { car = Some (cold_of car); list = x.list }) same

pub set-requires : goal.set-requires
set-requires c = let lt = spare_key c.self.inside c.args.self.now c.unwrap-key.result c.self.invariant c.self.view_is c.pop.new.self.items (popped_is _ _ _ _ c.pop.ensures.items c.unwrap-key.ensures) in omega arith

pub index_mut-slot-requires : goal.index_mut-slot-requires
index_mut-slot-requires c = subst IsSome (sym (spare_slot c.self.inside c.args.self.now c.unwrap-key.result c.self.invariant c.self.view_is c.pop.new.self.items (popped_is _ _ _ _ c.pop.ensures.items c.unwrap-key.ensures))) refl

pub invariant_of-self : goal.invariant_of-self
invariant_of-self c = admitted-sound c.self.inside c.args.self.now c.unwrap-key.result c.self.invariant c.self.view_is c.pop.new.self.items (popped_is _ _ _ _ c.pop.ensures.items c.unwrap-key.ensures) c.args.car c.nobody.result c.nobody-2.result c.args.next c.requires.next _ (new_of c.args.car c.index_mut-slot.result.now _ c.index_mut-slot.ensures.value (spare_slot c.self.inside c.args.self.now c.unwrap-key.result c.self.invariant c.self.view_is c.pop.new.self.items (popped_is _ _ _ _ c.pop.ensures.items c.unwrap-key.ensures))) (c.unwrap-key.result + 1) (omega arith) (omega arith) (vec_capacity c.pop.new.self) (let a = c.self.invariant.holds_all in omega (arith, c.pop.ensures.capacity)) c.set.new.self c.set.ensures

pub invariant_of-self-else-self-index : goal.invariant_of-self-else-self-index
invariant_of-self-else-self-index c = admitted-sound c.self.inside c.args.self.now c.unwrap-key.result c.self.invariant c.self.view_is c.pop.new.self.items (popped_is _ _ _ _ c.pop.ensures.items c.unwrap-key.ensures) c.args.car c.nobody.result c.nobody-2.result c.args.next c.requires.next _ (new_of c.args.car c.index_mut-slot.result.now _ c.index_mut-slot.ensures.value (spare_slot c.self.inside c.args.self.now c.unwrap-key.result c.self.invariant c.self.view_is c.pop.new.self.items (popped_is _ _ _ _ c.pop.ensures.items c.unwrap-key.ensures))) c.self.inside.reached (omega arith) (omega arith) (vec_capacity c.pop.new.self) (let a = c.self.invariant.holds_all in omega (arith, c.pop.ensures.capacity)) c.set.new.self c.set.ensures

pub returns-then-self-index-clause-was_vacant : goal.returns-then-self-index-clause-was_vacant
returns-then-self-index-clause-was_vacant c = was_nobody c.self.inside c.args.self.now c.unwrap-key.result c.self.invariant c.self.view_is c.pop.new.self.items (popped_is _ _ _ _ c.pop.ensures.items c.unwrap-key.ensures)

pub returns-then-self-index-clause-updates : goal.returns-then-self-index-clause-updates
returns-then-self-index-clause-updates c = admitted-updates c.self.inside c.args.self.now c.unwrap-key.result c.self.invariant c.self.view_is c.pop.new.self.items (popped_is _ _ _ _ c.pop.ensures.items c.unwrap-key.ensures) c.args.car c.nobody.result c.nobody-2.result c.args.next c.requires.next _ (new_of c.args.car c.index_mut-slot.result.now _ c.index_mut-slot.ensures.value (spare_slot c.self.inside c.args.self.now c.unwrap-key.result c.self.invariant c.self.view_is c.pop.new.self.items (popped_is _ _ _ _ c.pop.ensures.items c.unwrap-key.ensures))) (c.unwrap-key.result + 1) (omega arith) (omega arith) (vec_capacity c.pop.new.self) (let a = c.self.invariant.holds_all in omega (arith, c.pop.ensures.capacity)) c.set.new.self c.set.ensures _

pub returns-then-self-index-clause-lists : goal.returns-then-self-index-clause-lists
returns-then-self-index-clause-lists c = admitted-lists c.self.inside c.args.self.now c.unwrap-key.result c.self.invariant c.self.view_is c.pop.new.self.items (popped_is _ _ _ _ c.pop.ensures.items c.unwrap-key.ensures) c.args.car c.nobody.result c.nobody-2.result c.args.next c.requires.next _ (new_of c.args.car c.index_mut-slot.result.now _ c.index_mut-slot.ensures.value (spare_slot c.self.inside c.args.self.now c.unwrap-key.result c.self.invariant c.self.view_is c.pop.new.self.items (popped_is _ _ _ _ c.pop.ensures.items c.unwrap-key.ensures))) (c.unwrap-key.result + 1) (omega arith) (omega arith) (vec_capacity c.pop.new.self) (let a = c.self.invariant.holds_all in omega (arith, c.pop.ensures.capacity)) c.set.new.self c.set.ensures

pub returns-else-self-index-clause-was_vacant : goal.returns-else-self-index-clause-was_vacant
returns-else-self-index-clause-was_vacant c = was_nobody c.self.inside c.args.self.now c.unwrap-key.result c.self.invariant c.self.view_is c.pop.new.self.items (popped_is _ _ _ _ c.pop.ensures.items c.unwrap-key.ensures)

pub returns-else-self-index-clause-updates : goal.returns-else-self-index-clause-updates
returns-else-self-index-clause-updates c = admitted-updates c.self.inside c.args.self.now c.unwrap-key.result c.self.invariant c.self.view_is c.pop.new.self.items (popped_is _ _ _ _ c.pop.ensures.items c.unwrap-key.ensures) c.args.car c.nobody.result c.nobody-2.result c.args.next c.requires.next _ (new_of c.args.car c.index_mut-slot.result.now _ c.index_mut-slot.ensures.value (spare_slot c.self.inside c.args.self.now c.unwrap-key.result c.self.invariant c.self.view_is c.pop.new.self.items (popped_is _ _ _ _ c.pop.ensures.items c.unwrap-key.ensures))) c.self.inside.reached (omega arith) (omega arith) (vec_capacity c.pop.new.self) (let a = c.self.invariant.holds_all in omega (arith, c.pop.ensures.capacity)) c.set.new.self c.set.ensures _

pub returns-else-self-index-clause-lists : goal.returns-else-self-index-clause-lists
returns-else-self-index-clause-lists c = admitted-lists c.self.inside c.args.self.now c.unwrap-key.result c.self.invariant c.self.view_is c.pop.new.self.items (popped_is _ _ _ _ c.pop.ensures.items c.unwrap-key.ensures) c.args.car c.nobody.result c.nobody-2.result c.args.next c.requires.next _ (new_of c.args.car c.index_mut-slot.result.now _ c.index_mut-slot.ensures.value (spare_slot c.self.inside c.args.self.now c.unwrap-key.result c.self.invariant c.self.view_is c.pop.new.self.items (popped_is _ _ _ _ c.pop.ensures.items c.unwrap-key.ensures))) c.self.inside.reached (omega arith) (omega arith) (vec_capacity c.pop.new.self) (let a = c.self.invariant.holds_all in omega (arith, c.pop.ensures.capacity)) c.set.new.self c.set.ensures

pub returns-then-self-index-clause-was_whole : goal.returns-then-self-index-clause-was_whole
returns-then-self-index-clause-was_whole c = subst IsWhole c.self.view_is (IsWhole-seen c.self.inside c.self.invariant)

pub returns-else-self-index-clause-was_whole : goal.returns-else-self-index-clause-was_whole
returns-else-self-index-clause-was_whole c = subst IsWhole c.self.view_is (IsWhole-seen c.self.inside c.self.invariant)
