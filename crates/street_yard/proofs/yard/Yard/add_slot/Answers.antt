use Rattle.std.proofs.Common.{◌≡◌, ◌≢◌, ℕ, ◌+◌, ◌<◌, ◌≤◌, ◌∷◌, ◌++◌, [], length, Some, refl, sym, ap, ◌∙◌, arith, vec_capacity}
use Rattle.std.proofs.lemmas.List.{length_push}
use Rattle.slab.specs.Slab.{Slab}
use Rattle.street_yard.specs.declared.yard.Slot.{Slot}
use Rattle.street_yard.specs.Prelude.{Yard}
use Rattle.street_yard.specs.Inside.{slot_in, vacant}
use Rattle.street_yard.proofs.SlotLemmas.{spare-few, roomier-sound, roomier-seen, room_stays, grown-sound, grown-seen}
use Rattle.street_yard.proofs.yard.Yard.add_slot.Goals as goal

pub make_room-requires-clause-spare : goal.make_room-requires-clause-spare
make_room-requires-clause-spare c = let few = spare-few c.self.inside c.self.invariant in omega (arith, c.in_ok-key.ensures.ok)

index_is : (c : goal.After-push_reserved) → c.in_ok-key.key ≡ length c.self.inside.hots
index_is c = c.in_ok-key.ensures.ok.0

few : (c : goal.After-push_reserved) → c.in_ok-key.key < 4294967295
few c = c.in_ok-key.ensures.ok.2

same_key : (c : goal.After-push_reserved) → c.insert_reserved.result ≡ c.in_ok-key.key
same_key c = c.insert_reserved.ensures.key ∙ ap (λ (p : Slab Slot). p.vacant_key) c.in_ok-make_room.ensures.slots_kept ∙ sym c.in_ok-key.ensures.ok.1

here : (c : goal.After-push_reserved) → slot_in c.insert_reserved.new.self.slots c.in_ok-key.key ≡ Some vacant
here c = ap (slot_in c.insert_reserved.new.self.slots) (sym (same_key c)) ∙ c.insert_reserved.ensures.updates.changed

others : (c : goal.After-push_reserved) (j : ℕ) → j ≢ c.in_ok-key.key → slot_in c.insert_reserved.new.self.slots j ≡ slot_in c.self.inside.slots.slots j
others c j ne = c.insert_reserved.ensures.updates.others j (λ e. ne (e ∙ same_key c)) ∙ ap (λ (p : Slab Slot). slot_in p.slots j) c.in_ok-make_room.ensures.slots_kept

more : (c : goal.After-push_reserved) → c.push.new.self ≡ c.self.inside.hots ++ c.vacant.result ∷ []
more c = c.in_ok-push.ensures

spare : (c : goal.After-push_reserved) → c.push_reserved.new.self.items ≡ c.self.inside.spare.items ++ c.in_ok-key.key ∷ []
spare c = c.push_reserved.ensures.items ∙ ap (λ l. l ++ c.in_ok-key.key ∷ []) c.in_ok-make_room.ensures.spare_kept

holds : (c : goal.After-push_reserved) → c.in_ok-key.key + 1 ≤ vec_capacity c.push_reserved.new.self
holds c = omega (arith, c.in_ok-make_room.ensures.spare, c.push_reserved.ensures.capacity)

pub push_reserved-requires : goal.push_reserved-requires
push_reserved-requires c = let few = spare-few c.self.inside c.self.invariant in omega (arith, c.in_ok-key.ensures.ok, c.in_ok-make_room.ensures.spare, ap length c.in_ok-make_room.ensures.spare_kept)

pub invariant_of-self-2 : goal.invariant_of-self-2
invariant_of-self-2 c = grown-sound c.self.inside c.args.self.now c.self.invariant c.self.view_is c.in_ok-key.key (index_is c) (few c) c.vacant.result c.push.new.self (more c) c.insert_reserved.new.self.slots (here c) (others c) c.push_reserved.new.self.items (spare c) (vec_capacity c.push_reserved.new.self) (holds c)

pub returns-clause-rest_kept : goal.returns-clause-rest_kept
returns-clause-rest_kept c = grown-seen c.self.inside c.args.self.now c.self.invariant c.self.view_is c.in_ok-key.key (index_is c) (few c) c.vacant.result c.push.new.self (more c) c.insert_reserved.new.self.slots (here c) (others c) c.push_reserved.new.self.items (spare c) (vec_capacity c.push_reserved.new.self) (holds c)

pub returns-in_err-key-clause-room : goal.returns-in_err-key-clause-room
returns-in_err-key-clause-room c = sym (ap (λ (w : Yard). w.room) c.self.view_is) ∙ room_stays c.self.inside c.args.self.now c.self.view_is _ refl c.from_residual.result c.from_residual.ensures.0

pub returns-in_err-key-clause-rest_kept : goal.returns-in_err-key-clause-rest_kept
returns-in_err-key-clause-rest_kept c = refl

pub invariant_of-self : goal.invariant_of-self
invariant_of-self c = roomier-sound c.self.inside c.args.self.now c.self.invariant c.self.view_is _ refl _ (ap (λ (p : Slab Slot). p.slots) c.make_room.ensures.slots_kept) _ c.make_room.ensures.spare_kept _ c.make_room.ensures.never_shrinks

pub returns-in_err-make_room-clause-room : goal.returns-in_err-make_room-clause-room
returns-in_err-make_room-clause-room c = room_stays c.self.inside c.args.self.now c.self.view_is _ c.make_room.ensures.spare_kept c.from_residual-in_err-make_room.result c.from_residual-in_err-make_room.ensures.0

pub returns-in_err-make_room-clause-rest_kept : goal.returns-in_err-make_room-clause-rest_kept
returns-in_err-make_room-clause-rest_kept c = roomier-seen c.self.inside c.args.self.now c.self.invariant c.self.view_is _ refl _ (ap (λ (p : Slab Slot). p.slots) c.make_room.ensures.slots_kept) _ c.make_room.ensures.spare_kept

pub returns-in_err-push-clause-room : goal.returns-in_err-push-clause-room
returns-in_err-push-clause-room c = room_stays c.self.inside c.args.self.now c.self.view_is _ c.make_room.ensures.spare_kept c.from_residual-in_err-push.result c.from_residual-in_err-push.ensures.0

pub returns-in_err-push-clause-rest_kept : goal.returns-in_err-push-clause-rest_kept
returns-in_err-push-clause-rest_kept c = roomier-seen c.self.inside c.args.self.now c.self.invariant c.self.view_is _ c.in_err-push.ensures _ (ap (λ (p : Slab Slot). p.slots) c.make_room.ensures.slots_kept) _ c.make_room.ensures.spare_kept

pub insert_reserved-requires : goal.insert_reserved-requires
insert_reserved-requires c = c.in_ok-make_room.ensures.slots

pub returns-clause-room : goal.returns-clause-room
returns-clause-room c = ap length (spare c) ∙ length_push c.self.inside.spare.items c.in_ok-key.key ∙ ap (λ (w : Yard). w.room + 1) c.self.view_is
