-- A handle that holds a session, and the parts of a box, own what a box at the same types owns: each is one machine word.
use mir.Syntax.{impl, tnil, dnil}
use mathlib.Core.Path.{◌≡◌, refl}
use mathlib.Core.List.{List, [], ◌∷◌}
use Prim.Native.Nat.{ℕ}
use seplogic.Ra.Ura.{Ura}
use mir.Val.{Val}
use types.Logic.{Logic}
use types.Kit.{Goal, Item, Seq, ‵, ◌$◌}
use denote.Signature.{Slot, plain}
use Rattle.std.proofs.alloc.Calls.{Fits}
use Rattle.std.proofs.BoxSteps.Form.{Bx, D, B, word}
use Rattle.std.proofs.BoxSteps.Steps.{box_out, box_in}
use Rattle.std.specs.contracts.alloc.Global as Heap
use Rattle.std.specs.contracts.impls.GlobalAllocator.TheImpl.{ghosts, dict}
use Rattle.std.proofs.alloc.Global.TheLaws as heap
use Rattle.street_c.specs.contracts.session.Session as Session
use Rattle.street_c.proofs.session.Session.TheLaws as session
use Rattle.street_c.specs.contracts.parts.Parts as Parts
use Rattle.street_c.specs.contracts.handle.Handle as Handle

abbrev pub E : Bx
E = record { row = Session.the_row; laws = session.the_row_laws; al = record { row = Heap.the_row; laws = heap.the_row_laws; g = ghosts; d = dict; drops = impl [] tnil dnil } }

abbrev pub FromParts : Slot 0
FromParts = plain (λ _. Parts.the_row Session.the_row Heap.the_row ghosts)

abbrev pub FromHandle : Slot 0
FromHandle = plain (λ _. Handle.the_row)

-- what owns as a box does is one word, a pointer and an allocator, and the box may be had again from it
module _ (A : Bx) {M : Type 1} {𝓤 : Ura M} {𝓛 : Logic 𝓤} {K : Type 0} {Γ : List (Item 𝓤)} {G : Goal 𝓤 𝓛.H} where
  pub as_word : K → (d : D A) (vs : List Val)
      → ((b o : ℕ) (hv : Val) → vs ≡ word A hv b o ∷ [] → Fits A.al hv → Seq K 𝓛 (‵ ((B A).own_val d (word A hv b o ∷ [])) ∷ Γ) G)
      → Seq K 𝓛 (‵ ((B A).own_val d vs) ∷ Γ) G
  as_word t d vs k = box_out A t d vs (λ b o hv at ws fits. box_in A t d b o d.value at refl $ k b o hv ws fits)
