-- `of_parts` moves the pointer and the allocator of the parts, and the session that they own is then the handle's.
use Rattle.std.specs.Prelude.{Some}
use Rattle.street_c.proofs.Steps.{List, [], ◌∷◌, ◌++◌, refl, sym, subst, Ura, Val, SProp, emp, ent, id⊢, fsep, ftrue, Memory, Routine, Fun, Tables, WpFn, WpFn-mono, tables, tables_of, Logic, Item, ‵, raw, ◌⊛◌, ◌$◌, ◌∵◌, !, qed, by, move, drop, use1, join, split, fsplit, fjoin, suffices, done, agg, sub, whole, and_then, enter, fld, no_more, of_opd, returns, stop, alloc_all, free_all, get, get_in, look_at, pass_all, sets, yes, type_at, nothing, triple_of, entered, Goes-dropped, Stays, ends_at, says, stay_dropped, walk_Meets, walk_of, D, B, word, box_typed}
use Rattle.street_c.proofs.AsBox.{E, FromParts, as_word}
use Rattle.street_c.specs.contracts.handle.Handle.of_parts as F
use Rattle.street_c.specs.contracts.handle.Handle.of_parts.Key.{name as #self}
use Rattle.street_c.proofs.handle.Handle.of_parts.Statement as stated
use Rattle.street_c.proofs.handle.Handle.of_parts.Code as code

abbrev stayed : Stays F.ended.signature.params F.ended.kept
stayed = (stay_dropped FromParts yes, tt)

module _ {M : Type 1} {𝓤 : Ura M} (𝓛 : Logic 𝓤) (at_mem : Memory → SProp 𝓤) (run : Routine → Fun 𝓤) (𝓣 : Tables 𝓤 𝓛.H) where
  walk : (z : (walk_of 𝓛 F.ended stayed (F.clauses 𝓛 at_mem run)).Ghost)
      → ent 𝓤 ((walk_of 𝓛 F.ended stayed (F.clauses 𝓛 at_mem run)).pre z)
      (WpFn 𝓤 𝓛.H 𝓣.C 𝓣.Λ code.function (z.0.4.0 ++ []) ((walk_of 𝓛 F.ended stayed (F.clauses 𝓛 at_mem run)).post z))
  walk z =
      let parts = z.0.3.0 in let words = z.0.4.0 in
      let box : D E = record { ptr = parts.ptr; alloc = parts.alloc; value = parts.value } in
      let Handle = type_at F.signature.result tt in
      let made : Handle.Denot = record { at = parts.ptr; alloc = parts.alloc; held = Some parts.value } in
      let ends = (walk_of 𝓛 F.ended stayed (F.clauses 𝓛 at_mem run)).post z in
      qed 𝓛 ((‵ ftrue ⊛ ‵ (fsep ((B E).own_val box words) ftrue)) ∷ raw (emp 𝓤) ∷ []) ∵
      split ! $ drop ! $ fsplit ! $ as_word E ! box words (λ b o hv is fits.
      let w = word E hv b o in let owned : List (Item 𝓤) = ‵ (Handle.own_val made (w ∷ [])) ∷ [] in
      use1 𝓛 (‵ (Handle.own_val made (w ∷ []))) (id⊢ 𝓤 _) $ move ! (1 ∷ 2 ∷ []) $ drop ! $ drop ! $
      by ! (subst (λ (vs : List Val). ent 𝓤 (types.Kit.⋆ 𝓛 owned) (WpFn 𝓤 𝓛.H 𝓣.C 𝓣.Λ code.function (vs ++ []) ends)) (sym is)
      (qed 𝓛 owned ∵ enter ! 𝓣.C 𝓣.Λ code.function (w ∷ []) _ $ alloc_all ! (λ locals. pass_all ! refl (box_typed E hv b o fits, tt) $
      -- the pointer, the allocator, the pointer cast, the handle of both
      sets ! (of_opd ! (get_in ! (fld ! refl (stop !)) (sub ! 0 refl (whole !)))) refl (tt, tt) $
      sets ! (of_opd ! (get_in ! (fld ! refl (stop !)) (sub ! 1 refl (whole !)))) refl fits $
      sets ! (of_opd ! (get ! refl)) refl (tt, tt) $
      sets ! (agg ! (and_then ! (get ! refl) (and_then ! (get ! refl) (no_more !)))) refl (box_typed E hv b o fits) $
      returns ! (look_at ! 0 refl) $ free_all ! refl $
      suffices ! _ (ends_at 𝓛 F.ended stayed (F.clauses 𝓛 at_mem run) z w made (tt, tt) (tt, tt)) $ says ! refl $
      nothing ! $ nothing ! $ fjoin ! $ join ! $ nothing ! $ join ! $ done !))))

pub of_parts_spec : {M : Type 1} → stated.statement M
unfolding tables_of
of_parts_spec 𝓤 𝓛 𝓜 𝓡 wired =
    let 𝓣 : Tables 𝓤 𝓛.H = tables_of 𝓤 𝓛.H 𝓜 (tables 𝓤 𝓛.H 𝓜 𝓡 𝓡.env) in
    entered 𝓤 𝓛.H (triple_of 𝓛 F.signature (F.spec 𝓛 𝓜.mem 𝓡.returns)) 𝓣.C 𝓣.Λ #self code.function (code.unfolded 𝓤 𝓛.H 𝓜 𝓡 wired)
    (walk_Meets 𝓛 F.ended stayed (Goes-dropped 𝓛 0 FromParts yes (λ κs x f. refl), tt) (F.clauses 𝓛 𝓜.mem 𝓡.returns)
    (WpFn 𝓤 𝓛.H 𝓣.C 𝓣.Λ code.function) (WpFn-mono 𝓤 𝓛.H 𝓛.laws 𝓣 code.function) (walk 𝓛 𝓜.mem 𝓡.returns 𝓣))
