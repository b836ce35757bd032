-- `into_parts` moves the pointer and the allocator of a handle, and the session that it holds is then the parts'.
use Rattle.std.specs.Prelude.{Option, Some, None, is_some, true}
use Rattle.street_c.proofs.Steps.{List, [], ◌∷◌, ◌++◌, ◌≡◌, refl, sym, subst, Ura, Val, SProp, ent, id⊢, fsep, ftrue, Memory, Routine, Fun, fact, Tables, WpFn, WpFn-mono, tables, tables_of, Logic, Item, ‵, raw, ◌⊛◌, ◌$◌, ◌∵◌, !, qed, by, move, drop, use1, rewrite, join, split, fsplit, fjoin, suffices, done, agg, sub, whole, and_then, enter, fld, no_more, of_opd, returns, stop, alloc_all, free_all, get, get_in, look_at, pass_all, sets, yes, type_at, heard, nothing, triple_of, entered, Goes-dropped, Stays, ends_at, says, stay_dropped, walk_Meets, walk_of, D, word, box_typed}
use Rattle.street_c.proofs.AsBox.{E, FromHandle, as_word}
use Rattle.street_c.specs.contracts.session.Session.{the_row as Held}
use Rattle.street_c.specs.contracts.handle.Handle as Handle
use Rattle.street_c.specs.contracts.handle.Handle.into_parts as F
use Rattle.street_c.specs.contracts.handle.Handle.into_parts.Key.{name as #self}
use Rattle.street_c.proofs.handle.Handle.into_parts.Statement as stated
use Rattle.street_c.proofs.handle.Handle.into_parts.Code as code

-- what is held, where something is
some_of : (held : Option Held.Denot) → is_some held ≡ true → (x : Held.Denot) × (held ≡ Some x)
some_of (Some x) h = (x, refl)
some_of None h = absurd (cc)

abbrev stayed : Stays F.ended.signature.params F.ended.kept
stayed = (stay_dropped FromHandle yes, tt)

module _ {M : Type 1} {𝓤 : Ura M} (𝓛 : Logic 𝓤) (at_mem : Memory → SProp 𝓤) (run : Routine → Fun 𝓤) (𝓣 : Tables 𝓤 𝓛.H) where
  walk : (z : (walk_of 𝓛 F.ended stayed (F.clauses 𝓛 at_mem run)).Ghost)
      → ent 𝓤 ((walk_of 𝓛 F.ended stayed (F.clauses 𝓛 at_mem run)).pre z)
      (WpFn 𝓤 𝓛.H 𝓣.C 𝓣.Λ code.function (z.0.4.0 ++ []) ((walk_of 𝓛 F.ended stayed (F.clauses 𝓛 at_mem run)).post z))
  walk z =
      let handle = z.0.3.0 in let words = z.0.4.0 in
      let Parts = type_at F.signature.result tt in
      let ends = (walk_of 𝓛 F.ended stayed (F.clauses 𝓛 at_mem run)).post z in
      qed 𝓛 ((‵ ftrue ⊛ ‵ (fsep (Handle.the_row.own_val handle words) ftrue)) ∷ raw (fact 𝓤 (is_some handle.held ≡ true)) ∷ []) ∵
      move ! (1 ∷ []) $ heard ! (is_some handle.held ≡ true) (λ is_open.
      let some = some_of handle.held is_open in
      let box : D E = record { ptr = handle.at; alloc = handle.alloc; value = some.0 } in
      let made : Parts.Denot = record { ptr = handle.at; alloc = handle.alloc; value = some.0 } in
      split ! $ drop ! $ fsplit ! $
      rewrite ! 0 (λ (held : Option Held.Denot). ‵ (Handle.the_row.own_val (record { at = handle.at; alloc = handle.alloc; held = held }) words)) some.1 refl $
      as_word E ! box words (λ b o hv is fits.
      let w = word E hv b o in let owned : List (Item 𝓤) = ‵ (Parts.own_val made (w ∷ [])) ∷ [] in
      use1 𝓛 (‵ (Parts.own_val made (w ∷ []))) (id⊢ 𝓤 _) $ move ! (1 ∷ 2 ∷ []) $ drop ! $ drop ! $
      by ! (subst (λ (vs : List Val). ent 𝓤 (types.Kit.⋆ 𝓛 owned) (WpFn 𝓤 𝓛.H 𝓣.C 𝓣.Λ code.function (vs ++ []) ends)) (sym is)
      (qed 𝓛 owned ∵ enter ! 𝓣.C 𝓣.Λ code.function (w ∷ []) _ $ alloc_all ! (λ locals. pass_all ! refl (box_typed E hv b o fits, tt) $
      -- the pointer, the allocator, the pointer cast, the parts of both
      sets ! (of_opd ! (get_in ! (fld ! refl (stop !)) (sub ! 0 refl (whole !)))) refl (tt, tt) $
      sets ! (of_opd ! (get_in ! (fld ! refl (stop !)) (sub ! 1 refl (whole !)))) refl fits $
      sets ! (of_opd ! (get ! refl)) refl (tt, tt) $
      sets ! (agg ! (and_then ! (get ! refl) (and_then ! (get ! refl) (no_more !)))) refl (box_typed E hv b o fits) $
      returns ! (look_at ! 0 refl) $ free_all ! refl $
      suffices ! _ (ends_at 𝓛 F.ended stayed (F.clauses 𝓛 at_mem run) z w made (tt, tt) (tt, tt)) $ says ! some.1 $
      nothing ! $ nothing ! $ fjoin ! $ join ! $ nothing ! $ join ! $ done !)))))

pub into_parts_spec : {M : Type 1} → stated.statement M
unfolding tables_of
into_parts_spec 𝓤 𝓛 𝓜 𝓡 wired =
    let 𝓣 : Tables 𝓤 𝓛.H = tables_of 𝓤 𝓛.H 𝓜 (tables 𝓤 𝓛.H 𝓜 𝓡 𝓡.env) in
    entered 𝓤 𝓛.H (triple_of 𝓛 F.signature (F.spec 𝓛 𝓜.mem 𝓡.returns)) 𝓣.C 𝓣.Λ #self code.function (code.unfolded 𝓤 𝓛.H 𝓜 𝓡 wired)
    (walk_Meets 𝓛 F.ended stayed (Goes-dropped 𝓛 0 FromHandle yes (λ κs x f. refl), tt) (F.clauses 𝓛 𝓜.mem 𝓡.returns)
    (WpFn 𝓤 𝓛.H 𝓣.C 𝓣.Λ code.function) (WpFn-mono 𝓤 𝓛.H 𝓛.laws 𝓣 code.function) (walk 𝓛 𝓜.mem 𝓡.returns 𝓣))
