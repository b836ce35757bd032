-- `into_box` gives what the parts own to `Box::from_raw`, whose box is the result.
use Rattle.street_c.proofs.Steps.{List, [], ◌∷◌, ◌++◌, ◌≡◌, refl, sym, subst, ap, T, Ura, Fn, Body, assign, copy, place, return, rv_opd, seq, inst_fn, Val, WT, has_ty, vptr, ent, id⊢, flft, fsep, ftrue, ◌⊑◌, Fun, fact, tables, tables_of, SProp, Memory, Routine, Tables, WpFn, Logic, WpFn-mono, fm_of, Item, at_ret, ‵, raw, ◌⊛◌, some, later, ◌$◌, ◌∵◌, !, qed, by, move, drop, use1, join, split, split3, pick, rewrite, fsplit, fjoin, feq_i, suffices, await, done, sub, whole, and_then, blocks, enter, exec, first, fld, no_more, of_opd, returns, stop, alloc_all, env, free_all, get, get_in, lands_last, look_at, pass_all, sets, no, RattleType, block_ptr, plain, heard, nothing, only, calls_at_last, Clauses, Ended, triple_of, Contract, Triple, entered, Stays, ends_at, says, stay_dropped, walk_Meets, walk_of, box_owns, Goes-blank, token, Bx, D, R, P, B, word, box_ty, box_typed}
use Rattle.std.proofs.BoxSteps.Form.{args}
use Rattle.std.proofs.BoxSteps.Steps.{box_out}
use Rattle.street_c.proofs.AsBox.{as_word}
use Rattle.std.specs.contracts.boxed.Box.from_raw as From
use Rattle.std.proofs.boxed.Box.from_raw.Symbol as from_name
use Rattle.std.proofs.boxed.Box.from_raw.Met as from_met
use Rattle.street_c.specs.contracts.parts.Parts as Parts
use Rattle.street_c.specs.contracts.parts.Parts.into_box as F
use Rattle.street_c.specs.contracts.parts.Parts.into_box.Key.{name as #self}
use Rattle.street_c.proofs.parts.Parts.into_box.Statement as stated
use Rattle.street_c.proofs.parts.Parts.into_box.Code as code

-- what runs after the call: the box is the result
abbrev after : Body
after = seq (assign (place 0 []) (rv_opd (copy (place 4 [])))) return

module _ (A : Bx) where
  abbrev own : Fn
  own = inst_fn (args A) code.function

  abbrev ended : Ended
  ended = F.ended A.row A.al.row A.al.g A.al.d A.al.drops

  abbrev Given : RattleType
  Given = Parts.the_row (R A) (P A) A.al.g

  abbrev stayed : Stays ended.signature.params ended.kept
  stayed = (stay_dropped (plain (λ _. Given)) no, tt)

  module _ {M : Type 1} {𝓤 : Ura M} (𝓛 : Logic 𝓤) (at_mem : Memory → SProp 𝓤) (run : Routine → Fun 𝓤) (𝓣 : Tables 𝓤 𝓛.H) where
    abbrev clauses : Clauses 𝓤 ended
    clauses = F.clauses A.row A.al.row A.al.g A.al.d A.al.drops 𝓛 at_mem run

    abbrev FromRaw : Contract 𝓤
    FromRaw = triple_of 𝓛 (From.signature A.row A.al.row A.al.g A.al.d A.al.drops) (From.spec A.row A.al.row A.al.g A.al.d A.al.drops 𝓛 at_mem run)

    walk : Triple 𝓤 (𝓣.C (from_name.name (args A))) FromRaw → (z : (walk_of 𝓛 ended stayed clauses).Ghost)
        → ent 𝓤 ((walk_of 𝓛 ended stayed clauses).pre z) (WpFn 𝓤 𝓛.H 𝓣.C 𝓣.Λ own (z.0.4.0 ++ []) ((walk_of 𝓛 ended stayed clauses).post z))
    walk met z =
        let κs = z.0.0 in let qs = z.0.1 in let parts = z.0.3.0 in let words = z.0.4.0 in let ends = (walk_of 𝓛 ended stayed clauses).post z in
        let box : D A = record { ptr = parts.ptr; alloc = parts.alloc; value = parts.value } in
        let live : Item 𝓤 = ‵ (flft κs.0 qs.0) ⊛ ‵ (flft κs.1.0 qs.1.0) ⊛ ‵ ftrue in
        let in_x : Item 𝓤 = raw (fact 𝓤 (κs.0 ⊑ A.row.lives)) in let in_a : Item 𝓤 = raw (fact 𝓤 (κs.1.0 ⊑ A.al.row.lives)) in
        let lives : Item 𝓤 = in_x ⊛ in_a ⊛ ‵ ftrue in
        qed 𝓛 ((live ⊛ ‵ (fsep ((B A).own_val box words) ftrue)) ∷ lives ∷ []) ∵ split ! $ move ! (1 ∷ []) $ fsplit ! $
        box_out A ! box words (λ b o hv at is fits. fjoin ! $
        let w = word A hv b o in
        let call : FromRaw.Ghost = ((κs, qs, tt, (parts.alloc, (block_ptr b o, tt)), (hv ∷ [], (vptr b o ∷ [], tt))), parts.value) in
        let owned : List (Item 𝓤) = ‵ (box_owns (token A.al parts.alloc) (R A) (block_ptr b o) parts.value) ∷ ‵ ((P A).own_val parts.alloc (hv ∷ [])) ∷ ‵ ftrue ∷ live ∷ lives ∷ [] in
        by ! (subst (λ (vs : List Val). ent 𝓤 (types.Kit.⋆ 𝓛 owned) (WpFn 𝓤 𝓛.H 𝓣.C 𝓣.Λ own (vs ++ []) ends)) (sym is)
        (qed 𝓛 owned ∵ enter ! 𝓣.C 𝓣.Λ own (w ∷ []) _ $ alloc_all ! (λ locals. pass_all ! refl (box_typed A hv b o fits, tt) $
        -- the pointer, the allocator, and the allocator again, to be passed
        sets ! (of_opd ! (get_in ! (fld ! refl (stop !)) (sub ! 0 refl (whole !)))) refl (tt, tt) $
        sets ! (of_opd ! (get_in ! (fld ! refl (stop !)) (sub ! 1 refl (whole !)))) refl fits $
        first ! $ blocks ! $ sets ! (of_opd ! (get ! refl)) refl fits $
        -- what the call requires: the tokens, the allocator, the pointer, what they own
        move ! (4 ∷ []) $ split3 ! $ move ! (2 ∷ []) $ drop ! $ move ! (1 ∷ 2 ∷ []) $ join ! $ move ! (1 ∷ 0 ∷ []) $ join ! $
        move ! (2 ∷ []) $ feq_i ! (List Val) (vptr b o ∷ []) (vptr b o ∷ []) refl $ fjoin ! $ move ! (2 ∷ 0 ∷ []) $ fjoin ! $ move ! (2 ∷ 0 ∷ []) $ join ! $ join ! $
        use1 𝓛 (raw (FromRaw.pre call)) (id⊢ 𝓤 _) $
        calls_at_last ! (fm_of 𝓤 𝓛.H 𝓛.laws 𝓣) FromRaw met call (and_then ! (get ! refl) (and_then ! (get ! refl) (no_more !))) (λ v.
        use1 𝓛 (later (some (λ (made : D A). (live ⊛ ‵ ((B A).own_val made (v ∷ []))) ⊛ some (λ (_ : Unit {0} × (Unit {0} × Unit {0})).
        ‵ (fsep ftrue (fsep ftrue ftrue)) ⊛ (raw (fact 𝓤 (made.value ≡ parts.value)) ⊛ raw (fact 𝓤 (made.alloc ≡ parts.alloc))))))) (id⊢ 𝓤 _) $
        await ! tt $ pick ! (λ made. split ! $ move ! (1 ∷ []) $ pick ! (λ _. split3 ! $ drop ! $ heard ! (made.value ≡ parts.value) (λ same. drop ! $ split ! $ move ! (1 ∷ []) $
        as_word A ! made (v ∷ []) (λ b' o' hv' is' fits'. rewrite ! 0 (λ (vs : List Val). ‵ ((B A).own_val made vs)) (sym is') refl $
        let typed : T (has_ty (box_ty A) v) × WT v = subst (λ (u : Val). T (has_ty (box_ty A) u) × WT u) (sym (ap only is')) (box_typed A hv' b' o' fits') in
        lands_last ! refl typed $ exec ! 𝓣.C 𝓣.Λ (env own.locals locals) after (at_ret (env own.locals locals) ends) $
        sets ! (of_opd ! (get ! refl)) refl typed $ returns ! (look_at ! 0 refl) $ free_all ! refl $
        suffices ! _ (ends_at 𝓛 ended stayed clauses z v made ((tt, (tt, tt)), tt) (tt, tt)) $ says ! same $
        nothing ! $ nothing ! $ fjoin ! $ join ! $ move ! (1 ∷ 0 ∷ []) $ join ! $ done !)))))))))

pub into_box_spec : {M : Type 1} → stated.statement M
unfolding tables_of
into_box_spec 𝓤 𝓛 𝓜 𝓡 wired X Z LX LZ g d drops allocator met_drops =
    let A : Bx = record { row = X; laws = LX; al = record { row = Z; laws = LZ; g = g; d = d; drops = drops } } in
    let 𝓣 : Tables 𝓤 𝓛.H = tables_of 𝓤 𝓛.H 𝓜 (tables 𝓤 𝓛.H 𝓜 𝓡 𝓡.env) in
    let wp = WpFn 𝓤 𝓛.H 𝓣.C 𝓣.Λ (own A) in
    entered 𝓤 𝓛.H (triple_of 𝓛 (ended A).signature (F.spec X Z g d drops 𝓛 𝓜.mem 𝓡.returns)) 𝓣.C 𝓣.Λ (#self (args A)) (own A) (code.unfolded 𝓤 𝓛.H 𝓜 𝓡 wired (X, (Z, tt)) d drops)
    (walk_Meets 𝓛 (ended A) (stayed A) (Goes-blank 𝓛 2 (plain (λ _. Given A)) no (λ κs x f. tt), tt) (clauses A 𝓛 𝓜.mem 𝓡.returns 𝓣) wp (WpFn-mono 𝓤 𝓛.H 𝓛.laws 𝓣 (own A))
    (walk A 𝓛 𝓜.mem 𝓡.returns 𝓣 (from_met.met 𝓤 𝓛 𝓜 𝓡 (code.calls-std_alloc::boxed::Box::from_raw 𝓡.env wired) X Z LX LZ g d drops allocator met_drops)))
