-- `of` takes a box apart by `Box::into_raw_with_allocator`, and the parts own what the box owned.
use mir.Raw.{raw as bare}
use Rattle.street_c.proofs.Steps.{List, [], ◌∷◌, ◌++◌, ◌≡◌, ◌∙◌, refl, sym, subst, ap, Ura, Fn, Args, Dict, a_type, dcons, dnil, inst_fn, Val, vstruct, of_list, SProp, ent, id⊢, never, fst∗, flft, fsep, ftrue, ◌⊑◌, Fun, fact, tables, tables_of, Memory, Routine, Tables, WpFn, Logic, sem, WpFn-mono, fm_of, Item, ‵, raw, ◌⊛◌, some, later, ◌$◌, ◌∵◌, !, qed, by, move, drop, use1, join, split, split3, pick, rewrite, fsplit, fjoin, fpick, feq_l, suffices, await, done, agg, sub, whole, and_then, enter, fld, no_more, of_opd, returns, stop, alloc_all, free_all, get, get_in, lands_as, look_at, pass_all, sets, no, bounded, RattleType, Ptr, RawPtr, block_ptr, in_a_block, null_ptr, ptr_val, plain, heard, nothing, only, Tuple, calls_at, Clauses, Ended, triple_of, Contract, Triple, entered, Stays, ends_at, says, stay_dropped, walk_Meets, walk_of, box_owns, Goes-blank, handle_tells, token, Bx, D, R, P, B, word, box_typed}
use Rattle.std.proofs.BoxSteps.Form.{τ}
use Rattle.std.proofs.BoxSteps.Steps.{box_in}
use Rattle.street_c.proofs.AsBox.{as_word}
use Rattle.std.specs.contracts.boxed.Box.into_raw_with_allocator as Into
use Rattle.std.proofs.boxed.Box.into_raw_with_allocator.Symbol as into_name
use Rattle.std.proofs.boxed.Box.into_raw_with_allocator.Met as into_met
use Rattle.street_c.specs.contracts.parts.Parts as Parts
use Rattle.street_c.specs.contracts.parts.Parts.of as F
use Rattle.street_c.specs.contracts.parts.Parts.of.Key.{name as #self}
use Rattle.street_c.proofs.parts.Parts.of.Statement as stated
use Rattle.street_c.proofs.parts.Parts.of.Code as code

-- a box at its type parameters, and how its values are dropped
module _ (A : Bx) (drops_x : Dict) where
  abbrev args : Args
  args = bounded (a_type ∷ a_type ∷ []) (A.row, (A.al.row, tt)) (dcons A.al.d (dcons A.al.drops (dcons drops_x dnil)))

  abbrev own : Fn
  own = inst_fn args code.function

  abbrev ended : Ended
  ended = F.ended A.row A.al.row A.al.g A.al.d A.al.drops drops_x

  abbrev stayed : Stays ended.signature.params ended.kept
  stayed = (stay_dropped (plain (λ _. B A)) no, tt)

  abbrev Made : RattleType
  Made = Parts.the_row (R A) (P A) A.al.g

  module _ {M : Type 1} {𝓤 : Ura M} (𝓛 : Logic 𝓤) (at_mem : Memory → SProp 𝓤) (run : Routine → Fun 𝓤) (𝓣 : Tables 𝓤 𝓛.H) where
    abbrev clauses : Clauses 𝓤 ended
    clauses = F.clauses A.row A.al.row A.al.g A.al.d A.al.drops drops_x 𝓛 at_mem run

    abbrev IntoRaw : Contract 𝓤
    IntoRaw = triple_of 𝓛 (Into.signature A.row A.al.row A.al.g A.al.d A.al.drops drops_x) (Into.spec A.row A.al.row A.al.g A.al.d A.al.drops drops_x 𝓛 at_mem run)

    walk : Triple 𝓤 (𝓣.C (into_name.name args)) IntoRaw → (z : (walk_of 𝓛 ended stayed clauses).Ghost)
        → ent 𝓤 ((walk_of 𝓛 ended stayed clauses).pre z) (WpFn 𝓤 𝓛.H 𝓣.C 𝓣.Λ own (z.0.4.0 ++ []) ((walk_of 𝓛 ended stayed clauses).post z))
    walk met z =
        let κs = z.0.0 in let qs = z.0.1 in let box = z.0.3.0 in let words = z.0.4.0 in let ends = (walk_of 𝓛 ended stayed clauses).post z in
        let live : Item 𝓤 = ‵ (flft κs.0 qs.0) ⊛ ‵ (flft κs.1.0 qs.1.0) ⊛ ‵ ftrue in
        let lives : Item 𝓤 = raw (fact 𝓤 (κs.0 ⊑ A.row.lives)) ⊛ raw (fact 𝓤 (κs.1.0 ⊑ A.al.row.lives)) ⊛ ‵ ftrue in
        qed 𝓛 ((live ⊛ ‵ (fsep ((B A).own_val box words) ftrue)) ∷ lives ∷ []) ∵ split ! $ move ! (1 ∷ []) $ fsplit ! $
        as_word A ! box words (λ b o hv is fits.
        let w = word A hv b o in
        let call : IntoRaw.Ghost = ((κs, qs, tt, (box, tt), (w ∷ [], tt)), tt) in
        let owned : List (Item 𝓤) = ‵ ((B A).own_val box (w ∷ [])) ∷ ‵ ftrue ∷ live ∷ lives ∷ [] in
        by ! (subst (λ (vs : List Val). ent 𝓤 (types.Kit.⋆ 𝓛 owned) (WpFn 𝓤 𝓛.H 𝓣.C 𝓣.Λ own (vs ++ []) ends)) (sym is)
        (qed 𝓛 owned ∵ enter ! 𝓣.C 𝓣.Λ own (w ∷ []) _ $ alloc_all ! (λ locals. pass_all ! refl (box_typed A hv b o fits, tt) $
        sets ! (of_opd ! (get ! refl)) refl (box_typed A hv b o fits) $
        fjoin ! $ move ! (1 ∷ 0 ∷ []) $ join ! $ join ! $ use1 𝓛 (raw (IntoRaw.pre call)) (id⊢ 𝓤 _) $
        calls_at ! (fm_of 𝓤 𝓛.H 𝓛.laws 𝓣) IntoRaw met call (and_then ! (get ! refl) (no_more !)) (λ v.
        use1 𝓛 (later (some (λ (pair : Ptr × A.al.row.Denot). (live ⊛ ‵ ((Tuple (RawPtr ∷ P A ∷ [])).own_val pair (v ∷ []))) ⊛ some (λ (_ : (Unit {0} × (Unit {0} × Unit {0})) × Unit {0}).
        ‵ (fsep (fsep ftrue (fsep ftrue ftrue)) ftrue) ⊛ (raw (fact 𝓤 (pair.1 ≡ box.alloc)) ⊛ ‵ (box_owns (token A.al box.alloc) (R A) pair.0 box.value)))))) (id⊢ 𝓤 _) $
        await ! tt $ pick ! (λ pair. split ! $ move ! (1 ∷ []) $ pick ! (λ _. split3 ! $ drop ! $ heard ! (pair.1 ≡ box.alloc) (λ same.
        -- the pair as a pointer into a block and the allocator's word
        in_a_block ! pair.0 (λ p. box_owns (token A.al box.alloc) (R A) p box.value) (fst∗ 𝓤 (never 𝓤) (sem 𝓛 (token A.al box.alloc (bare (τ A)) null_ptr))) (λ b' o' at'.
        move ! (1 ∷ []) $ split ! $ move ! (1 ∷ []) $ fpick ! (λ parts. fsplit ! $ feq_l ! (λ as_two. fsplit ! $ feq_l ! (λ as_ptr. fsplit ! $
        rewrite ! 0 (λ (a : A.al.row.Denot). ‵ (A.al.row.own_val a parts.1.0)) same refl $ handle_tells A.al ! box.alloc parts.1.0 (λ hv' is' fits'.
        let again : D A = record { ptr = block_ptr b' o'; alloc = box.alloc; value = box.value } in
        let made : Made.Denot = record { ptr = block_ptr b' o'; alloc = box.alloc; value = box.value } in
        let w' = word A hv' b' o' in
        lands_as ! (ap only (as_two ∙ (λ i. vstruct (of_list ((as_ptr ∙ ap (λ (p : Ptr). ptr_val p ∷ []) at') i ++ (is' i ++ []))) ∷ []))) refl (box_typed A hv' b' o' fits') $
        sets ! (of_opd ! (get_in ! (fld ! refl (stop !)) (sub ! 0 refl (whole !)))) refl (tt, tt) $
        sets ! (of_opd ! (get_in ! (fld ! refl (stop !)) (sub ! 1 refl (whole !)))) refl fits' $ sets ! (of_opd ! (get ! refl)) refl fits' $
        sets ! (agg ! (and_then ! (get ! refl) (and_then ! (get ! refl) (no_more !)))) refl (box_typed A hv' b' o' fits') $ returns ! (look_at ! 0 refl) $ free_all ! refl $
        move ! (3 ∷ []) $ fsplit ! $ box_in A ! again b' o' box.value refl refl $ use1 𝓛 (‵ (Made.own_val made (w' ∷ []))) (id⊢ 𝓤 _) $ move ! (1 ∷ []) $ drop ! $
        suffices ! _ (ends_at 𝓛 ended stayed clauses z w' made ((tt, (tt, tt)), tt) (tt, tt)) $ says ! refl $
        nothing ! $ nothing ! $ fjoin ! $ join ! $ move ! (1 ∷ 0 ∷ []) $ join ! $ done !)))))))))))))

pub of_spec : {M : Type 1} → stated.statement M
unfolding tables_of
of_spec 𝓤 𝓛 𝓜 𝓡 wired X Z LX LZ g d drops drops_x allocator met_drops glue =
    let A : Bx = record { row = X; laws = LX; al = record { row = Z; laws = LZ; g = g; d = d; drops = drops } } in
    let 𝓣 : Tables 𝓤 𝓛.H = tables_of 𝓤 𝓛.H 𝓜 (tables 𝓤 𝓛.H 𝓜 𝓡 𝓡.env) in
    let fn = own A drops_x in
    entered 𝓤 𝓛.H (triple_of 𝓛 (ended A drops_x).signature (F.spec X Z g d drops drops_x 𝓛 𝓜.mem 𝓡.returns)) 𝓣.C 𝓣.Λ (#self (args A drops_x)) fn (code.unfolded 𝓤 𝓛.H 𝓜 𝓡 wired (X, (Z, tt)) d drops drops_x)
    (walk_Meets 𝓛 (ended A drops_x) (stayed A drops_x) (Goes-blank 𝓛 2 (plain (λ _. B A)) no (λ κs x f. tt), tt) (clauses A drops_x 𝓛 𝓜.mem 𝓡.returns 𝓣)
    (WpFn 𝓤 𝓛.H 𝓣.C 𝓣.Λ fn) (WpFn-mono 𝓤 𝓛.H 𝓛.laws 𝓣 fn)
    (walk A drops_x 𝓛 𝓜.mem 𝓡.returns 𝓣 (into_met.met 𝓤 𝓛 𝓜 𝓡 (code.calls-std_alloc::boxed::Box::into_raw_with_allocator 𝓡.env wired) X Z LX LZ g d drops drops_x allocator met_drops glue)))
