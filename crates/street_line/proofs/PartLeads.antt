-- What a fault of the log has left of what lines owe, done again.
use Rattle.std.proofs.Common.{◌≡◌, ◌∙◌, ℕ, zero, suc, ◌+◌, ◌-◌, ◌≤◌, List, [], ◌∷◌, ◌++◌, length, take, Bool, true, false, inl, inr, refl, sym, ap, subst, arith, append_assoc}
use Rattle.std.proofs.Math.Seq.{take-append-add}
use Rattle.std.proofs.lemmas.List.{take-append-le}
use Rattle.std.proofs.lemmas.Bool.{cases_lt}
use Rattle.street_base.specs.declared.command.Command.{Command}
use Rattle.street_base.specs.declared.reply.Reply.{Reply}
use Rattle.street_base.specs.Prelude.{State}
use Rattle.street_stream.proofs.Cut.{cut_more, cut_none, cut_newline}
use Rattle.street_stream.proofs.CutParts.{AllInside, cut_alone, cut_append}
use Rattle.street_stream.specs.Lines.{IsInsideLine, cut}
use Rattle.street_line.proofs.KeptLeads.{change_is_done, unchanged}
use Rattle.street_line.specs.Redo.{RedoSaid, Redoes}
use Rattle.street_line.specs.Engines.{MachineServes}
use Rattle.street_line.specs.Restarts.{PartDone}
use Rattle.street_line.specs.Kept.{GoesKept, KeepsSaid, entry_of, is_change, is_short}
use Rattle.street_line.specs.Runs.{Said, calls, faulty, said, silent}
use Rattle.street_line.specs.declared.service.Served.TheVariants.{Answered, Full, Unrecorded}

none_done : (old : State) (ls redo : List (List ℕ)) → redo ≡ [] → PartDone old ls redo
none_done old ls redo is = record { first = []; rest = ls; out = []; kept = []; mid = old; split = refl; served = (refl, refl, refl); leads = rw is refl }

-- a line that was served in front
onto_done : (old mid : State) (l out entry : List ℕ) (ls redo : List (List ℕ)) → KeepsSaid MachineServes old (said l) l out entry mid → (p : PartDone mid ls redo)
    → (more : List (List ℕ)) → Redoes MachineServes old more p.mid → PartDone old (l ∷ ls) more
onto_done old mid l out entry ls redo served p more leads = record {
  first = l ∷ p.first;
  rest = p.rest;
  out = out ++ p.out;
  kept = entry ++ p.kept;
  mid = p.mid;
  split = ap (λ (ms : List (List ℕ)). l ∷ ms) p.split;
  served = (mid, out, entry, p.out, p.kept, served, p.served, refl, refl);
  leads = leads;
}

-- a line and LF in front of a text
cut_line : (l more : List ℕ) → IsInsideLine l → (cut (l ++ 10 ∷ more)).0 ≡ l ∷ (cut more).0
cut_line l more inside =
    let one : cut (l ++ 10 ∷ []) ≡ (l ∷ [], []) = rw (cut_newline l, cut_alone l inside) refl in
    ap (λ (t : List ℕ). (cut t).0) (sym (append_assoc l (10 ∷ []) more)) ∙ ap (λ (p : List (List ℕ) × List ℕ). p.0) (cut_append (l ++ 10 ∷ []) more)
    ∙ ap (λ (p : List (List ℕ) × List ℕ). p.0 ++ (cut (p.1 ++ more)).0) one

no_line : (l more : List ℕ) (n : ℕ) → IsInsideLine l → n ≤ length l → (cut (take n (l ++ 10 ∷ more))).0 ≡ []
no_line l more n inside few =
    let first = cut_more (take n l) [] in
    ap (λ (t : List ℕ). (cut t).0) (take-append-le n l (10 ∷ more) few) ∙ ap (λ (p : List (List ℕ) × List ℕ). p.0) (cut_alone (take n l) (inside_part l n inside))
  where
    inside_part : (l : List ℕ) (n : ℕ) → IsInsideLine l → IsInsideLine (take n l)
    inside_part l zero inside k within = absurd (omega (arith, within))
    inside_part [] (suc n) inside k within = absurd (omega (arith, within))
    inside_part (x ∷ xs) (suc n) inside zero within = inside 0 (omega arith)
    inside_part (x ∷ xs) (suc n) inside (suc k) within = inside_part xs n (λ j less. inside (suc j) (omega (arith, less))) k (omega (arith, within))

-- a line of which nothing is kept, and which changed nothing
same_done : (old mid : State) (l out entry more : List ℕ) (n : ℕ) (ls : List (List ℕ)) → KeepsSaid MachineServes old (said l) l out entry mid → mid ≡ old → entry ≡ []
    → PartDone mid ls (cut (take n more)).0 → PartDone old (l ∷ ls) (cut (take n (entry ++ more))).0
same_done old mid l out entry more n ls served same none p =
    let text : (cut (take n (entry ++ more))).0 ≡ (cut (take n more)).0 = ap (λ (e : List ℕ). (cut (take n (e ++ more))).0) none in
    onto_done old mid l out entry ls (cut (take n more)).0 served p (cut (take n (entry ++ more))).0
    (rw text (subst (λ (s : State). Redoes MachineServes s (cut (take n more)).0 p.mid) same p.leads))

-- a line that is kept
kept_done : (old mid : State) (l out more : List ℕ) (n : ℕ) (ls : List (List ℕ)) → IsInsideLine l → KeepsSaid MachineServes old (said l) l out (l ++ 10 ∷ []) mid
    → RedoSaid MachineServes old (said l) mid → ((m : ℕ) → PartDone mid ls (cut (take m more)).0) → PartDone old (l ∷ ls) (cut (take n ((l ++ 10 ∷ []) ++ more))).0
kept_done old mid l out more n ls inside served redo rest =
    let text : (l ++ 10 ∷ []) ++ more ≡ l ++ 10 ∷ more = append_assoc l (10 ∷ []) more in
    elim (cases_lt (length l) n) [
      | inl over ↦
          let m : ℕ = n - length l - 1 in
          let size : n ≡ length l + suc m = omega (arith, over) in
          let part : take n ((l ++ 10 ∷ []) ++ more) ≡ l ++ 10 ∷ take m more = ap (λ (t : List ℕ). take n t) text ∙ ap (λ (k : ℕ). take k (l ++ 10 ∷ more)) size ∙ take-append-add l (10 ∷ more) (suc m) in
          let p = rest m in
          let lines : (cut (take n ((l ++ 10 ∷ []) ++ more))).0 ≡ l ∷ (cut (take m more)).0 = ap (λ (t : List ℕ). (cut t).0) part ∙ cut_line l (take m more) inside in
          onto_done old mid l out (l ++ 10 ∷ []) ls (cut (take m more)).0 served p (cut (take n ((l ++ 10 ∷ []) ++ more))).0 (rw lines (mid, redo, p.leads))
      | inr under ↦ none_done old (l ∷ ls) (cut (take n ((l ++ 10 ∷ []) ++ more))).0 (ap (λ (t : List ℕ). (cut (take n t)).0) text ∙ no_line l more n inside under)
    ]

call_done : (b : Bool) (old mid : State) (c : Command) (reply : Reply) (l out entry more : List ℕ) (n : ℕ) (ls : List (List ℕ)) → is_change reply ≡ b → is_short reply ≡ false → said l ≡ calls c
    → IsInsideLine l → MachineServes old c (Answered reply) mid → entry ≡ entry_of b l → KeepsSaid MachineServes old (said l) l out entry mid
    → ((m : ℕ) → PartDone mid ls (cut (take m more)).0) → PartDone old (l ∷ ls) (cut (take n (entry ++ more))).0
call_done false old mid c reply l out entry more n ls change short says inside served is keeps rest = same_done old mid l out entry more n ls keeps (unchanged old c reply mid served change short) is (rest n)
call_done true old mid c reply l out entry more n ls change short says inside served is keeps rest =
    let redo : RedoSaid MachineServes old (said l) mid = rw says (reply, served, change_is_done reply change) in
    rw is (kept_done old mid l out more n ls inside (rw is at keeps) redo rest)

said_done : (old mid : State) (what : Said) (l out entry more : List ℕ) (n : ℕ) (ls : List (List ℕ)) → said l ≡ what → IsInsideLine l → KeepsSaid MachineServes old what l out entry mid
    → KeepsSaid MachineServes old (said l) l out entry mid → ((m : ℕ) → PartDone mid ls (cut (take m more)).0) → PartDone old (l ∷ ls) (cut (take n (entry ++ more))).0
said_done old mid silent l out entry more n ls says inside h keeps rest = same_done old mid l out entry more n ls keeps h.0 h.2 (rest n)
said_done old mid (faulty f) l out entry more n ls says inside h keeps rest = same_done old mid l out entry more n ls keeps h.0 h.2 (rest n)
said_done old mid (calls c) l out entry more n ls says inside (Answered reply, served, text, is) keeps rest =
    call_done (is_change reply) old mid c reply l out entry more n ls refl is.0 says inside served is.1 keeps rest
said_done old mid (calls c) l out entry more n ls says inside (Full, served, text, is) keeps rest = absurd served
said_done old mid (calls c) l out entry more n ls says inside (Unrecorded, served, text, is) keeps rest = absurd served

nothing_taken : (n : ℕ) → (cut (take n [])).0 ≡ []
nothing_taken zero = rw cut_none refl
nothing_taken (suc n) = rw cut_none refl

-- of what lines owe the first bytes, done again, lead to the state after the first of these lines
pub part_done : (old : State) (ls : List (List ℕ)) (out kept : List ℕ) (new : State) → AllInside ls → GoesKept MachineServes old ls out kept new → (n : ℕ) → PartDone old ls (cut (take n kept)).0
part_done old [] out kept new inside h n = none_done old [] (cut (take n kept)).0 (ap (λ (k : List ℕ). (cut (take n k)).0) h.2 ∙ nothing_taken n)
part_done old (l ∷ ls) out kept new inside h n =
    rw h.8 (said_done old h.0 (said l) l h.1 h.2 h.4 n ls refl inside.0 h.5 h.5 (part_done h.0 ls h.3 h.4 new inside.1 h.6))
