-- The entries of a list, one after another.
use Rattle.std.proofs.Common.{◌≡◌, ℕ, ◌==◌, ◌+◌, ◌<◌, ◌≤◌, suc, List, take, drop, get_or, arith, eq-eqb, append_assoc, append-nil, [], ◌∷◌, ◌++◌, length, if◌then◌else◌, Option, Some, None, Result, Ok, Err, IsErr, option_map, option_and_then, refl, sym, ap, ◌∙◌, ok_or, IsErrAnd}
use Rattle.std.proofs.lemmas.Bool.{ne_eqb}
use Rattle.std.proofs.lemmas.List.{at_drop_more, take_more_set, take_all}
use Rattle.std.proofs.Math.ListN.{set, drop_of_length-le}
use Rattle.serde_json.specs.Data.{Data}
use Rattle.serde_json.specs.View.{view, items_view}
use Rattle.serde_json.specs.declared.value.Value.{Value}
use Rattle.street_text.specs.LineCommands.{Fails, entries_of, number_in, or_fault, phase_from}
use Rattle.street_text.specs.declared.fault.LineFault.{LineFault}
use Rattle.street_text.specs.declared.fault.LineFault.TheVariants.{BadCommand, LineTooLong, NotJson, Starved}

-- found, and then what is read of the rest
abbrev pub with_front : {T : Type 0} → List T → Option (List T) → Option (List T)
with_front front rest = option_map (λ xs. front ++ xs) rest

front_twice : {T : Type 0} (found : List T) (x : T) (o : Option (List T)) → with_front found (option_map (λ xs. x ∷ xs) o) ≡ with_front (found ++ x ∷ []) o
front_twice found x None = refl
front_twice found x (Some xs) = ap Some (sym (append_assoc found (x ∷ []) xs))

first : {T : Type 0} (entry : Data → Option T) (found : List T) (v : Value) (vs : List Value) (x : T) → entry (view v) ≡ Some x
    → with_front found (entries_of entry (items_view (v ∷ vs))) ≡ with_front (found ++ x ∷ []) (entries_of entry (items_view vs))
first entry found v vs x e = rw e (front_twice found x (entries_of entry (items_view vs)))

-- nothing found, and then all
pub no_front : {T : Type 0} (o : Option (List T)) → with_front [] o ≡ o
no_front None = refl
no_front (Some xs) = refl

-- what was read without a fault
pub read_entry : {T : Type 0} (o : Option T) (x : T) → or_fault BadCommand o ≡ Ok x → o ≡ Some x
read_entry None x e = absurd (cc)
read_entry (Some y) x e = let same : y ≡ x = cc in ap Some same

-- an entry more is read
pub one_more_entry : {T : Type 0} (entry : Data → Option T) (found : List T) (vs : List Value) (i : ℕ) (d : Value) (x : T) → i < length vs → entry (view (get_or vs i d)) ≡ Some x
    → with_front (found ++ x ∷ []) (entries_of entry (items_view (drop (i + 1) vs))) ≡ with_front found (entries_of entry (items_view (drop i vs)))
one_more_entry entry found vs i d x within e =
    sym (at_drop_more (λ ws. with_front found (entries_of entry (items_view ws))) vs i d within ∙ first entry found (get_or vs i d) (drop (i + 1) vs) x e)

-- the fault that is passed on
pub fault_is : {T : Type 0} (r : Result T LineFault) (fault : LineFault) → IsErr r → IsErrAnd r (λ f. f ≡ fault) → r ≡ Err fault
fault_is (Ok x) fault is passed = absurd (cc)
fault_is (Err f) fault is passed = ap Err passed

-- the fault that is told where a part is not there
pub no_part : {A T : Type 0} (part : Option A) (r : Result T LineFault) (fault : LineFault) → part ≡ None → Err fault ≡ ok_or part BadCommand
    → IsErr r → IsErrAnd r (λ f. f ≡ fault) → r ≡ Err BadCommand
no_part None r fault none told is passed = let same : fault ≡ BadCommand = cc in fault_is r fault is passed ∙ ap Err same
no_part (Some x) r fault none told is passed = absurd (cc)

-- a fault of a part is a fault of the whole, where the part is needed
pub fails_too : {A B : Type 0} (fault : LineFault) (part : Option A) (whole : Option B) → (part ≡ None → whole ≡ None) → Fails fault (or_fault BadCommand part) → Fails fault (or_fault BadCommand whole)
fails_too Starved part whole needed fails = tt
fails_too BadCommand None whole needed fails = rw (needed refl) refl
fails_too BadCommand (Some x) whole needed fails = absurd (cc)
fails_too LineTooLong None whole needed fails = absurd (cc)
fails_too LineTooLong (Some x) whole needed fails = absurd (cc)
fails_too NotJson None whole needed fails = absurd (cc)
fails_too NotJson (Some x) whole needed fails = absurd (cc)

-- an entry is not read
pub entry_fails : {T : Type 0} (entry : Data → Option T) (found : List T) (vs : List Value) (i : ℕ) (d : Value) (fault : LineFault) (o : Option (List T)) → i < length vs
    → Fails fault (or_fault BadCommand (entry (view (get_or vs i d)))) → with_front found (entries_of entry (items_view (drop i vs))) ≡ o → Fails fault (or_fault BadCommand o)
entry_fails entry found vs i d fault o within fails e =
    fails_too fault (entry (view (get_or vs i d))) o (λ none. sym e ∙ at_drop_more (λ ws. with_front found (entries_of entry (items_view ws))) vs i d within ∙ rw none refl) fails

-- all entries were read
pub whole_list : {T : Type 0} (entry : Data → Option T) (found : List T) (vs : List Value) (i : ℕ) (o : Option (List T)) → length vs ≤ i
    → with_front found (entries_of entry (items_view (drop i vs))) ≡ o → or_fault BadCommand o ≡ Ok found
whole_list entry found vs i o over e =
    let dropped : drop i vs ≡ [] = drop_of_length-le vs over in
    let whole = rw (dropped, append-nil found) at e in
    rw (← whole) refl

abbrev pub sized : ℕ → Option (List ℕ) → Option (List ℕ)
sized n o = option_and_then (λ ns. if length ns == n then Some ns else None) o

after_one : {T : Type 0} (x : Option T) (xs ys : Option (List T)) (k : ℕ) → ((zs : List T) → xs ≡ Some zs → length zs ≡ k)
    → (zs : List T) → option_and_then (λ y. option_map (λ ys. y ∷ ys) xs) x ≡ Some zs → length zs ≡ suc k
after_one None xs ys k h zs e = absurd (cc)
after_one (Some x) None ys k h zs e = absurd (cc)
after_one (Some x) (Some xs) ys k h zs e =
    let same : x ∷ xs ≡ zs = cc in
    sym (ap length same) ∙ ap suc (h xs refl)

pub entries_length : {T : Type 0} (entry : Data → Option T) (vs : List Value) (zs : List T) → entries_of entry (items_view vs) ≡ Some zs → length zs ≡ length vs
entries_length entry [] zs e = let same : [] ≡ zs = cc in sym (ap length same)
entries_length entry (v ∷ vs) zs e = after_one (entry (view v)) (entries_of entry (items_view vs)) None (length vs) (λ ws h. entries_length entry vs ws h) zs e

other_size : (n : ℕ) (o : Option (List ℕ)) (k : ℕ) → ((zs : List ℕ) → o ≡ Some zs → length zs ≡ k) → (k ≡ n → ⊥) → sized n o ≡ None
other_size n None k h other = refl
other_size n (Some zs) k h other = rw (h zs refl, ne_eqb k n other)

-- a list of another length is no row
pub no_row : (n : ℕ) (vs : List Value) → (length vs ≡ n → ⊥) → sized n (entries_of number_in (items_view vs)) ≡ None
no_row n vs other = other_size n (entries_of number_in (items_view vs)) (length vs) (entries_length number_in vs) other

-- a list of another length is no phase
pub no_phase : (vs : List Value) → (length vs ≡ 2 → ⊥) → phase_from (items_view vs) ≡ None
no_phase [] other = refl
no_phase (a ∷ []) other = refl
no_phase (a ∷ b ∷ []) other = absurd (other refl)
no_phase (a ∷ b ∷ c ∷ vs) other = refl

-- a number more is read
pub one_more : (row : List ℕ) (vs : List Value) (i : ℕ) (d : Value) (x : ℕ) → i < length row → i < length vs → number_in (view (get_or vs i d)) ≡ Some x
    → with_front (take i row) (entries_of number_in (items_view (drop i vs))) ≡ with_front (take (i + 1) (set row i x)) (entries_of number_in (items_view (drop (i + 1) vs)))
one_more row vs i d x room within e =
    at_drop_more (λ ws. with_front (take i row) (entries_of number_in (items_view ws))) vs i d within
    ∙ first number_in (take i row) (get_or vs i d) (drop (i + 1) vs) x e ∙ ap (λ front. with_front front (entries_of number_in (items_view (drop (i + 1) vs)))) (sym (take_more_set row i x room))

-- all numbers were read
pub whole_row : (n : ℕ) (row : List ℕ) (vs : List Value) (i : ℕ) (o : Option (List ℕ)) → length row ≡ n → length vs ≡ n → n ≤ i → i ≤ n
    → with_front (take i row) (entries_of number_in (items_view (drop i vs))) ≡ o → Some row ≡ sized n o
whole_row n row vs i o size same least most e =
    let here : i ≡ n = omega arith in
    let taken : take i row ≡ row = take_all i row (omega arith) in
    let dropped : drop i vs ≡ [] = drop_of_length-le vs (omega arith) in
    let whole = rw (taken, dropped, append-nil row) at e in
    rw (← whole, size, eq-eqb n n refl) refl
