-- A tape that is read line by line says the calls of its lines.
use Rattle.std.proofs.Common.{◌≡◌, ℕ, ◌+◌, ◌-◌, ◌<◌, ◌≤◌, ◌==◌, List, [], ◌∷◌, ◌++◌, length, Bool, true, false, if◌then◌else◌, Option, Some, None, Result, Ok, Err, option_map, inl, inr, refl, sym, ap, ◌∙◌, append_assoc, append-nil, length-append, arith, eq-eqb, lt-ltb}
use Rattle.std.proofs.lemmas.Bool.{cases_lt, eqb-true, eqb-false, ne_eqb, le-leb, leb-true}
use Rattle.std.proofs.lemmas.List.{take_all, length-take-le}
use Rattle.street_desk.specs.declared.journal.Entry.{Entry}
use Rattle.street_stream.specs.Lines.{kept}
use Rattle.street_text.specs.declared.fault.LineFault.{LineFault}
use Rattle.street_tape.specs.Entries.{longest_tape_line, tape_value, head_reading, entry_reading, after_call, is_sized, is_whole, may_have, onto, entries_of, calls_after, calls_in, all_after, tape_in}
use Rattle.street_tape.specs.TapeLines.{Takes, Refuses, may_end, calls_of, TakesAll}
use Rattle.street_tape.specs.declared.head.TapeHead.{TapeHead}
use Rattle.street_tape.specs.declared.head.TapeHead.TheVariants.{Version1, Version2}
use Rattle.street_tape.specs.declared.tape.Stop.{Stop}
use Rattle.street_tape.specs.declared.tape.Stop.TheVariants.{NotTape, BadEntry, Starved}

-- ---- what is kept of a line says what the line says

both_long : (a b : List ℕ) → longest_tape_line < length a → longest_tape_line < length b → tape_value a ≡ tape_value b
unfolding tape_value
both_long a b g h = rw (lt-ltb longest_tape_line (length a) g, lt-ltb longest_tape_line (length b) h) refl

value_kept : (line : List ℕ) → tape_value (kept longest_tape_line line) ≡ tape_value line
unfolding kept
value_kept line = elim (cases_lt longest_tape_line (length line)) [
  | inl over ↦ both_long (kept longest_tape_line line) line (omega (arith, length-take-le (longest_tape_line + 1) line (omega arith))) over
  | inr under ↦ ap tape_value (take_all (longest_tape_line + 1) line (omega arith))
]

entry_kept : (sized : Bool) (line : List ℕ) → entry_reading sized (kept longest_tape_line line) ≡ entry_reading sized line
unfolding entry_reading
entry_kept sized line = rw (value_kept line) refl

head_kept : (line : List ℕ) → head_reading (kept longest_tape_line line) ≡ head_reading line
unfolding head_reading
head_kept line = rw (value_kept line) refl

pub takes_kept : (old : Option TapeHead) (line : List ℕ) (call : Option Entry) (new : Option TapeHead) → Takes old (kept longest_tape_line line) call new → Takes old line call new
takes_kept None line None (Some new) h = sym (head_kept line) ∙ h
takes_kept None line None None h = absurd h
takes_kept None line (Some e) new h = absurd h
takes_kept (Some old) line (Some e) (Some new) h = (h.0, sym (entry_kept (is_sized old) line) ∙ h.1)
takes_kept (Some old) line (Some e) None h = absurd h
takes_kept (Some old) line None new h = absurd h

pub refuses_kept : (old : Option TapeHead) (line : List ℕ) (stop : Stop) → Refuses old (kept longest_tape_line line) stop → Refuses old line stop
refuses_kept None line NotTape h = λ head is. h head (head_kept line ∙ is)
refuses_kept None line BadEntry h = absurd h
refuses_kept None line Starved h = tt
refuses_kept (Some old) line NotTape h = absurd h
refuses_kept (Some old) line BadEntry h = λ new e after is. h new e after (entry_kept (is_sized old) line ∙ is)
refuses_kept (Some old) line Starved h = tt

-- ---- a line more

pub takes_more : (a : Option TapeHead) (ls : List (List ℕ)) (es : List Entry) (b : Option TapeHead) (l : List ℕ) (call : Option Entry) (c : Option TapeHead) → TakesAll a ls es b → Takes b l call c
    → TakesAll a (ls ++ l ∷ []) (es ++ calls_of call) c
takes_more a [] es b l call c h t =
    let same : b ≡ a = h.0 in
    let none : es ≡ [] = h.1 in
    rw none (c, call, [], rw same at t, (refl, refl), sym (append-nil (calls_of call)))
takes_more a (x ∷ ls) es b l call c h t =
    let more = takes_more h.0 ls h.2 b l call c h.4 t in
    (h.0, h.1, h.2 ++ calls_of call, h.3, more, ap (λ (xs : List Entry). xs ++ calls_of call) h.5 ∙ append_assoc (calls_of h.1) h.2 (calls_of call))

-- ---- what follows the first line

-- what a first line tells after so many calls
abbrev left : TapeHead → ℕ → TapeHead
left Version1 n = Version1
left (Version2 calls) n = Version2 (calls - n)

left_none : (h : TapeHead) → left h 0 ≡ h
left_none Version1 = refl
left_none (Version2 calls) = ap Version2 (omega arith)

has_none : (h : TapeHead) → may_have h 0 ≡ true
has_none Version1 = refl
has_none (Version2 calls) = le-leb 0 calls (omega arith)

record IsNext (h next : TapeHead) : Type 0 where
  sized : is_sized next ≡ is_sized h
  has : (n : ℕ) → may_have next n ≡ true → may_have h (n + 1) ≡ true
  is_left : (n : ℕ) → left next n ≡ left h (n + 1)

one_less : (calls : ℕ) → (calls ≡ 0 → ⊥) → IsNext (Version2 calls) (Version2 (calls - 1))
one_less calls some = record {
  sized = refl;
  has = λ n h. let below : n ≤ calls - 1 = leb-true n (calls - 1) h in le-leb (n + 1) calls (omega arith);
  is_left = λ n. ap Version2 (omega arith);
}

next_of : (calls : ℕ) (next : TapeHead) (b : Bool) → (calls == 0) ≡ b → (if b then None else Some (Version2 (calls - 1))) ≡ Some next → IsNext (Version2 calls) next
next_of calls next true is e = absurd (cc)
next_of calls next false is e = let same : next ≡ Version2 (calls - 1) = cc in rw same (one_less calls (eqb-false calls 0 is))

after_is : (h next : TapeHead) → after_call h ≡ Some next → IsNext h next
after_is Version1 next e = let same : next ≡ Version1 = cc in rw same (record { sized = refl; has = λ n t. refl; is_left = λ n. refl })
after_is (Version2 calls) next e = next_of calls next (calls == 0) refl e

-- a call may follow
next_some : (h : TapeHead) (n : ℕ) → may_have h (n + 1) ≡ true → (next : TapeHead) × (after_call (left h n) ≡ Some next)
next_some Version1 n t = (Version1, refl)
next_some (Version2 calls) n t =
    let fits : n + 1 ≤ calls = leb-true (n + 1) calls t in
    (Version2 ((calls - n) - 1), rw (ne_eqb (calls - n) 0 (omega arith)) refl)

-- ---- the lines that follow the first line

record AreRead (h : TapeHead) (ls : List (List ℕ)) (es : List Entry) (new : Option TapeHead) : Type 0 where
  says : entries_of (is_sized h) ls ≡ Some es
  has : may_have h (length ls) ≡ true
  rest : new ≡ Some (left h (length ls))

read_next : (h next : TapeHead) (l : List ℕ) (ls : List (List ℕ)) (e : Entry) (es : List Entry) (new : Option TapeHead) → IsNext h next → entry_reading (is_sized h) l ≡ Ok e → AreRead next ls es new
    → AreRead h (l ∷ ls) (e ∷ es) new
read_next h next l ls e es new is reads r =
    let says : entries_of (is_sized h) ls ≡ Some es = rw is.sized at r.says in
    let more : length ls + 1 ≡ length (l ∷ ls) = omega arith in
    record {
      says = rw (reads, says) refl;
      has = ap (may_have h) (sym more) ∙ is.has (length ls) r.has;
      rest = r.rest ∙ ap Some (is.is_left (length ls)) ∙ ap (λ n. Some (left h n)) more;
    }

read_more : (h : TapeHead) (l : List ℕ) (ls : List (List ℕ)) (call : Option Entry) (mid : Option TapeHead) (rest : List Entry) (new : Option TapeHead) → Takes (Some h) l call mid → TakesAll mid ls rest new
    → ((next : TapeHead) → TakesAll (Some next) ls rest new → AreRead next ls rest new) → AreRead h (l ∷ ls) (calls_of call ++ rest) new
read_more h l ls (Some e) (Some next) rest new t more read = read_next h next l ls e rest new (after_is h next t.0) t.1 (read next more)
read_more h l ls (Some e) None rest new t more read = absurd t
read_more h l ls None mid rest new t more read = absurd t

are_read : (h : TapeHead) (ls : List (List ℕ)) (es : List Entry) (new : Option TapeHead) → TakesAll (Some h) ls es new → AreRead h ls es new
are_read h [] es new t =
    let none : es ≡ [] = t.1 in
    record { says = ap Some (sym none); has = has_none h; rest = t.0 ∙ ap Some (sym (left_none h)) }
are_read h (l ∷ ls) es new t = rw t.5 (read_more h l ls t.1 t.0 t.2 new t.3 t.4 (λ next more. are_read next ls t.2 new more))

-- ---- all lines

-- nothing was read, or the first line and what follows it
abbrev Begun : List (List ℕ) → List Entry → Option TapeHead → Type 0
Begun [] es new = (new ≡ None) × (es ≡ [])
Begun (l ∷ ls) es new = (h : TapeHead) × (head_reading l ≡ Ok h) × AreRead h ls es new

begun_by : (l : List ℕ) (ls : List (List ℕ)) (call : Option Entry) (mid : Option TapeHead) (rest : List Entry) (new : Option TapeHead) → Takes None l call mid → TakesAll mid ls rest new → Begun (l ∷ ls) (calls_of call ++ rest) new
begun_by l ls None (Some h) rest new t more = (h, t, are_read h ls rest new more)
begun_by l ls None None rest new t more = absurd t
begun_by l ls (Some e) mid rest new t more = absurd t

begun : (ls : List (List ℕ)) (es : List Entry) (new : Option TapeHead) → TakesAll None ls es new → Begun ls es new
begun [] es new t = t
begun (l ∷ ls) es new t = rw t.5 (begun_by l ls t.1 t.0 t.2 new t.3 t.4)

says_begun : (ls : List (List ℕ)) (es : List Entry) (new : Option TapeHead) → Begun ls es new → calls_in ls ≡ Some es
says_begun [] es new b = ap Some (sym b.1)
says_begun (l ∷ ls) es new b = rw (b.1, b.2.has) b.2.says

-- they say these calls
pub says : (ls : List (List ℕ)) (es : List Entry) (new : Option TapeHead) → TakesAll None ls es new → calls_in ls ≡ Some es
says ls es new t = says_begun ls es new (begun ls es new t)

none_begun : (ls : List (List ℕ)) (es : List Entry) → Begun ls es None → (ls ≡ []) × (es ≡ [])
none_begun [] es b = (refl, b.1)
none_begun (l ∷ ls) es b = let nothing : None ≡ Some (left b.0 (length ls)) = b.2.rest in absurd (cc)

-- of no line none
pub none_read : (ls : List (List ℕ)) (es : List Entry) → TakesAll None ls es None → (ls ≡ []) × (es ≡ [])
none_read ls es t = none_begun ls es (begun ls es None t)

some_begun : (ls : List (List ℕ)) (es : List Entry) (rest : TapeHead) → Begun ls es (Some rest) → 0 < length ls
some_begun [] es rest b = let nothing : Some rest ≡ None = b.0 in absurd (cc)
some_begun (l ∷ ls) es rest b = omega arith

pub some_read : (ls : List (List ℕ)) (es : List Entry) (rest : TapeHead) → TakesAll None ls es (Some rest) → 0 < length ls
some_read ls es rest t = some_begun ls es rest (begun ls es (Some rest) t)

-- ---- the end

end_is : (h : TapeHead) (n : ℕ) → may_have h n ≡ true → is_whole (left h n) 0 ≡ is_whole h n
end_is Version1 n t = refl
end_is (Version2 calls) n t = end_at (n == calls) refl
  where
    fits : n ≤ calls
    fits = leb-true n calls t

    end_at : (b : Bool) → (n == calls) ≡ b → (0 == calls - n) ≡ (n == calls)
    end_at true is = let same : n ≡ calls = eqb-true n calls is in rw is (eq-eqb 0 (calls - n) (omega arith))
    end_at false is = let other = eqb-false n calls is in rw is (ne_eqb 0 (calls - n) (λ e. other (omega (arith, e, fits))))

end_begun : (ls : List (List ℕ)) (es : List Entry) (rest : TapeHead) → Begun ls es (Some rest) → (b : Bool) → is_whole rest 0 ≡ b → tape_in ls ≡ (if b then Some es else None)
end_begun [] es rest b whole is = let nothing : Some rest ≡ None = b.0 in absurd (cc)
end_begun (l ∷ ls) es rest b whole is =
    let same : rest ≡ left b.0 (length ls) = let r = b.2.rest in cc in
    let end : is_whole b.0 (length ls) ≡ whole = sym (end_is b.0 (length ls) b.2.has) ∙ ap (λ (h : TapeHead). is_whole h 0) (sym same) ∙ is in
    rw (b.1, end) (ap (λ (os : Option (List Entry)). if whole then os else None) b.2.says)

-- all calls were read
pub whole_read : (ls : List (List ℕ)) (es : List Entry) (new : Option TapeHead) → TakesAll None ls es new → may_end new ≡ true → tape_in ls ≡ Some es
whole_read ls es None t end = absurd (cc)
whole_read ls es (Some rest) t end = end_begun ls es rest (begun ls es (Some rest) t) true end

-- some are missing
pub missing_read : (ls : List (List ℕ)) (es : List Entry) (rest : TapeHead) → TakesAll None ls es (Some rest) → may_end (Some rest) ≡ false → tape_in ls ≡ None
missing_read ls es rest t end = end_begun ls es rest (begun ls es (Some rest) t) false end

-- ---- lines in two parts

onto_split : (r : Result Entry LineFault) (os : Option (List Entry)) (es : List Entry) → onto r os ≡ Some es → (e : Entry) × (rest : List Entry) × (r ≡ Ok e) × (os ≡ Some rest) × (es ≡ e ∷ rest)
onto_split (Ok e) (Some rest) es h = (e, rest, refl, refl, cc)
onto_split (Ok e) None es h = absurd (cc)
onto_split (Err f) os es h = absurd (cc)

pub record AreSplit (sized : Bool) (xs ys : List (List ℕ)) (es : List Entry) : Type 0 where
  pub first : List Entry
  pub rest : List Entry
  pub says : entries_of sized xs ≡ Some first
  pub more : entries_of sized ys ≡ Some rest
  pub all : es ≡ first ++ rest

entries_split : (sized : Bool) (xs ys : List (List ℕ)) (es : List Entry) → entries_of sized (xs ++ ys) ≡ Some es → AreSplit sized xs ys es
entries_split sized [] ys es h = record { first = []; rest = es; says = refl; more = h; all = refl }
entries_split sized (x ∷ xs) ys es h =
    let split = onto_split (entry_reading sized x) (entries_of sized (xs ++ ys)) es h in
    let later = entries_split sized xs ys split.1 split.3 in
    record {
      first = split.0 ∷ later.first;
      rest = later.rest;
      says = ap (λ (r : Result Entry LineFault). onto r (entries_of sized xs)) split.2 ∙ ap (option_map (λ (r : List Entry). split.0 ∷ r)) later.says;
      more = later.more;
      all = split.4 ∙ ap (λ (r : List Entry). split.0 ∷ r) later.all;
    }

under : (t : Bool) (os : Option (List Entry)) (es : List Entry) → (if t then os else None) ≡ Some es → (t ≡ true) × (os ≡ Some es)
under true os es h = (refl, h)
under false os es h = absurd (cc)

has_fewer : (h : TapeHead) (m n : ℕ) → m ≤ n → is_whole h n ≡ true → may_have h m ≡ true
has_fewer Version1 m n less t = refl
has_fewer (Version2 calls) m n less t = le-leb m calls (omega (arith, less, eqb-true n calls t))

-- the first lines of a tape say its first calls
all_split : (r : Result TapeHead LineFault) (ls more : List (List ℕ)) (all : List Entry) → all_after r (ls ++ more) ≡ Some all
    → (es : List Entry) × (rest : List Entry) × (calls_after r ls ≡ Some es) × (all ≡ es ++ rest)
all_split (Ok h) ls more all is =
    let whole = under (is_whole h (length (ls ++ more))) (entries_of (is_sized h) (ls ++ more)) all is in
    let split = entries_split (is_sized h) ls more all whole.1 in
    let has : may_have h (length ls) ≡ true = has_fewer h (length ls) (length (ls ++ more)) (omega (arith, length-append ls more)) whole.0 in
    (split.first, split.rest, rw has split.says, split.all)
all_split (Err f) ls more all is = absurd (cc)

pub tape_split : (ls more : List (List ℕ)) (all : List Entry) → 0 < length ls → tape_in (ls ++ more) ≡ Some all → (es : List Entry) × (rest : List Entry) × (calls_in ls ≡ Some es) × (all ≡ es ++ rest)
tape_split [] more all some is = absurd (omega arith)
tape_split (l ∷ ls) more all some is = all_split (head_reading l) ls more all is

head_split : (r : Result TapeHead LineFault) (ls : List (List ℕ)) (all : List Entry) → all_after r ls ≡ Some all → (h : TapeHead) × (r ≡ Ok h)
head_split (Ok h) ls all is = (h, refl)
head_split (Err f) ls all is = absurd (cc)

-- and its first line is one
pub tape_head : (l : List ℕ) (ls : List (List ℕ)) (all : List Entry) → tape_in (l ∷ ls) ≡ Some all → (h : TapeHead) × (head_reading l ≡ Ok h)
tape_head l ls all is = head_split (head_reading l) ls all is

-- ---- a line that is not taken

snoc_says : (h : TapeHead) (ls : List (List ℕ)) (l : List ℕ) (fs : List Entry) → calls_after (Ok h) (ls ++ l ∷ []) ≡ Some fs
    → (may_have h (length ls + 1) ≡ true) × ((e : Entry) × (entry_reading (is_sized h) l ≡ Ok e))
snoc_says h ls l fs is =
    let has = under (may_have h (length (ls ++ l ∷ []))) (entries_of (is_sized h) (ls ++ l ∷ [])) fs is in
    let split = entries_split (is_sized h) ls (l ∷ []) fs has.1 in
    let last = onto_split (entry_reading (is_sized h) l) (Some []) split.rest split.more in
    (ap (may_have h) (sym (length-append ls (l ∷ []))) ∙ has.0, (last.0, last.2))

sized_left : (h : TapeHead) (n : ℕ) → is_sized (left h n) ≡ is_sized h
sized_left Version1 n = refl
sized_left (Version2 calls) n = refl

refused_begun : (ls : List (List ℕ)) (es : List Entry) (rest : TapeHead) (l : List ℕ) → Begun ls es (Some rest) → Refuses (Some rest) l BadEntry → (fs : List Entry) → calls_in (ls ++ l ∷ []) ≡ Some fs → ⊥
refused_begun [] es rest l b bad fs is = let nothing : Some rest ≡ None = b.0 in cc
refused_begun (x ∷ ls) es rest l b bad fs is =
    let says = snoc_says b.0 ls l fs (rw b.1 at is) in
    let same : rest ≡ left b.0 (length ls) = let r = b.2.rest in cc in
    let next = next_some b.0 (length ls) says.0 in
    let sized : is_sized rest ≡ is_sized b.0 = ap is_sized same ∙ sized_left b.0 (length ls) in
    bad next.0 says.1.0 (ap after_call same ∙ next.1) (ap (λ (s : Bool). entry_reading s l) sized ∙ says.1.1)

-- a further line was not taken: with it the lines say no calls
pub refused_entry : (ls : List (List ℕ)) (es : List Entry) (old : Option TapeHead) (l : List ℕ) → TakesAll None ls es old → Refuses old l BadEntry
    → (0 < length ls) × ((fs : List Entry) → calls_in (ls ++ l ∷ []) ≡ Some fs → ⊥)
refused_entry ls es None l t bad = absurd bad
refused_entry ls es (Some rest) l t bad = (some_read ls es rest t, refused_begun ls es rest l (begun ls es (Some rest) t) bad)

-- the first line is none
pub refused_head : (ls : List (List ℕ)) (es : List Entry) (old : Option TapeHead) (l : List ℕ) → TakesAll None ls es old → Refuses old l NotTape
    → (ls ≡ []) × ((h : TapeHead) → head_reading l ≡ Ok h → ⊥)
refused_head ls es None l t bad = ((none_read ls es t).0, bad)
refused_head ls es (Some rest) l t bad = absurd bad
