-- Histories that grow at their end.
use Rattle.std.proofs.Common.{◌≡◌, ◌≢◌, ℕ, ◌<◌, ◌≤◌, List, [], ◌∷◌, ◌++◌, length, Bool, true, false, refl, sym, ap, ap₂, ◌∙◌, arith, length-append, append_assoc, append-nil, ne_eqb, eq-eqb, ◌==◌}
use Rattle.street_desk.specs.declared.journal.Entry.{Entry}
use Rattle.street_base.specs.Prelude.{State, Allows, state_after}
use Rattle.street_desk.specs.History.{state_from, IsLegalFrom, AllBelow, calls_of, BeginsWith}

pub legal_snoc : (m : State) (es : List Entry) (e : Entry) → IsLegalFrom m es → Allows (state_from m es) e.command e.outcome → IsLegalFrom m (es ++ e ∷ [])
legal_snoc m [] e l a = (a, tt)
legal_snoc m (x ∷ es) e l a = (l.0, legal_snoc (state_after m x.command x.outcome) es e l.1 a)

pub state_snoc : (m : State) (es : List Entry) (e : Entry) → state_from m (es ++ e ∷ []) ≡ state_after (state_from m es) e.command e.outcome
state_snoc m [] e = refl
state_snoc m (x ∷ es) e = state_snoc (state_after m x.command x.outcome) es e

pub legal_front : (m : State) (xs ys : List Entry) → IsLegalFrom m (xs ++ ys) → IsLegalFrom m xs
legal_front m [] ys l = tt
legal_front m (x ∷ xs) ys l = (l.0, legal_front (state_after m x.command x.outcome) xs ys l.1)

pub below_front : (n : ℕ) (xs ys : List Entry) → AllBelow n (xs ++ ys) → AllBelow n xs
below_front n [] ys b = tt
below_front n (x ∷ xs) ys b = (b.0, below_front n xs ys b.1)

pub below_snoc : (n : ℕ) (es : List Entry) (e : Entry) → AllBelow n es → e.session < n → AllBelow n (es ++ e ∷ [])
below_snoc n [] e b l = (l, tt)
below_snoc n (x ∷ es) e b l = (b.0, below_snoc n es e b.1 l)

-- a call of another number adds none of this one
pub calls_other : (by : ℕ) (es : List Entry) (e : Entry) → e.session ≢ by → calls_of by (es ++ e ∷ []) ≡ calls_of by es
calls_other by [] e ne = rw (ne_eqb e.session by ne) refl
calls_other by (x ∷ es) e ne = step (x.session == by) refl (calls_other by es e ne)
  where
    step : (b : Bool) → (x.session == by) ≡ b → calls_of by (es ++ e ∷ []) ≡ calls_of by es → calls_of by (x ∷ (es ++ e ∷ [])) ≡ calls_of by (x ∷ es)
    step true is h = rw is (ap (λ (l : List Entry). x ∷ l) h)
    step false is h = rw is h

-- a call of this number is one more
pub calls_own : (by : ℕ) (es : List Entry) (e : Entry) → e.session ≡ by → calls_of by (es ++ e ∷ []) ≡ calls_of by es ++ e ∷ []
calls_own by [] e is = rw (eq-eqb e.session by is) refl
calls_own by (x ∷ es) e is = step (x.session == by) refl (calls_own by es e is)
  where
    step : (b : Bool) → (x.session == by) ≡ b → calls_of by (es ++ e ∷ []) ≡ calls_of by es ++ e ∷ [] → calls_of by (x ∷ (es ++ e ∷ [])) ≡ calls_of by (x ∷ es) ++ e ∷ []
    step true s h = rw s (ap (λ (l : List Entry). x ∷ l) h)
    step false s h = rw s h

abbrev tail : List Entry → List Entry
tail [] = []
tail (x ∷ xs) = xs

abbrev head : Entry → List Entry → Entry
head d [] = d
head d (x ∷ xs) = x

pub starts_refl : (xs : List Entry) → BeginsWith xs xs
starts_refl xs = ([], sym (append-nil xs))

pub starts_nil : (xs : List Entry) → BeginsWith xs []
starts_nil xs = (xs, refl)

pub starts_snoc : (xs seen : List Entry) (e : Entry) → BeginsWith xs seen → BeginsWith (xs ++ e ∷ []) seen
starts_snoc xs seen e s = (s.0 ++ e ∷ [], ap (λ (l : List Entry). l ++ e ∷ []) s.1 ∙ append_assoc seen s.0 (e ∷ []))

-- of two beginnings of one list the shorter begins the longer
pub starts_both : (xs a b : List Entry) → BeginsWith xs a → BeginsWith xs b → length b ≤ length a → BeginsWith a b
starts_both xs a [] p q l = (a, refl)
starts_both xs [] (y ∷ b) p q l = absurd (omega arith)
starts_both [] (x ∷ a) (y ∷ b) p q l = absurd (cc)
starts_both (z ∷ xs) (x ∷ a) (y ∷ b) p q l =
    let r = starts_both xs a b (p.0, ap tail p.1) (q.0, ap tail q.1) (omega arith) in
    (r.0, ap₂ (λ (h : Entry) (t : List Entry). h ∷ t) (sym (ap (head x) p.1) ∙ ap (head x) q.1) r.1)

pub starts_length : (xs seen : List Entry) → BeginsWith xs seen → length seen ≤ length xs
starts_length xs seen s = omega (arith, length-append seen s.0, ap (λ (l : List Entry). length l) s.1)

nil_cons : (x : Entry) (xs : List Entry) → (x ∷ xs) ≡ [] → ⊥
nil_cons x xs e = absurd (cc)

calls_front : (by : ℕ) (xs ys : List Entry) → calls_of by (xs ++ ys) ≡ [] → calls_of by xs ≡ []
calls_front by [] ys e = refl
calls_front by (x ∷ xs) ys e = step (x.session == by) refl (calls_front by xs ys) e
  where
    step : (b : Bool) → (x.session == by) ≡ b → (calls_of by (xs ++ ys) ≡ [] → calls_of by xs ≡ []) → calls_of by (x ∷ (xs ++ ys)) ≡ [] → calls_of by (x ∷ xs) ≡ []
    step true is h n = absurd (nil_cons x (calls_of by (xs ++ ys)) (rw is at n))
    step false is h n = rw is (h (rw is at n))

pub calls_none : (by : ℕ) (xs seen : List Entry) → BeginsWith xs seen → calls_of by xs ≡ [] → calls_of by seen ≡ []
calls_none by xs seen s e = calls_front by seen s.0 (ap (calls_of by) (sym s.1) ∙ e)

pub calls_append : (by : ℕ) (xs ys : List Entry) → calls_of by (xs ++ ys) ≡ calls_of by xs ++ calls_of by ys
calls_append by [] ys = refl
calls_append by (x ∷ xs) ys = step (x.session == by) refl (calls_append by xs ys)
  where
    step : (b : Bool) → (x.session == by) ≡ b → calls_of by (xs ++ ys) ≡ calls_of by xs ++ calls_of by ys → calls_of by (x ∷ (xs ++ ys)) ≡ calls_of by (x ∷ xs) ++ calls_of by ys
    step true is h = rw is (ap (λ (l : List Entry). x ∷ l) h)
    step false is h = rw is h

app_none : (a b : List Entry) → a ++ b ≡ a → b ≡ []
app_none [] b e = e
app_none (x ∷ a) b e = app_none a b (ap tail e)

second_nil : (a b : List Entry) → a ++ b ≡ [] → b ≡ []
second_nil [] b e = e
second_nil (x ∷ a) b e = absurd (nil_cons x (a ++ b) e)

-- where all calls of a number stand in a beginning, they stand in each longer one
pub calls_between : (by : ℕ) (xs a b : List Entry) → BeginsWith xs a → BeginsWith a b → calls_of by xs ≡ calls_of by b → calls_of by xs ≡ calls_of by a
calls_between by xs a b p q e =
    let one : calls_of by xs ≡ calls_of by a ++ calls_of by p.0 = ap (calls_of by) p.1 ∙ calls_append by a p.0 in
    let two : calls_of by a ≡ calls_of by b ++ calls_of by q.0 = ap (calls_of by) q.1 ∙ calls_append by b q.0 in
    let all : calls_of by b ++ (calls_of by q.0 ++ calls_of by p.0) ≡ calls_of by b = sym (append_assoc (calls_of by b) (calls_of by q.0) (calls_of by p.0)) ∙ (ap (λ (l : List Entry). l ++ calls_of by p.0) (sym two) ∙ (sym one ∙ e)) in
    let none_left : calls_of by q.0 ++ calls_of by p.0 ≡ [] = app_none (calls_of by b) _ all in
    one ∙ (ap (λ (l : List Entry). calls_of by a ++ l) (second_nil (calls_of by q.0) (calls_of by p.0) none_left) ∙ append-nil _)

pub starts_trans : (xs ys zs : List Entry) → BeginsWith xs ys → BeginsWith ys zs → BeginsWith xs zs
starts_trans xs ys zs p q = (q.0 ++ p.0, p.1 ∙ (ap (λ (l : List Entry). l ++ p.0) q.1 ∙ append_assoc zs q.0 p.0))
