-- Items that move one by one from the end of one list to the end of another.
use Rattle.std.proofs.Common.{◌≡◌, ℕ, ◌+◌, ◌-◌, ◌<◌, Bool, List, [], ◌∷◌, ◌++◌, length, get_or, sym, ◌∙◌, ap, subst, arith, inl, inr}
use Rattle.std.proofs.lemmas.Bool.{cases_eq, cases_lt}
use Rattle.std.proofs.lemmas.List.{get_or_append_left, get_or_push}

-- one more item has moved: xs to ys, and zs to ws; what came from the list `old` so far stands in zs, the last first
pub moved_back : {X : Type 0} (old xs ys zs ws : List X) (item : X) (m n : ℕ)
    → xs ≡ ys ++ item ∷ [] → ws ≡ zs ++ item ∷ [] → length ys ≡ m → length zs ≡ n
    → ((i : ℕ) (d : X) → i < m + 1 → get_or xs i d ≡ get_or old i d)
    → ((j k : ℕ) (d : X) → j + k + 1 ≡ n → get_or zs j d ≡ get_or old (m + 1 + k) d)
    → (j k : ℕ) (d : X) → j + k + 1 ≡ n + 1 → get_or ws j d ≡ get_or old (m + k) d
moved_back old xs ys zs ws item m n split grown long few front back j k d at =
    elim (cases_eq j n) as (λ _. get_or ws j d ≡ get_or old (m + k) d) [
      | inl last ↦ (
          let none : m + k ≡ m = omega arith in
          ap (λ l. get_or l j d) grown ∙ get_or_push zs item d j (omega arith) ∙ sym (get_or_push ys item d m long) ∙ ap (λ l. get_or l m d) (sym split) ∙ front m d (omega arith)
          ∙ ap (λ i. get_or old i d) (sym none))
      | inr other ↦ (
          let same : m + 1 + (k - 1) ≡ m + k = omega arith in
          ap (λ l. get_or l j d) grown ∙ get_or_append_left zs (item ∷ []) d j (omega arith) ∙ back j (k - 1) d (omega arith) ∙ ap (λ i. get_or old i d) same)
    ]

-- the items that are left are those that were there
pub moved_front : {X : Type 0} (old xs ys : List X) (item : X) (m : ℕ)
    → xs ≡ ys ++ item ∷ [] → length ys ≡ m
    → ((i : ℕ) (d : X) → i < m + 1 → get_or xs i d ≡ get_or old i d)
    → (i : ℕ) (d : X) → i < m → get_or ys i d ≡ get_or old i d
moved_front old xs ys item m split long front i d h =
    sym (get_or_append_left ys (item ∷ []) d i (omega arith)) ∙ ap (λ l. get_or l i d) (sym split) ∙ front i d (omega arith)

-- what was moved and moved back stands where it stood
pub moved_again : {X : Type 0} (old some new block : List X) (n b : ℕ)
    → ((i : ℕ) (d : X) → i < n → get_or new i d ≡ get_or some i d)
    → ((j k : ℕ) (d : X) → j + k + 1 ≡ b → get_or new (n + k) d ≡ get_or block j d)
    → ((i : ℕ) (d : X) → i < n → get_or some i d ≡ get_or old i d)
    → ((j k : ℕ) (d : X) → j + k + 1 ≡ b → get_or block j d ≡ get_or old (n + k) d)
    → (i : ℕ) (d : X) → i < n + b → get_or new i d ≡ get_or old i d
moved_again old some new block n b kept returned front back i d h =
    elim (cases_lt i n) as (λ _. get_or new i d ≡ get_or old i d) [
      | inl below ↦ kept i d below ∙ front i d below
      | inr beyond ↦ (
          let k = i - n in
          let j = b - 1 - k in
          let there : j + k + 1 ≡ b = omega arith in
          let here : n + k ≡ i = omega arith in
          ap (λ m. get_or new m d) (sym here) ∙ returned j k d there ∙ back j k d there ∙ ap (λ m. get_or old m d) here)
    ]

-- what was done with each item that stayed, and with each that was moved and came back, was done with all
pub both_done : {X : Type 0} (does : ℕ → List Bool → X → X → Type 0) (shown bs : List Bool) (old some later new block back : List X) (n b first : ℕ)
    → bs ≡ shown → first ≡ n
    → ((i : ℕ) (d : X) → i < n → get_or some i d ≡ get_or old i d)
    → ((i : ℕ) (d : X) → i < n → does i shown (get_or some i d) (get_or later i d))
    → ((i : ℕ) (d : X) → i < n → get_or new i d ≡ get_or later i d)
    → ((j k : ℕ) (d : X) → j + k + 1 ≡ b → get_or block j d ≡ get_or old (n + k) d)
    → ((j k : ℕ) (d : X) → j + k + 1 ≡ b → does (first + k) bs (get_or block j d) (get_or back j d))
    → ((j k : ℕ) (d : X) → j + k + 1 ≡ b → get_or new (n + k) d ≡ get_or back j d)
    → (i : ℕ) (d : X) → i < n + b → does i shown (get_or old i d) (get_or new i d)
both_done does shown bs old some later new block back n b first same at stayed here kept moved there returned i d h =
    elim (cases_lt i n) as (λ _. does i shown (get_or old i d) (get_or new i d)) [
      | inl below ↦ subst (λ x. does i shown x (get_or new i d)) (stayed i d below) (subst (does i shown (get_or some i d)) (sym (kept i d below)) (here i d below))
      | inr beyond ↦ (
          let k = i - n in
          let j = b - 1 - k in
          let far : j + k + 1 ≡ b = omega arith in
          let is : first + k ≡ i = omega arith in
          let place : n + k ≡ i = omega arith in
          let did = subst (λ m. does m shown (get_or block j d) (get_or back j d)) is (subst (λ s. does (first + k) s (get_or block j d) (get_or back j d)) same (there j k d far)) in
          let was : get_or block j d ≡ get_or old i d = moved j k d far ∙ ap (λ m. get_or old m d) place in
          let now : get_or back j d ≡ get_or new i d = sym (returned j k d far) ∙ ap (λ m. get_or new m d) place in
          subst (λ x. does i shown x (get_or new i d)) was (subst (does i shown (get_or block j d)) now did))
    ]
