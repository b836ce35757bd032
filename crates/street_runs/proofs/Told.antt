-- Passes and scripts of the places of a desk, and what a pass has heard.
use Rattle.std.proofs.Common.{◌≡◌, ◌∙◌, ℕ, zero, suc, ◌+◌, ◌<◌, List, [], ◌∷◌, ◌++◌, ◌-◌, All, length, get_or, take, drop, sym, ap, subst, append_assoc, arith}
use Rattle.std.proofs.lemmas.List.Elements.{All-cons, All-weaker}
use Rattle.street_desk.specs.declared.journal.Entry.{Entry}
use Rattle.street_desk.specs.History.{BeginsWith}
use Rattle.street_desk.specs.Passes.{DeskView, PassView, of_last, without_last}
use Rattle.street_line.specs.declared.script.Script.{Script}
use Rattle.street_runs.specs.Scripts.{AreOpened, ArePassesFrom, IsOpened, new_pass}

-- a history begins with what its beginning begins with
pub begins_through : (history middle seen : List Entry) → BeginsWith history middle → BeginsWith middle seen → BeginsWith history seen
begins_through history middle seen p q =
    (q.0 ++ p.0, p.1 ∙ ap (λ (l : List Entry). l ++ p.0) q.1 ∙ append_assoc seen q.0 p.0)

module _ {X : Type 0} where
  -- what is so of each place, and of one more
  pub pushed_at : (P : ℕ → X → Type 0) (xs : List X) (x : X) → ((k : ℕ) (d : X) → k < length xs → P k (get_or xs k d)) → P (length xs) x
      → (k : ℕ) (d : X) → k < length (xs ++ x ∷ []) → P k (get_or (xs ++ x ∷ []) k d)
  pushed_at P [] x all last zero d h = last
  pushed_at P [] x all last (suc k) d h = absurd (omega arith)
  pushed_at P (y ∷ ys) x all last zero d h = all 0 d (omega arith)
  pushed_at P (y ∷ ys) x all last (suc k) d h = pushed_at (λ n. P (suc n)) ys x (λ n e l. all (suc n) e (omega arith)) last k d (omega arith)

  in_front : (P : ℕ → X → Type 0) (y : X) (ys : List X) → P 0 y → ((k : ℕ) (d : X) → k < length ys → P (suc k) (get_or ys k d))
      → (k : ℕ) (d : X) → k < length (y ∷ ys) → P k (get_or (y ∷ ys) k d)
  in_front P y ys first rest zero d h = first
  in_front P y ys first rest (suc k) d h = rest k d (omega arith)

  -- and of one less, and of the last
  pub popped_at : (P : ℕ → X → Type 0) (xs : List X) (x : X) → ((k : ℕ) (d : X) → k < length (xs ++ x ∷ []) → P k (get_or (xs ++ x ∷ []) k d))
      → ((k : ℕ) (d : X) → k < length xs → P k (get_or xs k d)) × P (length xs) x
  popped_at P [] x all = ((λ k d h. absurd (omega arith)), all 0 x (omega arith))
  popped_at P (y ∷ ys) x all =
      let rest = popped_at (λ n. P (suc n)) ys x (λ n e l. all (suc n) e (omega arith)) in
      (in_front P y ys (all 0 y (omega arith)) rest.0, rest.1)

  -- a list without its first
  pub all_first : (P : X → Type 0) (xs ys : List X) (x : X) → 0 < length xs → x ≡ get_or xs 0 x → ys ≡ take 0 xs ++ drop 1 xs → P x → All P ys → All P xs
  all_first P [] ys x some is rest p all = absurd (omega arith)
  all_first P (y ∷ zs) ys x some is rest p all = All-cons P y zs (subst P is p) (subst (λ (l : List X). All P l) rest all)

-- a pass that hears of the last of these scripts has heard of one more
pub heard_more : {R : Type 0} (all old new heard : List (Script R)) (s : Script R) (before after : List Entry) → all ≡ old ++ heard → old ≡ new ++ s ∷ []
    → All (λ t. BeginsWith before t.session.seen) heard → BeginsWith after before → BeginsWith after s.session.seen
    → (more : List (Script R)) × (all ≡ new ++ more) × All (λ t. BeginsWith after t.session.seen) more
heard_more {R} all old new heard s before after is last told kept hears = (
  s ∷ heard,
  is ∙ ap (λ (l : List (Script R)). l ++ heard) last ∙ append_assoc new (s ∷ []) heard,
  All-cons (λ t. BeginsWith after t.session.seen) s heard hears
      (All-weaker (λ t. BeginsWith before t.session.seen) (λ t. BeginsWith after t.session.seen) (λ t b. begins_through after before t.session.seen kept b) heard told),
)

-- a pass that gives its last session away
pub less_last : (desk : DeskView) (p q : PassView) → p ≡ record (new_pass desk 0) { greatest = p.greatest } → q ≡ without_last p → q ≡ record (new_pass desk 0) { greatest = q.greatest }
less_last desk p q is less =
    less ∙ ap (λ (r : PassView). record r { greatest = p.greatest - 1 }) is ∙ ap (λ (n : ℕ). record (new_pass desk 0) { greatest = n }) (sym (ap (λ (r : PassView). r.greatest) less))

pub last_is : (desk : DeskView) (p q : PassView) (session : ℕ) → p ≡ record (new_pass desk 0) { greatest = p.greatest } → q ≡ of_last p → p.greatest ≡ session → q ≡ new_pass desk session
last_is desk p q session is last at =
    last ∙ ap (λ (r : PassView). record r { least = p.greatest }) is ∙ ap (λ (n : ℕ). record (new_pass desk 0) { least = n; greatest = n }) at

pub first_is : (desk : DeskView) (p : PassView) → p ≡ record (new_pass desk 0) { greatest = p.greatest } → p.greatest ≡ 0 → p ≡ new_pass desk 0
first_is desk p is none = is ∙ ap (λ (n : ℕ). record (new_pass desk 0) { greatest = n }) none

module _ (desk : DeskView) (sessions : ℕ) (passes others : List PassView) (last : PassView) (session : ℕ) (is : others ≡ passes ++ last ∷ []) (at : session + length passes + 1 ≡ sessions) where
  pub places_more : ArePassesFrom desk sessions passes → last ≡ new_pass desk session → ArePassesFrom desk sessions others
  places_more all new = subst (λ (l : List PassView). ArePassesFrom desk sessions l) (sym is) (λ k other d within sum. more k d within other sum)
    where
      here : (s : ℕ) → s + length passes + 1 ≡ sessions → last ≡ new_pass desk s
      here s e =
          let same : session ≡ s = omega arith in
          new ∙ ap (λ (n : ℕ). new_pass desk n) same

      more : (k : ℕ) (d : PassView) → k < length (passes ++ last ∷ []) → (s : ℕ) → s + k + 1 ≡ sessions → get_or (passes ++ last ∷ []) k d ≡ new_pass desk s
      more = pushed_at (λ n x. (s : ℕ) → s + n + 1 ≡ sessions → x ≡ new_pass desk s) passes last (λ n d l s e. all n s d l e) here

  pub places_less : ArePassesFrom desk sessions others → ArePassesFrom desk sessions passes × (last ≡ new_pass desk session)
  places_less all = ((λ k s d within sum. less.0 k d within s sum), less.1 session at)
    where
      whole : ArePassesFrom desk sessions (passes ++ last ∷ [])
      whole = subst (λ (l : List PassView). ArePassesFrom desk sessions l) is all

      less : ((k : ℕ) (d : PassView) → k < length passes → (s : ℕ) → s + k + 1 ≡ sessions → get_or passes k d ≡ new_pass desk s)
          × ((s : ℕ) → s + length passes + 1 ≡ sessions → last ≡ new_pass desk s)
      less = popped_at (λ n x. (s : ℕ) → s + n + 1 ≡ sessions → x ≡ new_pass desk s) passes last (λ n d l s e. whole n s d l e)

pub opened_more : {R : Type 0} (desk : DeskView) (scripts more : List (Script R)) (script : Script R) → more ≡ scripts ++ script ∷ [] → AreOpened desk scripts
    → IsOpened desk (length scripts) script → AreOpened desk more
opened_more {R} desk scripts more script is all last =
    subst (λ (l : List (Script R)). AreOpened desk l) (sym is) (pushed_at (λ n s. IsOpened desk n s) scripts script all last)
