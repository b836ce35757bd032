-- The queue that a list stands for.
use Rattle.std.proofs.Common.{◌≡◌, ◌≢◌, ℕ, zero, suc, ◌<◌, List, [], ◌∷◌, length, get_or, Option, Some, None, IsSome, refl, sym, ap, subst, ◌∙◌, arith, filter_map, drop, take, slice_get, option_map, option_and_then}
use Rattle.street_base.specs.declared.car.Car.{Car}
use Rattle.street_base.specs.Prelude.{vehicle_of, on_next_link}
use Rattle.street_yard.specs.Prelude.{YardEntry, Yard, list_at, entry_at, car_of, list_on, first_or, Has, Away, IsApart, IsWhole}
use Rattle.street_yard.proofs.Keys.{has-away}
use Rattle.street_yard.proofs.YardLemmas.{some_car, mapped-same, head-of, head-on, head-held, parts_apart, without-is}
use Rattle.street_node.specs.Prelude.{queued_of, queue_of, sent_on, SendsOn}

-- ---- the front

pub queue-first : (y : Yard) (n k : ℕ) (car : Car) → first_or (list_at y n) None ≡ Some k → car_of y k ≡ Some car → slice_get (queue_of y n) 0 ≡ Some (queued_of car)
queue-first y n k car h held = let at = head-of y n k h in rw (at.1, held) refl

pub queue-empty : (y : Yard) (n : ℕ) → first_or (list_at y n) None ≡ None → slice_get (queue_of y n) 0 ≡ None
queue-empty y n h = by_list (list_at y n) refl h
  where
    by_list : (xs : List ℕ) → list_at y n ≡ xs → first_or xs None ≡ None → slice_get (queue_of y n) 0 ≡ None
    by_list [] e f = rw e refl
    by_list (x ∷ xs) e f = cc

-- ---- queues that stay

held-same : (y now : Yard) (x : ℕ) → entry_at now x ≡ entry_at y x → option_map queued_of (car_of now x) ≡ option_map queued_of (car_of y x)
held-same y now x e = ap (λ (o : Option YardEntry). option_map queued_of (option_map (λ (e : YardEntry). e.car) o)) e

pub queue-kept : (y now : Yard) (n : ℕ) → list_at now n ≡ list_at y n → ((x : ℕ) → Has (list_at y n) x → entry_at now x ≡ entry_at y x) → queue_of now n ≡ queue_of y n
queue-kept y now n same entries =
    ap (filter_map (λ k. option_map queued_of (car_of now k))) same
    ∙ mapped-same (λ k. option_map queued_of (car_of now k)) (λ k. option_map queued_of (car_of y k)) (list_at y n) (λ x h. held-same y now x (entries x h))

-- ---- a front that is sent on

module _ (y now : Yard) (n key limit : ℕ) (whole : IsWhole y) (first : first_or (list_at y n) None ≡ Some key) (s : SendsOn y now n key limit) where
  -- its buffer loses it
  pub queue-sent : queue_of now n ≡ drop 1 (queue_of y n)
  queue-sent =
      let at = head-of y n key first in
      let car = some_car (entry_at y key) (head-held y n key whole first) in
      let left : list_at now n ≡ at.0 = s.list ∙ without-is y n key [] at.0 whole at.1 in
      let away : Away key at.0 = (parts_apart y n key [] at.0 whole at.1).1 in
      let before : queue_of y n ≡ queued_of car.0 ∷ filter_map (λ k. option_map queued_of (car_of y k)) at.0 = rw (at.1, car.1) refl in
      ap (filter_map (λ k. option_map queued_of (car_of now k))) left
      ∙ mapped-same (λ k. option_map queued_of (car_of now k)) (λ k. option_map queued_of (car_of y k)) at.0
      (λ x h. held-same y now x (s.entries x (λ e. has-away key at.0 (subst (Has at.0) e h) away)))
      ∙ sym (ap (drop 1) before)

  -- and the other buffers keep theirs
  pub queue-other : (j : ℕ) → j ≢ n → queue_of now j ≡ queue_of y j
  queue-other j ne = queue-kept y now j (s.others j ne) (λ x h. s.entries x (λ e.
      let here : list_on y key ≡ Some j = subst (λ k. list_on y k ≡ Some j) e (whole.names x j h) in
      let both : ◌≡◌ {A = Option ℕ} (Some j) (Some n) = sym here ∙ head-on y n key whole first in
      let same : j ≡ n = cc in
      ne same))

pub sent-vehicle : (limit : ℕ) (o : Option YardEntry) (car : Car) → option_map (λ (e : YardEntry). e.car) o ≡ Some car → option_map vehicle_of (option_map (λ (e : YardEntry). e.car) (option_map (sent_on limit) o)) ≡ Some (on_next_link limit (vehicle_of car))
sent-vehicle limit None car e = cc
sent-vehicle limit (Some k) car e = let same : k.car ≡ car = cc in ap (λ (c : Car). Some (on_next_link limit (vehicle_of c))) same

-- who is sent on is on no list
pub sent-loose : (limit : ℕ) (o : Option YardEntry) → option_and_then (λ (e : YardEntry). e.list) (option_map (sent_on limit) o) ≡ None
sent-loose limit None = refl
sent-loose limit (Some e) = refl

-- ---- lists apart

pub away-at : (n : ℕ) (ns : List ℕ) (k : ℕ) → Away n ns → k < length ns → get_or ns k 0 ≢ n
away-at n [] k a h e = absurd (omega arith)
away-at n (x ∷ ns) zero a h e = a.0 (sym e)
away-at n (x ∷ ns) (suc k) a h e = away-at n ns k a.1 (omega arith) e

pub apart-at : (ns : List ℕ) (j k : ℕ) → IsApart ns → j < k → k < length ns → get_or ns j 0 ≢ get_or ns k 0
apart-at [] j k a low h e = absurd (omega arith)
apart-at (n ∷ ns) j zero a low h e = absurd (omega arith)
apart-at (n ∷ ns) zero (suc k) a low h e = away-at n ns k a.0 (omega arith) (sym e)
apart-at (n ∷ ns) (suc j) (suc k) a low h e = apart-at ns j k a.1 (omega arith) (omega arith) e

pub apart-before : (ns : List ℕ) (k : ℕ) → IsApart ns → k < length ns → Away (get_or ns k 0) (take k ns)
apart-before [] k a h = absurd (omega arith)
apart-before (n ∷ ns) zero a h = tt
apart-before (n ∷ ns) (suc k) a h = (away-at n ns k a.0 (omega arith), apart-before ns k a.1 (omega arith))
