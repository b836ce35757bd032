-- The walk over buffers, one after another: who was sent on, and what stayed.
use Rattle.std.proofs.Common.{◌≡◌, ◌≢◌, ℕ, zero, suc, ◌+◌, ◌<◌, List, [], ◌∷◌, ◌++◌, length, get_or, take, Option, Some, None, refl, sym, ap, subst, ◌∙◌, arith, option_map, option_and_then, All}
use Rattle.std.proofs.lemmas.List.{take_more}
use Rattle.std.proofs.lemmas.List.Elements.{All-append}
use Rattle.street_base.specs.declared.net.NetSpec.{NetSpec}
use Rattle.street_base.specs.Prelude.{link_at}
use Rattle.street_yard.specs.Prelude.{YardEntry, Yard, list_at, entry_at, list_on, Has, Away, IsApart, IsWhole}
use Rattle.street_yard.proofs.Keys.{Away-append}
use Rattle.street_node.specs.Prelude.{queue_of, sent_on, SendsOn, Sends}
use Rattle.street_node.specs.declared.release.Released.{Released}
use Rattle.street_node.proofs.Queues.{sent-loose, apart-before, queue-kept}

one-all : {A : Type 0} (P : A → Type 0) (x : A) → P x → All P (x ∷ [])
one-all P x p zero d h = p
one-all P x p (suc k) d h = absurd (omega arith)

all-first : {A : Type 0} (P : A → Type 0) (xs ys : List A) → All P (xs ++ ys) → All P xs
all-first P [] ys a k d h = absurd (omega arith)
all-first P (x ∷ xs) ys a zero d h = a zero d (omega arith)
all-first P (x ∷ xs) ys a (suc k) d h = all-first P xs ys (λ j e l. a (suc j) e (omega arith)) k d (omega arith)

all-last : {A : Type 0} (P : A → Type 0) (xs : List A) (y : A) → All P (xs ++ y ∷ []) → P y
all-last P [] y a = a zero y (omega arith)
all-last P (x ∷ xs) y a = all-last P xs y (λ j e l. a (suc j) e (omega arith))

-- after the first k buffers
pub record Walked (net : NetSpec) (ns : List ℕ) (old : Yard) (k : ℕ) (now : Yard) (more : List Released) : Type 0 where
  pub whole : IsWhole now
  pub sends : Sends net (take k ns) old now more

module _ (net : NetSpec) (ns : List ℕ) (apart : IsApart ns) (old : Yard) where
  pub walk-start : IsWhole old → Walked net ns old 0 old []
  walk-start whole = record {
    whole = whole;
    sends = record { sent = λ k d h. absurd (omega arith); rest = λ key a. refl; lists = λ n a. refl; count = refl; room = refl };
  }

  -- a key on a list is none of those that were sent on
  apart-from : (k : ℕ) (now : Yard) (more : List Released) → Walked net ns old k now more → (key n : ℕ) → list_on now key ≡ Some n → All (λ r. key ≢ r.key) more
  apart-from k now more w key n on i d h e =
      let sent = w.sends.sent i d h in
      let gone : list_on now (get_or more i d).key ≡ None = ap (option_and_then (λ (e : YardEntry). e.list)) sent ∙ sent-loose (link_at net (get_or more i d).turn.next).limit (entry_at old (get_or more i d).key) in
      let both : ◌≡◌ {A = Option ℕ} (Some n) None = sym on ∙ ap (list_on now) e ∙ gone in
      absurd (cc)

  -- so it keeps what it had
  pub untouched : (k : ℕ) (now : Yard) (more : List Released) → Walked net ns old k now more → (key n : ℕ) → list_on now key ≡ Some n → entry_at now key ≡ entry_at old key
  untouched k now more w key n on = w.sends.rest key (apart-from k now more w key n on)

  -- the buffer at k is as it was
  pub queue-here : (k : ℕ) (now : Yard) (more : List Released) → Walked net ns old k now more → k < length ns → queue_of now (get_or ns k 0) ≡ queue_of old (get_or ns k 0)
  queue-here k now more w h =
      let n = get_or ns k 0 in
      let same : list_at now n ≡ list_at old n = w.sends.lists n (apart-before ns k apart h) in
      queue-kept old now n same (λ x has. untouched k now more w x n (w.whole.names x n (subst (λ (xs : List ℕ). Has xs x) (sym same) has)))

  away-less : (k n : ℕ) → k < length ns → Away n (take (k + 1) ns) → Away n (take k ns) × Away n (get_or ns k 0 ∷ [])
  away-less k n h a = Away-append n (take k ns) (get_or ns k 0 ∷ []) (subst (Away n) (take_more ns k 0 h) a)

  pub walk-stays : (k : ℕ) (now : Yard) (more : List Released) → Walked net ns old k now more → k < length ns → Walked net ns old (k + 1) now more
  walk-stays k now more w h = record {
    whole = w.whole;
    sends = record { sent = w.sends.sent; rest = w.sends.rest; lists = λ n a. w.sends.lists n (away-less k n h a).0; count = w.sends.count; room = w.sends.room };
  }

  pub walk-sends : (k : ℕ) (now after : Yard) (more : List Released) (r : Released) → Walked net ns old k now more → k < length ns → list_on now r.key ≡ Some (get_or ns k 0)
      → SendsOn now after (get_or ns k 0) r.key (link_at net r.turn.next).limit → Walked net ns old (k + 1) after (more ++ r ∷ [])
  walk-sends k now after more r w h on s =
      let others = apart-from k now more w r.key (get_or ns k 0) on in
      let Sent : Released → Type 0 = λ q. entry_at after q.key ≡ option_map (sent_on (link_at net q.turn.next).limit) (entry_at old q.key) in
      record {
        whole = s.whole;
        sends = record {
          sent = All-append Sent more (r ∷ [])
              (λ i d l. s.entries (get_or more i d).key (λ e. others i d l (sym e)) ∙ w.sends.sent i d l)
              (one-all Sent r (s.sent ∙ ap (option_map (sent_on (link_at net r.turn.next).limit)) (untouched k now more w r.key (get_or ns k 0) on)));
          rest = λ key a. s.entries key (all-last (λ (q : Released). key ≢ q.key) more r a) ∙ w.sends.rest key (all-first (λ (q : Released). key ≢ q.key) more (r ∷ []) a);
          lists = λ n a. let both = away-less k n h a in s.others n both.1.0 ∙ w.sends.lists n both.0;
          count = s.count ∙ w.sends.count;
          room = s.room ∙ w.sends.room;
        };
      }

  -- those who were sent on stay as they are when another is
  pub others-stay : (k : ℕ) (now after : Yard) (more : List Released) (key n limit : ℕ) → Walked net ns old k now more → list_on now key ≡ Some n → SendsOn now after n key limit
      → All (λ r. entry_at after r.key ≡ entry_at now r.key) more
  others-stay k now after more key n limit w on s i d h = s.entries (get_or more i d).key (λ e. apart-from k now more w key n on i d h (sym e))
