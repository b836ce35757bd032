-- Each step at the desk's table keeps its rule.
use Rattle.std.proofs.Common.{◌≡◌, ◌≢◌, ◌⊎◌, ℕ, zero, suc, ◌+◌, ◌*◌, ◌/◌, ◌<◌, ◌≤◌, List, [], ◌∷◌, ◌++◌, length, set, Bool, true, false, Option, Some, None, ◌==◌, refl, sym, ap, ◌∙◌, subst, inl, inr, ⊎_elim, arith, length-append, le_refl, true≢false, zero-le, leb, if◌then◌else◌, leb-true, leb-false, le-leb, slice_index, slice_set}
use mathlib.Core.Option as maybe
use lib.ListN.{get_elem?}
use prog.Atomic.{either}
use Rattle.atomic_table.specs.Table.{State, step, Act, keeps, takes, gives, stepped, Allows, Valid, carried_after, rest, put_back, Splits, Joins, opening}
use Rattle.atomic_table.proofs.Lists.{at_set, exchanged}
use Rattle.street_desk.specs.declared.journal.Entry.{Entry}
use Rattle.street_desk.specs.declared.view.SeatView.{SeatView}
use Rattle.street_desk.specs.History.{IsLegal, IsHistory, AllBelow, BeginsWith}
use Rattle.street_desk.specs.Rule.{Recorded, recorded, Turn, turn_bit, home_of, Knows, Apart, AllApart, KeepsRule, first_view}
use Rattle.street_desk.specs.Steps.{looked, with_turn, Sat, Sees, Looks, look, Grabs, grab, release, kept_half, given_half, noted, longer, heard, spent_view}
use Rattle.street_desk.proofs.Histories.{legal_front, below_front, calls_other, below_snoc, starts_refl, starts_nil, starts_snoc, starts_both, starts_length, calls_none, calls_between}

abbrev St : Type 0
St = State (Option Recorded) SeatView

seats_set : (K : ℕ → SeatView → Type 0) (vs : List SeatView) (me : ℕ) (w : SeatView) → K me w → ((j : ℕ) (u : SeatView) → j ≢ me → get_elem? vs j ≡ maybe.some u → K j u) → (j : ℕ) (u : SeatView) → get_elem? (set vs me w) j ≡ maybe.some u → K j u
seats_set K vs me w mine others j u e =
    ⊎_elim
    (λ (t : (j ≡ me) × (w ≡ u)). subst (λ (x : ℕ × SeatView). K x.0 x.1) (λ i. (sym t.0 i, t.1 i)) mine)
    (λ (t : (j ≢ me) × (get_elem? vs j ≡ maybe.some u)). others j u t.0 t.1)
    (at_set vs me j w u e)

-- w owns no number that v does not
abbrev Within : SeatView → SeatView → Type 0
Within w v = w.owns ≡ true → (v.owns ≡ true) × (v.least ≤ w.least) × (w.greatest ≤ v.greatest)

apart_within : (v w b : SeatView) → Within w v → Apart v b → Apart w b
apart_within v w b inside apart ow ob = let h = inside ow in
    let lo : v.least ≤ w.least = h.1 in
    let hi : w.greatest ≤ v.greatest = h.2 in
    ⊎_elim (λ (l : v.greatest < b.least). inl (omega arith)) (λ (l : b.greatest < v.least). inr (omega arith)) (apart h.0 ob)

apart_sym : (v w : SeatView) → Apart v w → Apart w v
apart_sym v w a ow ov = ⊎_elim (λ (l : v.greatest < w.least). inr l) (λ (l : w.greatest < v.least). inl l) (a ov ow)

apart_set : (vs : List SeatView) (me : ℕ) (v w : SeatView) → get_elem? vs me ≡ maybe.some v → Within w v → AllApart vs → AllApart (set vs me w)
apart_set vs me v w at inside all i j a b ne ei ej =
    ⊎_elim
    (λ (s : (i ≡ me) × (w ≡ a)).
    ⊎_elim
    (λ (t : (j ≡ me) × (w ≡ b)). absurd (ne (s.0 ∙ sym t.0)))
    (λ (t : (j ≢ me) × (get_elem? vs j ≡ maybe.some b)). subst (λ (x : SeatView). Apart x b) s.1 (apart_within v w b inside (all me j v b (λ h. t.0 (sym h)) at t.1)))
    (at_set vs me j w b ej))
    (λ (s : (i ≢ me) × (get_elem? vs i ≡ maybe.some a)).
    ⊎_elim
    (λ (t : (j ≡ me) × (w ≡ b)). subst (λ (x : SeatView). Apart a x) t.1 (apart_sym w a (apart_within v w a inside (all me i v a (λ h. s.0 (sym h)) at s.1))))
    (λ (t : (j ≢ me) × (get_elem? vs j ≡ maybe.some b)). all i j a b ne s.1 t.1)
    (at_set vs me j w b ej))
    (at_set vs me i w a ei)

-- a step that changes one view and no word
stays : (calls sessions : ℕ) (s : St) (r : KeepsRule calls sessions s) (id : ℕ) (v w : SeatView) (cs : List (ℕ × Option Recorded)) → get_elem? s.views id ≡ maybe.some v → Within w v → Knows calls sessions r.history r.turn id w → KeepsRule calls sessions (stepped s 0 (slice_index s.words 0) id cs w keeps)
stays calls sessions s r id v w cs at inside knows = record {
  history = r.history;
  turn = r.turn;
  word = ap (λ (ws : List ℕ). slice_set ws 0 (slice_index ws 0)) r.word;
  home = r.home;
  is_history = r.is_history;
  room = r.room;
  seats = seats_set (Knows calls sessions r.history r.turn) s.views id w knows (λ j u _ e. r.seats j u e);
  apart = apart_set s.views id v w at inside r.apart;
}

abbrev looked_seen : Turn → SeatView → List Entry → List Entry
looked_seen maybe.none v log = log
looked_seen (maybe.some j) v log = longer v.seen v.also

none-some : (j : ℕ) → maybe.none ≡ maybe.some j → ⊥
none-some j e = maybe.some-ne-none j (sym e)

inside_at : (calls sessions : ℕ) (h : List Entry) (t : Turn) (id : ℕ) (v : SeatView) → Knows calls sessions h t id v → v.owns ≡ true → v.live ≡ true → v.least < v.sessions
inside_at calls sessions h t id v k owns live =
    let order : v.least ≤ v.greatest = (k.range owns).0 in
    let few : v.greatest < sessions = (k.range owns).1 in
    let same : v.sessions ≡ sessions = (k.limits live).1 in omega arith

below_at : (calls sessions : ℕ) (h : List Entry) (t : Turn) (id : ℕ) (v : SeatView) (seen : List Entry) → Knows calls sessions h t id v → AllBelow sessions seen → v.live ≡ true → AllBelow v.sessions seen
below_at calls sessions h t id v seen k all live = subst (λ (n : ℕ). AllBelow n seen) (sym (k.limits live).1) all

-- a beginning of a history of the desk
front : (sessions : ℕ) (h seen : List Entry) → IsHistory sessions h → BeginsWith h seen → IsHistory sessions seen
front sessions h seen l b = record {
  legal = legal_front None seen b.0 (subst IsLegal b.1 l.legal);
  below = below_front sessions seen b.0 (subst (AllBelow sessions) b.1 l.below);
}

sees_at : (calls sessions : ℕ) (h : List Entry) (t : Turn) (id : ℕ) (v : SeatView) → Knows calls sessions h t id v → IsHistory sessions h → Sees v (looked_seen t v h)
sees_at calls sessions h maybe.none id v k l = record {
  legal = l.legal;
  below = below_at calls sessions h maybe.none id v h k l.below;
  inside = inside_at calls sessions h maybe.none id v k;
  seen = k.seen;
  also = k.also;
  own = k.own;
  unused = k.unused;
}
sees_at calls sessions h (maybe.some j) id v k l = by_length (leb (length v.also) (length v.seen)) refl
  where
    by_length : (b : Bool) → leb (length v.also) (length v.seen) ≡ b → Sees v (if b then v.seen else v.also)
    by_length true is = let f = front sessions h v.seen l k.seen in record {
      legal = f.legal;
      below = below_at calls sessions h (maybe.some j) id v v.seen k f.below;
      inside = inside_at calls sessions h (maybe.some j) id v k;
      seen = starts_refl v.seen;
      also = starts_both h v.seen v.also k.seen k.also (leb-true _ _ is);
      own = λ _. refl;
      unused = λ o n lo hi. calls_none n h v.seen k.seen (k.unused o n lo hi);
    }
    by_length false is =
        let lt : length v.seen < length v.also = leb-false _ _ is in
        let le : length v.seen ≤ length v.also = omega arith in
        let after = starts_both h v.also v.seen k.also k.seen le in
        let f = front sessions h v.also l k.also in record {
          legal = f.legal;
          below = below_at calls sessions h (maybe.some j) id v v.also k f.below;
          inside = inside_at calls sessions h (maybe.some j) id v k;
          seen = after;
          also = starts_refl v.also;
          own = λ o. sym (calls_between v.least h v.also v.seen k.also after (k.own o)) ∙ k.own o;
          unused = λ o n lo hi. calls_none n h v.also k.also (k.unused o n lo hi);
        }

longer_starts : (h a b : List Entry) → BeginsWith h a → BeginsWith h b → BeginsWith h (longer a b)
longer_starts h a b p q = by_length (leb (length b) (length a))
  where
    by_length : (c : Bool) → BeginsWith h (if c then a else b)
    by_length true = p
    by_length false = q

-- where one list is the whole, it is the longer
longer_whole : (h a b : List Entry) → a ≡ h → BeginsWith h b → longer a b ≡ h
longer_whole h a b is q = let le : length b ≤ length a = subst (λ (x : List Entry). length b ≤ length x) (sym is) (starts_length h b q) in
    rw (le-leb _ _ le) is

looks_at : (calls sessions : ℕ) (h : List Entry) (t : Turn) (id : ℕ) (v : SeatView) (n : ℕ) → Knows calls sessions h t id v → IsHistory sessions h → length h ≤ calls → n ≡ 2 * length h + turn_bit t → Looks v n (looked v (looked_seen t v h) (n / 2))
looks_at calls sessions h maybe.none id v n k l fit e = let c : v.count ≤ length h = k.count in record {
  is = refl;
  sees = sees_at calls sessions h maybe.none id v k l;
  count = omega arith;
  long = omega arith;
  even = λ _. omega arith;
  limit = λ y. let same : v.calls ≡ calls = (k.limits y).0 in omega arith;
}
looks_at calls sessions h (maybe.some j) id v n k l fit e = let c : v.count ≤ length h = k.count in let s = starts_length h (longer v.seen v.also) (longer_starts h v.seen v.also k.seen k.also) in record {
  is = refl;
  sees = sees_at calls sessions h (maybe.some j) id v k l;
  count = omega arith;
  long = omega arith;
  even = λ o. absurd (omega arith);
  limit = λ y. let same : v.calls ≡ calls = (k.limits y).0 in omega arith;
}

knows_looked : (calls sessions : ℕ) (h : List Entry) (t : Turn) (id : ℕ) (v : SeatView) (n : ℕ) → Knows calls sessions h t id v → IsHistory sessions h → n ≤ length h → Knows calls sessions h t id (looked v (looked_seen t v h) n)
knows_looked calls sessions h maybe.none id v n k legal l = record {
  seen = starts_refl h;
  also = starts_nil h;
  count = l;
  turn = λ b. absurd (none-some id (k.turn b).0);
  range = k.range;
  own = λ _. refl;
  unused = k.unused;
  limits = k.limits;
}
knows_looked calls sessions h (maybe.some j) id v n k legal l = record {
  seen = longer_starts h v.seen v.also k.seen k.also;
  also = starts_nil h;
  count = l;
  turn = λ b. let mine = k.turn b in (mine.0, longer_whole h v.seen v.also mine.1 k.also);
  range = k.range;
  own = λ o. k.own o ∙ sym ((sees_at calls sessions h (maybe.some j) id v k legal).own o);
  unused = k.unused;
  limits = k.limits;
}

halved : (n len : ℕ) (t : Turn) → n ≡ 2 * len + turn_bit t → n / 2 ≤ len
halved n len maybe.none e = omega arith
halved n len (maybe.some j) e = omega arith

pub looks : (calls sessions slots id : ℕ) (me : Sat) → Allows (KeepsRule calls sessions) slots id me 0 (λ x. x) (look (step slots 0 0 0 maybe.none) me)
looks calls sessions slots id me s r len at small =
    let v = me.0 in
    let n : ℕ = slice_index s.words 0 in
    let e : n ≡ 2 * length r.history + turn_bit r.turn = ap (λ (ws : List ℕ). slice_index ws 0) r.word in
    let k = r.seats id v at in
    let w : SeatView = looked v (looked_seen r.turn v r.history) (n / 2) in (
      w,
      keeps,
      tt,
      stays calls sessions s r id v w me.1 at (λ o. (o, le_refl _, le_refl _)) (knows_looked calls sessions r.history r.turn id v (n / 2) k r.is_history (halved n (length r.history) r.turn e)),
      (refl, looks_at calls sessions r.history r.turn id v n k r.is_history r.room e),
    )

free : (n len old k : ℕ) (t : Turn) → n ≡ 2 * len + turn_bit t → n ≡ old → old ≡ 2 * k → t ≡ maybe.none
free n len old k maybe.none e is even = refl
free n len old k (maybe.some j) e is even = absurd (omega arith)

-- a seat's knowledge, where the turn passes to another
retimed : (calls sessions : ℕ) (h : List Entry) (t t' : Turn) (j : ℕ) (u : SeatView) → (u.turn ≡ true → ⊥) → Knows calls sessions h t j u → Knows calls sessions h t' j u
retimed calls sessions h t t' j u idle k = record { seen = k.seen; also = k.also; count = k.count; turn = λ b. absurd (idle b); range = k.range; own = k.own; unused = k.unused; limits = k.limits }

grabbed : (calls sessions : ℕ) (s : St) (r : KeepsRule calls sessions s) (id : ℕ) (v : SeatView) (old new : ℕ) → get_elem? s.views id ≡ maybe.some v → v.live ≡ true → r.turn ≡ maybe.none → slice_index s.words 0 ≡ old → new ≡ old + 1
    → (w : SeatView) × (a : Act (Option Recorded)) × Valid s.homes [] a × KeepsRule calls sessions (stepped s 0 new id [] w a) × Grabs v (slice_index s.words 0) w (carried_after [] a)
grabbed calls sessions s r id v old new at live idle is next =
    let n : ℕ = slice_index s.words 0 in
    let h = r.history in
    let e : n ≡ 2 * length h + turn_bit r.turn = ap (λ (ws : List ℕ). slice_index ws 0) r.word in
    let b : turn_bit r.turn ≡ 0 = ap turn_bit idle in
    let k = r.seats id v at in
    let w = with_turn v h true in
    let full : s.homes ≡ maybe.some (Some (recorded h calls)) ∷ [] = r.home ∙ ap (λ (t : Turn). home_of t (recorded h calls) ∷ []) idle in
    let same : v.calls ≡ calls = (k.limits live).0 in (
      w,
      takes 0 (Some (recorded h calls)),
      ap (λ (hs : List (maybe.Option (Option Recorded))). get_elem? hs 0) full,
      record {
        history = h;
        turn = maybe.some id;
        word = ap (λ (ws : List ℕ). slice_set ws 0 new) r.word ∙ ap (λ (x : ℕ). x ∷ []) (omega arith);
        home = ap (λ (hs : List (maybe.Option (Option Recorded))). slice_set hs 0 maybe.none) r.home;
        is_history = r.is_history;
        room = r.room;
        seats = seats_set (Knows calls sessions h (maybe.some id)) s.views id w
            (record { seen = starts_refl h; also = starts_nil h; count = k.count; turn = λ _. (refl, refl); range = k.range; own = λ _. refl; unused = k.unused; limits = k.limits })
            (λ j u _ p. let o = r.seats j u p in retimed calls sessions h r.turn (maybe.some id) j u (λ t. none-some j (sym idle ∙ (o.turn t).0)) o);
        apart = apart_set s.views id v w at (λ o. (o, le_refl _, le_refl _)) r.apart;
      },
      record {
        is = refl;
        sees = sees_at calls sessions h maybe.none id v (subst (λ (t : Turn). Knows calls sessions h t id v) idle k) r.is_history;
        count = k.count;
        word = omega arith;
        taken = ap (λ (c : ℕ). (0, Some (recorded h c)) ∷ []) (sym same);
      },
    )

pub grabs : (calls sessions slots id : ℕ) (me : Sat) (old new k : ℕ) → me.1 ≡ [] → me.0.live ≡ true → old ≡ 2 * k → new ≡ old + 1
    → Allows (KeepsRule calls sessions) slots id me 0 (λ n. either (n == old) new n) (grab (step slots 0 old new maybe.none) me)
grabs calls sessions slots id me old new k nothing live even next s r len at small =
    let n : ℕ = slice_index s.words 0 in
    let e : n ≡ 2 * length r.history + turn_bit r.turn = ap (λ (ws : List ℕ). slice_index ws 0) r.word in
    let F : ℕ → Type 0 = λ x. (w : SeatView) × (a : Act (Option Recorded)) × Valid s.homes me.1 a × KeepsRule calls sessions (stepped s 0 x id me.1 w a) × grab (step slots 0 old new maybe.none) me n (w, carried_after me.1 a) in
    exchanged n old new F
    (λ is. let g = grabbed calls sessions s r id me.0 old new at live (free n (length r.history) old k r.turn e is even) is next in
    subst (λ (c : List (ℕ × Option Recorded)). (w : SeatView) × (a : Act (Option Recorded)) × Valid s.homes c a × KeepsRule calls sessions (stepped s 0 new id c w a) × grab (step slots 0 old new maybe.none) me n (w, carried_after c a)) (sym nothing)
    (g.0, g.1, g.2, g.3, ((λ _. g.4), (λ ne. absurd (ne is)))))
    (λ ne. (me.0, keeps, tt, stays calls sessions s r id me.0 me.0 me.1 at (λ o. (o, le_refl _, le_refl _)) (r.seats id me.0 at), ((λ is. absurd (ne is)), (λ _. refl))))

-- the history that a turn leaves, as another seat sees it
grown : (calls sessions : ℕ) (h : List Entry) (id j : ℕ) (e : Entry) (u : SeatView) → j ≢ id → (u.owns ≡ true → (e.session < u.least) ⊎ (u.greatest < e.session)) → Knows calls sessions h (maybe.some id) j u → Knows calls sessions (h ++ e ∷ []) maybe.none j u
grown calls sessions h id j e u other apart k =
    let c : u.count ≤ length h = k.count in record {
      seen = starts_snoc h u.seen e k.seen;
      also = starts_snoc h u.also e k.also;
      count = omega (arith, length-append h (e ∷ []));
      turn = λ b. absurd (other (sym (maybe.some-injective id j (k.turn b).0)));
      range = k.range;
      own = λ o. let in_order : u.least ≤ u.greatest = (k.range o).0 in
          calls_other u.least h e (λ is. absurd (⊎_elim (λ (l : e.session < u.least). omega arith) (λ (l : u.greatest < e.session). omega arith) (apart o))) ∙ k.own o;
      unused = λ o n lo hi. calls_other n h e (λ is. absurd (⊎_elim (λ (l : e.session < u.least). omega arith) (λ (l : u.greatest < e.session). omega arith) (apart o))) ∙ k.unused o n lo hi;
      limits = k.limits;
    }

-- and as the seat that had the turn sees it
ended : (calls sessions : ℕ) (h : List Entry) (id : ℕ) (e : Entry) (v : SeatView) → e.session ≡ v.least → Knows calls sessions h (maybe.some id) id v → Knows calls sessions (h ++ e ∷ []) maybe.none id (with_turn v (h ++ e ∷ []) false)
ended calls sessions h id e v by k =
    let c : v.count ≤ length h = k.count in record {
      seen = starts_refl _;
      also = starts_nil _;
      count = omega (arith, length-append h (e ∷ []));
      turn = λ b. absurd (true≢false (sym b));
      range = k.range;
      own = λ _. refl;
      unused = λ o n lo hi. calls_other n h e (λ is. absurd (omega arith)) ∙ k.unused o n lo hi;
      limits = k.limits;
    }

abbrev SameSat : Sat → Sat → Type 0
SameSat a b = a ≡ b

abbrev bare : SeatView → Recorded → Sat
bare v h = (with_turn v h.history false, [])

pub releases : (calls sessions slots id : ℕ) (me : Sat) (h : Recorded) (e : Entry) (new : ℕ) → me.1 ≡ (0, Some h) ∷ [] → me.0.turn ≡ true → me.0.owns ≡ true → me.0.live ≡ true
    → h.history ≡ me.0.seen ++ e ∷ [] → h.calls ≡ me.0.calls → length me.0.seen < me.0.calls → IsLegal h.history → e.session ≡ me.0.least → new ≡ 2 * (length me.0.seen + 1)
    → Allows (KeepsRule calls sessions) slots id me 0 (λ _. new) (λ _. release (step slots 0 new 0 maybe.none) me new)
releases calls sessions slots id me h e new has turn owns live history room fits legal by word s r len at small =
    let v = me.0 in
    let k = r.seats id v at in
    let log = r.history in
    let mine : r.turn ≡ maybe.some id = (k.turn turn).0 in
    let all : v.seen ≡ log = (k.turn turn).1 in
    let whole : h.history ≡ log ++ e ∷ [] = history ∙ ap (λ (l : List Entry). l ++ e ∷ []) all in
    let inside = k.range owns in
    let in_order : v.least ≤ v.greatest = inside.0 in
    let few : v.greatest < sessions = inside.1 in
    let cap : v.calls ≡ calls = (k.limits live).0 in
    let same_len : length v.seen ≡ length log = ap (λ (l : List Entry). length l) all in
    let w = with_turn v h.history false in
    let slot : h ≡ recorded (log ++ e ∷ []) calls = λ i. recorded (whole i) ((room ∙ cap) i) in
    let n_len = length-append log (e ∷ []) in
    let k' : Knows calls sessions log (maybe.some id) id v = subst (λ (t : Turn). Knows calls sessions log t id v) mine k in (
      w,
      gives,
      tt,
      record {
        history = log ++ e ∷ [];
        turn = maybe.none;
        word = ap (λ (ws : List ℕ). slice_set ws 0 new) r.word ∙ ap (λ (x : ℕ). x ∷ []) (omega (arith, n_len));
        home = subst (λ (c : List (ℕ × Option Recorded)). put_back s.homes c ≡ maybe.some (Some (recorded (log ++ e ∷ []) calls)) ∷ []) (sym has)
            (ap (λ (hs : List (maybe.Option (Option Recorded))). slice_set hs 0 (maybe.some (Some h))) r.home ∙ ap (λ (x : Recorded). maybe.some (Some x) ∷ []) slot);
        is_history = record { legal = subst IsLegal whole legal; below = below_snoc sessions log e r.is_history.below (omega arith) };
        room = omega (arith, n_len);
        seats = seats_set (Knows calls sessions (log ++ e ∷ []) maybe.none) s.views id w
            (subst (λ (l : List Entry). Knows calls sessions (log ++ e ∷ []) maybe.none id (with_turn v l false)) (sym whole) (ended calls sessions log id e v by k'))
            (λ j u other p. grown calls sessions log id j e u other
            (λ o. ⊎_elim (λ (l : v.greatest < u.least). inl (omega arith)) (λ (l : u.greatest < v.least). inr (omega arith)) (r.apart id j v u (λ x. other (sym x)) at p owns o))
            (subst (λ (t : Turn). Knows calls sessions log t j u) mine (r.seats j u p)));
        apart = apart_set s.views id v w at (λ o. (o, le_refl _, le_refl _)) r.apart;
      },
      λ h' has'. let same : h ≡ h' = ap (slot_of h) (sym has ∙ has') in
          subst (λ (c : List (ℕ × Option Recorded)). SameSat (w, rest c) (with_turn v h'.history false, [])) (sym has) (ap (bare v) same),
    )
  where
    value_of : Recorded → Option Recorded → Recorded
    value_of d (Some x) = x
    value_of d _ = d

    slot_of : Recorded → List (ℕ × Option Recorded) → Recorded
    slot_of d [] = d
    slot_of d (x ∷ xs) = value_of d x.1

-- a new seat at the end
at_end : {A : Type 0} (l : List A) (a b : A) (j : ℕ) → get_elem? (l ++ a ∷ []) j ≡ maybe.some b → (get_elem? l j ≡ maybe.some b) ⊎ ((j ≡ length l) × (a ≡ b))
at_end [] a b zero e = inr (refl, maybe.some-injective a b e)
at_end [] a b (suc j) e = absurd (maybe.some-ne-none b (sym e))
at_end (x ∷ xs) a b zero e = inl e
at_end (x ∷ xs) a b (suc j) e = ⊎_elim inl (λ (t : (j ≡ length xs) × (a ≡ b)). inr (ap suc t.0, t.1)) (at_end xs a b j e)

at_inside : {A : Type 0} (l : List A) (b : A) (j : ℕ) → get_elem? l j ≡ maybe.some b → j < length l
at_inside [] b j e = absurd (maybe.some-ne-none b (sym e))
at_inside (x ∷ xs) b zero e = omega arith
at_inside (x ∷ xs) b (suc j) e = let h = at_inside xs b j e in omega arith

apart_end : (vs : List SeatView) (w : SeatView) → AllApart vs → ((j : ℕ) (u : SeatView) → get_elem? vs j ≡ maybe.some u → Apart w u) → AllApart (vs ++ w ∷ [])
apart_end vs w all new i j a b ne ei ej =
    ⊎_elim
    (λ (s : get_elem? vs i ≡ maybe.some a).
    ⊎_elim
    (λ (t : get_elem? vs j ≡ maybe.some b). all i j a b ne s t)
    (λ (t : (j ≡ length vs) × (w ≡ b)). subst (λ (x : SeatView). Apart a x) t.1 (apart_sym w a (new i a s)))
    (at_end vs w b j ej))
    (λ (s : (i ≡ length vs) × (w ≡ a)).
    ⊎_elim
    (λ (t : get_elem? vs j ≡ maybe.some b). subst (λ (x : SeatView). Apart x b) s.1 (new j b t))
    (λ (t : (j ≡ length vs) × (w ≡ b)). absurd (ne (s.0 ∙ sym t.0)))
    (at_end vs w b j ej))
    (at_end vs w a i ei)

-- a view is cut in two
cut : (calls sessions id : ℕ) (v left right : SeatView) → Within left v → Within right v → Apart left right
    → ((h : List Entry) (t : Turn) → Knows calls sessions h t id v → Knows calls sessions h t id left)
    → ((h : List Entry) (t : Turn) (j : ℕ) → Knows calls sessions h t id v → Knows calls sessions h t j right)
    → (s : St) → KeepsRule calls sessions s → get_elem? s.views id ≡ maybe.some v → KeepsRule calls sessions record { words = s.words; homes = s.homes; views = slice_set s.views id left ++ right ∷ [] }
cut calls sessions id v left right inl_ inr_ apart to_left to_right s r at =
    let k = r.seats id v at in
    let vs : List SeatView = slice_set s.views id left in record {
      history = r.history;
      turn = r.turn;
      word = r.word;
      home = r.home;
      is_history = r.is_history;
      room = r.room;
      seats = λ j u e. ⊎_elim
          (λ (p : get_elem? vs j ≡ maybe.some u). seats_set (Knows calls sessions r.history r.turn) s.views id left (to_left r.history r.turn k) (λ i x _ q. r.seats i x q) j u p)
          (λ (p : (j ≡ length vs) × (right ≡ u)). subst (λ (x : SeatView). Knows calls sessions r.history r.turn j x) p.1 (to_right r.history r.turn j k))
          (at_end vs right u j e);
      apart = apart_end vs right (apart_set s.views id v left at inl_ r.apart)
          (λ j u e. ⊎_elim
          (λ (p : (j ≡ id) × (left ≡ u)). subst (λ (x : SeatView). Apart right x) p.1 (apart_sym left right apart))
          (λ (p : (j ≢ id) × (get_elem? s.views j ≡ maybe.some u)). apart_within v right u inr_ (r.apart id j v u (λ x. p.0 (sym x)) at p.1))
          (at_set s.views id j left u e));
    }

pub splits : (calls sessions id : ℕ) (v : SeatView) → v.turn ≡ false → v.least < v.greatest → Splits (KeepsRule calls sessions) id v (kept_half v) (given_half v)
splits calls sessions id v idle several =
    cut calls sessions id v (kept_half v) (given_half v)
    (λ o. (o, le_refl _, omega arith))
    (λ o. (o, omega arith, le_refl _))
    (λ _ _. inl (omega arith))
    (λ h t k. record {
      seen = k.seen;
      also = starts_nil h;
      count = k.count;
      turn = λ b. absurd (true≢false (sym b));
      range = λ o. let x = k.range o in let few : v.greatest < sessions = x.1 in (omega arith, omega arith);
      own = k.own;
      unused = λ o n lo hi. k.unused o n lo (omega arith);
      limits = k.limits;
    })
    (λ h t j k. record {
      seen = k.seen;
      also = starts_nil h;
      count = k.count;
      turn = λ b. absurd (true≢false (sym b));
      range = λ o. (le_refl _, (k.range o).1);
      own = λ o. let none_yet = k.unused o v.greatest several (le_refl _) in
          none_yet ∙ sym (calls_none v.greatest h v.seen k.seen none_yet);
      unused = λ o n lo hi. absurd (omega arith);
      limits = k.limits;
    })

pub notes : (calls sessions id : ℕ) (v : SeatView) → v.also ≡ [] → Splits (KeepsRule calls sessions) id v v (noted v)
notes calls sessions id v plain =
    cut calls sessions id v v (noted v)
    (λ o. (o, le_refl _, le_refl _))
    (λ o. absurd (true≢false (sym o)))
    (λ _ o. absurd (true≢false (sym o)))
    (λ h t k. k)
    (λ h t j k. record {
      seen = k.seen;
      also = starts_nil h;
      count = k.count;
      turn = λ b. absurd (true≢false (sym b));
      range = λ o. absurd (true≢false (sym o));
      own = λ o. absurd (true≢false (sym o));
      unused = λ o. absurd (true≢false (sym o));
      limits = k.limits;
    })

joined : (calls sessions : ℕ) (h : List Entry) (t : Turn) (id other : ℕ) (v w : SeatView) → v.turn ≡ false → Knows calls sessions h t id v → Knows calls sessions h t other w → Knows calls sessions h t id (heard v w)
joined calls sessions h t id other v w idle k l = record {
  seen = k.seen;
  also = l.seen;
  count = by_count (leb w.count v.count);
  turn = λ b. absurd (true≢false (sym b));
  range = k.range;
  own = k.own;
  unused = k.unused;
  limits = k.limits;
}
  where
    by_count : (b : Bool) → (if b then v.count else w.count) ≤ length h
    by_count true = k.count
    by_count false = l.count

pub hears : (calls sessions id : ℕ) (v : SeatView) (other : ℕ) (w : SeatView) → v.turn ≡ false → Joins (KeepsRule calls sessions) id v other w (heard v w) spent_view
hears calls sessions id v other w idle s r at apart there =
    let k = r.seats id v at in
    let vs : List SeatView = slice_set s.views id (heard v w) in
    let theirs : get_elem? s.views other ≡ maybe.some w = ⊎_elim (λ (t : (other ≡ id) × (heard v w ≡ w)). absurd (apart t.0)) (λ (t : (other ≢ id) × (get_elem? s.views other ≡ maybe.some w)). t.1) (at_set s.views id other (heard v w) w there) in
    let K = Knows calls sessions r.history r.turn in record {
      history = r.history;
      turn = r.turn;
      word = r.word;
      home = r.home;
      is_history = r.is_history;
      room = r.room;
      seats = seats_set K vs other spent_view
          (record { seen = starts_nil r.history; also = starts_nil r.history; count = zero-le; turn = λ b. absurd (true≢false (sym b)); range = λ b. absurd (true≢false (sym b)); own = λ b. absurd (true≢false (sym b)); unused = λ b. absurd (true≢false (sym b)); limits = λ b. absurd (true≢false (sym b)) })
          (λ j u _ p. seats_set K s.views id (heard v w) (joined calls sessions r.history r.turn id other v w idle k (r.seats other w theirs)) (λ i x _ q. r.seats i x q) j u p);
      apart = apart_set vs other w spent_view there (λ b. absurd (true≢false (sym b))) (apart_set s.views id v (heard v w) at (λ o. (o, le_refl _, le_refl _)) r.apart);
    }

pub opens : (calls sessions : ℕ) → 0 < sessions → KeepsRule calls sessions (opening (0 ∷ []) (Some (recorded [] calls) ∷ []) (first_view calls sessions))
opens calls sessions some_number = record {
  history = [];
  turn = maybe.none;
  word = refl;
  home = refl;
  is_history = record { legal = tt; below = tt };
  room = zero-le;
  seats = one;
  apart = λ i j v w ne p q. absurd (ne (only i v p ∙ sym (only j w q)));
}
  where
    only : (i : ℕ) (v : SeatView) → get_elem? (first_view calls sessions ∷ []) i ≡ maybe.some v → i ≡ 0
    only zero v e = refl
    only (suc i) v e = absurd (maybe.some-ne-none v (sym e))

    start : Knows calls sessions [] maybe.none 0 (first_view calls sessions)
    start = record { seen = starts_nil []; also = starts_nil []; count = zero-le; turn = λ b. absurd (true≢false (sym b)); range = λ _. (zero-le, omega arith); own = λ _. refl; unused = λ _ n lo hi. refl; limits = λ _. (refl, refl) }

    one : (j : ℕ) (v : SeatView) → get_elem? (first_view calls sessions ∷ []) j ≡ maybe.some v → Knows calls sessions [] maybe.none j v
    one zero v e = subst (Knows calls sessions [] maybe.none 0) (maybe.some-injective _ _ e) start
    one (suc j) v e = absurd (maybe.some-ne-none v (sym e))

pub releases_as : (calls sessions slots id : ℕ) (me : Sat) (v : SeatView) (h : Recorded) (e : Entry) (new : ℕ) → me ≡ (v, (0, Some h) ∷ []) → v.turn ≡ true → v.owns ≡ true → v.live ≡ true
    → h.history ≡ v.seen ++ e ∷ [] → h.calls ≡ v.calls → length v.seen < v.calls → IsLegal h.history → e.session ≡ v.least → new ≡ 2 * (length v.seen + 1)
    → Allows (KeepsRule calls sessions) slots id me 0 (λ _. new) (λ _. release (step slots 0 new 0 maybe.none) me new)
releases_as calls sessions slots id me v h e new is turn owns live history room fits legal by word =
    subst (λ (m : Sat). Allows (KeepsRule calls sessions) slots id m 0 (λ _. new) (λ _. release (step slots 0 new 0 maybe.none) m new)) (sym is)
    (releases calls sessions slots id (v, (0, Some h) ∷ []) h e new refl turn owns live history room fits legal by word)
