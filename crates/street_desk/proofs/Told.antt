-- What the steps of a call tell together.
use Rattle.std.proofs.Common.{◌≡◌, ℕ, ◌+◌, ◌*◌, ◌%◌, ◌/◌, ◌<◌, ◌≤◌, List, [], ◌∷◌, ◌++◌, length, Bool, true, false, Option, Some, refl, sym, ap, ◌∙◌, subst, arith, leb, leb-true, leb-false, if◌then◌else◌}
use mathlib.Core.Option as maybe
use lib.ListN.{get_elem?}
use Rattle.atomic_table.specs.Seated.{TableId}
use Rattle.atomic_table.specs.Table.{Final, Seen}
use Rattle.street_base.specs.declared.command.Command.{Command}
use Rattle.street_base.specs.declared.reply.Outcome.{Outcome}
use Rattle.street_base.specs.declared.reply.Reply.{Reply}
use Rattle.street_base.specs.Prelude.{reply_to}
use Rattle.street_desk.specs.declared.journal.Entry.{Entry}
use Rattle.street_desk.specs.declared.view.SeatView.{SeatView}
use Rattle.street_desk.specs.History.{entry, state_of, IsLegal, IsHistory, AllBelow, BeginsWith, calls_of}
use Rattle.street_desk.specs.Rule.{Recorded, recorded, Turn, turn_bit, home_of, KeepsRule}
use Rattle.street_desk.specs.Steps.{with_turn, most, heard, Sees, Looks, Grabs}
use Rattle.street_desk.specs.Passes.{pass_view, note_view, Rests, Answered, Learns, Filled, ServedCount, Heard, Finished}
use Rattle.street_desk.proofs.Histories.{starts_trans, starts_refl, calls_own, calls_other, below_snoc}

-- what loads alone do to a view that rests
pub record Goes (v w : SeatView) : Type 0 where
  pub rests : Rests w
  pub seen : BeginsWith w.seen v.seen
  pub own : calls_of v.least w.seen ≡ calls_of v.least v.seen
  pub count : v.count ≤ w.count
  pub least : w.least ≡ v.least
  pub greatest : w.greatest ≡ v.greatest
  pub calls : w.calls ≡ v.calls
  pub sessions : w.sessions ≡ v.sessions

pub goes_nowhere : (v : SeatView) → Rests v → Goes v v
goes_nowhere v r = record { rests = r; seen = starts_refl v.seen; own = refl; count = omega arith; least = refl; greatest = refl; calls = refl; sessions = refl }

-- one load more
pub goes_on : (v u w : SeatView) (n : ℕ) → Goes v u → Looks u n w → Goes v w
goes_on v u w n went look =
    let least : w.least ≡ u.least = ap (λ (z : SeatView). z.least) look.is in
    let greatest : w.greatest ≡ u.greatest = ap (λ (z : SeatView). z.greatest) look.is in
    let sessions : w.sessions ≡ u.sessions = ap (λ (z : SeatView). z.sessions) look.is in
    let calls : w.calls ≡ u.calls = ap (λ (z : SeatView). z.calls) look.is in
    let count : w.count ≡ n / 2 = ap (λ (z : SeatView). z.count) look.is in
    let a : v.count ≤ u.count = went.count in
    let b : u.count ≤ n / 2 = look.count in record {
      rests = record {
        turn = ap (λ (z : SeatView). z.turn) look.is ∙ went.rests.turn;
        owns = ap (λ (z : SeatView). z.owns) look.is ∙ went.rests.owns;
        live = ap (λ (z : SeatView). z.live) look.is ∙ went.rests.live;
        also = ap (λ (z : SeatView). z.also) look.is;
        seen = record { legal = look.sees.legal; below = subst (λ (k : ℕ). AllBelow k w.seen) (sym sessions) (look.sees.below went.rests.live) };
        unused = λ k lo hi. look.sees.unused went.rests.owns k (omega arith) (omega arith);
      };
      seen = starts_trans w.seen u.seen v.seen look.sees.seen went.seen;
      own = subst (λ (k : ℕ). calls_of k w.seen ≡ calls_of k u.seen) went.least (look.sees.own went.rests.owns) ∙ went.own;
      count = omega arith;
      least = least ∙ went.least;
      greatest = greatest ∙ went.greatest;
      calls = calls ∙ went.calls;
      sessions = sessions ∙ went.sessions;
    }

-- what a pass learns by loads
pub learns : (t t' : TableId) (v w : SeatView) → t' ≡ t → Goes v w → Learns (pass_view t v) (pass_view t' w)
learns t t' v w table went = record {
  is_history = subst (λ (k : ℕ). IsHistory k w.seen) went.sessions went.rests.seen;
  begins = went.seen;
  own = went.own;
  kept = went.count;
  same = ((λ i. record { table = table i; calls = went.calls i; sessions = went.sessions i }), went.least, went.greatest);
}

pub served : (t t' : TableId) (v w : SeatView) (n : ℕ) → t' ≡ t → Rests v → Looks v n w → ServedCount (pass_view t v) (n / 2) (pass_view t' w)
served t t' v w n table rests look = record {
  learns = learns t t' v w table (goes_on v v w n (goes_nowhere v rests) look);
  count = ap (λ (z : SeatView). z.count) look.is;
  long = look.long;
}

pub filled : (t t' : TableId) (v u w : SeatView) (n : ℕ) → t' ≡ t → Goes v u → Looks u n w → n % 2 ≡ 0 → n ≡ 2 * v.calls → Filled (pass_view t v) (pass_view t' w)
filled t t' v u w n table went look even full =
    let two : 2 * length w.seen ≡ n = look.even even in
    let a : v.count ≤ u.count = went.count in
    let b : u.count ≤ n / 2 = look.count in record {
      learns = learns t t' v w table (goes_on v u w n went look);
      long = omega arith;
      count = omega arith;
    }

-- the view of a seat after its turn
module _ (v u w g x : SeatView) (n : ℕ) (slots : List (ℕ × Option Recorded)) (c : Command) (o : Outcome) where
  pub rests_after : Goes v u → Looks u n w → Grabs w n g slots → IsLegal (g.seen ++ entry v.least c o ∷ []) → x ≡ with_turn g (g.seen ++ entry v.least c o ∷ []) false → Rests x
  rests_after went look took legal is =
      let e = entry v.least c o in
      let here = goes_on v u w n went look in
      let owns : w.owns ≡ true = here.rests.owns in
      let live : w.live ≡ true = here.rests.live in
      let w_least : w.least ≡ v.least = here.least in
      let g_least : g.least ≡ w.least = ap (λ (z : SeatView). z.least) took.is in
      let g_most : g.greatest ≡ w.greatest = ap (λ (z : SeatView). z.greatest) took.is in
      let g_sessions : g.sessions ≡ w.sessions = ap (λ (z : SeatView). z.sessions) took.is in
      let inside : w.least < w.sessions = took.sees.inside owns live in
      subst Rests (sym is) record {
        turn = refl;
        owns = ap (λ (z : SeatView). z.owns) took.is ∙ owns;
        live = ap (λ (z : SeatView). z.live) took.is ∙ live;
        also = refl;
        seen = record { legal = legal; below = below_snoc g.sessions g.seen e (subst (λ (k : ℕ). AllBelow k g.seen) (sym g_sessions) (took.sees.below live)) (omega arith) };
        unused = λ k lo hi. calls_other k g.seen e (λ same. omega arith) ∙ took.sees.unused owns k (omega arith) (omega arith);
      }

  pub answered : (t t' : TableId) (r : Reply) → t' ≡ t → Goes v u → Looks u n w → Grabs w n g slots → length g.seen < v.calls → r ≡ reply_to (state_of g.seen) c o
      → IsLegal (g.seen ++ entry v.least c o ∷ []) → x ≡ with_turn g (g.seen ++ entry v.least c o ∷ []) false → Answered (pass_view t v) c r (pass_view t' x)
  answered t t' r table went look took room reply legal is =
      let e = entry v.least c o in
      let here = goes_on v u w n went look in
      let rests = rests_after went look took legal is in
      let g_least : g.least ≡ v.least = ap (λ (z : SeatView). z.least) took.is ∙ here.least in
      let g_most : g.greatest ≡ v.greatest = ap (λ (z : SeatView). z.greatest) took.is ∙ here.greatest in
      let x_calls : x.calls ≡ v.calls = ap (λ (z : SeatView). z.calls) is ∙ (ap (λ (z : SeatView). z.calls) took.is ∙ here.calls) in
      let x_sessions : x.sessions ≡ v.sessions = ap (λ (z : SeatView). z.sessions) is ∙ (ap (λ (z : SeatView). z.sessions) took.is ∙ here.sessions) in
      let x_count : x.count ≡ w.count = ap (λ (z : SeatView). z.count) is ∙ ap (λ (z : SeatView). z.count) took.is in
      let a : v.count ≤ w.count = here.count in
      let b : w.count ≤ length g.seen = took.count in
      let seen : x.seen ≡ g.seen ++ e ∷ [] = ap (λ (z : SeatView). z.seen) is in
      let own_g : calls_of v.least g.seen ≡ calls_of v.least v.seen = subst (λ (k : ℕ). calls_of k g.seen ≡ calls_of k w.seen) here.least (took.sees.own here.rests.owns) ∙ here.own in record {
        before = g.seen;
        outcome = o;
        begins = starts_trans g.seen w.seen v.seen took.sees.seen here.seen;
        count = omega arith;
        room = room;
        seen = seen;
        is_history = subst (λ (k : ℕ). IsHistory k x.seen) x_sessions rests.seen;
        reply = reply;
        own = ap (calls_of v.least) seen ∙ (calls_own v.least g.seen e refl ∙ ap (λ (l : List Entry). l ++ e ∷ []) own_g);
        kept = omega arith;
        same = ((λ i. record { table = table i; calls = x_calls i; sessions = x_sessions i }), ap (λ (z : SeatView). z.least) is ∙ g_least, ap (λ (z : SeatView). z.greatest) is ∙ g_most);
      }

le_most : (a b : ℕ) → (a ≤ most a b) × (b ≤ most a b)
le_most a b = by_order (leb b a) refl
  where
    by_order : (c : Bool) → leb b a ≡ c → (a ≤ (if c then a else b)) × (b ≤ (if c then a else b))
    by_order true is = let le : b ≤ a = leb-true _ _ is in (omega arith, omega arith)
    by_order false is = let lt : a < b = leb-false _ _ is in (omega arith, omega arith)

-- what a load tells after a note was heard
pub heard_goes : (v w u x : SeatView) (n : ℕ) → Rests v → u ≡ heard v w → Looks u n x → Goes v x × BeginsWith x.seen w.seen × (w.count ≤ x.count)
heard_goes v w u x n rests join look =
    let m = le_most v.count w.count in
    let a : v.count ≤ most v.count w.count = m.0 in
    let b : w.count ≤ most v.count w.count = m.1 in
    let c : u.count ≡ most v.count w.count = ap (λ (z : SeatView). z.count) join in
    let d : u.count ≤ n / 2 = look.count in
    let e : x.count ≡ n / 2 = ap (λ (z : SeatView). z.count) look.is in
    let least : x.least ≡ v.least = ap (λ (z : SeatView). z.least) look.is ∙ ap (λ (z : SeatView). z.least) join in
    let greatest : x.greatest ≡ v.greatest = ap (λ (z : SeatView). z.greatest) look.is ∙ ap (λ (z : SeatView). z.greatest) join in
    let sessions : x.sessions ≡ v.sessions = ap (λ (z : SeatView). z.sessions) look.is ∙ ap (λ (z : SeatView). z.sessions) join in
    let sees : Sees (heard v w) x.seen = subst (λ (z : SeatView). Sees z x.seen) join look.sees in (
      record {
        rests = record {
          turn = ap (λ (z : SeatView). z.turn) look.is ∙ ap (λ (z : SeatView). z.turn) join;
          owns = ap (λ (z : SeatView). z.owns) look.is ∙ (ap (λ (z : SeatView). z.owns) join ∙ rests.owns);
          live = ap (λ (z : SeatView). z.live) look.is ∙ (ap (λ (z : SeatView). z.live) join ∙ rests.live);
          also = ap (λ (z : SeatView). z.also) look.is;
          seen = record { legal = sees.legal; below = subst (λ (k : ℕ). AllBelow k x.seen) (sym sessions) (sees.below rests.live) };
          unused = λ k lo hi. sees.unused rests.owns k (omega arith) (omega arith);
        };
        seen = sees.seen;
        own = sees.own rests.owns;
        count = omega arith;
        least = least;
        greatest = greatest;
        calls = ap (λ (z : SeatView). z.calls) look.is ∙ ap (λ (z : SeatView). z.calls) join;
        sessions = sessions;
      },
      sees.also,
      omega arith,
    )

pub heard_both : (t t' t'' : TableId) (v w u x : SeatView) (n : ℕ) → t' ≡ t → Rests v → u ≡ heard v w → Looks u n x → Heard (pass_view t v) (note_view t'' w) (pass_view t' x)
heard_both t t' t'' v w u x n table rests join look =
    let all = heard_goes v w u x n rests join look in record {
      learns = learns t t' v x table all.0;
      heard = all.1;
      count = all.2;
    }

-- a closed table
pub record Whole (calls sessions : ℕ) (v : SeatView) (slot : Option Recorded) : Type 0 where
  pub history : List Entry
  pub is : slot ≡ Some (recorded history calls)
  pub is_history : IsHistory sessions history
  pub begins : BeginsWith history v.seen
  pub count : v.count ≤ length history
  pub own : v.owns ≡ true → calls_of v.least history ≡ calls_of v.least v.seen
  pub room : v.live ≡ true → length history ≤ v.calls
  pub of_desk : v.live ≡ true → v.sessions ≡ sessions

word_is : (ws : List ℕ) (n word : ℕ) → ws ≡ n ∷ [] → get_elem? ws 0 ≡ maybe.some word → word ≡ n
word_is ws n word is at = maybe.some-injective word n (sym at ∙ ap (λ (l : List ℕ). get_elem? l 0) is)

pub closed_even : (calls sessions id : ℕ) (v : SeatView) (ws : List ℕ) (xs : List (Option Recorded)) (word : ℕ) (slot : Option Recorded) → Final (Seen (KeepsRule calls sessions) id v) ws xs → get_elem? ws 0 ≡ maybe.some word → get_elem? xs 0 ≡ maybe.some slot → word % 2 ≡ 0 → Whole calls sessions v slot
closed_even calls sessions id v ws xs word slot f at in_slot even =
    let s = f.0 in
    let r = f.1.0 in
    let k = r.seats id v f.1.1 in
    let n : word ≡ 2 * length r.history + turn_bit r.turn = word_is ws (2 * length r.history + turn_bit r.turn) word (sym f.2 ∙ r.word) at in
    let idle = even_idle word (length r.history) r.turn n even in
    let home : get_elem? s.homes 0 ≡ maybe.some (maybe.some (Some (recorded r.history calls))) = ap (λ (l : List (maybe.Option (Option Recorded))). get_elem? l 0) (r.home ∙ ap (λ (t : Turn). home_of t (recorded r.history calls) ∷ []) idle) in
    let there = f.4 0 (Some (recorded r.history calls)) home in record {
      history = r.history;
      is = maybe.some-injective slot (Some (recorded r.history calls)) (sym in_slot ∙ there);
      is_history = r.is_history;
      begins = k.seen;
      count = k.count;
      own = k.own;
      room = λ live. subst (λ (n : ℕ). length r.history ≤ n) (sym (k.limits live).0) r.room;
      of_desk = λ live. (k.limits live).1;
    }
  where
    even_idle : (word len : ℕ) (t : Turn) → word ≡ 2 * len + turn_bit t → word % 2 ≡ 0 → t ≡ maybe.none
    even_idle word len maybe.none e even = refl
    even_idle word len (maybe.some j) e even = absurd (omega arith)

pub closed_count : (calls sessions id : ℕ) (v : SeatView) (ws : List ℕ) (xs : List (Option Recorded)) (word : ℕ) → Final (Seen (KeepsRule calls sessions) id v) ws xs → get_elem? ws 0 ≡ maybe.some word → v.count ≤ word / 2
closed_count calls sessions id v ws xs word f at =
    let r = f.1.0 in
    let k = r.seats id v f.1.1 in
    let n : word ≡ 2 * length r.history + turn_bit r.turn = word_is ws (2 * length r.history + turn_bit r.turn) word (sym f.2 ∙ r.word) at in
    let c : v.count ≤ length r.history = k.count in omega arith

abbrev value_of : Recorded → Option Recorded → Recorded
value_of d (Some x) = x
value_of d _ = d

pub finished : (t : TableId) (v : SeatView) (calls sessions : ℕ) (slot : Option Recorded) (r : Recorded) (journal : List Entry) → Whole calls sessions v slot → slot ≡ Some r → journal ≡ r.history → Rests v → Finished (pass_view t v) journal
finished t v calls sessions slot r journal w is all rests =
    let same : w.history ≡ journal = ap (λ (x : Recorded). x.history) (ap (value_of r) (sym w.is ∙ is)) ∙ sym all in record {
      is_history = subst (λ (l : List Entry). IsHistory v.sessions l) same (subst (λ (k : ℕ). IsHistory k w.history) (sym (w.of_desk rests.live)) w.is_history);
      room = subst (λ (l : List Entry). length l ≤ v.calls) same (w.room rests.live);
      begins = subst (λ (l : List Entry). BeginsWith l v.seen) same w.begins;
      count = subst (λ (l : List Entry). v.count ≤ length l) same w.count;
      own = subst (λ (l : List Entry). calls_of v.least l ≡ calls_of v.least v.seen) same (w.own rests.owns);
    }
