-- A session that nobody stands beside: its pass has seen the whole history, and that has its calls alone.
use Rattle.std.proofs.Common.{◌≡◌, ◌∙◌, ◌⊎◌, ℕ, ◌<◌, List, [], ◌∷◌, ◌++◌, length, Option, refl, sym, ap, subst, arith, append-nil, length-append, eq-eqb, None, Result, Ok, Err, IfOk, IfErr, inl, inr}
use Rattle.street_base.specs.declared.command.Command.{Command}
use Rattle.street_base.specs.declared.reply.Reply.{Reply}
use Rattle.street_base.specs.Prelude.{State, Allows, state_after, reply_to}
use Rattle.street_desk.specs.declared.journal.Entry.{Entry}
use Rattle.street_desk.specs.History.{entry, state_from, state_of, IsLegalFrom, AllBelow, calls_of, IsHistory}
use Rattle.street_desk.specs.Passes.{DeskView, PassView, Answered as IsAnswered, Filled, Finished}
use Rattle.street_stream.specs.declared.tally.FaultKind.{FaultKind}
use Rattle.street_stream.specs.declared.tally.FaultKind.TheVariants.{Starved}
use Rattle.street_stream.specs.declared.tally.Tally.{Tally}
use Rattle.street_line.specs.declared.service.Served.{Served}
use Rattle.street_line.specs.declared.service.Served.TheVariants.{Answered, Full, Unrecorded}
use Rattle.street_line.specs.Faults.{Breaks, IsUnanswered}
use Rattle.street_line.specs.Runs.{Said, silent, faulty, calls, said, Done, Goes}
use Rattle.street_line.specs.Sessions.{AloneServes, DeskServes, IsAlone}

-- ---- the desk stays

served_desk : (p : PassView) (c : Command) (served : Served) (q : PassView) → DeskServes p c served q → q.desk ≡ p.desk
served_desk p c (Answered reply) q h = h.same.0
served_desk p c Full q h = h.learns.same.0
served_desk p c Unrecorded q h = absurd h

done_desk : (p : PassView) (what : Said) (out : List ℕ) (q : PassView) → Done DeskServes p what out q → q.desk ≡ p.desk
done_desk p silent out q h = ap (λ (v : PassView). v.desk) h.0
done_desk p (faulty fault) out q h = ap (λ (v : PassView). v.desk) h.0
done_desk p (calls c) out q h = served_desk p c h.0 q h.1

pub goes_desk : (p : PassView) (ls : List (List ℕ)) (out : List ℕ) (q : PassView) → Goes DeskServes p ls out q → q.desk ≡ p.desk
goes_desk p [] out q h = ap (λ (v : PassView). v.desk) h.0
goes_desk p (l ∷ ls) out q h = goes_desk h.0 ls h.2 q h.4 ∙ done_desk p (said l) h.1 h.0 h.3

pub either : {T E : Type 0} (r : Result T E) (P : T → Type 0) (Q : E → Type 0) (Z : Type 0) → IfOk r P → IfErr r Q → ((t : T) → P t → Z) → ((e : E) → Q e → Z) → Z
either (Ok t) P Q Z p q f g = f t p
either (Err e) P Q Z p q f g = g e q

-- ---- histories of one session

-- all calls are of session 0
all_own : (es : List Entry) → AllBelow 1 es → calls_of 0 es ≡ es
all_own [] b = refl
all_own (e ∷ es) b =
    let zero : e.session ≡ 0 = omega (arith, b.0) in
    rw (eq-eqb e.session 0 zero) (ap (λ (l : List Entry). e ∷ l) (all_own es b.1))

legal_last : (m : State) (es : List Entry) (e : Entry) → IsLegalFrom m (es ++ e ∷ []) → Allows (state_from m es) e.command e.outcome
legal_last m [] e l = l.0
legal_last m (x ∷ es) e l = legal_last (state_after m x.command x.outcome) es e l.1

none_left : (rest : List Entry) → length rest ≡ 0 → rest ≡ []
none_left [] e = refl
none_left (x ∷ rest) e = absurd (omega arith)

-- the same list, where as many stand before the last
same_front : (a b rest : List Entry) (x y : Entry) → a ≡ b ++ rest → a ++ x ∷ [] ≡ b ++ y ∷ [] → a ≡ b
same_front a b rest x y front whole =
    let lengths : length (a ++ x ∷ []) ≡ length (b ++ y ∷ []) = ap (λ (l : List Entry). length l) whole in
    let longer : length a ≡ length (b ++ rest) = ap (λ (l : List Entry). length l) front in
    let none : rest ≡ [] = none_left rest (omega (arith, length-append a (x ∷ []), length-append b (y ∷ []), length-append b rest, lengths, longer)) in
    front ∙ (ap (λ (l : List Entry). b ++ l) none ∙ append-nil b)

own_is_all : (p : PassView) → IsAlone p → calls_of p.least p.seen ≡ p.seen
own_is_all p h = rw h.least (all_own p.seen h.history.below)

-- a journal that has no new calls of the one session is what its pass has seen
pub ends_alone : (p : PassView) (journal : List Entry) → IsAlone p → Finished p journal → journal ≡ p.seen
ends_alone p journal alone ended =
    let below : AllBelow 1 journal = subst (λ (n : ℕ). AllBelow n journal) alone.sessions ended.is_history.below in
    let all : calls_of p.least journal ≡ journal = rw alone.least (all_own journal below) in
    sym all ∙ (ended.own ∙ own_is_all p alone)

still_alone : (p q : PassView) → q.desk ≡ p.desk → q.least ≡ p.least → IsHistory p.desk.sessions q.seen → IsAlone p → IsAlone q
still_alone p q desk least history h = record {
  sessions = ap (λ (d : DeskView). d.sessions) desk ∙ h.sessions;
  least = least ∙ h.least;
  history = subst (λ (n : ℕ). IsHistory n q.seen) h.sessions history;
}

-- ---- what one command gives

answered_alone : (p : PassView) (c : Command) (reply : Reply) (q : PassView) → IsAnswered p c reply q → IsAlone p → AloneServes p.desk.calls p.seen c (Answered reply) q.seen × IsAlone q
answered_alone p c reply q h alone =
    let after = still_alone p q h.same.0 h.same.1 h.is_history alone in
    let own : calls_of p.least q.seen ≡ q.seen = subst (λ (n : ℕ). calls_of n q.seen ≡ q.seen) h.same.1 (own_is_all q after) in
    let grown : q.seen ≡ p.seen ++ entry p.least c h.outcome ∷ [] = sym own ∙ (h.own ∙ ap (λ (l : List Entry). l ++ entry p.least c h.outcome ∷ []) (own_is_all p alone)) in
    let same : h.before ≡ p.seen = same_front h.before p.seen h.begins.0 _ _ h.begins.1 (sym h.seen ∙ grown) in
    let legal : IsLegalFrom None (h.before ++ entry p.least c h.outcome ∷ []) = subst (λ (l : List Entry). IsLegalFrom None l) h.seen h.is_history.legal in (
      (
        h.outcome,
        subst (λ (l : List Entry). Allows (state_of l) c h.outcome) same (legal_last None h.before _ legal),
        subst (λ (l : List Entry). reply ≡ reply_to (state_of l) c h.outcome) same h.reply,
        subst (λ (n : ℕ). q.seen ≡ p.seen ++ entry n c h.outcome ∷ []) alone.least grown,
        subst (λ (l : List Entry). length l < p.desk.calls) same h.room,
      ),
      after,
    )

full_alone : (p : PassView) (c : Command) (q : PassView) → Filled p q → IsAlone p → AloneServes p.desk.calls p.seen c Full q.seen × IsAlone q
full_alone p c q h alone =
    let after = still_alone p q h.learns.same.0 h.learns.same.1 h.learns.is_history alone in
    let own : calls_of p.least q.seen ≡ q.seen = subst (λ (n : ℕ). calls_of n q.seen ≡ q.seen) h.learns.same.1 (own_is_all q after) in
    let same : q.seen ≡ p.seen = sym own ∙ (h.learns.own ∙ own_is_all p alone) in
    ((same, ap (λ (l : List Entry). length l) (sym same) ∙ h.long), after)

served_alone : (p : PassView) (c : Command) (served : Served) (q : PassView) → DeskServes p c served q → IsAlone p → AloneServes p.desk.calls p.seen c served q.seen × IsAlone q
served_alone p c (Answered reply) q h alone = answered_alone p c reply q h alone
served_alone p c Full q h alone = full_alone p c q h alone
served_alone p c Unrecorded q h alone = absurd h

-- ---- lines

-- each command gets a reply, so where a fault came no other was served behind those
pub went : (p : PassView) (held : Option (List ℕ)) (text : List ℕ) (q : PassView) (holds : Option (List ℕ)) (kind : FaultKind) (tally : Tally)
    (h : Breaks DeskServes p held text q holds kind tally) → Goes DeskServes p h.done h.out q
went p held text q holds kind tally h = by h.ends
  where
    by : (q ≡ h.mid) ⊎ ((kind ≡ Starved) × IsUnanswered DeskServes h.mid h.rest q) → Goes DeskServes p h.done h.out q
    by (inl same) = subst (λ (s : PassView). Goes DeskServes p h.done h.out s) (sym same) h.served
    by (inr (starved, (line, more, c, behind, says, served))) = absurd served

done_alone : (p : PassView) (what : Said) (out : List ℕ) (q : PassView) → Done DeskServes p what out q → IsAlone p → Done (AloneServes p.desk.calls) p.seen what out q.seen × IsAlone q
done_alone p silent out q h alone = ((ap (λ (v : PassView). v.seen) h.0, h.1), subst IsAlone (sym h.0) alone)
done_alone p (faulty fault) out q h alone = ((ap (λ (v : PassView). v.seen) h.0, h.1), subst IsAlone (sym h.0) alone)
done_alone p (calls c) out q h alone =
    let step = served_alone p c h.0 q h.1 alone in
    ((h.0, step.0, h.2), step.1)

goes_from : (most : ℕ) (p : PassView) (ls : List (List ℕ)) (out : List ℕ) (q : PassView) → Goes DeskServes p ls out q → IsAlone p → p.desk.calls ≡ most → Goes (AloneServes most) p.seen ls out q.seen
goes_from most p [] out q h alone is = (ap (λ (v : PassView). v.seen) h.0, h.1)
goes_from most p (l ∷ ls) out q h alone is =
    let first = done_alone p (said l) h.1 h.0 h.3 alone in
    let later : h.0.desk.calls ≡ most = ap (λ (d : DeskView). d.calls) (done_desk p (said l) h.1 h.0 h.3) ∙ is in
    let done : Done (AloneServes most) p.seen (said l) h.1 h.0.seen = subst (λ (n : ℕ). Done (AloneServes n) p.seen (said l) h.1 h.0.seen) is first.0 in
    (h.0.seen, h.1, h.2, done, goes_from most h.0 ls h.2 q h.4 first.1 later, h.5)

-- and the pass is then still alone
pub goes_still : (p : PassView) (ls : List (List ℕ)) (out : List ℕ) (q : PassView) → Goes DeskServes p ls out q → IsAlone p → IsAlone q
goes_still p [] out q h alone = subst IsAlone (sym h.0) alone
goes_still p (l ∷ ls) out q h alone = goes_still h.0 ls h.2 q h.4 (done_alone p (said l) h.1 h.0 h.3 alone).1

pub goes_alone : (p : PassView) (ls : List (List ℕ)) (out : List ℕ) (q : PassView) → Goes DeskServes p ls out q → IsAlone p → Goes (AloneServes p.desk.calls) p.seen ls out q.seen
goes_alone p ls out q h alone = goes_from p.desk.calls p ls out q h alone refl

-- and where a fault came
pub breaks_alone : (p : PassView) (held : Option (List ℕ)) (text : List ℕ) (q : PassView) (holds : Option (List ℕ)) (kind : FaultKind) (tally : Tally)
    → Breaks DeskServes p held text q holds kind tally → IsAlone p → Breaks (AloneServes p.desk.calls) p.seen held text q.seen holds kind tally
breaks_alone p held text q holds kind tally h alone = record {
  done = h.done;
  rest = h.rest;
  out = h.out;
  mid = q.seen;
  first_lines = h.first_lines;
  served = goes_alone p h.done h.out q (went p held text q holds kind tally h) alone;
  ends = inl refl;
  within = h.within;
  written = h.written;
  lines = h.lines;
  calls = h.calls;
  replies = h.replies;
  whole = h.whole;
}
