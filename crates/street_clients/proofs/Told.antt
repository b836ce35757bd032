-- What two clients were told, from what each was replied.
use Rattle.std.proofs.Common.{◌≡◌, ◌∙◌, ℕ, List, [], ◌∷◌, ◌++◌, Option, IfSome, IsNone, IsSome, MatchOption, None, Some, refl, sym, ap, subst, append_assoc, true≢false}
use Rattle.street_clients.specs.declared.desks.Client.{Client}
use Rattle.street_clients.specs.declared.tapes.Told.{Told}
use Rattle.street_clients.specs.Told.{IsNew, Replied, EndsDesk, IsTold, AreTold}
use Rattle.street_desk.specs.declared.journal.Entry.{Entry}
use Rattle.street_desk.specs.History.{BeginsWith, IsHistory}
use Rattle.street_desk.specs.Passes.{DeskView, PassView}
use Rattle.street_stream.specs.Lines.{lines_of}
use Rattle.street_stream.specs.declared.tally.FaultKind.{FaultKind}
use Rattle.street_line.specs.Runs.{Goes}
use Rattle.street_line.specs.declared.script.Script.{Script}
use Rattle.street_line.specs.Scripts.{IsRunFrom, ScriptServed}
use Rattle.street_line.specs.Sessions.{DeskServes}

-- lines, and then lines more
pub goes_both : (p : PassView) (ls : List (List ℕ)) (out : List ℕ) (q : PassView) (ms : List (List ℕ)) (more : List ℕ) (r : PassView)
    → Goes DeskServes p ls out q → Goes DeskServes q ms more r → Goes DeskServes p (ls ++ ms) (out ++ more) r
goes_both p [] out q ms more r h later =
    subst (λ (o : List ℕ). Goes DeskServes p ms (o ++ more) r) (sym h.1) (subst (λ (s : PassView). Goes DeskServes s ms more r) h.0 later)
goes_both p (l ∷ ls) out q ms more r h later =
    (h.0, h.1, h.2 ++ more, h.3, goes_both h.0 ls h.2 q ms more r h.4 later, ap (λ (o : List ℕ). o ++ more) h.5 ∙ append_assoc h.1 h.2 more)

is_told : (desk : DeskView) (session : ℕ) (before : PassView) (firsts : List (List ℕ)) (a : Client) (replies : _) (history : List Entry)
    → IsNew desk session before → Replied before firsts a → a.replies ≡ Some replies → BeginsWith history a.pass.seen → IsTold session firsts replies.items history
is_told desk session before firsts a replies history new replied is begins =
    let run : (more : List (List ℕ)) × Goes DeskServes before (firsts ++ more) replies.items a.pass =
    subst (λ r. IfSome r (λ t. (more : List (List ℕ)) × Goes DeskServes before (firsts ++ more) t.items a.pass)) is replied in
    record { before = before; after = a.pass; more = run.0; least = new.least; none = new.none; served = run.1; begins = begins }

-- the desk's passes had seen nothing
are_told : (desk : DeskView) (calls : ℕ) (one two : PassView) (firsts seconds : List (List ℕ)) (a b : Client) (told : Told)
    → desk.sessions ≡ 2 → IsNew desk 0 one → IsNew desk 1 two → Replied one firsts a → Replied two seconds b → EndsDesk desk.sessions calls a b told
    → AreTold calls firsts seconds told
are_told desk calls one two firsts seconds a b told sessions new newer first second ends =
    let tape = ends.tape in
    record {
      history = tape.history;
      is_history = subst (λ n. IsHistory n tape.history) sessions tape.is_history;
      long = tape.long;
      tape = tape.text;
      first = is_told desk 0 one firsts a told.first tape.history new first ends.first tape.first_seen;
      second = is_told desk 1 two seconds b told.second tape.history newer second ends.second tape.second_seen;
    }

pub all_told : (r : Option Told) (desk : DeskView) (calls : ℕ) (one two : PassView) (firsts seconds : List (List ℕ)) (a b : Client)
    → desk.sessions ≡ 2 → IsNew desk 0 one → IsNew desk 1 two → Replied one firsts a → Replied two seconds b → IfSome r (λ told. EndsDesk desk.sessions calls a b told)
    → IfSome r (λ told. AreTold calls firsts seconds told)
all_told None desk calls one two firsts seconds a b sessions new newer first second ends = tt
all_told (Some told) desk calls one two firsts seconds a b sessions new newer first second ends =
    are_told desk calls one two firsts seconds a b told sessions new newer first second ends

-- the client of a script that was opened, if there was no fault, and has ended
pub replied : {F R : Type 0} (file : Option F) (fault : Option FaultKind) (old new : Script R) (client : Client)
    → (IsNone old.fault → IsSome file) → IsRunFrom file old new → new.fault ≡ fault
    → client.pass ≡ new.session → MatchOption fault (client.replies ≡ Some new.replies) (λ _. client.replies ≡ None)
    → Replied old.session [] client
replied file (Some kind) old new client opened run is pass told =
    subst (λ r. IfSome r (λ t. (more : List (List ℕ)) × Goes DeskServes old.session more t.items client.pass)) (sym told) tt
replied (Some f) None old new client opened run is pass told =
    let served : Goes DeskServes old.session (lines_of run.0) new.replies.items new.session = subst (λ (k : Option FaultKind). ScriptServed old.session run.0 new.replies.items k new.session) is run.1 in
    let kept = subst (λ (p : PassView). Goes DeskServes old.session (lines_of run.0) new.replies.items p) (sym pass) served in
    subst (λ r. IfSome r (λ t. (more : List (List ℕ)) × Goes DeskServes old.session more t.items client.pass)) (sym told) (lines_of run.0, kept)
replied None None old new client opened run is pass told =
    absurd (true≢false (sym (opened (subst (λ (k : Option FaultKind). IsNone k) (sym is ∙ run.2) refl))))
