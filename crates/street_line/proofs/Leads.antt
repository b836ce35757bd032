-- A file that a session was kept in, done again.
use Rattle.std.proofs.Common.{◌≡◌, ◌∙◌, ℕ, List, [], ◌∷◌, ◌++◌, length, take, Option, Some, None, sym, ap, append_assoc}
use Rattle.std.proofs.Math.Seq.{take-append_seam}
use Rattle.std.specs.Io.KnownBytes.{Appends, Keeps}
use Rattle.street_base.specs.Prelude.{State}
use Rattle.street_stream.proofs.CutParts.{AllInside, cut_append, lines_inside}
use Rattle.street_stream.specs.Lines.{cut, if_any, lines_of}
use Rattle.street_line.proofs.KeptLeads.{kept_leads}
use Rattle.street_line.proofs.KeptLines.{redo_both, first_up_to}
use Rattle.street_line.specs.Redo.{Redoes}
use Rattle.street_line.specs.Engines.{MachineServes}
use Rattle.street_line.specs.Kept.{GoesKept}
use Rattle.street_line.specs.KeptFiles.{IsText, ServeBreaks, ServesOn, first_of}
use Rattle.street_line.specs.Restarts.{KeepsAnswered}
use Rattle.street_line.specs.declared.redo.RedoneLines.{RedoneLines}
use Rattle.street_line.specs.declared.kept_file.ServeFault.TheVariants.{Session}
use Rattle.street_line.specs.declared.kept_runs.KeptFault.{KeptFault}

-- what was cut off behind the whole lines has these alone
log_whole : (had log : Option (List ℕ)) (text whole torn : List ℕ) (size : ℕ) → had ≡ Some text → IsText had (whole ++ torn) → size ≡ length whole → Keeps (first_of size had) log → log ≡ Some whole
log_whole None log text whole torn size known is long cut_off = absurd (cc)
log_whole (Some xs) None text whole torn size known is long cut_off = absurd cut_off
log_whole (Some xs) (Some ys) text whole torn size known is long cut_off =
    ap Some (cut_off ∙ ap (λ (n : ℕ). take n xs) long ∙ ap (λ (t : List ℕ). take (length whole) t) is ∙ take-append_seam whole torn)

-- known bytes that grew
grown : (a b : Option (List ℕ)) (xs ys more : List ℕ) → a ≡ Some xs → b ≡ Some ys → Appends a b more → ys ≡ xs ++ more
grown a b xs ys more is then h = rw (is, then) at h

-- the first of the lines are inside
inside_first : (ls ms : List (List ℕ)) → AllInside (ls ++ ms) → AllInside ls
inside_first [] ms h = tt
inside_first (l ∷ ls) ms h = (h.0, inside_first ls ms h.1)

-- lines that were done, and then what is kept of lines
both_lead : (start mid new : State) (whole : List ℕ) (ls : List (List ℕ)) (out kept : List ℕ) → AllInside ls → (cut whole).1 ≡ [] → Redoes MachineServes start (cut whole).0 mid
    → GoesKept MachineServes mid ls out kept new → Redoes MachineServes start (lines_of (whole ++ kept)) new
both_lead start mid new whole ls out kept inside ended done served =
    let leads = kept_leads mid ls out kept new inside served in
    let split : lines_of (whole ++ kept) ≡ (cut whole).0 ++ lines_of kept = ap (λ (p : List (List ℕ) × List ℕ). p.0 ++ if_any p.1) (cut_append whole kept)
    ∙ append_assoc (cut whole).0 (cut ((cut whole).1 ++ kept)).0 (if_any (cut ((cut whole).1 ++ kept)).1) ∙ ap (λ (rest : List ℕ). (cut whole).0 ++ lines_of (rest ++ kept)) ended in
    rw split (redo_both MachineServes start mid new (cut whole).0 (lines_of kept) done leads.2)

pub whole_goes_on : (start : State) (had unread before : Option (List ℕ)) (redo : RedoneLines) (now : State) (left held synced after : Option (List ℕ)) (text file : List ℕ)
    → ServesOn MachineServes start had unread before redo now left held synced after → had ≡ Some text → synced ≡ Some file → Redoes MachineServes start (lines_of file) now
whole_goes_on start had unread before redo now left held synced after text file h known stays =
    let r = h.recovered.redone in
    let passed = h.whole.passed in
    let log = log_whole had h.log text r.whole r.torn redo.bytes known r.is_text r.bytes h.recovered.cut_off in
    let same = grown h.log held r.whole file passed.kept log (sym passed.stays ∙ stays) passed.holds in
    rw same (both_lead start h.mid now r.whole (lines_of h.whole.text) passed.out passed.kept (lines_inside h.whole.text) r.ended r.done passed.served)

pub broken_goes_on : (start : State) (had stayed unread before : Option (List ℕ)) (now : State) (left held synced after : Option (List ℕ)) (fault : KeptFault) (text file : List ℕ)
    → ServeBreaks MachineServes start had stayed unread before now left held synced after (Session fault) → had ≡ Some text → synced ≡ Some file → KeepsAnswered start file before after
broken_goes_on start had stayed unread before now left held synced after fault text file h known stays =
    let r = h.3.redone in
    let first = first_up_to MachineServes h.0 unread h.1 before fault now left held synced after h.4 in
    let log = log_whole had h.1 text r.whole r.torn (h.2).bytes known r.is_text r.bytes h.3.cut_off in
    let same = grown h.1 synced r.whole file (first.kept ++ first.stays.0) log stays first.stays.1 in
    let inside : AllInside first.done = inside_first first.done first.rest (rw first.first_lines at (lines_inside first.text)) in
    record {
      first = r.whole ++ first.kept;
      more = first.stays.0;
      mid = h.0;
      done = first.done;
      out = first.out;
      kept = first.kept;
      now = first.mid;
      sent = first.sent;
      split = same ∙ sym (append_assoc r.whole first.kept first.stays.0);
      served = first.served;
      written = first.written;
      redo = both_lead start h.0 first.mid r.whole first.done first.out first.kept inside r.ended r.done first.served;
    }
