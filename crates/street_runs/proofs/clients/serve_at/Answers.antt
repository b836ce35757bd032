use Rattle.std.proofs.Common.{arith, ◌≡◌, List, All, slice_index_or, sym, ap, subst, ◌∙◌, ◌++◌}
use Rattle.std.proofs.Math.ListN.{take, length, drop}
use Rattle.std.proofs.Math.Seq.{take-append_seam}
use Rattle.street_desk.specs.History.{BeginsWith}
use Rattle.street_line.specs.declared.script.Script.{Script}
use Rattle.street_runs.specs.Scripts.{AreRun}
use Rattle.street_runs.proofs.First.{first_of}
use Rattle.street_runs.proofs.clients.serve_at.Goals as goal

pub told_pass-pass-requires-clause-desk : goal.told_pass-pass-requires-clause-desk
told_pass-pass-requires-clause-desk g c κs within =
    let desk = c.args.desk.now in
    let made = c.in_ok-scripts.scripts in
    let new = c.answer_scripts-served.new.scripts in
    let rest = drop (length new) made.items in
    let long : made.len ≡ length made.items = sym c.deref_mut.ensures.len ∙ ap length c.deref_mut.ensures.value in
    let all : length made.items ≡ length new = ap length (sym c.deref_mut.ensures.value) ∙ sym c.answer_scripts-served.ensures.run.same in
    let kept : take made.len (new ++ rest) ≡ new = ap (λ n. take n (new ++ rest)) (long ∙ all) ∙ take-append_seam new rest in
    let opened : All (λ s. s.session.desk ≡ desk) made.items = λ k d within. ap (λ p. p.desk) (c.in_ok-scripts.ensures.opened k d within).session in
    subst (λ (scripts : List (Script g.row.R.Denot)). All (λ s. s.session.desk ≡ desk) scripts) (sym kept)
    (c.answer_scripts-served.ensures.desks desk (subst (λ (scripts : List (Script g.row.R.Denot)). All (λ s. s.session.desk ≡ desk) scripts) (sym c.deref_mut.ensures.value) opened))

pub returns-clause-played : goal.returns-clause-played
returns-clause-played g c =
    let made = c.in_ok-scripts.scripts in
    let new = c.answer_scripts-served.new.scripts in
    let rest = drop (length new) made.items in
    let long : made.len ≡ length made.items = sym c.deref_mut.ensures.len ∙ ap length c.deref_mut.ensures.value in
    let all : length made.items ≡ length new = ap length (sym c.deref_mut.ensures.value) ∙ sym c.answer_scripts-served.ensures.run.same in
    let kept : take made.len (new ++ rest) ≡ new = ap (λ n. take n (new ++ rest)) (long ∙ all) ∙ take-append_seam new rest in
    record {
      opened = made.items;
      ran = new;
      many = sym long ∙ c.in_ok-scripts.ensures.each;
      new = c.in_ok-scripts.ensures.opened;
      run = subst (λ (old : List (Script g.row.R.Denot)). AreRun old new) c.deref_mut.ensures.value c.answer_scripts-served.ensures.run;
      printed = c.answer_scripts-served.ensures.printed;
      told = c.answer_scripts-served.ensures.told;
      first = first_of c.args.desk.now made.items new c.told_pass-pass.result (omega (arith, all, c.in_ok-scripts.ensures.each, long, c.requires.some)) c.in_ok-scripts.ensures.opened
          (subst (λ (old : List (Script g.row.R.Denot)). AreRun old new) c.deref_mut.ensures.value c.answer_scripts-served.ensures.run)
          (λ d. subst (λ (scripts : List (Script g.row.R.Denot)). c.told_pass-pass.result.least ≡ (slice_index_or scripts 0 d).session.least) kept (c.told_pass-pass.ensures.least d));
      heard = subst (λ (scripts : List (Script g.row.R.Denot)). All (λ s. BeginsWith c.told_pass-pass.result.seen s.session.seen) scripts) kept c.told_pass-pass.ensures.told;
    }
