use Rattle.std.proofs.Common.{◌≡◌, ◌∙◌, length, rules, sym, ap}
use Rattle.std.proofs.lemmas.Slice.Zip.{zip_turn}
use Rattle.std.specs.Iterator.Adapters.{zip_first, zip_second}
use Rattle.std.specs.Slice.Iter.{iter_rest}
use Rattle.street_runs.specs.Faults.{fault_of_run}
use Rattle.street_runs.proofs.clients.first_fault.Goals as goal

pub returns-in-Some-fault-clause-first : goal.returns-in-Some-fault-clause-first
returns-in-Some-fault-clause-first g c =
    let begun = c.into_iter-script-iterator.result in
    let first : iter_rest (zip_first begun) ≡ c.args.scripts.now = search rules in
    let second : iter_rest (zip_second begun) ≡ c.args.names.now = search rules in
    let turn = zip_turn c.args.scripts.now c.args.names.now c.loop-script.yielded begun c.loop-script.script-iterator c.next.new.self c.next.result first second c.loop-script.yielded_by
    (c.in-Some.script, c.in-Some.name) c.in-Some.is c.next.ensures.steps in
    record {
      place = length c.loop-script.yielded;
      kind = c.in-Some-fault.kind;
      within = turn.0;
      has = λ d. ap (λ s. s.fault) (sym (turn.2 d)) ∙ c.in-Some-fault.is;
      before = c.loop-script.invariant;
      told = λ n. c.of_run.ensures ∙ ap (λ m. fault_of_run c.in-Some-fault.kind m m) (turn.3 n);
    }
