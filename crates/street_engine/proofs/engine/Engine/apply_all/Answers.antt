use Rattle.std.proofs.Common.{List, [], ◌∷◌, ◌++◌, refl, subst, arith}
use Rattle.std.proofs.lemmas.List.{take_more, take_all}
use Rattle.street_base.specs.declared.command.Command.{Command}
use Rattle.street_base.specs.declared.reply.Reply.{Reply}
use Rattle.street_base.specs.declared.reply.Outcome.{Outcome}
use Rattle.street_base.specs.Prelude.{State, Answers, Runs}
use Rattle.street_engine.specs.Prelude.{EngineView, Serves, ServesAll}
use Rattle.street_engine.proofs.engine.Engine.apply_all.Goals as goal

-- a run goes on by one command
runs-more : (old mid new : State) (cs : List Command) (rs : List (Reply × Outcome)) (c : Command) (r : Reply × Outcome) → Runs old cs rs mid → Answers mid c r.0 r.1 new → Runs old (cs ++ c ∷ []) (rs ++ r ∷ []) new
runs-more old mid new [] [] c r same a = (new, subst (λ m. Answers m c r.0 r.1 new) same a, refl)
runs-more old mid new (d ∷ cs) (q ∷ rs) c r run a = (run.0, run.1, runs-more run.0 mid new cs rs c r run.2 a)
runs-more old mid new [] (q ∷ rs) c r run a = absurd run
runs-more old mid new (d ∷ cs) [] c r run a = absurd run

serves_all-more : (before now after : EngineView) (cs : List Command) (rs : List (Reply × Outcome)) (c : Command) (r : Reply × Outcome) → ServesAll before cs rs now → Serves now c r.0 r.1 after → ServesAll before (cs ++ c ∷ []) (rs ++ r ∷ []) after
serves_all-more before now after cs rs c r so_far next = λ old stands.
    let run = so_far old stands in
    let step = next run.0 run.2 in
    (step.0, runs-more old run.0 step.0 cs rs c r run.1 step.1, step.2)

pub loop-command-preserved : goal.loop-command-preserved
loop-command-preserved g c = record {
  run = rw (take_more c.args.commands.now c.loop-command.command-index c.command-item.result (omega arith), ← c.command-item.is, c.push_reserved.ensures.items) (serves_all-more c.args.self.now c.loop-command.self c.apply-answer.new.self _ _ _ _ c.loop-command.invariant.run c.apply-answer.ensures.serves);
  room = omega (arith, c.push_reserved.ensures.capacity, c.loop-command.invariant.room);
  so_far = omega (arith, c.push_reserved.ensures.len, c.loop-command.invariant.so_far);
}

pub returns-clause-run : goal.returns-clause-run
returns-clause-run g c = rw (← take_all c.loop-command.command-index c.args.commands.now (omega arith)) c.loop-command.invariant.run
