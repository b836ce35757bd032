-- Blocks that a writer was given, one after another.
use Rattle.std.proofs.Common.{◌≡◌, ℕ, zero, suc, List, [], ◌++◌, length, subst, append_assoc, append-nil, Option, Some, None}
use Rattle.std.specs.List.{FoldsTo}
use Rattle.street_base.specs.declared.command.Command.{Command}
use Rattle.street_base.specs.declared.record.RecordHead.{RecordHead}
use Rattle.street_base.specs.declared.reply.Reply.{Reply}
use Rattle.street_base.specs.Prelude.{State, Traffic, block, blocks, head_after, head_bytes, rows_bytes, rows_of_step, step}
use Rattle.street_record.specs.Given.{WriterView, IsGiven, Adds}
use Rattle.street_engine.specs.Prelude.{EngineView, StandsFor, ToldSteps, befores, recorded_in, steps_made}

module _ {W : Type 0} (contents : W → Option (List ℕ)) where
  -- nothing
  adds-none : (old new : WriterView W) → old ≡ new → Adds contents [] old new
  adds-none old new same start given is = rw append-nil (subst (IsGiven contents start given) same is)

  -- bytes, and then others
  adds-then : (a b : List ℕ) (old mid new : WriterView W) → Adds contents a old mid → Adds contents b mid new → Adds contents (a ++ b) old new
  adds-then a b old mid new first then start given is = rw (← append_assoc given a b) (then start (given ++ a) (first start given is))

  -- a head and its rows are a block
  pub adds-block : (m : Traffic) (head : RecordHead) (old mid new : WriterView W) → head ≡ head_after (step m) (length (rows_of_step m)) → Adds contents (head_bytes head) old mid → Adds contents (rows_bytes (rows_of_step m)) mid new
      → Adds contents (block m) old new
  unfolding block
  adds-block m head old mid new is first then =
      adds-then (head_bytes (head_after (step m) (length (rows_of_step m)))) (rows_bytes (rows_of_step m)) old mid new (subst (λ (h : RecordHead). Adds contents (head_bytes h) old mid) is first) then

  adds-blocks : (n : ℕ) (m : Traffic) (old new : WriterView W) → FoldsTo (λ (a : WriterView W) (m : Traffic) (b : WriterView W). Adds contents (block m) a b) old (befores n m) new → Adds contents (blocks n m) old new
  adds-blocks zero m old new same = adds-none old new same
  adds-blocks (suc n) m old new calls = adds-then (block m) (blocks n (step m)) old calls.0 new calls.1 (adds-blocks n (step m) calls.0 new calls.2)

  -- a writer that was told of the steps of a command has got their blocks
  pub recorded-adds : (x : EngineView) (command : Command) (reply : Reply) (old new : WriterView W) → ToldSteps (λ (a : WriterView W) (m : Traffic) (b : WriterView W). Adds contents (block m) a b) x command reply old new
      → (m : State) → StandsFor x m → Adds contents (recorded_in m command reply) old new
  recorded-adds x command reply old new told None stands = adds-none old new (told None stands)
  recorded-adds x command reply old new told (Some m) stands = adds-blocks (steps_made command reply) m old new (told (Some m) stands)
