-- Reads that come right behind a flush.
use Rattle.std.proofs.Common.{arith, ◌≡◌, ℕ, zero, suc, ◌<◌, ◌==◌, ◌||◌, ◌&&◌, Bool, true, false, refl, ◌∙◌}

or_true : (b : Bool) → (b || true) ≡ true
or_true true = refl
or_true false = refl

-- the first read does, and each further one where those before it did and the writer was flushed
pub prompt_again : (calls : ℕ) (prompt flushed now : Bool) → now ≡ ((calls == 0) || (prompt && flushed))
    → (0 < calls → (prompt ≡ true) × (flushed ≡ true)) → now ≡ true
prompt_again zero prompt flushed now is before = is
prompt_again (suc n) prompt flushed now is before = is ∙ rw ((before (omega arith)).0, (before (omega arith)).1) (or_true (suc n == 0))
