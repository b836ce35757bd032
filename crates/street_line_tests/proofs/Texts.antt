-- A text that an answer may give.
use Rattle.std.proofs.Common.{ℕ, List, [], ◌∷◌, Option, Some, None, Result, Ok, Err, refl, arith, Vec}
use Rattle.std.specs.declared.alloc.Global.{Global}
use Rattle.street_base.specs.declared.reply.Starved.{Starved}
use Rattle.street_stream.specs.HandledLines.{GivesText}

-- each answer gives some text, or none
pub some_text : (reply : Result (Option (Vec ℕ Global)) Starved) → (text : Option (List ℕ)) × GivesText reply text
some_text (Ok None) = (None, refl)
some_text (Ok (Some text)) = (Some text.items, refl)
some_text (Err starved) = (Some (0 ∷ []), (0 ∷ [], omega arith, refl))
