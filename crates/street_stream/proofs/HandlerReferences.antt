-- A handler that holds a reference, and changes no more than what stands behind it: its runs are those of what stands there, and it holds the same reference after them.
use Rattle.std.proofs.Common.{◌≡◌, ◌∙◌, ℕ, List, [], ◌∷◌, Option, ap}
use Rattle.street_stream.specs.HandledLines.{Effect, Handles, Whole, Leaves, Broke}
use Rattle.street_stream.specs.declared.answer.StopCause.{StopCause}
use Rattle.street_stream.specs.declared.answer.StopCause.TheVariants.{Run, Line}
use Rattle.street_stream.specs.declared.tally.Tally.{Tally}

-- `part` is what stands behind the reference, and `name` is the reference's name
module _ {A S Stop : Type 0} (part : A → S) (name : A → ℕ) (takes : S → List ℕ → Effect → S → Type 0) (stops : S → List ℕ → Stop → S → Type 0) where
  abbrev pub TakesPart : A → List ℕ → Effect → A → Type 0
  TakesPart old line effect new = (name new ≡ name old) × takes (part old) line effect (part new)

  abbrev pub StopsPart : A → List ℕ → Stop → A → Type 0
  StopsPart old line stop new = (name new ≡ name old) × stops (part old) line stop (part new)

  pub handles_part : (a : A) (ls : List (List ℕ)) (es : List Effect) (b : A) → Handles TakesPart a ls es b → (name b ≡ name a) × Handles takes (part a) ls es (part b)
  handles_part a [] es b h = (ap name h.0, (ap part h.0, h.1))
  handles_part a (l ∷ ls) es b h =
      let rest = handles_part h.0 ls h.2 b h.4 in
      (rest.0 ∙ h.3.0, (part h.0, h.1, h.2, h.3.1, rest.1, h.5))

  pub whole_part : (a : A) (unread before : Option (List ℕ)) (b : A) (left after : Option (List ℕ)) (tally : Tally) → Whole TakesPart a unread before b left after tally
      → (name b ≡ name a) × Whole takes (part a) unread before (part b) left after tally
  whole_part a unread before b left after tally h =
      let handled = handles_part a _ h.effects b h.handled in
      (handled.0, record { text = h.text; effects = h.effects; read = h.read; at_end = h.at_end; handled = handled.1; written = h.written; counted = h.counted })

  leaves_part : (at_end : Type 0) (text : List ℕ) (done : List (List ℕ)) (es : List Effect) (mid now : A) (cause : StopCause Stop) (tally : Tally)
      → Leaves StopsPart at_end text done es mid now cause tally → (name now ≡ name mid) × Leaves stops at_end text done es (part mid) (part now) cause tally
  leaves_part at_end text done es mid now (Run kind) tally h = (ap name h.0, (ap part h.0, h.1, h.2))
  leaves_part at_end text done es mid now (Line stop) tally h = (h.2.0, (h.0, h.1, h.2.1, h.3, h.4))

  pub broke_part : (a : A) (unread before : Option (List ℕ)) (b : A) (left after : Option (List ℕ)) (cause : StopCause Stop) (tally : Tally)
      → Broke TakesPart StopsPart a unread before b left after cause tally → (name b ≡ name a) × Broke takes stops (part a) unread before (part b) left after cause tally
  broke_part a unread before b left after cause tally h =
      let broken = h.breaks in
      let handled = handles_part a broken.done broken.effects broken.mid broken.handled in
      let leaves = leaves_part _ h.text broken.done broken.effects broken.mid b cause tally broken.leaves in (
        leaves.0 ∙ handled.0,
        record {
          text = h.text;
          read = h.read;
          breaks = record {
            done = broken.done;
            rest = broken.rest;
            effects = broken.effects;
            mid = part broken.mid;
            first_lines = broken.first_lines;
            handled = handled.1;
            within = broken.within;
            written = broken.written;
            calls = broken.calls;
            replies = broken.replies;
            leaves = leaves.1;
          };
        },
      )
