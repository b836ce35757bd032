-- What a writer of rows was given, from one call to the next.
use Rattle.std.proofs.Common.{◌≡◌, ℕ, true, false, List, [], ◌∷◌, ◌++◌, subst, Option, take, drop, sym, ap, ◌∙◌, append_assoc, append-nil, take-append-drop}
use Rattle.std.specs.Io.KnownBytes.{Appends}
use Rattle.std.proofs.KnownBytes.{Appends-trans}
use Rattle.std.specs.List.{FoldsTo}
use Rattle.street_base.specs.declared.record.RecordRow.{RecordRow}
use Rattle.street_base.specs.Prelude.{row_bytes, rows_bytes}
use Rattle.street_record.specs.Given.{WriterView, IsGiven, Adds}

module _ {W : Type 0} (contents : W → Option (List ℕ)) (start : Option (List ℕ)) (given : List ℕ) (old new : WriterView W) (a : IsGiven contents start given old) where
  -- a write took the first of what waited, and failed
  pub given-cut : (sent : ℕ) → old.has_failed ≡ false → Appends (contents old.writer.stream) (contents new.writer.stream) (take sent old.waiting) → new.has_failed ≡ true → IsGiven contents start given new
  given-cut sent was part failed = record {
    out = a.out ++ take sent old.waiting;
    rest = drop sent old.waiting;
    written = Appends-trans start (contents old.writer.stream) (contents new.writer.stream) a.out (take sent old.waiting) a.written part;
    split =
        a.split ∙ ap (λ l. a.out ++ l) (a.waits was ∙ sym (take-append-drop sent old.waiting))
        ∙ sym (append_assoc a.out (take sent old.waiting) (drop sent old.waiting));
    waits = λ none. (let bad : ◌≡◌ true false = sym failed ∙ none in absurd (cc));
  }

  -- all that waited was written
  pub given-out : old.has_failed ≡ false → Appends (contents old.writer.stream) (contents new.writer.stream) old.waiting → new.waiting ≡ [] → IsGiven contents start given new
  given-out was all empty = record {
    out = a.out ++ old.waiting;
    rest = [];
    written = Appends-trans start (contents old.writer.stream) (contents new.writer.stream) a.out old.waiting a.written all;
    split = a.split ∙ ap (λ l. a.out ++ l) (a.waits was) ∙ sym (append-nil (a.out ++ old.waiting));
    waits = λ _. sym empty;
  }

  module _ (bytes : List ℕ) (same : new.writer ≡ old.writer) where
    -- more came, and was lost
    pub given-lost : new.has_failed ≡ true → IsGiven contents start (given ++ bytes) new
    given-lost failed = record {
      out = a.out;
      rest = a.rest ++ bytes;
      written = rw same a.written;
      split = ap (λ l. l ++ bytes) a.split ∙ append_assoc a.out a.rest bytes;
      waits = λ none. (let bad : ◌≡◌ true false = sym failed ∙ none in absurd (cc));
    }

    -- more came, and waits
    pub given-more : old.has_failed ≡ false → new.waiting ≡ old.waiting ++ bytes → IsGiven contents start (given ++ bytes) new
    given-more was more = record {
      out = a.out;
      rest = a.rest ++ bytes;
      written = rw same a.written;
      split = ap (λ l. l ++ bytes) a.split ∙ append_assoc a.out a.rest bytes;
      waits = λ _. ap (λ l. l ++ bytes) (a.waits was) ∙ sym more;
    }

-- rows that are given one after another are given as their bytes
pub given-rows : {W : Type 0} (contents : W → Option (List ℕ)) (old new : WriterView W) (rows : List RecordRow) → FoldsTo (λ (a : WriterView W) (row : RecordRow) (b : WriterView W). Adds contents (row_bytes row) a b) old rows new → Adds contents (rows_bytes rows) old new
given-rows contents old new [] same start given a = rw append-nil (subst (IsGiven contents start given) same a)
given-rows contents old new (row ∷ rows) calls start given a =
    rw (← append_assoc given (row_bytes row) (rows_bytes rows))
    (given-rows contents calls.0 new rows calls.2 start (given ++ row_bytes row) (calls.1 start given a))

-- where no write failed and nothing waits, the writer has all that was given
pub all-out : {W : Type 0} (contents : W → Option (List ℕ)) (start : Option (List ℕ)) (given : List ℕ) (w : WriterView W) → IsGiven contents start given w → w.has_failed ≡ false → w.waiting ≡ [] → Appends start (contents w.writer.stream) given
all-out contents start given w a none empty =
    let all : given ≡ a.out = a.split ∙ ap (λ l. a.out ++ l) (a.waits none ∙ empty) ∙ append-nil a.out in
    rw all a.written
