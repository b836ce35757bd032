-- Members that are put one after another.
use Rattle.std.proofs.Common.{◌≡◌, ℕ, ◌+◌, ◌<◌, List, length, drop, get_or, sym, ap, ◌∙◌}
use Rattle.std.specs.Borrow.{Bor}
use Rattle.std.proofs.lemmas.List.{at_drop_more}
use Rattle.serde_json.specs.Data.{Members}
use Rattle.street_text.specs.declared.members.Member.{Member}
use Rattle.street_text.specs.Members.{put_member, put_all}

pub one_more_member : (ms : List (Bor (List ℕ) × Member)) (i : ℕ) (d : Bor (List ℕ) × Member) (found more : Members) → i < length ms
    → more ≡ put_member (get_or ms i d).0.now (get_or ms i d).1 found → put_all (drop (i + 1) ms) more ≡ put_all (drop i ms) found
one_more_member ms i d found more within is = sym (at_drop_more (λ rest. put_all rest found) ms i d within ∙ ap (put_all (drop (i + 1) ms)) (sym is))
