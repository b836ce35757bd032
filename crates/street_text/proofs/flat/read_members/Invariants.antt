use Rattle.std.proofs.Common.{◌≡◌, ℕ, suc, ◌≤◌, length}
use Rattle.json.specs.Json.{members, value}
use Rattle.serde_json.specs.Data.{no_members}
use Rattle.serde_json.specs.Read.{of_members, converted}
use Rattle.street_text.specs.FlatLines.{flat_members}
use Rattle.street_text.proofs.flat.read_members.Given as goal

abbrev pub invariant-members : goal.invariant-members
invariant-members l =
    (n : ℕ) × (length l.reader ≤ n)
    × ((depth : ℕ) → converted (λ ms. of_members ms no_members) (members (value (suc depth)) (length l.initial.reader) l.initial.reader) ≡ converted (λ ms. of_members ms (flat_members l.found.items)) (members (value (suc depth)) n l.reader))

abbrev pub decreases-members : goal.decreases-members
decreases-members l = length l.reader
