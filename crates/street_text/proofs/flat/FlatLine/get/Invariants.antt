use Rattle.std.proofs.Common.{◌≡◌, ◌≤◌, length, take}
use Rattle.serde_json.specs.Find.{get_member}
use Rattle.street_text.specs.FlatLines.{flat_members}
use Rattle.street_text.proofs.flat.FlatLine.get.Given as goal

abbrev pub invariant-loop-left : goal.invariant-loop-left
invariant-loop-left l = (get_member l.name (flat_members l.self.members.items) ≡ get_member l.name (flat_members (take l.left l.self.members.items))) × (l.left ≤ length l.self.members.items)

abbrev pub decreases-loop-left : goal.decreases-loop-left
decreases-loop-left l = l.left
