use Rattle.std.proofs.Common.{◌≡◌, drop}
use Rattle.serde_json.specs.Data.{no_members}
use Rattle.serde_json.specs.View.{members_view}
use Rattle.street_text.specs.Members.{put_all}
use Rattle.street_text.proofs.members.object_value.Given as goal

abbrev pub invariant-loop-key : goal.invariant-loop-key
invariant-loop-key l = put_all (drop l.key-index l.members) (members_view l.found.entries) ≡ put_all l.members no_members
