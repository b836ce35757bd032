use Rattle.std.proofs.Common.{◌≡◌, ◌∙◌, [], rules, arith, drop}
use Rattle.std.proofs.Math.ListN.{drop_of_length-le}
use Rattle.serde_json.specs.Data.{no_members}
use Rattle.serde_json.specs.View.{members_view}
use Rattle.serde_json.specs.declared.value.Value.{the_lemmas}
use Rattle.street_text.specs.Members.{put_all}
use Rattle.street_text.proofs.Puts.{one_more_member}
use Rattle.street_text.proofs.members.object_value.Goals as goal

pub loop-key-preserved : goal.loop-key-preserved
loop-key-preserved c =
    let e = one_more_member c.args.members.now c.loop-key.key-index c.loop-key-item.result (members_view c.loop-key.found.entries) (members_view c.put_member.new.found.entries)
    c.loop-key-test.true (rw (← c.loop-key-item.is) c.in_ok-put_member.ensures) in
    e ∙ c.loop-key.invariant

pub returns : goal.returns
returns c =
    let over : drop c.loop-key.key-index c.args.members.now ≡ [] = drop_of_length-le c.args.members.now (omega arith) in
    let same : members_view c.loop-key.found.entries ≡ put_all c.args.members.now no_members = rw over at c.loop-key.invariant in
    search (rules, the_lemmas, same)
