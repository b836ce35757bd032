use Rattle.std.proofs.Common.{◌≡◌, ◌∙◌, ◌+◌, length, get_or, ap, arith, vec_len}
use Rattle.street_team.proofs.Moved.{moved_back, moved_front}
use Rattle.street_team.proofs.block.ItemBlock.fill.Goals as goal

pub loop-preserved : goal.loop-preserved
loop-preserved g c =
    let m = vec_len c.take_last-item.new.self in
    let long : length c.take_last-item.new.self.items ≡ m = omega arith in
    let few : length c.loop.self.items.items ≡ c.loop.counter = omega arith in
    let more : vec_len c.loop.items ≡ m + 1 = omega arith in
    record {
      len = omega arith;
      taken = omega arith;
      room = omega arith;
      enough = c.loop.invariant.enough;
      capacity = c.take_last-item.ensures.capacity ∙ c.loop.invariant.capacity;
      shown = c.loop.invariant.shown;
      front = moved_front c.args.items.now.items c.loop.items.items c.take_last-item.new.self.items c.take_last-item.result m c.take_last-item.ensures.items long
          (λ i d h. c.loop.invariant.front i d (omega arith));
      back = moved_back c.args.items.now.items c.loop.items.items c.take_last-item.new.self.items c.loop.self.items.items c.push_reserved.new.self.items c.take_last-item.result m c.loop.counter
          c.take_last-item.ensures.items c.push_reserved.ensures.items long few (λ i d h. c.loop.invariant.front i d (omega arith))
          (λ j k d h. c.loop.invariant.back j k d h ∙ ap (λ i. get_or c.args.items.now.items (i + k) d) more);
    }
