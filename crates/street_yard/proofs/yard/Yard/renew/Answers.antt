use Rattle.std.proofs.Common.{◌∙◌}
use Rattle.street_yard.proofs.Renewing.{renewed-listed, renewed-within, renews}
use Rattle.street_yard.proofs.yard.Yard.renew.Goals as goal

pub insert_behind-requires-clause-list : goal.insert_behind-requires-clause-list
insert_behind-requires-clause-list c = renewed-within c.args.self.now c.unlink-list.new.self c.use_next.new.self c.args.key c.unlink-list.result.0 c.take-car.result c.unlink-list.ensures.was_whole c.unlink-list.ensures.list c.unlink-list.ensures.after c.take-car.ensures.car (c.use_next.ensures ∙ c.take-car.ensures.after)
    c.admit_with-new.new.self c.admit_with-new.result c.ahead-ahead.result c.ahead-ahead.ensures.ahead c.admit_with-new.ensures.was_vacant c.admit_with-new.ensures.updates c.admit_with-new.ensures.lists c.admit_with-new.ensures.room

pub insert_behind-requires-clause-at : goal.insert_behind-requires-clause-at
insert_behind-requires-clause-at c = renewed-listed c.args.self.now c.unlink-list.new.self c.use_next.new.self c.args.key c.unlink-list.result.0 c.take-car.result c.unlink-list.ensures.was_whole c.unlink-list.ensures.list c.unlink-list.ensures.after c.take-car.ensures.car (c.use_next.ensures ∙ c.take-car.ensures.after)
    c.admit_with-new.new.self c.admit_with-new.result c.ahead-ahead.result c.ahead-ahead.ensures.ahead c.admit_with-new.ensures.was_vacant c.admit_with-new.ensures.updates c.admit_with-new.ensures.lists c.admit_with-new.ensures.room

pub returns-clause-renews : goal.returns-clause-renews
returns-clause-renews c = renews c.args.self.now c.unlink-list.new.self c.use_next.new.self c.args.key c.unlink-list.result.0 c.take-car.result c.unlink-list.ensures.was_whole c.unlink-list.ensures.list c.unlink-list.ensures.after c.take-car.ensures.car (c.use_next.ensures ∙ c.take-car.ensures.after)
    c.admit_with-new.new.self c.admit_with-new.result c.ahead-ahead.result c.ahead-ahead.ensures.ahead c.admit_with-new.ensures.was_vacant c.admit_with-new.ensures.updates c.admit_with-new.ensures.lists c.admit_with-new.ensures.room
    c.insert_behind.new.self c.insert_behind.ensures.after
