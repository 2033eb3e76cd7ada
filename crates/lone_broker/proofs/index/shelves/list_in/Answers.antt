use Rattle.lone_broker.proofs.index.Watchers.{listed_in, only_in}
use Rattle.lone_broker.proofs.index.shelves.list_in.Goals as goal

pub returns-clause-listed : goal.returns-clause-listed
returns-clause-listed c =
    listed_in c.args.shard.now c.make_room.new.shard c.list.new.self c.args.key c.args.session c.args.live.now c.make_room.ensures.fewer c.make_room.ensures.kept c.list.ensures.listed c.list.ensures.others

pub returns-clause-within : goal.returns-clause-within
returns-clause-within c =
    only_in c.args.shard.now c.make_room.new.shard c.list.new.self c.args.key c.args.session c.args.live.now c.make_room.ensures.fewer c.make_room.ensures.kept c.list.ensures.listed c.list.ensures.others
