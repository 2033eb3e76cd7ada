use Rattle.tests_of_libraries.proofs.Crews.{back, front}
use Rattle.tests_of_libraries.proofs.rooms.crew.halves.Goals as goal

pub returns : goal.returns
returns c =
    let room = c.args.room.now in
    let hands = c.crew.inside.hands.items in
    let sources = c.crew.inside.sources.items in (
      front room hands sources c.args.crew c.crew.view_is c.requires _ _ c.split_off.new.self.items c.split_off-2.new.self.items c.in_ok-others.ensures.items c.in_ok-rest.ensures.items,
      back room hands sources c.args.crew c.crew.view_is c.requires _ _ c.in_ok-others.others.items c.in_ok-rest.rest.items c.in_ok-others.ensures.tail c.in_ok-rest.ensures.tail,
    )
