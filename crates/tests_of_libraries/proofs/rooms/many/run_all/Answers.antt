use Rattle.std.proofs.Common.{rules, subst, sym}
use Rattle.tests_of_libraries.specs.Crews.{IsCrewOf}
use Rattle.tests_of_libraries.proofs.rooms.many.run_all.Goals as goal

pub map_vec-requires-after_bounds : goal.map_vec-requires-after_bounds
map_vec-requires-after_bounds g c κs within i x less is = (search rules, subst (IsCrewOf c.args.room) (sym is) (c.requires i x less))
