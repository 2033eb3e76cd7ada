-- Laws for the crates that play a load: how the generator goes on, and how the lines go on.
pub use Rattle.storm.proofs.Drawn.{drawn_more, none_drawn}
pub use Rattle.storm.proofs.Fronts.{front_more, lines_behind, storm_split}
