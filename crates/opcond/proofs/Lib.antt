-- tallies, need by need
pub mod Tallies
