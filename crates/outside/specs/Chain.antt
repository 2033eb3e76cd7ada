-- What a chain of retired links has, the link that was retired first being first.
use Rattle.std.specs.Prelude.{ℕ, List, [], ◌∷◌, ◌++◌}
use Rattle.outside.specs.Wire.{Wire}
use Rattle.outside.specs.declared.shelf.Top.{Top}
use Rattle.outside.specs.declared.shelf.Top.TheVariants.{Bare, Link}

abbrev pub links_below : Top → List (ℕ × Wire)
links_below Bare = []
links_below (Link number link below) = below.value ++ (number, link) ∷ []
