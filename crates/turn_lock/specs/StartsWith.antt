-- A history only grows: what is seen of it once is its beginning from then on.
use Rattle.std.specs.Prelude.{◌≡◌, List, ◌++◌}

-- the history begins with what was seen
abbrev pub StartsWith : {E : Type 0} → List E → List E → Type 0
StartsWith {E} log seen = (rest : List E) × (log ≡ seen ++ rest)
