-- Where each word of the room stands in the table. With G gauges the values come first, then what is asked, then what is begun,
-- G words each. Then each pass has 261 words: its session word, the 195 of its description, and its 65 marks.
use Rattle.std.specs.Prelude.{ℕ, ◌+◌, ◌*◌}
use Rattle.room_core.specs.declared.shape.Shape.{Shape}
use Rattle.room_core.specs.declared.word.Word.{Word}

abbrev pub place_of : Shape → Word → ℕ
place_of shape (Word.Value gauge) = gauge
place_of shape (Word.Asked gauge) = shape.gauges + gauge
place_of shape (Word.Begun gauge) = 2 * shape.gauges + gauge
place_of shape (Word.Session pass) = 3 * shape.gauges + 261 * pass
place_of shape (Word.Description pass at) = 3 * shape.gauges + 261 * pass + 1 + at
place_of shape (Word.Mark pass at) = 3 * shape.gauges + 261 * pass + 196 + at

-- how many words there are
abbrev pub size_of : Shape → ℕ
size_of shape = 3 * shape.gauges + 261 * shape.passes
