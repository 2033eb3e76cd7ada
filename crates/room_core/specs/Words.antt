-- The words of the room, which all threads see, as numbers.
use Rattle.std.specs.Prelude.{ℕ, ◌<◌}
use Rattle.room_core.specs.Numbers.{description_words, marks_count}
use Rattle.room_core.specs.declared.shape.Shape.{Shape}
use Rattle.room_core.specs.declared.word.Word.{Word}
use Rattle.room_core.specs.Gauges.{IsGauge, IsPass}
use Rattle.room_core.specs.Packing.{packed}
use Rattle.room_core.specs.State.{State}

-- the shape has the word
abbrev pub IsWord : Shape → Word → Type 0
IsWord shape (Word.Value gauge) = IsGauge shape gauge
IsWord shape (Word.Asked gauge) = IsGauge shape gauge
IsWord shape (Word.Begun gauge) = IsGauge shape gauge
IsWord shape (Word.Session pass) = IsPass shape pass
IsWord shape (Word.Description pass at) = IsPass shape pass × (at < description_words)
IsWord shape (Word.Mark pass at) = IsPass shape pass × (at < marks_count)

abbrev pub word_at : State → Word → ℕ
word_at s (Word.Value gauge) = s.value gauge
word_at s (Word.Asked gauge) = s.asked gauge
word_at s (Word.Begun gauge) = s.begun gauge
word_at s (Word.Session pass) = packed (s.session pass)
word_at s (Word.Description pass at) = s.description pass at
word_at s (Word.Mark pass at) = s.marks pass at
