-- The facts of a sound state, of a state.
use Rattle.std.proofs.Common.{ℕ}
use Rattle.room_core.specs.declared.parts.Entry.{Entry}
use Rattle.room_core.specs.Sound as sound
use Rattle.room_core.specs.State.{State}

abbrev pub ValuesAreSound : State → Type 0
ValuesAreSound s = sound.ValuesAreSound s.shape s.value s.asked s.begun s.source s.scanner

abbrev pub DebtsAreSound : State → Type 0
DebtsAreSound s = sound.DebtsAreSound s.asked s.begun s.caller s.scanner

abbrev pub ReadingsAreSound : State → Type 0
ReadingsAreSound s = sound.ReadingsAreSound s.value s.caller s.scanner

abbrev pub OwnersAreSound : State → Type 0
OwnersAreSound s = sound.OwnersAreSound s.shape s.session s.description s.caller

abbrev pub GenerationsAreSound : State → Type 0
GenerationsAreSound s = sound.GenerationsAreSound s.session s.description s.marks s.caller s.scanner

abbrev pub ListingsAreSound : State → Type 0
ListingsAreSound s = sound.ListingsAreSound s.shape s.session s.description s.marks s.caller s.scanner

abbrev pub WinsAreSound : State → Type 0
WinsAreSound s = sound.WinsAreSound s.session s.caller s.scanner

abbrev pub IsListed : State → ℕ → ℕ → Type 0
IsListed s = sound.IsListed s.shape s.scanner s.session

abbrev pub IsRightEntry : State → ℕ → ℕ → Entry → Type 0
IsRightEntry s = sound.IsRightEntry s.shape s.description
