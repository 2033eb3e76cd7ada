-- What a reply is made of: what became of each named partition, with a state of it where its log was asked.
use Rattle.std.specs.Prelude.{List, [], ◌∷◌}
use Rattle.audit.specs.Histories.{no_state}
use Rattle.audit.specs.LawfulCall.{by_part, part_in}
use Rattle.kanswer.specs.declared.accepted.Accepted.{Accepted}
use Rattle.kanswer.specs.Waiting.{Shown}
use Rattle.partlog.specs.State.{PartState as State}

-- with these states of those that were asked, as far as they go
abbrev pub seen_as : List Accepted → List State → List Shown
seen_as [] states = []
seen_as (became ∷ accepted) [] = record { result = became; state = no_state } ∷ seen_as accepted []
seen_as (became ∷ accepted) (state ∷ states) =
    by_part (part_in became)
    (record { result = became; state = no_state } ∷ seen_as accepted (state ∷ states))
    (record { result = became; state = state } ∷ seen_as accepted states)
