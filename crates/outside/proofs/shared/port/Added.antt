-- What one pass added to a history.
use Rattle.std.proofs.Common.{◌≡◌, ℕ, List, [], ◌∷◌, ◌++◌, append-nil, sym}
use Rattle.std.proofs.lemmas.List.Elements.{All-cons, All-nil}
use Rattle.turn_lock.specs.AddedBy.{AddedBy}
use Rattle.outside.specs.declared.shared.port.port_entry.PortEntry.{PortEntry}
use Rattle.outside.specs.shared.port.Entries.{entered_by}

module _ {L : Type 0} (by : ℕ) (before : List (PortEntry L)) where
  pub one_added : (e : PortEntry L) (after : List (PortEntry L)) → after ≡ before ++ e ∷ [] → entered_by e ≡ by → AddedBy entered_by by before after
  one_added e after is own = (e ∷ [], is, All-cons (λ (entry : PortEntry L). entered_by entry ≡ by) e [] own (All-nil (λ (entry : PortEntry L). entered_by entry ≡ by)))

  pub none_added : AddedBy entered_by by before before
  none_added = ([], sym (append-nil before), All-nil (λ (entry : PortEntry L). entered_by entry ≡ by))
