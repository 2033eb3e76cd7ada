-- What a pass of a shared port is after a turn of the lock.
use Rattle.std.proofs.Common.{◌≡◌, ◌∙◌, ℕ, List, [], ◌∷◌, ◌++◌, drop, length, append-nil, ap, subst, sym, Result, Ok, Err}
use Rattle.std.specs.Prelude.{OnErr, OnOk}
use Rattle.std.proofs.Math.Seq.{drop-append_seam}
use Rattle.atomic_table.specs.Seated.{TableId}
use Rattle.turn_lock.specs.declared.known.Known.{Known}
use Rattle.turn_lock.specs.declared.pass.TurnPass.{TurnPass}
use Rattle.turn_lock.specs.Locks.{IsReady, known}
use Rattle.turn_lock.specs.Passes.{begun, ended}
use Rattle.turn_lock.specs.StartsWith.{StartsWith}
use Rattle.outside.specs.declared.shared.port.port_entry.PortEntry.{PortEntry}
use Rattle.outside.specs.declared.shared.port.port_entry.PortEntry.TheVariants.{Retired}
use Rattle.outside.specs.shared.port.Asked.{HasEntered, HasHandedBack}
use Rattle.outside.specs.shared.port.Desk.{Desk, entries_of, words_of}
use Rattle.outside.specs.shared.port.Entries.{HasRetired}
use Rattle.outside.specs.shared.port.Keys.{IsPortPass, pass_view, terms_in}

-- a whole turn, from the value that was found to the one that was left
pub record WasTurn {P L : Type 0} (before after : TurnPass (Desk P L) (PortEntry L)) (found left : Desk P L) : Type 0 where
  pub goes_on : StartsWith found.entries (known before).seen
  pub ticket : ℕ
  pub after_is : known after ≡ ended entries_of left (begun entries_of ticket found (known before))
  pub id : after.seat.table_id ≡ before.seat.table_id
  pub ready : IsReady after

-- the turn of a pass whose lock has this id
pub was_turn : {P L : Type 0} (id : TableId) (before amid after : TurnPass (Desk P L) (PortEntry L)) (ticket : ℕ) (value found left : Desk P L) → found ≡ value → StartsWith value.entries (known before).seen
    → known amid ≡ begun entries_of ticket value (known before) → known after ≡ ended entries_of left (known amid) → before.seat.table_id ≡ id → after.seat.table_id ≡ id → IsReady after → WasTurn before after found left
was_turn {P} {L} id before amid after ticket value found left same starts is_begun is_ended before_id after_id is_ready = record {
  goes_on = subst (λ (d : Desk P L). StartsWith d.entries (known before).seen) (sym same) starts;
  ticket = ticket;
  after_is = is_ended ∙ ap (ended entries_of left) (is_begun ∙ ap (λ (d : Desk P L). begun entries_of ticket d (known before)) (sym same));
  id = after_id ∙ sym before_id;
  ready = is_ready;
}

module _ {P L : Type 0} (number : ℕ) (before after : TurnPass (Desk P L) (PortEntry L)) (found left : Desk P L) (keeps : IsPortPass number before) (turn : WasTurn before after found left) where
  name_same : (known after).name ≡ (known before).name
  name_same = ap (λ (k : Known (PortEntry L)). k.name) turn.after_is

  -- the pass keeps what it knows
  pub keeps_still : IsPortPass number after
  keeps_still = record {
    ready = turn.ready;
    number_is = ap (λ (k : Known (PortEntry L)). k.number) turn.after_is ∙ keeps.number_is;
    name_is = name_same ∙ keeps.name_is ∙ ap (λ (ws : List ℕ). words_of (terms_in ws)) (sym name_same);
  }

  -- this was entered
  pub has_entered : (entered : List (PortEntry L) → List (PortEntry L)) → left.entries ≡ found.entries ++ entered found.entries → HasEntered entered (pass_view number before) (pass_view number after)
  has_entered entered added =
      let mine = (known before).mine in
      let seen : (known after).seen ≡ found.entries ++ entered found.entries = ap (λ (k : Known (PortEntry L)). k.seen) turn.after_is ∙ added in
      let own : (known after).mine ≡ mine ++ entered found.entries =
      ap (λ (k : Known (PortEntry L)). k.mine) turn.after_is ∙ ap (λ (es : List (PortEntry L)). mine ++ drop (length found.entries) es) added
      ∙ ap (λ (es : List (PortEntry L)). mine ++ es) (drop-append_seam found.entries (entered found.entries)) in
      record {
        found = found.entries;
        goes_on = turn.goes_on;
        after_is = λ i. record { made = turn.id i; terms = terms_in (name_same i); number = number; seen = seen i; own = own i };
      }

  -- a link was handed back, where it was
  pub handed_back : {E : Type 0} (number' : ℕ) (link : L) (answer : Result (Unit {0}) E) → OnOk answer (HasRetired number number' link found.entries left.entries) → OnOk answer (HasHandedBack number' link (pass_view number before) (pass_view number after))
  handed_back number' link (Ok x) is = (is.0, is.1, has_entered (λ es. Retired number number' is.0 ∷ []) is.2)
  handed_back number' link (Err e) is = tt

  -- nothing was entered
  pub left_alone : {T E : Type 0} (answer : Result T E) → OnErr answer (left ≡ found) → OnErr answer (HasEntered (λ es. []) (pass_view number before) (pass_view number after))
  left_alone (Ok x) is = tt
  left_alone (Err e) is = has_entered (λ es. []) (ap (λ (d : Desk P L). d.entries) is ∙ sym (append-nil found.entries))
