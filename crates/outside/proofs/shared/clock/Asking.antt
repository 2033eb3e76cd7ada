-- What a pass of a shared clock is after a turn of the lock.
use Rattle.std.proofs.Common.{◌≡◌, ◌≤◌, ℕ, List, ◌++◌, drop, length, Result, Ok, Err, ap, subst, sym, ◌∙◌, arith, append-nil}
use Rattle.std.specs.Prelude.{OnErr}
use Rattle.std.proofs.Math.Seq.{drop-append_seam, drop-length}
use Rattle.atomic_table.specs.Seated.{TableId}
use Rattle.turn_lock.specs.declared.known.Known.{Known}
use Rattle.turn_lock.specs.declared.pass.TurnPass.{TurnPass}
use Rattle.turn_lock.specs.Locks.{IsReady, known}
use Rattle.turn_lock.specs.Passes.{begun, ended}
use Rattle.turn_lock.specs.StartsWith.{StartsWith}
use Rattle.outside.specs.declared.shared.clock.told_moment.ToldMoment.{ToldMoment}
use Rattle.outside.specs.shared.clock.Asked.{HasSeen, WasTold}
use Rattle.outside.specs.shared.clock.Desk.{Desk, told_of}
use Rattle.outside.specs.shared.clock.Keys.{IsClockPass, pass_view}
use Rattle.outside.specs.shared.clock.Moments.{entry_of, greatest}
use Rattle.outside.proofs.shared.clock.Greatest.{greatest-front, greatest_seen}

pub on_err : {T E P : Type 0} (r : Result T E) → P → OnErr r P
on_err (Ok x) p = tt
on_err (Err e) p = p

-- a whole turn, from the value that was found to the one that was left
pub record WasTurn {C : Type 0} (before after : TurnPass (Desk C) ToldMoment) (found left : Desk C) : Type 0 where
  pub goes_on : StartsWith found.told (known before).seen
  pub ticket : ℕ
  pub after_is : known after ≡ ended told_of left (begun told_of ticket found (known before))
  pub id : after.seat.table_id ≡ before.seat.table_id
  pub ready : IsReady after

-- the turn of a pass whose lock has this id
pub was_turn : {C : Type 0} (id : TableId) (before amid after : TurnPass (Desk C) ToldMoment) (ticket : ℕ) (value found left : Desk C) → found ≡ value → StartsWith value.told (known before).seen
    → known amid ≡ begun told_of ticket value (known before) → known after ≡ ended told_of left (known amid) → before.seat.table_id ≡ id → after.seat.table_id ≡ id → IsReady after → WasTurn before after found left
was_turn {C} id before amid after ticket value found left same starts is_begun is_ended before_id after_id is_ready = record {
  goes_on = subst (λ (d : Desk C). StartsWith d.told (known before).seen) (sym same) starts;
  ticket = ticket;
  after_is = is_ended ∙ ap (ended told_of left) (is_begun ∙ ap (λ (d : Desk C). begun told_of ticket d (known before)) (sym same));
  id = after_id ∙ sym before_id;
  ready = is_ready;
}

module _ {C : Type 0} (number told : ℕ) (before after : TurnPass (Desk C) ToldMoment) (found left : Desk C) (keeps : IsClockPass number before told) (turn : WasTurn before after found left) where
  -- what was told is among what was found
  pub told_found : told ≤ greatest found.told
  told_found = let seen = greatest_seen found.told (known before).seen turn.goes_on in omega (arith, seen, keeps.told_is)

  -- the pass keeps what it knows, where the history went on
  pub keeps_still : (own : List ToldMoment) → left.told ≡ found.told ++ own → IsClockPass number after told
  keeps_still own added =
      let front = greatest-front found.told own in
      record {
        ready = turn.ready;
        number_is = ap (λ (k : Known ToldMoment). k.number) turn.after_is ∙ keeps.number_is;
        name_is = ap (λ (k : Known ToldMoment). k.name) turn.after_is ∙ keeps.name_is;
        told_is = subst (λ (es : List ToldMoment). told ≤ greatest es) (sym (ap (λ (k : Known ToldMoment). k.seen) turn.after_is ∙ added)) (omega (arith, front, told_found));
      }

  -- nothing was entered
  pub has_seen : left.told ≡ found.told → HasSeen (pass_view number before told) (pass_view number after told)
  has_seen same =
      let mine = (known before).mine in
      let seen : (known after).seen ≡ found.told = ap (λ (k : Known ToldMoment). k.seen) turn.after_is ∙ same in
      let own : (known after).mine ≡ mine =
      ap (λ (k : Known ToldMoment). k.mine) turn.after_is ∙ ap (λ (es : List ToldMoment). mine ++ drop (length found.told) es) same
      ∙ ap (λ (es : List ToldMoment). mine ++ es) (drop-length found.told) ∙ append-nil mine in
      record {
        goes_on = subst (λ (es : List ToldMoment). StartsWith es (known before).seen) (sym seen) turn.goes_on;
        after_is = λ i. record { made = turn.id i; number = number; told = told; seen = (known after).seen; own = own i };
      }

  -- the pass was told a moment, which was entered where it is above all others
  pub was_told : (moment : ℕ) → left.told ≡ found.told ++ entry_of number moment found.told → greatest found.told ≤ moment → WasTold moment (pass_view number before told) (pass_view number after moment)
  was_told moment added above =
      let mine = (known before).mine in
      let entry = entry_of number moment found.told in
      let seen : (known after).seen ≡ found.told ++ entry = ap (λ (k : Known ToldMoment). k.seen) turn.after_is ∙ added in
      let own : (known after).mine ≡ mine ++ entry =
      ap (λ (k : Known ToldMoment). k.mine) turn.after_is ∙ ap (λ (es : List ToldMoment). mine ++ drop (length found.told) es) added
      ∙ ap (λ (es : List ToldMoment). mine ++ es) (drop-append_seam found.told entry) in
      record {
        found = found.told;
        goes_on = turn.goes_on;
        later = omega (arith, told_found, above);
        above = above;
        after_is = λ i. record { made = turn.id i; number = number; told = moment; seen = seen i; own = own i };
      }
