-- The closed logs go on from what each pass saw, and it left nothing behind that.
use Rattle.std.proofs.Common.{◌≡◌, ◌≢◌, ◌∙◌, ℕ, zero, suc, List, [], ◌∷◌, Some, length, map, ap, refl, subst, sym}
use Rattle.std.specs.Prelude.{All, slice_get, slice_index, unwrap_or}
use Rattle.std.specs.List.{AllByRecursion, flat_map}
use Rattle.std.proofs.lemmas.Grind.{flat_map-append}
use Rattle.std.proofs.lemmas.List.{length-map, map-append}
use Rattle.std.proofs.lemmas.List.Elements.{All-head, All-tail}
use Rattle.partlog.specs.declared.clock_event.ClockEvent.{ClockEvent}
use Rattle.partlog.specs.History.{History}
use Rattle.partlog.specs.Kept.{IsKept}
use Rattle.audit.specs.Histories.{clock_owner_of}
use Rattle.audit.specs.broker.GoesOn.{Longer}
use Rattle.audit.specs.broker.Timely.{pass_of}
use Rattle.audit.specs.broker.books.Owned.{NotOf, OthersAlone}
use Rattle.audit.proofs.broker.books.Laws.{others_behind}
use Rattle.turn_lock.specs.declared.pass.TurnPass.{TurnPass}
use Rattle.turn_lock.specs.Locks.{known}
use Rattle.turn_lock.specs.OfPass.{of_pass}
use Rattle.shared_logs.specs.declared.entries.ClockEntry.{ClockEntry}
use Rattle.shared_logs.specs.declared.entries.LogEntry.{LogEntry}
use Rattle.shared_logs.specs.Desks.{MomentView, PartView}
use Rattle.shared_logs.specs.Entries.{clock_by, clock_entries, entry_by, log_entries}
use Rattle.shared_logs.specs.Histories.{events_of}
use Rattle.shared_logs.proofs.Beside.{bytes_in, entries_bytes, entries_events, event_in}
use Rattle.room_table.specs.Seats.{SourceView}
use Rattle.shared_logs.specs.Coming.{OthersCame}
use Rattle.shared_logs.specs.Gone.{AreTold, IsTold}
use Rattle.shared_logs.specs.Locked.{IsHand, seen_part}
use Rattle.shared_logs.specs.Turned.{HasFound, moment_entries}
use Rattle.shared_logs.proofs.Passes.{came_of}
use Rattle.shared_logs.proofs.Telling.{clock_found, clock_others, left_by_others}

module _ {T E : Type 0} (by : E → ℕ) (number : ℕ) (entries : List E) (pass : TurnPass T E) (hand : IsHand by number pass) (told : IsTold by entries pass) where
  -- what stands behind what the pass saw is others'
  told_others : AllByRecursion (λ e. by e ≢ number) told.seen.0
  told_others =
      let mine : of_pass by number entries ≡ (known pass).mine = ap (λ n. of_pass by n entries) (sym hand.number_is) ∙ told.mine in
      others_behind by number (known pass).seen told.seen.0 (ap (of_pass by number) (sym told.seen.1) ∙ mine ∙ sym hand.own)

-- a partition's log goes on from what a pass saw of it
part_told : (number : ℕ) (h : History) (pass : TurnPass PartView LogEntry) → IsHand entry_by number pass → IsTold entry_by (log_entries h) pass → IsKept h.log h.events → h.followers ≡ slice_index (known pass).name 0
    → (longer : Longer (seen_part pass) h) × AllByRecursion (λ event. pass_of event ≢ number) longer.more
part_told number h pass hand told kept followers = (
  record {
    followers = followers;
    more = map event_in told.seen.0;
    bytes = flat_map bytes_in told.seen.0;
    events = sym (entries_events h.events h.log) ∙ ap (map event_in) told.seen.1 ∙ map-append event_in (known pass).seen told.seen.0;
    log = sym (entries_bytes h.events h.log kept.whole) ∙ ap (flat_map bytes_in) told.seen.1 ∙ flat_map-append bytes_in (known pass).seen told.seen.0;
  },
  left_by_others number told.seen.0 (told_others entry_by number (log_entries h) pass hand told),
)

first_or : ℕ → List ℕ → ℕ
first_or d [] = d
first_or d (n ∷ ns) = n

rest_of : List ℕ → List ℕ
rest_of [] = []
rest_of (n ∷ ns) = ns

-- all partitions' logs do
parts_told : (number : ℕ) (logs : List History) (passes : List (TurnPass PartView LogEntry)) → AreTold logs passes → All (IsHand entry_by number) passes → All (λ (h : History). IsKept h.log h.events) logs
    → map (λ (h : History). h.followers) logs ≡ map (λ (pass : TurnPass PartView LogEntry). slice_index (known pass).name 0) passes
    → (p : ℕ) (h : History) → slice_get (map seen_part passes) p ≡ Some h
    → (l : History) × (slice_get logs p ≡ Some l) × (longer : Longer h l) × AllByRecursion (λ event. pass_of event ≢ number) longer.more
unfolding first_or rest_of
parts_told number [] [] told hands kept names p h at = absurd cc
parts_told number [] (pass ∷ passes) told hands kept names p h at = absurd told
parts_told number (l ∷ logs) [] told hands kept names p h at = absurd told
parts_told number (l ∷ logs) (pass ∷ passes) told hands kept names zero h at =
    let K : History → Type 0 = λ x. IsKept x.log x.events in
    let here = part_told number l pass (All-head (IsHand entry_by number) pass passes hands) told.0 (All-head K l logs kept) (ap (first_or 0) names) in
    subst (λ (x : History). (m : History) × (Some l ≡ Some m) × (longer : Longer x m) × AllByRecursion (λ event. pass_of event ≢ number) longer.more) (ap (λ o. unwrap_or o h) at) (l, refl, here.0, here.1)
parts_told number (l ∷ logs) (pass ∷ passes) told hands kept names (suc p) h at =
    let K : History → Type 0 = λ x. IsKept x.log x.events in
    parts_told number logs passes told.1 (All-tail (IsHand entry_by number) pass passes hands) (All-tail K l logs kept) (ap rest_of names) p h at

pub told_count : (logs : List History) (passes : List (TurnPass PartView LogEntry)) → AreTold logs passes → length logs ≡ length passes
told_count [] [] told = refl
told_count [] (pass ∷ passes) told = absurd told
told_count (l ∷ logs) [] told = absurd told
told_count (l ∷ logs) (pass ∷ passes) told = ap suc (told_count logs passes told.1)

-- others came to all that a pass saw
module _ (number : ℕ) (logs : List History) (passes : List (TurnPass PartView LogEntry)) (told : AreTold logs passes) (hands : All (IsHand entry_by number) passes) (kept : All (λ (h : History). IsKept h.log h.events) logs)
    (names : map (λ (h : History). h.followers) logs ≡ map (λ (pass : TurnPass PartView LogEntry). slice_index (known pass).name 0) passes)
    (clock : TurnPass MomentView ClockEntry) (hand : IsHand clock_by number clock) (events : List ClockEvent) (tickers : List ℕ) (source : SourceView) (clock_told : IsTold clock_by (clock_entries events tickers) clock) where
  pub others_told : OthersCame number (map seen_part passes) (events_of (known clock).seen) logs events
  others_told =
      let found : HasFound moment_entries clock_by (known clock) (record { events = events; tickers = tickers; source = source }) = record { seen = clock_told.seen; own = clock_told.mine } in
      let desk_is : MomentView = record { events = events; tickers = tickers; source = source } in
      let own : of_pass clock_by (known clock).number (known clock).seen ≡ (known clock).mine = ap (λ n. of_pass clock_by n (known clock).seen) hand.number_is ∙ hand.own in
      let alone : OthersAlone number (map seen_part passes) (events_of (known clock).seen) logs events =
      record {
        each = parts_told number logs passes told hands kept names;
        more = map (λ (entry : ClockEntry). entry.event) found.seen.0;
        events = clock_found (known clock) desk_is found;
        others = subst (λ n. AllByRecursion (λ event. NotOf n (clock_owner_of event)) (map (λ (entry : ClockEntry). entry.event) found.seen.0)) hand.number_is (clock_others (known clock) desk_is found own);
      } in
      came_of number (map seen_part passes) logs (events_of (known clock).seen) events alone (told_count logs passes told ∙ sym (length-map passes seen_part))
