-- What a whole turn of a lock tells of the histories.
use Rattle.std.proofs.Common.{◌≡◌, ◌≢◌, ℕ, Bool, cond, eqb, eq-eqb, List, [], ◌∷◌, ◌++◌, drop, length, map, Option, Some, None, Result, Ok, Err, refl, sym, ap, subst, ◌∙◌}
use Rattle.std.proofs.Math.Seq.{drop-append_seam}
use Rattle.std.proofs.lemmas.Grind.{flat_map-append}
use Rattle.std.proofs.lemmas.List.{map-append}
use Rattle.std.proofs.lemmas.List.Elements.{filter-append, recursion_from_All}
use Rattle.std.specs.List.{AllByRecursion, flat_map}
use Rattle.std.specs.Prelude.{All, IfOk, OnErr, OnOk, slice_index}
use Rattle.partlog.specs.declared.clock_event.ClockEvent.{ClockEvent}
use Rattle.partlog.specs.declared.clock_event.ClockEvent.TheVariants as clocks
use Rattle.partlog.specs.Kept.{IsKept}
use Rattle.audit.specs.Histories.{Owner, clock_owner_of}
use Rattle.audit.specs.broker.GoesOn.{Longer, the_owner}
use Rattle.audit.specs.broker.Timely.{pass_of}
use Rattle.audit.specs.broker.books.Owned.{NotOf}
use Rattle.audit.proofs.broker.books.Laws.{others_behind}
use Rattle.room_table.specs.Seats.{TableView}
use Rattle.purgatory.specs.scans.Desks.{desk_name}
use Rattle.purgatory.proofs.scans.Laws.{name_number, name_table}
use Rattle.turn_lock.specs.declared.known.Known.{Known}
use Rattle.turn_lock.specs.OfPass.{of_pass}
use Rattle.shared_logs.specs.declared.entries.ClockEntry.{ClockEntry}
use Rattle.shared_logs.specs.declared.entries.LogEntry.{LogEntry}
use Rattle.shared_logs.specs.Desks.{MomentView, PartView, moment_name, part_name}
use Rattle.shared_logs.specs.Entries.{clock_by, clock_entries, entry_by}
use Rattle.shared_logs.specs.Histories.{events_of, history_of}
use Rattle.shared_logs.proofs.Beside.{bytes_in, clock_events, entries_bytes, entries_events, event_in, history_told}
use Rattle.shared_logs.specs.Turned.{HasFound, HasLeft, WasClockTurn, WasPartTurn, moment_entries, part_entries}

-- what Ok says, said of what follows from it
pub if_ok : {T E : Type 0} {P Q : T → Type 0} (r : Result T E) → IfOk r P → ((x : T) → P x → Q x) → IfOk r Q
if_ok (Ok x) p f = f x p
if_ok (Err e) p f = p

pub if_ok_both : {T E : Type 0} {P Q R : T → Type 0} (r : Result T E) → IfOk r P → IfOk r Q → ((x : T) → P x → Q x → R x) → IfOk r R
if_ok_both (Ok x) p q f = f x p q
if_ok_both (Err e) p q f = p

pub if_ok_with : {T E A : Type 0} {P R : T → Type 0} (r : Result T E) → OnOk r A → IfOk r P → (A → (x : T) → P x → R x) → IfOk r R
if_ok_with (Ok x) a p f = f a x p
if_ok_with (Err e) a p f = p

pub if_ok_three : {T E A : Type 0} {P Q R : T → Type 0} (r : Result T E) → OnOk r A → IfOk r P → IfOk r Q → (A → (x : T) → P x → Q x → R x) → IfOk r R
if_ok_three (Ok x) a p q f = f a x p q
if_ok_three (Err e) a p q f = p

pub on_err : {T E A B : Type 0} (r : Result T E) → OnErr r A → (A → B) → OnErr r B
on_err (Ok x) a f = a
on_err (Err e) a f = f a

-- what is so in any case, said of Err
pub any_err : {T E A : Type 0} (r : Result T E) → A → OnErr r A
any_err (Ok x) a = tt
any_err (Err e) a = a

pub err_is : {T E A : Type 0} (r : Result T E) (e : E) → r ≡ Err e → OnErr r A → A
err_is {T = T} {E = E} {A = A} r e is a = subst (λ (x : Result T E). OnErr x A) is a

pub ok_is : {T E : Type 0} (P : T → Type 0) (r : Result T E) (x : T) → r ≡ Ok x → IfOk r P → P x
ok_is {T = T} {E = E} P r x is p = subst (λ (y : Result T E). IfOk y P) is p

-- what holds either way
pub by_result : {T E A C : Type 0} {P : T → Type 0} (r : Result T E) → IfOk r P → OnErr r A → ((x : T) → P x → C) → (A → C) → C
by_result (Ok x) p a f h = f x p
by_result (Err e) p a f h = h a

-- ---- names

abbrev rest : List ℕ → List ℕ
rest [] = []
rest (x ∷ xs) = xs

-- a desk whose name is that of the partition of this number
pub part_is : (desk : PartView) (table : TableView) (followers part : ℕ) → part_name desk ≡ followers ∷ desk_name table part → desk.part ≡ part
part_is desk table followers part e = name_number desk.sources.high.table table desk.part part (ap rest e)

pub room_is : (desk : PartView) (table : TableView) (followers part : ℕ) → part_name desk ≡ followers ∷ desk_name table part → desk.sources.high.table ≡ table
room_is desk table followers part e = name_table desk.sources.high.table table desk.part part (ap rest e)

pub followers_are : (desk : PartView) (name : List ℕ) → part_name desk ≡ name → desk.history.followers ≡ slice_index name 0
followers_are desk name e = ap (λ (n : List ℕ). slice_index n 0) e

pub clock_room_is : (desk : MomentView) (table : TableView) (gauge : ℕ) → moment_name desk ≡ desk_name table gauge → desk.source.table ≡ table
clock_room_is desk table gauge e = name_table desk.source.table table desk.source.gauge gauge e

-- ---- entries of a pass

module _ {E : Type 0} (by : E → ℕ) (number : ℕ) where
  keeps_all : (es : List E) → AllByRecursion (λ e. by e ≡ number) es → of_pass by number es ≡ es
  keeps_all [] own = refl
  keeps_all (e ∷ es) own =
      ap (λ (b : Bool). cond b (e ∷ of_pass by number es) (of_pass by number es)) (eq-eqb (by e) number own.0)
      ∙ ap (λ (xs : List E). e ∷ xs) (keeps_all es own.1)

  -- with entries of its own behind those that were found
  own_more : (found own mine : List E) → of_pass by number found ≡ mine → All (λ e. by e ≡ number) own
      → of_pass by number (found ++ own) ≡ mine ++ drop (length found) (found ++ own)
  own_more found own mine was all =
      filter-append (λ (e : E). eqb (by e) number) found own
      ∙ ap (λ (xs : List E). xs ++ of_pass by number own) was
      ∙ ap (λ (xs : List E). mine ++ xs) (keeps_all own (recursion_from_All (λ (e : E). by e ≡ number) own all) ∙ sym (drop-append_seam found own))

module _ {T E : Type 0} (entries : T → List E) (by : E → ℕ) (before after : Known E) (found left : T) (turn : HasLeft entries by before after found left) where
  -- the pass knows which entries are its own
  pub own_after : of_pass by after.number after.seen ≡ after.mine
  own_after =
      let own = turn.added.0 in
      let M : List E → Type 0 = λ es. of_pass by before.number es ≡ before.mine ++ drop (length (entries found)) es in
      subst (λ (k : Known E). of_pass by k.number k.seen ≡ k.mine) (sym turn.after_is)
      (subst M (sym turn.added.1) (own_more by before.number (entries found) own before.mine turn.found_is.own turn.added.2))

  pub number_after : after.number ≡ before.number
  number_after = ap (λ (k : Known E). k.number) turn.after_is

  pub name_after : after.name ≡ before.name
  name_after = ap (λ (k : Known E). k.name) turn.after_is

  pub seen_after : after.seen ≡ entries left
  seen_after = ap (λ (k : Known E). k.seen) turn.after_is

-- a value that was found: the entries behind those that were seen are others'
module _ {T E : Type 0} (entries : T → List E) (by : E → ℕ) (before : Known E) (found : T) (is : HasFound entries by before found) where
  pub others_came : of_pass by before.number before.seen ≡ before.mine → AllByRecursion (λ e. by e ≢ before.number) is.seen.0
  others_came own =
      others_behind by before.number before.seen is.seen.0 (ap (of_pass by before.number) (sym is.seen.1) ∙ is.own ∙ sym own)

-- ---- a partition's

abbrev by_or : ℕ → Option Owner → ℕ
by_or n (Some owner) = owner.by
by_or n None = n

pub left_by_others : (number : ℕ) (es : List LogEntry) → AllByRecursion (λ e. entry_by e ≢ number) es → AllByRecursion (λ event. pass_of event ≢ number) (map event_in es)
left_by_others number [] all = tt
left_by_others number (e ∷ es) all = (all.0, left_by_others number es all.1)

module _ (before : Known LogEntry) (found : PartView) (is : HasFound part_entries entry_by before found) (named : part_name found ≡ before.name) (kept : IsKept found.history.log found.history.events) where
  -- the history that was found goes on from what the pass had seen
  pub found_longer : Longer (history_of (slice_index before.name 0) before.seen) found.history
  found_longer =
      let h = found.history in record {
        followers = followers_are found before.name named;
        more = map event_in is.seen.0;
        bytes = flat_map bytes_in is.seen.0;
        events = sym (entries_events h.events h.log) ∙ ap (map event_in) is.seen.1 ∙ map-append event_in before.seen is.seen.0;
        log = sym (entries_bytes h.events h.log kept.whole) ∙ ap (flat_map bytes_in) is.seen.1 ∙ flat_map-append bytes_in before.seen is.seen.0;
      }

  pub found_others : of_pass entry_by before.number before.seen ≡ before.mine → AllByRecursion (λ event. pass_of event ≢ before.number) found_longer.more
  unfolding found_longer
  found_others own = left_by_others before.number is.seen.0 (others_came part_entries entry_by before found is own)

-- the history that was left is what the pass has seen then
pub left_seen : (before after : Known LogEntry) (found left : PartView) → WasPartTurn before after found left → history_of (slice_index after.name 0) after.seen ≡ left.history
left_seen before after found left w =
    let name = name_after part_entries entry_by before after found left w.turn in
    let seen = seen_after part_entries entry_by before after found left w.turn in
    let followers : slice_index after.name 0 ≡ left.history.followers = ap (λ (n : List ℕ). slice_index n 0) name ∙ sym (followers_are left before.name w.name_left) in
    ap (λ (n : ℕ). history_of n after.seen) followers
    ∙ ap (history_of left.history.followers) seen
    ∙ history_told left.history w.kept_left.whole

-- ---- the clock's

-- an entry of the clock that names the pass that owns its event
abbrev IsHonest : ClockEntry → Type 0
IsHonest entry = (by seq : ℕ) → clock_owner_of entry.event ≡ the_owner by seq → entry.by ≡ by

honest : (es : List ClockEvent) (ps : List ℕ) → AllByRecursion IsHonest (clock_entries es ps)
honest [] ps = tt
honest (clocks.Tick t ∷ es) ps = ((λ by seq is. absurd cc), honest es (drop 1 ps))
honest (clocks.Look b s ∷ es) ps = ((λ by seq is. ap (by_or 0) is), honest es ps)

all_behind : {X : Type 0} (P : X → Type 0) (xs ys : List X) → AllByRecursion P (xs ++ ys) → AllByRecursion P ys
all_behind P [] ys all = all
all_behind P (x ∷ xs) ys all = all_behind P xs ys all.1

abbrev clock_event : ClockEntry → ClockEvent
clock_event entry = entry.event

ticked_by_others : (number : ℕ) (es : List ClockEntry) → AllByRecursion IsHonest es → AllByRecursion (λ e. clock_by e ≢ number) es → AllByRecursion (λ event. NotOf number (clock_owner_of event)) (map clock_event es)
ticked_by_others number [] hon all = tt
ticked_by_others number (e ∷ es) hon all = ((λ seq is. all.0 (hon.0 number seq is)), ticked_by_others number es hon.1 all.1)

module _ (before : Known ClockEntry) (found : MomentView) (is : HasFound moment_entries clock_by before found) where
  -- the events behind those that the pass had seen
  abbrev pub clock_more : List ClockEvent
  clock_more = map clock_event is.seen.0

  pub clock_found : found.events ≡ events_of before.seen ++ clock_more
  clock_found = sym (clock_events found.events found.tickers) ∙ ap (map clock_event) is.seen.1 ∙ map-append clock_event before.seen is.seen.0

  pub clock_others : of_pass clock_by before.number before.seen ≡ before.mine → AllByRecursion (λ event. NotOf before.number (clock_owner_of event)) clock_more
  clock_others own =
      ticked_by_others before.number is.seen.0
      (all_behind IsHonest before.seen is.seen.0 (subst (AllByRecursion IsHonest) is.seen.1 (honest found.events found.tickers)))
      (others_came moment_entries clock_by before found is own)

pub clock_left_seen : (before after : Known ClockEntry) (found left : MomentView) → WasClockTurn before after found left → events_of after.seen ≡ left.events
clock_left_seen before after found left w =
    ap events_of (seen_after moment_entries clock_by before after found left w.turn) ∙ clock_events left.events left.tickers
