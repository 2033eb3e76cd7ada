-- The account of a closed broker: what the passes have of the logs, their transcripts, and the histories at the close.
use Rattle.std.proofs.Common.{◌≡◌, ◌∙◌, ℕ, zero, suc, ◌+◌, ◌<◌, List, [], ◌∷◌, Some, length, map, refl, sym, ap, subst, arith}
use Rattle.std.proofs.lemmas.List.{length-map}
use Rattle.std.proofs.lemmas.List.Elements.{All-cons, All-head, All-map, All-nil, All-tail, All-weaker}
use Rattle.std.proofs.lemmas.List.Folds.{flat_map-map}
use Rattle.std.proofs.lemmas.List.Sums.{sum_by-cons}
use Rattle.std.proofs.lemmas.Option.{slice_get-get_or}
use Rattle.std.specs.Prelude.{All, Any, Contains, ◌↔◌, ◌==◌, cond, count_by, fold, max, slice_get, slice_index_or}
use Rattle.std.specs.List.{AllByRecursion, AllZip}
use Rattle.partlog.specs.declared.clock_event.ClockEvent.{ClockEvent}
use Rattle.partlog.specs.History.{History}
use Rattle.partlog.specs.Moment.{moment_of}
use Rattle.audit.specs.declared.account.Account.{Account}
use Rattle.audit.specs.declared.account.PartAccount.{PartAccount}
use Rattle.audit.specs.declared.account.Transcript.{Transcript}
use Rattle.audit.specs.Histories.{ticks_of}
use Rattle.audit.specs.IsLawful.{IsLawful}
use Rattle.kbytes.proofs.Laws.{some_is}
use Rattle.kwire.specs.Configuration.{followers_of}
use Rattle.audit.specs.broker.books.Book.{Book}
use Rattle.audit.specs.broker.books.Together.{account_of}
use Rattle.audit.specs.broker.books.Told.{told}
use Rattle.audit.specs.Histories.{part_account}
use Rattle.kwire.specs.DeclaredTopics.{AreDeclared}
use Rattle.audit.specs.broker.GoesOn.{GoesOn}
use Rattle.audit.proofs.broker.Laws.{get_map, map_get}
use Rattle.purgatory.specs.Ends.{IsUntaken}
use Rattle.purgatory.specs.Rooms.{PassView as RoomPassView}
use Rattle.purgatory.specs.Going.{OwesNothing}
use Rattle.room_core.specs.Numbers.{scanner_numbers}
use Rattle.room_table.specs.Seats.{caller_now}
use Rattle.shared_broker.specs.declared.closing.Sheet.{Sheet}
use Rattle.shared_broker.specs.Closed.{IsJoined, IsPutFrom, gathered, joined}
use Rattle.shared_broker.specs.Closing.{IsAccountOf}
use Rattle.shared_broker.specs.Passes.{BrokerView, PassView, made_with, transcripts_of}
use Rattle.shared_broker.specs.Standing.{Stands}
use Rattle.shared_broker.proofs.ClosingBooks.{all_of, books, came, lawful, logs_of, of_all, told_passes}
use Rattle.shared_logs.specs.Closing.{AreClosed, in_room}
use Rattle.shared_logs.specs.Coming.{OthersCame}
use Rattle.shared_logs.specs.Shared.{LogPassView, followers_in}

-- ---- an item for which something holds

item_there : {X : Type 0} (xs : List X) (k : ℕ) (x : X) → slice_get xs k ≡ Some x → (k < length xs) × (slice_index_or xs k x ≡ x)
item_there [] k x e = absurd cc
item_there (y ∷ xs) zero x e = (omega arith, some_is y x e)
item_there (y ∷ xs) (suc k) x e =
    let rest = item_there xs k x e in
    (omega (arith, rest.0), rest.1)

any_mapped : {X Y : Type 0} (f : X → Y) (P : Y → Type 0) (xs : List X) → Any P (map f xs) ↔ Any (λ x. P (f x)) xs
any_mapped f P xs = (
  (λ any.
      let at : slice_get (map f xs) any.0 ≡ Some any.1 = slice_get-get_or (map f xs) any.0 any.1 any.2 ∙ ap Some any.3 in
      let found = get_map f xs any.0 any.1 at in
      let there = item_there xs any.0 found.0 found.1 in
      (any.0, found.0, there.0, there.1, subst P (sym found.2) any.4)),
  (λ any.
      let at : slice_get xs any.0 ≡ Some any.1 = slice_get-get_or xs any.0 any.1 any.2 ∙ ap Some any.3 in
      let there = item_there (map f xs) any.0 (f any.1) (map_get f xs any.0 any.1 at) in
      (any.0, f any.1, there.0, there.1, any.4)),
)

-- ---- passes and their sheets

gathered_logs : (logs : List LogPassView) (sheets : List Sheet) → AllZip IsJoined logs sheets → logs_of (gathered logs sheets) ≡ logs
gathered_logs [] [] all = refl
gathered_logs [] (s ∷ sheets) all = absurd all
gathered_logs (l ∷ logs) [] all = absurd all
gathered_logs (l ∷ logs) (s ∷ sheets) all = ap (λ (ls : List LogPassView). l ∷ ls) (gathered_logs logs sheets all.1)

gathered_stand : (logs : List LogPassView) (sheets : List Sheet) → AllZip IsJoined logs sheets → AllByRecursion Stands (gathered logs sheets)
gathered_stand [] [] all = tt
gathered_stand [] (s ∷ sheets) all = absurd all
gathered_stand (l ∷ logs) [] all = absurd all
gathered_stand (l ∷ logs) (s ∷ sheets) all = ((all.0).stands, gathered_stand logs sheets all.1)

gathered_size : (logs : List LogPassView) (sheets : List Sheet) → AllZip IsJoined logs sheets → length sheets ≡ length (gathered logs sheets)
gathered_size [] [] all = refl
gathered_size [] (s ∷ sheets) all = absurd all
gathered_size (l ∷ logs) [] all = absurd all
gathered_size (l ∷ logs) (s ∷ sheets) all = ap suc (gathered_size logs sheets all.1)

-- the numbers of the sheets are those of the passes
gathered_below : (n : ℕ) (logs : List LogPassView) (sheets : List Sheet) → AllZip IsJoined logs sheets → All (λ (pass : PassView). pass.logs.number < n) (gathered logs sheets) → All (λ (sheet : Sheet). sheet.number < n) sheets
gathered_below n [] [] all below = All-nil (λ (sheet : Sheet). sheet.number < n)
gathered_below n [] (s ∷ sheets) all below = absurd all
gathered_below n (l ∷ logs) [] all below = absurd all
gathered_below n (l ∷ logs) (s ∷ sheets) all below =
    let P : PassView → Type 0 = λ pass. pass.logs.number < n in
    All-cons (λ (sheet : Sheet). sheet.number < n) s sheets (omega (arith, (all.0).number, All-head P (joined l s) (gathered logs sheets) below))
    (gathered_below n logs sheets all.1 (All-tail P (joined l s) (gathered logs sheets) below))

gathered_counts : (k : ℕ) (logs : List LogPassView) (sheets : List Sheet) → AllZip IsJoined logs sheets → count_by (λ (sheet : Sheet). sheet.number == k) sheets ≡ count_by (λ (one : LogPassView). one.number == k) logs
gathered_counts k [] [] all = refl
gathered_counts k [] (s ∷ sheets) all = absurd all
gathered_counts k (l ∷ logs) [] all = absurd all
gathered_counts k (l ∷ logs) (s ∷ sheets) all =
    let here : cond (s.number == k) 1 0 ≡ cond (l.number == k) 1 0 = ap {B = ℕ} (λ (m : ℕ). cond (m == k) 1 0) (all.0).number in
    omega (arith, sum_by-cons (λ (sheet : Sheet). cond (sheet.number == k) 1 0) s sheets, sum_by-cons (λ (one : LogPassView). cond (one.number == k) 1 0) l logs, here, gathered_counts k logs sheets all.1)

gathered_put : (lists : List (List Transcript)) (logs : List LogPassView) (sheets : List Sheet) → AllZip IsJoined logs sheets → All (IsPutFrom lists) sheets
    → All (λ (pass : PassView). slice_get lists pass.logs.number ≡ Some (map told (transcripts_of pass))) (gathered logs sheets)
gathered_put lists [] [] all put = All-nil (λ (pass : PassView). slice_get lists pass.logs.number ≡ Some (map told (transcripts_of pass)))
gathered_put lists [] (s ∷ sheets) all put = absurd all
gathered_put lists (l ∷ logs) [] all put = absurd all
gathered_put lists (l ∷ logs) (s ∷ sheets) all put =
    All-cons (λ (pass : PassView). slice_get lists pass.logs.number ≡ Some (map told (transcripts_of pass))) (joined l s) (gathered logs sheets)
    (ap (slice_get lists) (sym (all.0).number) ∙ All-head (IsPutFrom lists) s sheets put) (gathered_put lists logs sheets all.1 (All-tail (IsPutFrom lists) s sheets put))

-- ---- the passes of a broker

module _ (broker : BrokerView) (passes : List PassView) (logs : List LogPassView) (sheets : List Sheet) (e : passes ≡ gathered logs sheets) (each : AllZip IsJoined logs sheets) (made : All (λ (pass : PassView). made_with pass ≡ broker) passes)
    (size : length passes ≡ broker.logs.room.table.shape.passes) where
  logs_are : logs_of passes ≡ logs
  logs_are = ap logs_of e ∙ gathered_logs logs sheets each

  stand : AllByRecursion Stands passes
  stand = subst (AllByRecursion Stands) (sym e) (gathered_stand logs sheets each)

  sheets_size : length sheets ≡ length passes
  sheets_size = gathered_size logs sheets each ∙ ap (λ (ps : List PassView). length ps) (sym e)

  pub seats_size : length logs ≡ broker.logs.room.table.shape.passes
  seats_size = ap (λ (ls : List LogPassView). length ls) (sym logs_are) ∙ length-map passes (λ (pass : PassView). pass.logs) ∙ size

  of_logs : (P : LogPassView → Type 0) → All (λ (pass : PassView). P pass.logs) passes → All P logs
  of_logs P all = subst (All P) logs_are (All-map P (λ (pass : PassView). pass.logs) passes all)

  pub seats_made : All (λ (one : LogPassView). one.made ≡ broker.logs) logs
  seats_made = of_logs (λ (one : LogPassView). one.made ≡ broker.logs) (All-weaker (λ (pass : PassView). made_with pass ≡ broker) (λ (pass : PassView). pass.logs.made ≡ broker.logs) (λ pass is. ap (λ (b : BrokerView). b.logs) is) passes made)

  all_stand : All Stands passes
  all_stand = from_recursion passes stand
    where
      from_recursion : (ps : List PassView) → AllByRecursion Stands ps → All Stands ps
      from_recursion [] all = All-nil Stands
      from_recursion (p ∷ ps) all = All-cons Stands p ps all.0 (from_recursion ps all.1)

  pub seats_paid : All (λ (one : LogPassView). OwesNothing (caller_now one.seat)) logs
  seats_paid = of_logs (λ (one : LogPassView). OwesNothing (caller_now one.seat)) (All-weaker Stands (λ (pass : PassView). OwesNothing (caller_now pass.logs.seat)) (λ pass s. s.paid) passes all_stand)

  below : All (λ (pass : PassView). pass.logs.number < length passes) passes
  below = all_of (λ (pass : PassView). pass.logs.number < length passes) passes (λ i pass at.
      let s : Stands pass = of_all Stands passes i pass all_stand at in
      let same = ap (λ (b : BrokerView). b.logs.room.table.shape.passes) (of_all (λ (p : PassView). made_with p ≡ broker) passes i pass made at) in
      omega (arith, s.seen.there, same, size))

  pub sheets_below : All (λ (sheet : Sheet). sheet.number < length sheets) sheets
  sheets_below =
      subst (λ (m : ℕ). All (λ (sheet : Sheet). sheet.number < m) sheets) (sym sheets_size)
      (gathered_below (length passes) logs sheets each (subst (All (λ (pass : PassView). pass.logs.number < length passes)) e below))

  -- what the room told of them
  pub untaken_passes : IsUntaken broker.logs.room (map in_room logs) → IsUntaken broker.logs.room (map (λ (pass : PassView). in_room pass.logs) passes)
  untaken_passes told_so = subst (IsUntaken broker.logs.room) (ap (map in_room) (sym logs_are) ∙ rooms_of passes) told_so
    where
      rooms_of : (ps : List PassView) → map in_room (logs_of ps) ≡ map (λ (pass : PassView). in_room pass.logs) ps
      rooms_of [] = refl
      rooms_of (p ∷ ps) = ap (λ (rs : List RoomPassView). in_room p.logs ∷ rs) (rooms_of ps)

  module _ (finals : List History) (clock : List ClockEvent) (numbers : List ℕ) (closed : AreClosed broker.logs logs finals clock numbers) where
    pub sheets_one : (k : ℕ) → k < length sheets → count_by (λ (sheet : Sheet). sheet.number == k) sheets ≡ 1
    sheets_one k lt = gathered_counts k logs sheets each ∙ closed.one k (omega (arith, lt, sheets_size, seats_size, size))

    module _ (topics : AreDeclared broker.config.topics) (followers : followers_in broker.logs ≡ followers_of broker.config.topics) (account : Account) (parts_are : account.parts ≡ map part_account finals) (clock_is : account.clock ≡ clock)
        (config_is : account.config ≡ broker.config) (wins_are : account.wins ≡ numbers) (lists : length account.passes ≡ length sheets) (put : All (IsPutFrom account.passes) sheets) where
      from_passes : AreClosed broker.logs (logs_of passes) finals clock numbers
      from_passes = subst (λ (ls : List LogPassView). AreClosed broker.logs ls finals clock numbers) (sym logs_are) closed

      by_number : All (λ (pass : PassView). slice_get account.passes pass.logs.number ≡ Some (map told (transcripts_of pass))) passes
      by_number = subst (All (λ (pass : PassView). slice_get account.passes pass.logs.number ≡ Some (map told (transcripts_of pass)))) (sym e) (gathered_put account.passes logs sheets each put)

      passes_are : account.passes ≡ map (λ (book : Book). map told book.transcripts) (books broker passes stand made topics followers finals clock numbers from_passes)
      passes_are = told_passes broker passes stand made topics followers finals clock numbers from_passes account.passes (lists ∙ sheets_size) by_number

      account_is : account ≡ account_of broker.config (books broker passes stand made topics followers finals clock numbers from_passes) finals clock numbers
      account_is = λ i. record { config = config_is i; parts = parts_are i; clock = clock_is i; passes = passes_are i; wins = wins_are i }

      account_goes : (pass : PassView) → OthersCame pass.logs.number pass.logs.parts pass.logs.clock finals clock → GoesOn broker.config pass.logs.parts pass.logs.clock account
      account_goes pass o = record {
        same = config_is;
        follows = λ p h at.
            let l = o.grown.each p h at in
            (part_account l.0, ap (λ (ps : List PartAccount). slice_get ps p) parts_are ∙ map_get part_account finals p l.0 l.1, l.2);
        more = o.grown.more;
        events = clock_is ∙ o.grown.events;
      }

      ticked : (t : ℕ) → Contains (ticks_of clock) t ↔ Any (λ (pass : PassView). Contains pass.logs.ticked t) passes
      ticked t =
          let one = from_passes.ticks t in
          let two = any_mapped (λ (pass : PassView). pass.logs) (λ (ls : LogPassView). Contains ls.ticked t) passes in
          ((λ there. two.0 (one.0 there)), (λ any. one.1 (two.1 any)))

      pub is_account : IsAccountOf broker passes account
      is_account = record {
        lawful = subst IsLawful (sym account_is) (lawful broker passes stand made topics followers finals clock numbers from_passes below);
        stood = all_stand;
        config = config_is;
        goes_on = all_of (λ (pass : PassView). GoesOn broker.config pass.logs.parts pass.logs.clock account) passes (λ i pass at.
            account_goes pass (came broker passes stand made topics followers finals clock numbers from_passes i pass at));
        count = lists ∙ sheets_size;
        winners = ap (λ (ns : List ℕ). length ns) wins_are ∙ from_passes.size ∙ ap (λ (n : ℕ). scanner_numbers + n) (sym (lists ∙ sheets_size ∙ size));
        transcripts = by_number;
        ticks = λ t. subst (λ (c : List ClockEvent). Contains (ticks_of c) t ↔ Any (λ (pass : PassView). Contains pass.logs.ticked t) passes) (sym clock_is) (ticked t);
        moment = ap moment_of clock_is ∙ from_passes.moment ∙ ap (fold max 0) (flat_map-map (λ (ls : LogPassView). ls.ticked) (λ (pass : PassView). pass.logs) passes);
      }
