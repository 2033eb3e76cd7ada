-- Locks that are closed with all their passes.
use Rattle.std.proofs.Common.{append-nil, cond, ◌≡◌, ◌∙◌, ℕ, zero, suc, ◌<◌, List, [], ◌∷◌, ◌++◌, Some, length, map, ap, refl, subst, sym, arith, append_assoc}
use Rattle.std.specs.Prelude.{All, count_by, slice_get, slice_index, unwrap_or, ◌==◌}
use Rattle.std.proofs.lemmas.List.{length-map, length_push, map_push}
use Rattle.std.proofs.lemmas.List.Elements.{All-cons, All-head, All-map, All-nil, All-pop, All-push, All-tail, All-weaker}
use Rattle.std.proofs.lemmas.List.Sums.{sum_by-cons}
use Rattle.partlog.specs.declared.clock_event.ClockEvent.{ClockEvent}
use Rattle.partlog.specs.Gauges.{numbers_of}
use Rattle.partlog.specs.History.{History}
use Rattle.partlog.specs.Kept.{IsKept}
use Rattle.partlog.specs.Lagging.{LeftLate}
use Rattle.partlog.specs.State.{state_of}
use Rattle.turn_lock.specs.declared.lock.TurnLock.{TurnLock}
use Rattle.turn_lock.specs.declared.pass.TurnPass.{TurnPass}
use Rattle.turn_lock.specs.Locks.{IsPassOf, IsReady, known, lock_name, lock_passes}
use Rattle.turn_lock.specs.OfPass.{of_pass}
use Rattle.turn_lock.specs.StartsWith.{StartsWith}
use Rattle.shared_logs.specs.declared.entries.ClockEntry.{ClockEntry}
use Rattle.shared_logs.specs.declared.entries.LogEntry.{LogEntry}
use Rattle.shared_logs.specs.declared.sources.PartSources.{PartSources}
use Rattle.shared_logs.specs.Desks.{MomentView, PartView, moment_name, part_name}
use Rattle.shared_logs.specs.Entries.{clock_by, clock_entries, entry_by, log_entries}
use Rattle.shared_logs.specs.Keeps.{AreAt, AreOfPart, MomentKeeps, PartKeeps}
use Rattle.purgatory.specs.Rooms.{LockView}
use Rattle.room_core.specs.declared.parts.Source.{Source}
use Rattle.purgatory.specs.scans.Desks.{desk_name}
use Rattle.purgatory.proofs.scans.Laws.{name_number, name_table}
use Rattle.room_table.specs.Seats.{SourceView, TableView, source_now}
use Rattle.shared_logs.specs.declared.hands.Hand.{Hand}
use Rattle.shared_logs.specs.Apart.{AreRests, IsOfClock, IsOfLocks, IsRest}
use Rattle.shared_logs.specs.Gone.{AreOut, AreSourcesOf, AreTold, HasGone, HaveGone, HaveStored, IsClockOut, IsNamed, IsTold, TellOf, followers_named}
use Rattle.shared_logs.specs.Locked.{IsHand, lock_of, part_lock}

-- ---- the passes

told_more : (logs : List History) (passes : List (TurnPass PartView LogEntry)) (h : History) (pass : TurnPass PartView LogEntry) → AreTold logs passes → IsTold entry_by (log_entries h) pass
    → AreTold (logs ++ h ∷ []) (passes ++ pass ∷ [])
told_more [] [] h pass all is = (is, tt)
told_more [] (p ∷ passes) h pass all is = absurd all
told_more (l ∷ logs) [] h pass all is = absurd all
told_more (l ∷ logs) (p ∷ passes) h pass all is = (all.0, told_more logs passes h pass all.1 is)

-- nothing has gone yet
pub gone_none : (hands : List Hand) → HaveGone [] hands hands
gone_none [] = tt
gone_none (hand ∷ hands) = (record { gone = []; parts = refl; told = tt; clock = refl; number = refl }, gone_none hands)

gone_one : (logs : List History) (h : History) (hand rest less : Hand) (first : TurnPass PartView LogEntry) → HasGone logs hand rest → IsRest rest first less → IsTold entry_by (log_entries h) first
    → HasGone (logs ++ h ∷ []) hand less
gone_one logs h hand rest less first was is told = record {
  gone = was.gone ++ first ∷ [];
  parts = was.parts ∙ ap (λ (l : List (TurnPass PartView LogEntry)). was.gone ++ l) is.parts ∙ sym (append_assoc was.gone (first ∷ []) less.parts.items);
  told = told_more logs was.gone h first was.told told;
  clock = is.clock ∙ was.clock;
  number = is.number ∙ was.number;
}

-- a lock was closed with the first pass of each
pub gone_more : (logs : List History) (h : History) (hands rests less : List Hand) (firsts : List (TurnPass PartView LogEntry)) → HaveGone logs hands rests → AreRests rests firsts less
    → All (IsTold entry_by (log_entries h)) firsts → HaveGone (logs ++ h ∷ []) hands less
gone_more logs h [] [] [] [] was is told = tt
gone_more logs h (hand ∷ hands) (rest ∷ rests) (l ∷ less) (first ∷ firsts) was is told =
    (gone_one logs h hand rest l first was.0 is.0 (All-head (IsTold entry_by (log_entries h)) first firsts told), gone_more logs h hands rests less firsts was.1 is.1 (All-tail (IsTold entry_by (log_entries h)) first firsts told))
gone_more logs h [] (rest ∷ rests) less firsts was is told = absurd was
gone_more logs h (hand ∷ hands) [] less firsts was is told = absurd was
gone_more logs h [] [] [] (first ∷ firsts) was is told = absurd is
gone_more logs h [] [] (l ∷ less) [] was is told = absurd is
gone_more logs h [] [] (l ∷ less) (first ∷ firsts) was is told = absurd is
gone_more logs h (hand ∷ hands) (rest ∷ rests) less [] was is told = absurd is
gone_more logs h (hand ∷ hands) (rest ∷ rests) [] (first ∷ firsts) was is told = absurd is

abbrev first_lock : LockView → List LockView → LockView
first_lock d [] = d
first_lock d (l ∷ ls) = l

abbrev rest_locks : List LockView → List LockView
rest_locks [] = []
rest_locks (l ∷ ls) = ls

-- the first passes are those of the first lock, and the others of the other locks
pub firsts_of : (lock : TurnLock PartView LogEntry) (locks : List (TurnLock PartView LogEntry)) (hands : List Hand) (firsts : List (TurnPass PartView LogEntry)) (rests : List Hand) → AreRests hands firsts rests
    → All (IsOfLocks (lock ∷ locks)) hands → All (λ (p : TurnPass PartView LogEntry). IsPassOf part_name lock p × IsReady p) firsts × All (IsOfLocks locks) rests × (length firsts ≡ length hands) × (length rests ≡ length hands)
firsts_of lock locks [] [] [] is all = (All-nil _, All-nil _, refl, refl)
firsts_of lock locks (hand ∷ hands) (first ∷ firsts) (rest ∷ rests) is all =
    let P : TurnPass PartView LogEntry → Type 0 = λ p. IsPassOf part_name lock p × IsReady p in
    let more = firsts_of lock locks hands firsts rests is.1 (All-tail (IsOfLocks (lock ∷ locks)) hand hands all) in
    let here = All-head (IsOfLocks (lock ∷ locks)) hand hands all in
    let views : lock_of first ∷ map lock_of rest.parts.items ≡ part_lock lock ∷ map part_lock locks = ap (map lock_of) (sym is.0.parts) ∙ here.locks_are in
    let same : lock_of first ≡ part_lock lock = ap (first_lock (part_lock lock)) views in
    let others = ap rest_locks views in
    let ready = subst (All (IsHand entry_by hand.number)) is.0.parts here.hands_are in (
      All-cons P first firsts ((ap (λ (l : LockView). l.id) same, ap (λ (l : LockView). l.name) same), (All-head (IsHand entry_by hand.number) first rest.parts.items ready).ready) more.0,
      All-cons (IsOfLocks locks) rest rests
          (record { locks_are = others; hands_are = subst (λ n. All (IsHand entry_by n) rest.parts.items) (sym is.0.number) (All-tail (IsHand entry_by hand.number) first rest.parts.items ready) }) more.1,
      ap suc more.2,
      ap suc more.3,
    )
firsts_of lock locks [] [] (rest ∷ rests) is all = absurd is
firsts_of lock locks [] (first ∷ firsts) rests is all = absurd is
firsts_of lock locks (hand ∷ hands) [] rests is all = absurd is
firsts_of lock locks (hand ∷ hands) (first ∷ firsts) [] is all = absurd is

pub some_first : (lock : TurnLock PartView LogEntry) (locks : List (TurnLock PartView LogEntry)) (hand : Hand) → IsOfLocks (lock ∷ locks) hand → 0 < length hand.parts.items
some_first lock locks hand is =
    let size = ap (λ (l : List LockView). length l) is.locks_are in
    let count = length-map hand.parts.items lock_of in
    omega (arith, size, count)

-- ---- the sources

-- what is so of each history by its place, with one more
at_more : (logs : List History) (h : History) (part : ℕ) (P : ℕ → History → Type 0) → length logs ≡ part → P part h → ((k : ℕ) (l : History) → slice_get logs k ≡ Some l → P k l)
    → (k : ℕ) (l : History) → slice_get (logs ++ h ∷ []) k ≡ Some l → P k l
at_more [] h part P size new all zero l is = subst (λ n. P n l) (sym size) (subst (P part) (ap (λ o. unwrap_or o h) is) new)
at_more [] h part P size new all (suc k) l is = absurd cc
at_more (x ∷ logs) h part P size new all zero l is = all 0 l is
at_more (x ∷ logs) h part P size new all (suc k) l is =
    at_more logs h (length logs) (λ n y. P (suc n) y) refl (subst (λ n. P n h) (sym size) new) (λ n y at. all (suc n) y at) k l is

-- three more sources, of the next partition
pub tell_more : (logs : List History) (sources more : List SourceView) (h : History) (part : ℕ) (three : PartSources) → length logs ≡ part → more ≡ ((sources ++ three.high ∷ []) ++ three.visible ∷ []) ++ three.end ∷ []
    → AreOfPart part three → AreAt (numbers_of (state_of h)) three → TellOf logs sources → TellOf (logs ++ h ∷ []) more
tell_more logs sources more h part three size m whose at told source shown place history is =
    let P : SourceView → Type 0 = λ seat. source seat.gauge ≡ source_now seat in
    let a = All-pop P more ((sources ++ three.high ∷ []) ++ three.visible ∷ []) (Some three.end) m shown in
    let b = All-pop P ((sources ++ three.high ∷ []) ++ three.visible ∷ []) (sources ++ three.high ∷ []) (Some three.visible) refl a.0 in
    let d = All-pop P (sources ++ three.high ∷ []) sources (Some three.high) refl b.0 in
    let new : HaveStored source part (numbers_of (state_of h)) =
    record {
      high = ap (λ g. (source g).stored) (sym whose.high) ∙ ap (λ (s : Source). s.stored) d.1 ∙ at.high;
      visible = ap (λ g. (source g).stored) (sym whose.visible) ∙ ap (λ (s : Source). s.stored) b.1 ∙ at.visible;
      end = ap (λ g. (source g).stored) (sym whose.end) ∙ ap (λ (s : Source). s.stored) a.1 ∙ at.end;
    } in
    at_more logs h part (λ k l. HaveStored source k (numbers_of (state_of l))) size new (told source d.0) place history is

-- ---- the clock's lock

each_hand : (P : TurnPass MomentView ClockEntry → Type 0) (hands : List Hand) → All P (map (λ (hand : Hand). hand.clock) hands) → All (λ (hand : Hand). P hand.clock) hands
each_hand P [] all = All-nil _
each_hand P (hand ∷ hands) all =
    All-cons (λ (h : Hand). P h.clock) hand hands (All-head P hand.clock (map (λ (h : Hand). h.clock) hands) all) (each_hand P hands (All-tail P hand.clock (map (λ (h : Hand). h.clock) hands) all))

pub clocks_all : (hands : List Hand) (passes : List (TurnPass MomentView ClockEntry)) (left : List Hand) → passes ++ map (λ (hand : Hand). hand.clock) left ≡ map (λ (hand : Hand). hand.clock) hands → length left ≡ 0
    → passes ≡ map (λ (hand : Hand). hand.clock) hands
clocks_all hands passes [] e none = sym (append-nil passes) ∙ e
clocks_all hands passes (hand ∷ left) e none = absurd (omega (arith, none))

module _ (lock : TurnLock MomentView ClockEntry) (hands : List Hand) (passes : List (TurnPass MomentView ClockEntry)) (all : passes ≡ map (λ (hand : Hand). hand.clock) hands) (are : All (IsOfClock lock) hands) where
  -- all hands' passes are of the lock
  pub clock_passes : All (λ (p : TurnPass MomentView ClockEntry). IsPassOf moment_name lock p × IsReady p) passes
  clock_passes =
      let P : TurnPass MomentView ClockEntry → Type 0 = λ p. IsPassOf moment_name lock p × IsReady p in
      subst (All P) (sym all)
      (All-map P (λ (hand : Hand). hand.clock) hands
      (All-weaker (IsOfClock lock) (λ (hand : Hand). P hand.clock) (λ hand is. ((ap (λ (l : LockView). l.id) is.lock_is, ap (λ (l : LockView). l.name) is.lock_is), is.hand_is.ready)) hands are))

  count_same : (number : ℕ) (hs : List Hand) → All (IsOfClock lock) hs
      → count_by (λ (p : TurnPass MomentView ClockEntry). (known p).number == number) (map (λ (hand : Hand). hand.clock) hs) ≡ count_by (λ (hand : Hand). hand.number == number) hs
  count_same number [] every = refl
  count_same number (h ∷ hs) every =
      let here = All-head (IsOfClock lock) h hs every in
      let bit : ℕ → ℕ = λ n. cond (n == number) 1 0 in
      let a = sum_by-cons (λ (p : TurnPass MomentView ClockEntry). bit (known p).number) h.clock (map (λ (hand : Hand). hand.clock) hs) in
      let b = sum_by-cons (λ (hand : Hand). bit hand.number) h hs in
      let same = ap bit here.hand_is.number_is in
      omega (arith, a, b, same, count_same number hs (All-tail (IsOfClock lock) h hs every))

  module _ (passes_are : lock_passes lock ≡ length hands) (desk : MomentView) (name : moment_name desk ≡ lock_name moment_name lock)
      (each : All (λ (p : TurnPass MomentView ClockEntry). StartsWith (clock_entries desk.events desk.tickers) (known p).seen × (of_pass clock_by (known p).number (clock_entries desk.events desk.tickers) ≡ (known p).mine)) passes)
      (whose : All (λ (e : ClockEntry). clock_by e < lock_passes lock) (clock_entries desk.events desk.tickers))
      (once : (number : ℕ) → number < lock_passes lock → count_by (λ (p : TurnPass MomentView ClockEntry). (known p).number == number) passes ≡ 1) where
    -- what came out of the clock's lock
    pub clock_out : (events : List ClockEvent) (source : SourceView) → events ≡ desk.events → source ≡ desk.source → MomentKeeps desk → IsClockOut lock hands events source
    clock_out events source e s keeps =
        let P : TurnPass MomentView ClockEntry → Type 0 = λ p. IsTold clock_by (clock_entries desk.events desk.tickers) p in
        let told : All P passes =
        All-weaker (λ (p : TurnPass MomentView ClockEntry). StartsWith (clock_entries desk.events desk.tickers) (known p).seen × (of_pass clock_by (known p).number (clock_entries desk.events desk.tickers) ≡ (known p).mine)) P
        (λ p is. record { seen = is.0; mine = is.1 }) passes each in
        let out : IsClockOut lock hands desk.events desk.source =
        record {
          tickers = desk.tickers;
          told = each_hand P hands (subst (All P) all told);
          whose = All-weaker (λ (x : ClockEntry). clock_by x < lock_passes lock) (λ (x : ClockEntry). clock_by x < length hands) (λ x less. subst (λ n. clock_by x < n) passes_are less) (clock_entries desk.events desk.tickers) whose;
          one = λ number less.
              sym (count_same number hands are) ∙ ap (λ (l : List (TurnPass MomentView ClockEntry)). count_by (λ (p : TurnPass MomentView ClockEntry). (known p).number == number) l) (sym all)
              ∙ once number (subst (λ n. number < n) (sym passes_are) less);
          ticks = keeps.ticks;
          stored = keeps.value;
          name = name;
        } in
        subst (λ (es : List ClockEvent). IsClockOut lock hands es source) (sym e) (subst (λ (x : SourceView). IsClockOut lock hands desk.events x) (sym s) out)

-- ---- a partition's lock

abbrev name_rest : List ℕ → List ℕ
name_rest [] = []
name_rest (n ∷ ns) = ns

pub tell_none : TellOf [] []
tell_none source shown part h at = absurd cc

module _ (lock : TurnLock PartView LogEntry) (desk : PartView) (name : part_name desk ≡ lock_name part_name lock) (keeps : PartKeeps desk) (h : History) (h_is : h ≡ desk.history) (three : PartSources) (three_is : three ≡ desk.sources) where
  pub told_firsts : (firsts : List (TurnPass PartView LogEntry))
      → All (λ (p : TurnPass PartView LogEntry). StartsWith (log_entries desk.history) (known p).seen × (of_pass entry_by (known p).number (log_entries desk.history) ≡ (known p).mine)) firsts
      → All (IsTold entry_by (log_entries h)) firsts
  told_firsts firsts each =
      subst (λ (x : History). All (IsTold entry_by (log_entries x)) firsts) (sym h_is)
      (All-weaker (λ (p : TurnPass PartView LogEntry). StartsWith (log_entries desk.history) (known p).seen × (of_pass entry_by (known p).number (log_entries desk.history) ≡ (known p).mine)) (IsTold entry_by (log_entries desk.history))
      (λ p is. record { seen = is.0; mine = is.1 }) firsts each)

  pub out_more : (n : ℕ) (logs more : List History) → more ≡ logs ++ h ∷ [] → lock_passes lock ≡ n → All (λ (e : LogEntry). entry_by e < lock_passes lock) (log_entries desk.history)
      → LeftLate desk.history.followers desk.history.events → AreOut n logs → AreOut n more
  out_more n logs more m passes whose late out =
      let K : History → Type 0 = λ x. IsKept x.log x.events in
      let W : History → Type 0 = λ x. All (λ (e : LogEntry). entry_by e < n) (log_entries x) in
      let L : History → Type 0 = λ x. LeftLate x.followers x.events in
      record {
        kept = subst (All K) (sym m) (All-push K logs h out.kept (subst K (sym h_is) keeps.kept));
        whose = subst (All W) (sym m) (All-push W logs h out.whose (subst W (sym h_is) (subst (λ k. All (λ (e : LogEntry). entry_by e < k) (log_entries desk.history)) passes whose)));
        late = subst (All L) (sym m) (All-push L logs h out.late (subst L (sym h_is) late));
      }

  pub followers_more : (logs more : List History) (locks : List (TurnLock PartView LogEntry)) (all : List ℕ) → more ≡ logs ++ h ∷ [] → map (λ (x : History). x.followers) logs ++ followers_named (lock ∷ locks) ≡ all
      → map (λ (x : History). x.followers) more ++ followers_named locks ≡ all
  followers_more logs more locks all m e =
      let count : History → ℕ = λ x. x.followers in
      let here : h.followers ≡ slice_index (lock_name part_name lock) 0 = ap count h_is ∙ ap (λ (n : List ℕ). slice_index n 0) name in
      ap (λ (l : List History). map count l ++ followers_named locks) m
      ∙ ap (λ (l : List ℕ). l ++ followers_named locks) (map_push count logs h)
      ∙ append_assoc (map count logs) (h.followers ∷ []) (followers_named locks)
      ∙ ap (λ n. map count logs ++ (n ∷ followers_named locks)) here
      ∙ e

  module _ (table : TableView) (logs : List History) (named : IsNamed table (length logs) lock) where
    part_named : desk_name desk.sources.high.table desk.part ≡ desk_name table (length logs)
    part_named = ap name_rest (name ∙ named)

    pub sources_more : (sources more : List SourceView) (all : List History) → all ≡ logs ++ h ∷ [] → more ≡ ((sources ++ three.high ∷ []) ++ three.visible ∷ []) ++ three.end ∷ []
        → AreSourcesOf table logs sources → AreSourcesOf table all more
    sources_more sources more all a m was =
        let T : SourceView → Type 0 = λ s. s.table ≡ table in
        let part : desk.part ≡ length logs = name_number desk.sources.high.table table desk.part (length logs) part_named in
        let room : three.high.table ≡ table = ap (λ (s : PartSources). s.high.table) three_is ∙ name_table desk.sources.high.table table desk.part (length logs) part_named in
        let whose : AreOfPart (length logs) three = subst (λ n. AreOfPart n three) part (subst (AreOfPart desk.part) (sym three_is) keeps.whose) in
        let at : AreAt (numbers_of (state_of h)) three =
        subst (λ (s : PartSources). AreAt (numbers_of (state_of h)) s) (sym three_is) (subst (λ (x : History). AreAt (numbers_of (state_of x)) desk.sources) (sym h_is) keeps.values) in
        let one = length_push sources three.high in
        let two = length_push (sources ++ three.high ∷ []) three.visible in
        let last = length_push ((sources ++ three.high ∷ []) ++ three.visible ∷ []) three.end in
        let more_count = ap (λ (l : List SourceView). length l) m in
        let all_count = ap (λ (l : List History). length l) a ∙ length_push logs h in
        let count = was.count in
        record {
          count = omega (arith, one, two, last, more_count, all_count, count);
          tables = subst (All T) (sym m)
              (All-push T ((sources ++ three.high ∷ []) ++ three.visible ∷ []) three.end (All-push T (sources ++ three.high ∷ []) three.visible (All-push T sources three.high was.tables room) (whose.visible_there ∙ room)) (whose.end_there ∙ room));
          tell = subst (λ (l : List History). TellOf l more) (sym a) (tell_more logs sources more h (length logs) three refl m whose at was.tell);
        }

-- ---- what is left of the hands, and the hands

pub rests_of_clock : (logs : List History) (lock : TurnLock MomentView ClockEntry) (hands rests : List Hand) → HaveGone logs hands rests → All (IsOfClock lock) hands → All (IsOfClock lock) rests
rests_of_clock logs lock [] [] gone all = All-nil _
rests_of_clock logs lock [] (rest ∷ rests) gone all = absurd gone
rests_of_clock logs lock (hand ∷ hands) [] gone all = absurd gone
rests_of_clock logs lock (hand ∷ hands) (rest ∷ rests) gone all =
    let here = All-head (IsOfClock lock) hand hands all in
    All-cons (IsOfClock lock) rest rests
    (record {
      lock_is = ap (λ (key : TurnPass MomentView ClockEntry). lock_of key) gone.0.clock ∙ here.lock_is;
      hand_is = subst (λ n. IsHand clock_by n rest.clock) (sym gone.0.number) (subst (λ (key : TurnPass MomentView ClockEntry). IsHand clock_by hand.number key) (sym gone.0.clock) here.hand_is);
    })
    (rests_of_clock logs lock hands rests gone.1 (All-tail (IsOfClock lock) hand hands all))

told_back : (P : TurnPass MomentView ClockEntry → Type 0) (logs : List History) (hands rests : List Hand) → HaveGone logs hands rests → All (λ (rest : Hand). P rest.clock) rests → All (λ (hand : Hand). P hand.clock) hands
told_back P logs [] [] gone all = All-nil _
told_back P logs [] (rest ∷ rests) gone all = absurd gone
told_back P logs (hand ∷ hands) [] gone all = absurd gone
told_back P logs (hand ∷ hands) (rest ∷ rests) gone all =
    let Q : Hand → Type 0 = λ h. P h.clock in
    All-cons Q hand hands (subst P gone.0.clock (All-head Q rest rests all)) (told_back P logs hands rests gone.1 (All-tail Q rest rests all))

count_back : (number : ℕ) (logs : List History) (hands rests : List Hand) → HaveGone logs hands rests
    → count_by (λ (hand : Hand). hand.number == number) rests ≡ count_by (λ (hand : Hand). hand.number == number) hands
count_back number logs [] [] gone = refl
count_back number logs [] (rest ∷ rests) gone = absurd gone
count_back number logs (hand ∷ hands) [] gone = absurd gone
count_back number logs (hand ∷ hands) (rest ∷ rests) gone =
    let bit : ℕ → ℕ = λ n. cond (n == number) 1 0 in
    let a = sum_by-cons (λ (h : Hand). bit h.number) rest rests in
    let b = sum_by-cons (λ (h : Hand). bit h.number) hand hands in
    let same = ap bit gone.0.number in
    omega (arith, a, b, same, count_back number logs hands rests gone.1)

pub clock_back : (logs : List History) (lock : TurnLock MomentView ClockEntry) (hands rests : List Hand) (events : List ClockEvent) (source : SourceView) → HaveGone logs hands rests → length rests ≡ length hands
    → IsClockOut lock rests events source → IsClockOut lock hands events source
clock_back logs lock hands rests events source gone size out = record {
  tickers = out.tickers;
  told = told_back (IsTold clock_by (clock_entries events out.tickers)) logs hands rests gone out.told;
  whose = subst (λ n. All (λ (x : ClockEntry). clock_by x < n) (clock_entries events out.tickers)) size out.whose;
  one = λ number less. sym (count_back number logs hands rests gone) ∙ out.one number (subst (λ n. number < n) (sym size) less);
  ticks = out.ticks;
  stored = out.stored;
  name = out.name;
}

-- the clock's source is that of the room's last gauge
module _ (table : TableView) (lock : TurnLock MomentView ClockEntry) (gauge : ℕ) (named : lock_name moment_name lock ≡ desk_name table gauge) (hands : List Hand) (events : List ClockEvent) (source : SourceView)
    (out : IsClockOut lock hands events source) where
  pub clock_table : source.table ≡ table
  clock_table = name_table source.table table source.gauge gauge (out.name ∙ named)

  pub clock_gauge : source.gauge ≡ gauge
  clock_gauge = name_number source.table table source.gauge gauge (out.name ∙ named)

-- as many logs as locks
pub logs_count : (logs : List History) (locks : List (TurnLock PartView LogEntry)) → map (λ (h : History). h.followers) logs ≡ followers_named locks → length logs ≡ length locks
logs_count logs locks e =
    sym (length-map logs (λ (h : History). h.followers)) ∙ ap (λ (l : List ℕ). length l) e ∙ length-map locks (λ (lock : TurnLock PartView LogEntry). slice_index (lock_name part_name lock) 0)
