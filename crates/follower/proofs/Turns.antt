-- One reply of a broker whose account is lawful, to a copy that holds the first batches of the partition's log: it is refused with a code, or
-- brings batches that follow on, and then the copy holds the first batches again.
use Rattle.std.proofs.Common.{◌≡◌, ℕ, ◌+◌, ◌<◌, ◌≤◌, ◌^◌, ℤ, pos, min, max, filter, true, false, List, [], ◌∷◌, ◌++◌, length, take, Option, Some, None, inl, inr, refl, sym, ap, subst, ◌∙◌, append_assoc, append-nil, arith}
use Rattle.std.specs.Prelude.{FitsSigned, slice_get, slice_index}
use Rattle.std.specs.Int.{w32}
use Rattle.std.specs.List.{flat_map}
use Rattle.kbytes.proofs.Laws.{some_is}
use Rattle.partlog.specs.Added.{log_end_of}
use Rattle.partlog.specs.Batches.{StoredBatch, batches_of}
use Rattle.partlog.specs.Gauges.{batches_below, bytes_in}
use Rattle.partlog.specs.History.{History}
use Rattle.partlog.specs.Start.{start_of}
use Rattle.partlog.specs.State.{PartState, state_before}
use Rattle.partlog.specs.Taken.{batches_past, taken}
use Rattle.partlog.proofs.Laws.{high-within}
use Rattle.kwire.specs.Configuration.{followers_of, part_of, partitions_of}
use Rattle.kwire.specs.Frames.{framed}
use Rattle.kwire.specs.Spelling.{spelling}
use Rattle.kwire.specs.declared.reply.FetchedPart.{FetchedPart}
use Rattle.kwire.specs.declared.reply.Reply.{Reply}
use Rattle.kwire.specs.declared.request.Request.{Request}
use Rattle.kanswer.specs.Answer.{answer, first_budget, read_of}
use Rattle.kanswer.specs.Decisions.{fetch_outcome}
use Rattle.kanswer.specs.Waiting.{Shown}
use Rattle.kanswer.specs.declared.accepted.Accepted.{Accepted}
use Rattle.kanswer.specs.declared.accepted.Accepted.TheVariants.{Refused as RefusedWith, Seen}
use Rattle.audit.specs.declared.account.Account.{Account}
use Rattle.audit.specs.declared.account.Call.{Call}
use Rattle.audit.specs.declared.account.CallHow.{CallHow}
use Rattle.audit.specs.declared.account.PartAccount.{PartAccount}
use Rattle.audit.specs.declared.account.Point.{Point}
use Rattle.audit.specs.Fits.{IsReplyOf, ShowsFor}
use Rattle.audit.specs.Histories.{before_point, history_of, no_state, points_of}
use Rattle.audit.specs.IsLawful.{IsLawful}
use Rattle.audit.specs.LawfulCall.{AsksLog, Completes, IsLawfulCall, IsStep, IsWholeCall, Step, shown_at, step_points}
use Rattle.audit.specs.retelling.Playable.{IsPlayable}
use Rattle.audit.proofs.retelling.Laws.{HasPart, part_there}
use Rattle.follower.specs.Asking.{IsAskable, asked_body, request_of}
use Rattle.follower.specs.Copies.{Copy}
use Rattle.follower.specs.CopyOf.{IsCopyOf}
use Rattle.follower.specs.FromLawful.{MayBeRefused}
use Rattle.follower.specs.Verdict.{Brings, HasTaken, IsRefused, Reaches, asked_by, at_least_zero}
use Rattle.follower.specs.declared.fault.TakeFault.TheVariants.{Refused}
use Rattle.follower.proofs.Answers.{HasBrought, asked_part, body_of, body_short, refused_so, seen_so, spelled_as, told_as}
use Rattle.follower.proofs.Fields.{one_told}
use Rattle.follower.proofs.Finding.{Finds, HasShown, HasStep, accepted, at_at, before_at, decided, finds, inside, looked, nothing, outside, shows, stepped}
use Rattle.follower.proofs.LogRows.{all_are, all_stored, before_is, end_at, end_rises, end_short, few_bytes, more_at, stored_at, up_to}
use Rattle.follower.proofs.Places.{RiseIn, behind_in, first_in}
use Rattle.follower.proofs.Prefixes.{taken_on}
use Rattle.follower.proofs.Stored.{follow_rows, parted_at, read_on, rows, rows_append}
use Rattle.follower.proofs.Verdicts.{one_taking}

-- what holds of a copy whose number is m
pub record IsReady (copy : Copy) (m : ℕ) : Type 0 where
  pub is_id : copy.id ≡ pos m
  pub id : FitsSigned w32 copy.id
  pub index : FitsSigned w32 copy.index
  pub named : length copy.topic ≤ 249
  pub end : copy.end ≤ 67108864

pub askable : (copy : Copy) (m : ℕ) (correlation : ℤ) → IsReady copy m → FitsSigned w32 correlation → IsAskable copy correlation
askable copy m correlation ready number = record { number = number; id = ready.id; index = ready.index; end = omega (arith, ready.end); named = ready.named }

-- ---- what is read of one log

-- the most bytes of records that a reply has, but for one batch that is larger alone
abbrev limit : ℕ
limit = min 1048576 (first_budget (pos 1048576)).left

module _ (copy : Copy) (m : ℕ) (is_id : copy.id ≡ pos m) where
  -- of no log nothing is read
  nothing_read : (start : ℕ) → read_of copy.id (asked_part copy) start no_state (first_budget (pos 1048576)) ≡ []
  nothing_read start = ap (λ (id : ℤ). read_of id (asked_part copy) start no_state (first_budget (pos 1048576))) is_id

  state_read : (start : ℕ) (state : PartState) → read_of copy.id (asked_part copy) start state (first_budget (pos 1048576)) ≡ taken limit false (filter (λ (b : StoredBatch). true) (batches_past start state.batches))
  state_read start state = ap (λ (id : ℤ). read_of id (asked_part copy) start state (first_budget (pos 1048576))) is_id

module _ (h : History) (plays : IsPlayable h) (short : log_end_of h.events ≤ 67108864) where
  abbrev bs : List StoredBatch
  bs = batches_of h.events h.log

  module _ (copy : Copy) (correlation : ℤ) (m : ℕ) (is_id : copy.id ≡ pos m) (ask : IsAskable copy correlation) (held : IsCopyOf (rows bs) copy) (j : ℕ) (within : copy.end ≤ end_at h plays short j) where
    later_read : (n k : ℕ) (state : PartState) → j ≤ k → state ≡ state_before h k → HasBrought bs copy correlation (body_of copy correlation (told_as copy (Seen n (bytes_in (batches_below copy.end (up_to h plays short j)))) state)) (end_at h plays short k)
    later_read n k state le is =
        let X = up_to h plays short j in
        let begin : ℕ = bytes_in (batches_below copy.end X) in
        let all = all_are h plays short j in
        let now = all_are h plays short k in
        let on = more_at h plays short j k le in
        let parted = parted_at 0 copy.end (end_at h plays short j) held.front held.back X all.0 (sym held.parts ∙ ap rows all.1) held.each (stored_at h plays short j) within in
        let run = taken limit false (filter (λ (b : StoredBatch). true) (batches_past begin (X ++ on.more))) in
        let read = read_on copy.end (end_at h plays short j) (end_at h plays short k) limit false held.front X on.more parted on.each in
        let batches : state.batches ≡ X ++ on.more = ap (λ (s : PartState). s.batches) is ∙ before_is h plays short k ∙ on.parts in
        let was : read_of copy.id (asked_part copy) begin state (first_budget (pos 1048576)) ≡ run =
        state_read copy m is_id begin state ∙ ap (λ (l : List StoredBatch). taken limit false (filter (λ (b : StoredBatch). true) (batches_past begin l))) batches in
        let high : (state_before h k).high ≤ end_at h plays short k = high-within h.followers (take k h.events) in
        let last : state.high ≤ 67108864 = omega (arith, ap (λ (s : PartState). s.high) is, high, end_short h plays short k) in
        let whole : rows bs ≡ held.front ++ (rows run ++ (rows read.after ++ rows now.0)) =
        ap rows (now.1 ∙ ap (λ (l : List StoredBatch). l ++ now.0) on.parts) ∙ rows_append (X ++ on.more) now.0 ∙ ap (λ (l : List (List ℕ)). l ++ rows now.0) read.parts
        ∙ append_assoc held.front (rows run ++ rows read.after) (rows now.0) ∙ ap (λ (l : List (List ℕ)). held.front ++ l) (append_assoc (rows run) (rows read.after) (rows now.0)) in
        seen_so bs run copy correlation (end_at h plays short k) n begin state ask (few_bytes h plays short) last was
        (record { before = held.front; after = rows read.after ++ rows now.0; parts = whole; end = read.last; each = read.each; within = read.within })

    none_read : (n begin k : ℕ) → j ≤ k → HasBrought bs copy correlation (body_of copy correlation (told_as copy (Seen n begin) no_state)) (end_at h plays short k)
    none_read n begin k le =
        seen_so bs [] copy correlation (end_at h plays short k) n begin no_state ask (few_bytes h plays short) (omega arith) (nothing_read copy m is_id begin)
        (record { before = rows bs; after = []; parts = sym (append-nil (rows bs)); end = copy.end; each = refl; within = omega (arith, within, end_rises h plays short j k le) })

-- ---- what a reply comes to

-- where the points of a look stand
seam : (looks before after more finish : List Point) (q : Point) → finish ≡ before ++ q ∷ after → (looks ++ finish) ++ more ≡ (looks ++ before) ++ q ∷ (after ++ more)
seam looks before after more finish q at =
    ap (λ (ps : List Point). (looks ++ ps) ++ more) at ∙ ap (λ (ps : List Point). ps ++ more) (sym (append_assoc looks before (q ∷ after))) ∙ append_assoc (looks ++ before) (q ∷ after) more

module _ (account : Account) (lawful : IsLawful account) (few : partitions_of account.config.topics ≤ 64) (P : Type 0) where
  -- what a copy holds of a partition's log before these calls; under P the log is no shorter by then than the copy
  pub record IsHeld (copy : Copy) (calls : List Call) (n : ℕ) (part : PartAccount) : Type 0 where
    pub held : IsCopyOf (rows (batches_of part.events part.log)) copy
    pub floor : ℕ
    pub rise : RiseIn n floor (flat_map points_of calls)
    pub reach : P → copy.end ≤ log_end_of (take floor part.events)

  abbrev pub AreHeld : Copy → List Call → Type 0
  AreHeld copy calls = (n : ℕ) (part : PartAccount) → part_of account.config copy.topic copy.index ≡ Some n → slice_get account.parts n ≡ Some part → IsHeld copy calls n part

  pub data Turn (copy : Copy) (correlation : ℤ) (m : ℕ) (body : List ℕ) (later : List Call) : Type 0 where
    refuses : (code : ℤ) → IsRefused copy correlation body (Refused code) → MayBeRefused (Refused code) → (P → code ≡ pos 1 → ⊥) → Turn copy correlation m body later
    brings : (b : Brings copy correlation body) (end : ℕ) → Reaches copy.end b.told.records end [] → ((count : ℕ) (new : Copy) → HasTaken copy correlation body count new → IsReady new m × AreHeld new later)
        → Turn copy correlation m body later

  pub record HasReply (copy : Copy) (correlation : ℤ) (m : ℕ) (later : List Call) (reply : Reply) : Type 0 where
    pub body : List ℕ
    pub spelled : spelling reply ≡ framed body
    pub short : length body < 2 ^ 31
    pub turn : Turn copy correlation m body later

  -- what is brought is taken in one way, and the copy that took it holds the log's first batches
  carried : (copy : Copy) (correlation : ℤ) (m n k : ℕ) (body : List ℕ) (later : List Call) (hp : HasPart account n) → IsReady copy m → IsCopyOf (rows (batches_of hp.part.events hp.part.log)) copy
      → part_of account.config copy.topic copy.index ≡ Some n → HasBrought (batches_of hp.part.events hp.part.log) copy correlation body (end_at (history_of hp.part) hp.plays hp.short k) → RiseIn n k (flat_map points_of later)
      → (count : ℕ) (new : Copy) → HasTaken copy correlation body count new → IsReady new m × AreHeld new later
  carried copy correlation m n k body later hp ready held e brought rise count new taken =
      let b = brought.brings in
      let h : History = history_of hp.part in
      let all : List StoredBatch = batches_of hp.part.events hp.part.log in
      let next : Copy = record copy { log = copy.log ++ b.told.records; end = brought.end; high = max copy.high (min (at_least_zero b.told.high) brought.end) } in
      let told : taken.brings.told ≡ b.told = one_told (asked_by copy correlation) body taken.brings.told b.told taken.brings.reply b.reply in
      let room : length copy.log + length b.told.records ≤ 67108864 = subst (λ (t : FetchedPart). length copy.log + length t.records ≤ 67108864) told taken.few in
      let other : HasTaken copy correlation body (length brought.reached.batches) next = record { brings = b; end = brought.end; reached = brought.reached; few = room; count_is = refl; new_is = refl } in
      let same : new ≡ next = (one_taking copy correlation body count (length brought.reached.batches) new next taken other).1 in
      let last : ℕ = log_end_of hp.part.events in
      let copied : IsCopyOf (rows all) next = taken_on (rows all) last copy next correlation body (length brought.reached.batches) (follow_rows 0 last all (all_stored h hp.plays hp.short)) held other brought.run in
      let here : IsHeld next later n hp.part = record { held = copied; floor = k; rise = rise; reach = λ p. brought.within } in
      let there : AreHeld next later = λ i part is at.
      let number : n ≡ i = some_is n i (sym e ∙ is) in
      let own : hp.part ≡ part = some_is hp.part part (sym hp.there ∙ ap (λ (x : ℕ). slice_get account.parts x) number ∙ at) in
      subst (λ (x : ℕ). IsHeld next later x part) number (subst (IsHeld next later n) own here) in
      let set : IsReady next m = record { is_id = ready.is_id; id = ready.id; index = ready.index; named = ready.named; end = omega (arith, brought.within, end_short h hp.plays hp.short k) } in
      subst (λ (c : Copy). IsReady c m × AreHeld c later) (sym same) (set, there)

  module _ (copy : Copy) (correlation : ℤ) (m : ℕ) (call : Call) (later : List Call) (reply : Reply) (ready : IsReady copy m) (ask : IsAskable copy correlation) (w : IsWholeCall account call) (r : IsReplyOf account call reply)
      (frame : call.frame ≡ asked_body copy correlation) (all : AreHeld copy (call ∷ later)) where
    own_step : HasStep account copy correlation m ready.is_id ask r.whole.request r.whole.steps
    own_step = stepped account copy correlation m ready.is_id ask call r.whole frame

    done_step : HasStep account copy correlation m ready.is_id ask w.whole.request w.whole.steps
    done_step = stepped account copy correlation m ready.is_id ask call w.whole frame

    abbrev Is : Option ℕ → Step → Type 0
    Is o step = IsStep account (decided account copy correlation m ready.is_id ask o) step

    what_shows : (n : ℕ) (s t : Step) (state : PartState) → r.whole.steps ≡ s ∷ [] → w.whole.steps ≡ t ∷ [] → Finds account copy correlation m ready.is_id ask n state t.result → HasShown account copy correlation m ready.is_id ask n s call.finish r.shown
    what_shows n s t state one two found =
        shows account copy correlation m ready.is_id ask n call.how s t state w.whole.request w.whole.looks call.finish r.shown
        (subst (λ (ss : List Step). ShowsFor account ss call.finish call.how r.shown) one r.shows)
        (subst (λ (ss : List Step). Completes account w.whole.request ss w.whole.looks call.finish call.how) two w.completed) found

    told_so : (result : Accepted) (s : Step) (state : PartState) → r.whole.request ≡ request_of copy correlation → r.shown ≡ record { result = s.result; state = state } ∷ [] → s.result ≡ result
        → spelling reply ≡ framed (body_of copy correlation (told_as copy result state))
    told_so result s state request shown is =
        ap spelling (r.answered ∙ ap (λ (q : Request). answer account.config q r.shown) request
        ∙ ap (λ (l : List Shown). answer account.config (request_of copy correlation) l) (shown ∙ ap (λ (x : Accepted). record { result = x; state = state } ∷ []) is)) ∙ spelled_as account.config copy correlation result state

    refused_with : (code : ℤ) (s : Step) (state : PartState) → r.whole.request ≡ request_of copy correlation → r.shown ≡ record { result = s.result; state = state } ∷ [] → s.result ≡ RefusedWith code → MayBeRefused (Refused code)
        → (P → code ≡ pos 1 → ⊥) → HasReply copy correlation m later reply
    refused_with code s state request shown is may never = record {
      body = body_of copy correlation (told_as copy (RefusedWith code) state);
      spelled = told_so (RefusedWith code) s state request shown is;
      short = body_short copy correlation (told_as copy (RefusedWith code) state) ask (omega arith);
      turn = refuses code (refused_so copy correlation code state ask may) may never;
    }

    -- there is no such partition
    no_part : Is None own_step.step → Is None done_step.step → HasReply copy correlation m later reply
    no_part a b =
        let shown = what_shows 0 own_step.step done_step.step no_state own_step.steps_are done_step.steps_are (outside (pos 3) (ap (λ (s : Step). s.result) b) (inr (inl refl)) (λ one. absurd cc)) in
        refused_with (pos 3) own_step.step shown.state own_step.request_is shown.shown_is (ap (λ (s : Step). s.result) a) (inr (inl refl)) (λ p one. absurd cc)

    module _ (n : ℕ) (e : part_of account.config copy.topic copy.index ≡ Some n) (hp : HasPart account n) where
      abbrev h : History
      h = history_of hp.part

      abbrev L : List Point
      L = flat_map points_of later

      -- what was read, and after which place the later calls have theirs
      record HasRead (begin : ℕ) (state : PartState) : Type 0 where
        k : ℕ
        brought : HasBrought (batches_of hp.part.events hp.part.log) copy correlation (body_of copy correlation (told_as copy (Seen n begin) state)) (end_at h hp.plays hp.short k)
        rise : RiseIn n k L

      some_part : (own : AsksLog account n (fetch_outcome (slice_index (followers_of account.config.topics) n) copy.id (asked_part copy) n) own_step.step)
          → (done : AsksLog account n (fetch_outcome (slice_index (followers_of account.config.topics) n) copy.id (asked_part copy) n) done_step.step) → HasReply copy correlation m later reply
      some_part own done =
          let F : ℕ = slice_index (followers_of account.config.topics) n in
          let it : IsHeld copy (call ∷ later) n hp.part = all n hp.part e hp.there in
          let p : Point = own.point in
          let looks : List Point = r.whole.looks in
          let found = subst (Finds account copy correlation m ready.is_id ask n (before_point account p)) (sym own.result) (finds account copy correlation m ready.is_id ask F n (before_point account p)) in
          let last = subst (Finds account copy correlation m ready.is_id ask n (before_point account done.point)) (sym done.result) (finds account copy correlation m ready.is_id ask F n (before_point account done.point)) in
          let shown = what_shows n own_step.step done_step.step (before_point account done.point) own_step.steps_are done_step.steps_are last in
          let accept : call.accept ≡ p ∷ looks =
          r.whole.entries.points ∙ ap (λ (ss : List Step). step_points ss ++ looks) own_step.steps_are ∙ ap (λ (o : Option Point). step_points (record { result = own_step.step.result; point = o } ∷ []) ++ looks) own.left in
          let points : flat_map points_of (call ∷ later) ≡ p ∷ ((looks ++ call.finish) ++ L) = ap (λ (ps : List Point). (ps ++ call.finish) ++ L) accept in
          let first = first_in n it.floor p ((looks ++ call.finish) ++ L) own.there (subst (RiseIn n it.floor) points it.rise) in
          let before : before_point account p ≡ state_before h p.place = before_at account copy correlation m ready.is_id ask n hp.part p hp.there own.there in
          let end : (before_point account p).log_end ≡ end_at h hp.plays hp.short p.place = ap (λ (s : PartState). s.log_end) before in
          elim found [
            | outside code is may beyond ↦
                refused_with code own_step.step shown.state own_step.request_is shown.shown_is is may
                (λ known one. absurd (omega (arith, beyond one, it.reach known, end_rises h hp.plays hp.short it.floor p.place first.0, end)))
            | inside is within ↦
                let begin : ℕ = bytes_in (batches_below copy.end (up_to h hp.plays hp.short p.place)) in
                let result : own_step.step.result ≡ Seen n begin =
                is ∙ ap (λ (s : PartState). Seen n (start_of copy.end s)) before ∙ ap (λ (l : List StoredBatch). Seen n (bytes_in (batches_below copy.end l))) (before_is h hp.plays hp.short p.place) in
                let reach : copy.end ≤ end_at h hp.plays hp.short p.place = omega (arith, within, end) in
                let read : HasRead begin shown.state = elim shown.from [
                  | nothing none ↦ record {
                    k = p.place + 1;
                    brought = subst (λ (s : PartState). HasBrought (batches_of hp.part.events hp.part.log) copy correlation (body_of copy correlation (told_as copy (Seen n begin) s)) (end_at h hp.plays hp.short (p.place + 1))) (sym none)
                        (none_read h hp.plays hp.short copy correlation m ready.is_id ask it.held p.place reach n begin (p.place + 1) (omega arith));
                    rise = behind_in n (p.place + 1) (looks ++ call.finish) L first.1;
                  }
                  | accepted at ↦ record {
                    k = p.place + 1;
                    brought = later_read h hp.plays hp.short copy correlation m ready.is_id ask it.held p.place reach n (p.place + 1) shown.state (omega arith)
                        (at ∙ ap (shown_at account) own.left ∙ at_at account copy correlation m ready.is_id ask n hp.part p hp.there own.there);
                    rise = behind_in n (p.place + 1) (looks ++ call.finish) L first.1;
                  }
                  | looked q front after at mine state ↦
                      let split = seam looks front after L call.finish q at in
                      let second = first_in n (p.place + 1) q (after ++ L) mine (behind_in n (p.place + 1) (looks ++ front) (q ∷ (after ++ L)) (subst (RiseIn n (p.place + 1)) split first.1)) in
                      record {
                        k = q.place + 1;
                        brought = later_read h hp.plays hp.short copy correlation m ready.is_id ask it.held p.place reach n (q.place + 1) shown.state (omega (arith, second.0))
                            (state ∙ at_at account copy correlation m ready.is_id ask n hp.part q hp.there mine);
                        rise = behind_in n (q.place + 1) after L second.1;
                      }
                ] in
                record {
                  body = body_of copy correlation (told_as copy (Seen n begin) shown.state);
                  spelled = told_so (Seen n begin) own_step.step shown.state own_step.request_is shown.shown_is result;
                  short = read.brought.short;
                  turn = brings read.brought.brings read.brought.end read.brought.reached
                      (λ count new taken. carried copy correlation m n read.k (body_of copy correlation (told_as copy (Seen n begin) shown.state)) later hp ready it.held e read.brought read.rise count new taken);
                }
          ]

    by_part : (o : Option ℕ) → part_of account.config copy.topic copy.index ≡ o → Is o own_step.step → Is o done_step.step → HasReply copy correlation m later reply
    by_part None e a b = no_part a b
    by_part (Some n) e a b = some_part n e (part_there account copy.topic copy.index n lawful few e) a b

    whole_turn : HasReply copy correlation m later reply
    whole_turn = by_part (part_of account.config copy.topic copy.index) refl own_step.is done_step.is

  -- a call that asks for what follows the copy's end, and was answered
  pub reply_turn : (copy : Copy) (correlation : ℤ) (m : ℕ) (call : Call) (later : List Call) (reply : Reply) → IsReady copy m → IsAskable copy correlation → IsLawfulCall account call → IsReplyOf account call reply
      → call.frame ≡ asked_body copy correlation → AreHeld copy (call ∷ later) → HasReply copy correlation m later reply
  reply_turn copy correlation m call later reply ready ask (inl w) r frame all = whole_turn copy correlation m call later reply ready ask w r frame all
  reply_turn copy correlation m call later reply ready ask (inr c) r frame all = absurd (subst (λ (how : CallHow). ShowsFor account r.whole.steps call.finish how r.shown) c.how r.shows)
