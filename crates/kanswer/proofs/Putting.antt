-- A batch is put into a log, where enough replicas are in sync and there is room.
use Rattle.std.proofs.Common.{ℤ, pos, ◌≡◌, ℕ, ◌+◌, ◌≤◌, ◌<◌, Bool, true, false, cond, ltb, List, [], length, Result, Ok, Err, sym, ap, ◌∙◌, arith, inl, inr}
use Rattle.std.proofs.lemmas.Bool.{le-ltb, lt-ltb}
use Rattle.std.proofs.lemmas.Bool.Decides.{leb_tells}
use Rattle.std.specs.Prelude.{IfOk}
use Rattle.kbatch.specs.Kept.{count_of}
use Rattle.partlog.specs.Added.{log_end_of}
use Rattle.partlog.specs.Appended.{appended}
use Rattle.partlog.specs.Gauges.{gauges_of}
use Rattle.partlog.specs.History.{History}
use Rattle.partlog.specs.Kept.{IsKept}
use Rattle.partlog.specs.State.{PartState, state_of}
use Rattle.partlog.proofs.Laws.{bytes_in-batches}
use Rattle.kanswer.specs.declared.accepted.Accepted.TheVariants.{Refused, Appended}
use Rattle.kanswer.specs.Decisions.{Put, Outcome, look, append_outcome, full_code}
use Rattle.kanswer.specs.LogReadings.{IsCarriable}
use Rattle.kanswer.specs.WithEntry.{entered}
use Rattle.kanswer.specs.declared.entered.Entered.{Entered}
use Rattle.kanswer.specs.Entered.{HasEntered}

pub if_ok : {T E : Type 0} {P Q : T → Type 0} (r : Result T E) → IfOk r P → ((x : T) → P x → Q x) → IfOk r Q
if_ok (Ok x) p f = f x p
if_ok (Err e) p f = tt

-- a log's bytes are those of its batches
pub log_bytes : (h : History) → IsKept h.log h.events → (gauges_of (state_of h)).bytes ≡ length h.log
log_bytes h kept = bytes_in-batches [] h.events h.log (omega (arith, kept.whole)) ∙ kept.whole

-- ---- how many replicas are in sync

-- what becomes of a batch where enough are
abbrev with_enough : ℤ → ℕ → ℕ → List ℕ → PartState → Outcome
with_enough version part count batch state =
    cond (ltb 67108864 ((gauges_of state).bytes + length batch)) (look (Refused (full_code version))) (record { result = Appended part state.log_end count; entry = Put count batch })

has_enough : (version : ℤ) (least part count : ℕ) (batch : List ℕ) (state : PartState) → least ≤ state.insync
    → append_outcome version least part count batch state ≡ with_enough version part count batch state
has_enough version least part count batch state enough =
    ap (λ (b : Bool). cond b (look (Refused (pos 19))) (with_enough version part count batch state)) (le-ltb state.insync least enough)

pub has_too_few : (version : ℤ) (least part count : ℕ) (batch : List ℕ) (state : PartState) → state.insync < least
    → append_outcome version least part count batch state ≡ look (Refused (pos 19))
has_too_few version least part count batch state few =
    ap (λ (b : Bool). cond b (look (Refused (pos 19))) (with_enough version part count batch state)) (lt-ltb state.insync least few)

-- ---- room

has_room : (version : ℤ) (least part count : ℕ) (batch : List ℕ) (h : History) → IsKept h.log h.events → least ≤ (state_of h).insync → length h.log + length batch ≤ 67108864
    → append_outcome version least part count batch (state_of h) ≡ record { result = Appended part (state_of h).log_end count; entry = Put count batch }
has_room version least part count batch h kept enough room =
    let no : ltb 67108864 ((gauges_of (state_of h)).bytes + length batch) ≡ false = le-ltb 67108864 ((gauges_of (state_of h)).bytes + length batch) (omega (arith, room, log_bytes h kept)) in
    has_enough version least part count batch (state_of h) enough
    ∙ ap (λ (b : Bool). cond b (look (Refused (full_code version))) (record { result = Appended part (state_of h).log_end count; entry = Put count batch })) no

has_no_room : (version : ℤ) (least part count : ℕ) (batch : List ℕ) (h : History) → IsKept h.log h.events → least ≤ (state_of h).insync → 67108864 < length h.log + length batch
    → append_outcome version least part count batch (state_of h) ≡ look (Refused (full_code version))
has_no_room version least part count batch h kept enough full =
    let yes : ltb 67108864 ((gauges_of (state_of h)).bytes + length batch) ≡ true = lt-ltb 67108864 ((gauges_of (state_of h)).bytes + length batch) (omega (arith, full, log_bytes h kept)) in
    has_enough version least part count batch (state_of h) enough
    ∙ ap (λ (b : Bool). cond b (look (Refused (full_code version))) (record { result = Appended part (state_of h).log_end count; entry = Put count batch })) yes

pub not_above : (a b : ℕ) → (a < b → ⊥) → b ≤ a
not_above a b never = elim (leb_tells b a) [ inl le ↦ le.1 | inr lt ↦ absurd (never lt.1) ]

-- a batch was put
pub put_entered : (version : ℤ) (by seq t least part base place count : ℕ) (h left : History) (batch : List ℕ) → IsKept h.log h.events → least ≤ (state_of h).insync → length h.log + length batch ≤ 67108864
    → left ≡ appended h by seq batch → base ≡ log_end_of h.events → place ≡ length h.events → count ≡ count_of batch → IsCarriable (Appended part base count)
    → HasEntered by seq t (append_outcome version least part (count_of batch) batch) h left (record { became = Appended part base count; place = place })
put_entered version by seq t least part base place count h left batch kept enough room is_left is_base is_place is_count carriable =
    let outcome = append_outcome version least part (count_of batch) batch in
    let found : outcome (state_of h) ≡ record { result = Appended part (state_of h).log_end (count_of batch); entry = Put (count_of batch) batch } = has_room version least part (count_of batch) batch h kept enough room in
    record {
      history = is_left ∙ ap (λ (o : Outcome). entered h by seq t o.entry) (sym found);
      became = ap (λ (b : ℕ). Appended part b count) is_base ∙ ap (λ (k : ℕ). Appended part (log_end_of h.events) k) is_count ∙ ap (λ (o : Outcome). o.result) (sym found);
      place = is_place;
      carriable = carriable;
    }

-- the log was full
pub full_entered : (version : ℤ) (by seq t least part : ℕ) (h after : History) (batch : List ℕ) (came : Entered) → IsKept h.log h.events → least ≤ (state_of h).insync → 67108864 < length h.log + length batch
    → ((outcome : PartState → Outcome) → outcome (state_of h) ≡ look (Refused (full_code version)) → HasEntered by seq t outcome h after came)
    → HasEntered by seq t (append_outcome version least part (count_of batch) batch) h after came
full_entered version by seq t least part h after batch came kept enough full then =
    then (append_outcome version least part (count_of batch) batch) (has_no_room version least part (count_of batch) batch h kept enough full)
