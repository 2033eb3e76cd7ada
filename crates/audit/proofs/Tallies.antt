-- The numbers of a summary, step by step.
use Rattle.std.proofs.Common.{◌≡◌, ℕ, suc, ◌+◌, ◌-◌, ◌<◌, Bool, true, false, cond, Some, List, [], ◌∷◌, ◌++◌, length, get_or, take, drop, refl, sym, ap, ◌∙◌, arith, append-nil}
use Rattle.std.specs.Prelude.{slice_get}
use mir.Val.{bool_byte}
use Rattle.std.proofs.lemmas.List.{take_more, length-take}
use Rattle.std.proofs.lemmas.Grind.{flat_map-append}
use Rattle.std.specs.List.{flat_map}
use Rattle.partlog.specs.declared.event.PartEvent.{PartEvent}
use Rattle.partlog.specs.declared.event.PartEvent.TheVariants.{Append, Follow, Look, Shrink}
use Rattle.partlog.specs.Batches.{batches_after, batches_of}
use Rattle.audit.specs.declared.account.PartAccount.{PartAccount}
use Rattle.audit.specs.declared.account.Call.{Call}
use Rattle.kbytes.proofs.Laws.{some_is}
use Rattle.audit.specs.Printed.{is_parked, parked_of, numbered}

any_before : (before after : List PartEvent) (e : PartEvent) (log other : List ℕ) → length (batches_after before (e ∷ []) log) ≡ length (batches_after after (e ∷ []) other)
any_before before after (Append by seq count len) log other = refl
any_before before after (Follow by seq replica offset t) log other = refl
any_before before after (Look by seq) log other = refl
any_before before after (Shrink by replica t) log other = refl

-- the batches of one entry more
pub batches_more : (before events : List PartEvent) (e : PartEvent) (log : List ℕ) → length (batches_after before (events ++ e ∷ []) log) ≡ length (batches_after before events log) + length (batches_of (e ∷ []) log)
batches_more before [] e log = any_before before [] e log log ∙ omega arith
batches_more before (Append by seq count len ∷ events) e log =
    omega (arith, batches_more (before ++ Append by seq count len ∷ []) events e (drop len log), any_before [] [] e (drop len log) log)
batches_more before (Follow by seq replica offset t ∷ events) e log = batches_more (before ++ Follow by seq replica offset t ∷ []) events e log
batches_more before (Look by seq ∷ events) e log = batches_more (before ++ Look by seq ∷ []) events e log
batches_more before (Shrink by replica t ∷ events) e log = batches_more (before ++ Shrink by replica t ∷ []) events e log

-- whether the last call is parked is said by the last alone
pub parked_last : (calls : List Call) (call : Call) → slice_get calls (length calls - 1) ≡ Some call → parked_of calls ≡ cond (is_parked call.how) 1 0
parked_last [] call e = absurd cc
parked_last (c ∷ []) call e = ap (λ (x : Call). cond (is_parked x.how) 1 0) (some_is c call e)
parked_last (c ∷ d ∷ calls) call e =
    let before : length (c ∷ d ∷ calls) - 1 ≡ suc (length (d ∷ calls) - 1) = omega arith in
    parked_last (d ∷ calls) call (sym (ap (slice_get (c ∷ d ∷ calls)) before) ∙ e)

pub byte_of : (b : Bool) → bool_byte b ≡ cond b 1 0
byte_of true = refl
byte_of false = refl

pub numbered_more : (n : ℕ) (parts : List PartAccount) (part : PartAccount) → numbered n (parts ++ part ∷ []) ≡ numbered n parts ++ (n + length parts, part) ∷ []
numbered_more n [] part = let same : n ≡ n + 0 = omega arith in ap (λ (k : ℕ). (k, part) ∷ []) same
numbered_more n (p ∷ parts) part =
    let same : n + 1 + length parts ≡ n + length (p ∷ parts) = omega arith in
    ap (λ (ps : List (ℕ × PartAccount)). (n, p) ∷ ps) (numbered_more (n + 1) parts part ∙ ap (λ (k : ℕ). numbered (n + 1) parts ++ (k, part) ∷ []) same)

-- the line of one partition more, whichever line that is
pub parts_more : (line : ℕ × PartAccount → List ℕ) (parts : List PartAccount) (n : ℕ) (part : PartAccount) → n < length parts → part ≡ get_or parts n part
    → flat_map line (numbered 0 (take (n + 1) parts)) ≡ flat_map line (numbered 0 (take n parts)) ++ line (n, part)
parts_more line parts n part lt is =
    let front = take n parts in
    let all : take (n + 1) parts ≡ front ++ part ∷ [] = take_more parts n part lt ∙ ap (λ (p : PartAccount). front ++ p ∷ []) (sym is) in
    let count : 0 + length front ≡ n = omega (arith, length-take n parts) in
    ap (λ (ps : List PartAccount). flat_map line (numbered 0 ps)) all
    ∙ ap (flat_map line) (numbered_more 0 front part ∙ ap (λ (k : ℕ). numbered 0 front ++ (k, part) ∷ []) count)
    ∙ flat_map-append line (numbered 0 front) ((n, part) ∷ [])
    ∙ ap (λ (t : List ℕ). flat_map line (numbered 0 front) ++ t) (append-nil (line (n, part)))
