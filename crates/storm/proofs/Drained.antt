-- A load's requests wait briefly, and the moments of its lines are few.
use Rattle.std.proofs.Common.{◌≤◌, ◌+◌, ◌*◌, ◌/◌, ◌^◌, ℕ, zero, suc, Bool, true, false, List, [], ◌∷◌, ◌++◌, Contains, refl, arith}
use Rattle.std.specs.Prelude.{if◌then◌else◌}
use Rattle.std.specs.List.{AllByRecursion, flat_map, range_with_len}
use Rattle.std.proofs.lemmas.List.Elements.{All-contains, All-from_recursion}
use Rattle.trace_file.specs.declared.line.Line.{Line}
use Rattle.trace_file.specs.declared.line.Line.TheVariants.{Topic, Feed, Shut, Clock, End}
use Rattle.storm.specs.declared.kind.Kind.{Kind}
use Rattle.storm.specs.declared.kind.Kind.TheVariants.{AwaitedProduce, FollowerFetch, PromptProduce, ConsumerFetch}
use Rattle.storm.specs.Generator.{draw, state_after}
use Rattle.storm.specs.Places.{block_of, kind_of}
use Rattle.storm.specs.Requests.{ask_by, ask_of}
use Rattle.storm.specs.Lines.{ends_block, feed_line, request_lines, storm_lines}
use Rattle.storm.specs.Waits.{WaitsBriefly}

drawn_least : (x : ℕ) → 1 + draw x 0 200 ≤ 200
drawn_least x = let y = state_after x 1 / 2 ^ 33 in omega arith

waits_by : (kind : Kind) (x i : ℕ) → WaitsBriefly (ask_by kind x i)
waits_by AwaitedProduce x i = (1 + draw x 0 200, refl, drawn_least x)
waits_by FollowerFetch x i = (1 + draw x 0 200, refl, drawn_least x)
waits_by PromptProduce x i = tt
waits_by ConsumerFetch x i = (1 + draw x 0 200, refl, drawn_least x)

pub wait_briefly : (x i : ℕ) → WaitsBriefly (ask_of x i)
wait_briefly x i = waits_by (kind_of (block_of i)) x i

-- a moment of n requests
abbrev IsEarly : ℕ → Line → Type 0
IsEarly n (Topic name partitions followers least) = Unit {0}
IsEarly n (Feed session bytes) = Unit {0}
IsEarly n (Shut session) = Unit {0}
IsEarly n (Clock t) = t ≤ 10 * (n / 16 + 1)
IsEarly n End = Unit {0}

with_clock : (b : Bool) (n t : ℕ) (lines after : List Line) → t ≤ 10 * (n / 16 + 1) → AllByRecursion (IsEarly n) (lines ++ after)
    → AllByRecursion (IsEarly n) (((if b then Clock t ∷ [] else []) ++ lines) ++ after)
with_clock true n t lines after le all = (le, all)
with_clock false n t lines after le all = all

early_from : (seed n i k : ℕ) → i + k ≤ n → AllByRecursion (IsEarly n) (flat_map (request_lines seed n) (range_with_len i k) ++ End ∷ [])
unfolding feed_line
early_from seed n i zero le = (tt, tt)
early_from seed n i (suc k) le = (
  tt,
  with_clock (ends_block n i) n (10 * (block_of i + 1)) (flat_map (request_lines seed n) (range_with_len (i + 1) k)) (End ∷ []) (omega (arith, le))
      (early_from seed n (i + 1) k (omega (arith, le))),
)

pub early : (seed n t : ℕ) → Contains (storm_lines seed n) (Clock t) → t ≤ 10 * (n / 16 + 1)
early seed n t there = All-contains (IsEarly n) (storm_lines seed n) (Clock t) (All-from_recursion (IsEarly n) (storm_lines seed n) (tt, early_from seed n 0 n (omega arith))) there
