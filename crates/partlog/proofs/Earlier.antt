-- An earlier state of a log is a front of it.
use Rattle.std.proofs.Common.{◌≡◌, ℕ, List, [], ◌++◌, length, take, drop, arith, sym, ap, subst, ◌∙◌}
use Rattle.std.proofs.lemmas.List.{take-append-drop, length-take-le}
use Rattle.std.proofs.lemmas.List.Elements.{All-take}
use Rattle.std.proofs.lemmas.List.Sums.{sum_by-take-le}
use Rattle.partlog.specs.Added.{added_bytes, bytes_of}
use Rattle.partlog.specs.Batches.{StoredBatch, batches_of, batches_after}
use Rattle.partlog.specs.Gauges.{bytes_in, batches_below}
use Rattle.partlog.specs.History.{History}
use Rattle.partlog.specs.Kept.{IsDense, IsKept}
use Rattle.partlog.specs.Readable.{IsReadable}
use Rattle.partlog.specs.State.{state_of, state_before, front_of}
use Rattle.partlog.specs.Taken.{batches_past, batches_upto}
use Rattle.partlog.proofs.Appending.{batches-append}
use Rattle.partlog.proofs.Below.{below-fitting, past-below, upto-all, upto-below, upto-whole, batches-take}
use Rattle.partlog.proofs.Rows.{IsFull, IsRising}
use Rattle.partlog.proofs.Whole.{kept-full, kept-rising}

pub kept-front : (h : History) (place : ℕ) → IsKept h.log h.events → IsKept (front_of h place).log (front_of h place).events
kept-front h place kept =
    let size : length (take (bytes_of (take place h.events)) h.log) ≡ bytes_of (take place h.events) = length-take-le (bytes_of (take place h.events)) h.log (omega (arith, sum_by-take-le added_bytes h.events place, kept.whole)) in
    record {
      whole = sym size;
      bounded = omega (arith, size, sum_by-take-le added_bytes h.events place, kept.whole, kept.bounded);
      dense = All-take IsDense place h.events kept.dense;
    }

pub readable-now : (h : History) → IsKept h.log h.events → IsReadable (state_of h).batches (state_of h)
readable-now h kept =
    let bs : List StoredBatch = batches_of h.events h.log in
    let high : ℕ = (state_of h).high in
    let full = kept-full h.log h.events kept in
    let rising = kept-rising h.log h.events kept in
    record {
      visible = λ start. ap (λ l. batches_past start l) (below-fitting high 0 bs full rising) ∙ past-below start high 0 bs rising;
      all = λ start. ap (λ l. batches_past start l) (upto-all bs);
    }

-- the batches of the earlier entries, and of the later ones
later : (h : History) (place : ℕ) → batches_of h.events h.log ≡ (state_before h place).batches ++ batches_after (take place h.events) (drop place h.events) (drop (bytes_of (take place h.events)) h.log)
later h place =
    ap (λ es. batches_of es h.log) (sym (take-append-drop place h.events))
    ∙ batches-append [] (take place h.events) (drop place h.events) h.log
    ∙ ap (λ bs. bs ++ batches_after (take place h.events) (drop place h.events) (drop (bytes_of (take place h.events)) h.log)) (sym (batches-take (bytes_of (take place h.events)) [] (take place h.events) h.log (omega arith)))

pub readable-before : (h : History) (place : ℕ) → IsKept h.log h.events → IsReadable (state_of h).batches (state_before h place)
readable-before h place kept =
    let front : History = front_of h place in
    let xs : List StoredBatch = (state_before h place).batches in
    let ys : List StoredBatch = batches_after (take place h.events) (drop place h.events) (drop (bytes_of (take place h.events)) h.log) in
    let high : ℕ = (state_before h place).high in
    let parts = later h place in
    let full : IsFull (xs ++ ys) = subst IsFull parts (kept-full h.log h.events kept) in
    let rising : IsRising 0 xs = kept-rising front.log front.events (kept-front h place kept) in
    record {
      visible = λ start. ap (λ l. batches_past start (batches_upto (bytes_in (batches_below high xs)) l)) parts ∙ upto-below xs ys full start high 0 rising;
      all = λ start. ap (λ l. batches_past start (batches_upto (bytes_in xs) l)) parts ∙ ap (λ l. batches_past start l) (upto-whole xs ys full);
    }
