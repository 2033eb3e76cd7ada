-- A change of one table inside the shape leaves what lies outside as it was.
use Rattle.std.proofs.Common.{ℕ, ◌^◌, ◌<◌, sym, subst, ◌∙◌, arith}
use Rattle.room_core.specs.declared.parts.Source.{Source}
use Rattle.room_core.specs.declared.parts.Session.{Session}
use Rattle.room_core.specs.Put.{put}
use Rattle.room_core.specs.Gauges.{IsGauge, IsPass, IsScanner}
use Rattle.room_core.specs.Within.{IsBeyond, IsWithin, ScannerIsWithin}
use Rattle.room_core.specs.State.{State, Caller, Scanner}
use Rattle.room_core.proofs.Puts.{at-put, put-other}

pub beyond : {A : Type 0} (n : ℕ) (f : ℕ → A) (i : ℕ) (x start : A) → i < n → IsBeyond n f start → IsBeyond n (put f i x) start
beyond n f i x start l b j m = put-other f i x j (λ e. omega arith) ∙ b j m

module _ (s : State) (w : IsWithin s) where
  pub with_value : (gauge number : ℕ) → IsGauge s.shape gauge → IsWithin (record s { value = put s.value gauge number })
  with_value gauge number l = record {
    gauges = record {
      value = beyond s.shape.gauges s.value gauge number _ l w.gauges.value;
      asked = w.gauges.asked;
      begun = w.gauges.begun;
      source = w.gauges.source;
    };
    passes = w.passes;
    scanners = w.scanners;
  }

  pub with_asked : (gauge number : ℕ) → IsGauge s.shape gauge → IsWithin (record s { asked = put s.asked gauge number })
  with_asked gauge number l = record {
    gauges = record {
      value = w.gauges.value;
      asked = beyond s.shape.gauges s.asked gauge number _ l w.gauges.asked;
      begun = w.gauges.begun;
      source = w.gauges.source;
    };
    passes = w.passes;
    scanners = w.scanners;
  }

  pub with_begun : (gauge number : ℕ) → IsGauge s.shape gauge → IsWithin (record s { begun = put s.begun gauge number })
  with_begun gauge number l = record {
    gauges = record {
      value = w.gauges.value;
      asked = w.gauges.asked;
      begun = beyond s.shape.gauges s.begun gauge number _ l w.gauges.begun;
      source = w.gauges.source;
    };
    passes = w.passes;
    scanners = w.scanners;
  }

  pub with_source : (gauge : ℕ) (new : Source) → IsGauge s.shape gauge → IsWithin (record s { source = put s.source gauge new })
  with_source gauge new l = record {
    gauges = record {
      value = w.gauges.value;
      asked = w.gauges.asked;
      begun = w.gauges.begun;
      source = beyond s.shape.gauges s.source gauge new _ l w.gauges.source;
    };
    passes = w.passes;
    scanners = w.scanners;
  }

  pub with_session : (pass : ℕ) (new : Session) → IsPass s.shape pass → new.generation < 2 ^ 32 → IsWithin (record s { session = put s.session pass new })
  with_session pass new l few = record {
    gauges = w.gauges;
    passes = record {
      session = beyond s.shape.passes s.session pass new _ l w.passes.session;
      description = w.passes.description;
      marks = w.passes.marks;
      caller = w.passes.caller;
      described = w.passes.described;
      marked = w.passes.marked;
      generation = at-put s.session pass new (λ p x. x.generation < 2 ^ 32) few (λ p n. w.passes.generation p);
    };
    scanners = w.scanners;
  }

  pub with_word : (pass at word : ℕ) → IsPass s.shape pass → at < 195 → IsWithin (record s { description = put s.description pass (put (s.description pass) at word) })
  with_word pass at word l few = record {
    gauges = w.gauges;
    passes = record {
      session = w.passes.session;
      description = beyond s.shape.passes s.description pass (put (s.description pass) at word) _ l w.passes.description;
      marks = w.passes.marks;
      caller = w.passes.caller;
      described = at-put s.description pass (put (s.description pass) at word) (λ p x. IsBeyond 195 x 0) (beyond 195 (s.description pass) at word 0 few (w.passes.described pass)) (λ p n. w.passes.described p);
      marked = w.passes.marked;
      generation = w.passes.generation;
    };
    scanners = w.scanners;
  }

  pub with_mark : (pass i generation : ℕ) → IsPass s.shape pass → i < 65 → IsWithin (record s { marks = put s.marks pass (put (s.marks pass) i generation) })
  with_mark pass i generation l few = record {
    gauges = w.gauges;
    passes = record {
      session = w.passes.session;
      description = w.passes.description;
      marks = beyond s.shape.passes s.marks pass (put (s.marks pass) i generation) _ l w.passes.marks;
      caller = w.passes.caller;
      described = w.passes.described;
      marked = at-put s.marks pass (put (s.marks pass) i generation) (λ p x. IsBeyond 65 x 0) (beyond 65 (s.marks pass) i generation 0 few (w.passes.marked pass)) (λ p n. w.passes.marked p);
      generation = w.passes.generation;
    };
    scanners = w.scanners;
  }

  pub with_caller : (pass : ℕ) (new : Caller) → IsPass s.shape pass → IsWithin (record s { caller = put s.caller pass new })
  with_caller pass new l = record {
    gauges = w.gauges;
    passes = record {
      session = w.passes.session;
      description = w.passes.description;
      marks = w.passes.marks;
      caller = beyond s.shape.passes s.caller pass new _ l w.passes.caller;
      described = w.passes.described;
      marked = w.passes.marked;
      generation = w.passes.generation;
    };
    scanners = w.scanners;
  }

  pub with_scanner : (k : ℕ) (new : Scanner) → IsScanner s.shape k → ScannerIsWithin s.shape new → IsWithin (record s { scanner = put s.scanner k new })
  with_scanner k new is r = record {
    gauges = w.gauges;
    passes = w.passes;
    scanners = record {
      scanner = λ j n. put-other s.scanner k new j (λ e. n (subst (IsScanner s.shape) (sym e) is)) ∙ w.scanners.scanner j n;
      each = at-put s.scanner k new (λ j x. ScannerIsWithin s.shape x) r (λ j n. w.scanners.each j);
    };
  }
