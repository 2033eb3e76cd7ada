-- What the index is told of the partitions at a call's points, or of all.
use Rattle.std.proofs.Common.{◌≡◌, ◌≢◌, ◌⊎◌, ◌↔◌, ℕ, zero, suc, ◌+◌, ◌*◌, ◌/◌, ◌%◌, ◌<◌, ◌≤◌, List, [], ◌∷◌, ◌++◌, length, get_or, set, take, map, Option, Some, None, refl, sym, ap, subst, ◌∙◌, arith, inl, inr}
use Rattle.std.proofs.lemmas.Bool.{cases_lt}
use Rattle.std.proofs.lemmas.List.{length-set, take_all, take_more}
use Rattle.std.specs.Prelude.{unwrap_or}
use Rattle.partlog.specs.Gauges.{numbers_of}
use Rattle.partlog.specs.History.{History}
use Rattle.partlog.specs.State.{state_of}
use Rattle.partlog.specs.declared.numbers.Numbers.{Numbers}
use Rattle.opcond.specs.Tally.{tally}
use Rattle.opcond.specs.declared.need.Need.{Need}
use Rattle.kanswer.specs.PartitionGauges.{end_gauge, high_gauge, visible_gauge}
use Rattle.kanswer.specs.Reached.{gauge_in}
use Rattle.kbytes.proofs.Laws.{get_set_other, get_set_same, same_or_not}
use Rattle.audit.specs.declared.account.Point.{Point}
use Rattle.lone_broker.specs.index.Index.{Index, IsSuspect, WaitsFor, moment_of}
use Rattle.lone_broker.specs.index.Waiting.{Names, WaitsOn}
use Rattle.audit.specs.broker.Board.{empty_history, history_at}
use Rattle.lone_broker.specs.Steps.{HasPart}
use Rattle.lone_broker.specs.Telling.{AreToldOf, AreWarned, IsToldOf, IsWarned, StayWatched}
use Rattle.lone_broker.specs.Watching.{AreTold, IsIndexed, IsQuiet, numbers_now, told_at, told_value}
use Rattle.lone_broker.specs.declared.parked.Parked.{Parked}
use Rattle.lone_broker.proofs.Watching.{indexed_on}

-- ---- every session still waits

pub on_self : (index : Index) (s : ℕ) → WaitsOn index index s
on_self index s = record { watches = record { generation = refl; last = refl; gauges = λ g. (λ h. h, λ h. h) }; coming = refl }

pub on_then : (a b c : Index) (s : ℕ) → WaitsOn a b s → WaitsOn b c s → WaitsOn a c s
on_then a b c s one two = record {
  watches = record {
    generation = two.watches.generation ∙ one.watches.generation;
    last = two.watches.last ∙ one.watches.last;
    gauges = λ g. (λ h. (one.watches.gauges g).0 ((two.watches.gauges g).0 h), λ h. (two.watches.gauges g).1 ((one.watches.gauges g).1 h));
  };
  coming = two.coming ∙ one.coming;
}

pub warned_self : (index : Index) → IsWarned index index
warned_self index = record { moment = refl; waits = on_self index; more = λ s h. h }

pub warned_then : (a b c : Index) → IsWarned a b → IsWarned b c → IsWarned a c
warned_then a b c one two = record {
  moment = two.moment ∙ one.moment;
  waits = λ s. on_then a b c s (one.waits s) (two.waits s);
  more = λ s h. two.more s (one.more s h);
}

-- a gauge rose
pub risen_warned : (before after : Index) (gauge : ℕ) → ((s : ℕ) → IsSuspect after s ↔ (IsSuspect before s ⊎ WaitsFor before s gauge)) → ((s : ℕ) → WaitsOn before after s) → moment_of after ≡ moment_of before → IsWarned before after
risen_warned before after gauge suspects on moment = record { moment = moment; waits = on; more = λ s h. (suspects s).1 (inl h) }

-- ---- the gauges of one partition

by_kind : (gauge part : ℕ) → gauge / 3 ≡ part → (gauge ≡ 3 * part) ⊎ ((gauge ≡ 3 * part + 1) ⊎ (gauge ≡ 3 * part + 2))
by_kind gauge part is = elim (cases_lt gauge (3 * part + 1)) [
  | inl first ↦ inl (omega (arith, is, first))
  | inr past ↦ elim (cases_lt gauge (3 * part + 2)) [
    | inl second ↦ inr (inl (omega (arith, is, past, second)))
    | inr behind ↦ inr (inr (omega (arith, is, past, behind)))
  ]
]

-- the sessions that wait for a gauge are suspects where its value changed
abbrev pub WarnsOf : ℕ → ℕ → Index → Index → ℕ → Type 0
WarnsOf was now before after gauge = was ≢ now → (s : ℕ) → WaitsFor before s gauge → IsSuspect after s

-- the index was told of each of the three
pub part_warned : (part : ℕ) (was now : Numbers) (a b c d : Index) → IsWarned a b → IsWarned b c → IsWarned c d
    → WarnsOf was.high now.high a b (high_gauge part) → WarnsOf was.visible now.visible b c (visible_gauge part) → WarnsOf was.bytes now.bytes c d (end_gauge part) → AreWarned part was now a d
part_warned part was now a b c d one two three high visible bytes gauge s is differs waits = elim (by_kind gauge part is) [
  | inl first ↦
      let value : (n : Numbers) → gauge_in gauge n ≡ n.high = λ n. let zeroth : gauge % 3 ≡ 0 = omega (arith, first) in rw zeroth refl in
      three.more s (two.more s (high (λ same. differs (value was ∙ same ∙ sym (value now))) s (subst (WaitsFor a s) first waits)))
  | inr (inl second) ↦
      let value : (n : Numbers) → gauge_in gauge n ≡ n.visible = λ n. let one_left : gauge % 3 ≡ 1 = omega (arith, second) in rw one_left refl in
      three.more s (visible (λ same. differs (value was ∙ same ∙ sym (value now))) s (((one.waits s).watches.gauges (3 * part + 1)).1 (subst (WaitsFor a s) second waits)))
  | inr (inr third) ↦
      let value : (n : Numbers) → gauge_in gauge n ≡ n.bytes = λ n. let two_left : gauge % 3 ≡ 2 = omega (arith, third) in rw two_left refl in
      let there : WaitsFor b s (3 * part + 2) = ((one.waits s).watches.gauges (3 * part + 2)).1 (subst (WaitsFor a s) third waits) in
      bytes (λ same. differs (value was ∙ same ∙ sym (value now))) s (((two.waits s).watches.gauges (3 * part + 2)).1 there)
]

-- ---- what was told

pub told_set_same : (told : List Numbers) (part : ℕ) (now : Numbers) → part < length told → told_at (set told part now) part ≡ now
told_set_same told part now there = ap (λ (o : Option Numbers). unwrap_or o (numbers_of (state_of (empty_history 0)))) (get_set_same told part now there)

pub told_set_other : (told : List Numbers) (part other : ℕ) (now : Numbers) → other ≢ part → told_at (set told part now) other ≡ told_at told other
told_set_other told part other now differs = ap (λ (o : Option Numbers). unwrap_or o (numbers_of (state_of (empty_history 0)))) (get_set_other told part other now differs)

-- behind the last partition
told_behind : (told : List Numbers) (part : ℕ) → length told ≤ part → told_at told part ≡ numbers_of (state_of (empty_history 0))
told_behind [] part behind = refl
told_behind (n ∷ told) zero behind = absurd (omega (arith, behind))
told_behind (n ∷ told) (suc part) behind = told_behind told part (omega (arith, behind))

history_behind : (parts : List History) (part : ℕ) → length parts ≤ part → history_at parts part ≡ empty_history 0
history_behind [] part behind = refl
history_behind (h ∷ parts) zero behind = absurd (omega (arith, behind))
history_behind (h ∷ parts) (suc part) behind = history_behind parts part (omega (arith, behind))

pub alike_behind : (told : List Numbers) (parts : List History) (part : ℕ) → length told ≡ length parts → length told ≤ part → told_at told part ≡ numbers_now parts part
alike_behind told parts part size behind = told_behind told part behind ∙ sym (ap (λ (h : History). numbers_of (state_of h)) (history_behind parts part (omega (arith, size, behind))))

-- ---- whoever was watched is so still

-- the names of needs
names_first : (need : Need) (needs : List Need) → Names (need ∷ needs) need.gauge
names_first need needs = (0, need, omega arith, refl, refl)

names_later : (need : Need) (needs : List Need) (gauge : ℕ) → Names needs gauge → Names (need ∷ needs) gauge
names_later need needs gauge names = (suc names.0, names.1, omega (arith, names.2), names.3, names.4)

same_values : (told later : List Numbers) (needs : List Need) → ((gauge : ℕ) → Names needs gauge → told_value later gauge ≡ told_value told gauge) → map (λ (need : Need). told_value later need.gauge) needs ≡ map (λ (need : Need). told_value told need.gauge) needs
same_values told later [] same = refl
same_values told later (need ∷ needs) same =
    ap (λ (v : ℕ). v ∷ map (λ (x : Need). told_value later x.gauge) needs) (same need.gauge (names_first need needs))
    ∙ ap (λ (vs : List ℕ). told_value told need.gauge ∷ vs) (same_values told later needs (λ g names. same g (names_later need needs g names)))

module _ (before after : Index) (told : List Numbers) (part : ℕ) (now : Numbers) (there : part < length told) (warned : IsWarned before after) (tells : AreWarned part (told_at told part) now before after) where
  value_kept : (s gauge : ℕ) → WaitsFor before s gauge → ¬ IsSuspect after s → told_value (set told part now) gauge ≡ told_value told gauge
  value_kept s gauge waits never = elim (same_or_not (gauge / 3) part) [
    | inl here ↦ elim (same_or_not (gauge_in gauge (told_at told part)) (gauge_in gauge now)) [
      | inl same ↦
          ap (λ (p : ℕ). gauge_in gauge (told_at (set told part now) p)) here ∙ ap (gauge_in gauge) (told_set_same told part now there) ∙ sym same ∙ sym (ap (λ (p : ℕ). gauge_in gauge (told_at told p)) here)
      | inr differs ↦ absurd (never (tells gauge s here differs waits))
    ]
    | inr other ↦ ap (gauge_in gauge) (told_set_other told part (gauge / 3) now other)
  ]

  quiet_kept : (s : ℕ) (o : Option Parked) → IsIndexed before s o → ¬ IsSuspect after s → IsQuiet told (moment_of before) o → IsQuiet (set told part now) (moment_of after) o
  quiet_kept s None i never quiet = tt
  quiet_kept s (Some parked) i never quiet = record {
    unreached = subst (λ (vs : List ℕ). tally parked.op.needs vs < parked.op.least)
        (sym (same_values told (set told part now) parked.op.needs (λ g names. value_kept s g ((i.gauges g).1 names) never))) quiet.unreached;
    early = subst (λ (m : ℕ). m < parked.op.deadline) (sym warned.moment) quiet.early;
  }

  pub told_watched : StayWatched before told after (set told part now)
  told_watched parked h = record {
    indexed = λ s. indexed_on before after s (parked s) (warned.waits s) warned.moment (h.indexed s);
    quiet = λ s never. quiet_kept s (parked s) (h.indexed s) never (h.quiet s (λ was. never (warned.more s was)));
  }

told_there : (told : List Numbers) (part : ℕ) (d : Numbers) → part < length told → told_at told part ≡ get_or told part d
told_there [] part d there = absurd (omega (arith, there))
told_there (n ∷ told) zero d there = refl
told_there (n ∷ told) (suc part) d there = told_there told part d (omega (arith, there))

pub told_watched_at : (before after : Index) (told : List Numbers) (part : ℕ) (d now : Numbers) → part < length told → IsWarned before after → AreWarned part (get_or told part d) now before after → StayWatched before told after (set told part now)
told_watched_at before after told part d now there warned tells =
    told_watched before after told part now there warned (subst (λ (n : Numbers). AreWarned part n now before after) (sym (told_there told part d there)) tells)

-- ---- of one partition, of all of them, of one point, and of one more

pub told_part : (parts : List History) (part : ℕ) (told : List Numbers) (now : Numbers) → part < length told → now ≡ numbers_now parts part → IsToldOf parts part told (set told part now)
told_part parts part told now there is = record {
  size = length-set told part now;
  said = told_set_same told part now there ∙ is;
  others = λ other differs. told_set_other told part other now differs;
}

-- those below this number
pub record AreToldBelow (parts : List History) (upto : ℕ) (told : List Numbers) : Type 0 where
  pub size : length told ≡ length parts
  pub each : (part : ℕ) → part < upto → told_at told part ≡ numbers_now parts part

pub below_more : (parts : List History) (upto : ℕ) (told later : List Numbers) → AreToldBelow parts upto told → IsToldOf parts upto told later → AreToldBelow parts (upto + 1) later
below_more parts upto told later below one = record {
  size = one.size ∙ below.size;
  each = λ part lt. elim (same_or_not part upto) [
    | inl here ↦ subst (λ (p : ℕ). told_at later p ≡ numbers_now parts p) (sym here) one.said
    | inr other ↦ one.others part other ∙ below.each part (omega (arith, lt, other))
  ];
}

pub below_all : (parts : List History) (upto : ℕ) (told : List Numbers) → length told ≤ upto → AreToldBelow parts upto told → AreTold told parts
below_all parts upto told all below = record {
  size = below.size;
  each = λ part. elim (cases_lt part upto) [
    | inl lt ↦ below.each part lt
    | inr behind ↦ alike_behind told parts part below.size (omega (arith, all, behind))
  ];
}

pub told_one : (parts : List History) (point : Point) (told later : List Numbers) → IsToldOf parts point.part told later → AreToldOf parts (point ∷ []) told later
told_one parts point told later one = record {
  size = one.size;
  said = λ part has. elim has [
    | inl here ↦ subst (λ (p : ℕ). told_at later p ≡ numbers_now parts p) here one.said
    | inr none ↦ absurd none
  ];
  still = λ part. elim (same_or_not part point.part) [
    | inl here ↦ inr (subst (λ (p : ℕ). told_at later p ≡ numbers_now parts p) (sym here) one.said)
    | inr other ↦ inl (one.others part other)
  ];
}

-- the clock's history has no numbers
pub told_none : (parts : List History) (point : Point) (told : List Numbers) → length told ≡ length parts → length told ≤ point.part → AreToldOf parts (point ∷ []) told told
told_none parts point told size behind = record {
  size = refl;
  said = λ part has. elim has [
    | inl here ↦ subst (λ (p : ℕ). told_at told p ≡ numbers_now parts p) here (alike_behind told parts point.part size behind)
    | inr none ↦ absurd none
  ];
  still = λ part. inl refl;
}

pub told_nothing : (parts : List History) (told : List Numbers) → AreToldOf parts [] told told
told_nothing parts told = record { size = refl; said = λ part has. absurd has; still = λ part. inl refl }

has_split : (part : ℕ) (front back : List Point) → HasPart part (front ++ back) → HasPart part front ⊎ HasPart part back
has_split part [] back has = inr has
has_split part (point ∷ front) back has = elim has [
  | inl here ↦ inl (inl here)
  | inr later ↦ elim (has_split part front back later) [ inl in_front ↦ inl (inr in_front) | inr in_back ↦ inr in_back ]
]

pub told_more : (parts : List History) (front : List Point) (point : Point) (told later last : List Numbers) → AreToldOf parts front told later → AreToldOf parts (point ∷ []) later last → AreToldOf parts (front ++ point ∷ []) told last
told_more parts front point told later last one two = record {
  size = two.size ∙ one.size;
  said = λ part has. elim (has_split part front (point ∷ []) has) [
    | inl in_front ↦ elim (two.still part) [ inl was ↦ was ∙ one.said part in_front | inr now ↦ now ]
    | inr here ↦ two.said part here
  ];
  still = λ part. elim (two.still part) [
    | inl was ↦ elim (one.still part) [ inl before ↦ inl (was ∙ before) | inr now ↦ inr (was ∙ now) ]
    | inr now ↦ inr now
  ];
}

pub told_turn : (parts : List History) (points : List Point) (i : ℕ) (d : Point) (told later last : List Numbers) → i < length points → AreToldOf parts (take i points) told later → AreToldOf parts (get_or points i d ∷ []) later last
    → AreToldOf parts (take (i + 1) points) told last
told_turn parts points i d told later last lt one two =
    subst (λ (ps : List Point). AreToldOf parts ps told last) (sym (take_more points i d lt)) (told_more parts (take i points) (get_or points i d) told later last one two)

pub told_all : (parts : List History) (points : List Point) (i : ℕ) (told last : List Numbers) → length points ≤ i → AreToldOf parts (take i points) told last → AreToldOf parts points told last
told_all parts points i told last all of = subst (λ (ps : List Point). AreToldOf parts ps told last) (take_all i points all) of
