-- What follows from what is kept of the pins, and what a change of handles does to it.
use Rattle.std.proofs.Common.{◌≡◌, ℕ, ◌+◌, ◌-◌, ◌<◌, ◌≤◌, List, [], ◌∷◌, length, map, take, drop, position, count_by, replicate, slice_set, get_or, Bool, true, false, cond, ◌==◌, Option, Some, None, refl, ap, sym, ◌∙◌, inl, inr, suc, zero, arith}
use Rattle.std.specs.List.{position_or_len}
use Rattle.std.specs.Option.{option_map, option_map_or}
use Rattle.std.proofs.lemmas.Bool.{cases_lt, cases_eq, and_parts}
use Rattle.std.proofs.lemmas.Bool.Decides.{nat_tests}
use Rattle.std.proofs.lemmas.List.{length-map, length-set, get_or-set_same, get_or-set_other, get_or-replicate, length-drop, take_rest, set-set, get_or_past}
use Rattle.std.proofs.lemmas.List.Sums.{sum_by-cons, get_or-le-sum_by, sum_by-set, passes_at_first}
use Rattle.std.proofs.Math.ListN.{get_or-map}
use Rattle.access_desc.specs.declared.handle_view.HandleView.{HandleView}
use Rattle.access_desc.specs.Steps.{at_place, has, is_of, pins, pins_old, after_new_image, after_end}
use Rattle.access_desc.specs.declared.row_pins.RowPins.{RowPins}
use Rattle.access_desc.specs.Counts.{ArePinsOf, AreKept, row_at, no_pins, one_more, one_less}

-- ---- a search that begins later

-- if none of the first places passes, the first that passes is found after them
skipped : {X : Type 0} (q : X → Bool) (xs : List X) (k : ℕ) (d : X) → k ≤ length xs → ((n : ℕ) → n < k → q (get_or xs n d) ≡ false) → position_or_len q xs ≡ k + position_or_len q (drop k xs)
skipped q xs zero d within fails = omega arith
skipped q [] (suc k) d within fails = absurd (omega (arith, within))
skipped q (x ∷ xs) (suc k) d within fails =
    let rest = skipped q xs k d (omega (arith, within)) (λ n before. fails (suc n) (omega (arith, before))) in
    let first : q x ≡ false = fails 0 (omega arith) in
    rw (first, rest) (omega arith)

-- the first that passes is as many places further in the whole list
pub later : {X : Type 0} (q : X → Bool) (xs : List X) (k : ℕ) (d : X) (found : Option ℕ) → k ≤ length xs → ((n : ℕ) → n < k → q (get_or xs n d) ≡ false) → found ≡ position q (take (length xs - k) (drop k xs)) → option_map (λ n. k + n) found ≡ position q xs
later q xs k d found within fails is =
    let at = skipped q xs k d within fails in
    let long = length-drop k xs in
    rw (is, take_rest xs k, at) (elim (cases_lt (position_or_len q (drop k xs)) (length (drop k xs))) [
      | inl inside ↦ grind (arith, nat_tests)
      | inr past ↦ grind (arith, nat_tests)
    ])

-- ---- if none is counted

-- there is no first, of those that are counted or of some of them
none_first : {X : Type 0} (p q : X → Bool) (xs : List X) (d : X) → ((x : X) → q x ≡ true → p x ≡ true) → count_by p xs ≡ 0 → position q xs ≡ None
none_first {X} p q xs d some none =
    elim (cases_lt (position_or_len q xs) (length xs)) [
      | inl within ↦
          let passes : p _ ≡ true = some _ (passes_at_first q xs d within) in
          let counted = get_or-le-sum_by (λ (x : X). cond (p x) 1 0) xs (position_or_len q xs) d within in
          absurd (omega (arith, none, rw passes at counted))
      | inr past ↦ grind (arith, nat_tests)
    ]

pub none_pins : (row : ℕ) (places : List (Option HandleView)) → count_by (has (pins row)) places ≡ 0 → position (has (pins row)) places ≡ None
none_pins row places none = none_first (has (pins row)) (has (pins row)) places None (λ place passes. passes) none

-- what pins no image pins no old one
some_old : (row : ℕ) (place : Option HandleView) → has (pins_old row) place ≡ true → has (pins row) place ≡ true
some_old row None passes = passes
some_old row (Some h) passes = (and_parts (pins row h) h.old passes).0

none_old : (row : ℕ) (place : Option HandleView) → has (pins row) place ≡ false → has (pins_old row) place ≡ false
none_old row None isnt = refl
none_old row (Some h) isnt = rw isnt refl

pub not_old : (row n : ℕ) (places : List (Option HandleView)) → has (pins row) (at_place places n) ≡ false → has (pins_old row) (at_place places n) ≡ false
not_old row n places isnt = none_old row (at_place places n) isnt

pub none_pins_old : (row : ℕ) (places : List (Option HandleView)) → count_by (has (pins row)) places ≡ 0 → position (has (pins_old row)) places ≡ None
none_pins_old row places none = none_first (has (pins row)) (has (pins_old row)) places None (some_old row) none

-- a new image changes no handle
unmoved : (row : ℕ) (h : HandleView) → pins row h ≡ false → after_new_image row h ≡ h
unmoved row h isnt = rw isnt refl

pub none_moves : (row : ℕ) (places : List (Option HandleView)) → count_by (has (pins row)) places ≡ 0 → map (option_map (after_new_image row)) places ≡ places
none_moves row [] none = refl
none_moves row (None ∷ places) none =
    let sum = sum_by-cons (λ (place : Option HandleView). cond (has (pins row) place) 1 0) None places in
    ap (λ after. None ∷ after) (none_moves row places (omega (arith, none, sum)))
none_moves row (Some h ∷ places) none =
    let sum = sum_by-cons (λ (place : Option HandleView). cond (has (pins row) place) 1 0) (Some h) places in
    let rest : count_by (has (pins row)) places ≡ 0 = omega (arith, none, sum) in
    let isnt : pins row h ≡ false = grind (arith, none, sum) in
    cc (unmoved row h isnt, none_moves row places rest)

-- ---- all handles change

count-map : {X : Type 0} (p q : X → Bool) (f : X → X) (xs : List X) → ((x : X) → p (f x) ≡ q x) → count_by p (map f xs) ≡ count_by q xs
count-map p q f [] same = refl
count-map {X} p q f (x ∷ xs) same =
    let new = sum_by-cons (λ (y : X). cond (p y) 1 0) (f x) (map f xs) in
    let old = sum_by-cons (λ (y : X). cond (q y) 1 0) x xs in
    let rest = count-map p q f xs same in
    rw (new, old, same x, rest) refl

none_counted : {X : Type 0} (p : X → Bool) (xs : List X) → ((x : X) → p x ≡ false) → count_by p xs ≡ 0
none_counted p [] fails = refl
none_counted {X} p (x ∷ xs) fails =
    let sum = sum_by-cons (λ (y : X). cond (p y) 1 0) x xs in
    let rest = none_counted p xs fails in
    rw (sum, fails x, rest) refl

-- what a change of each handle leaves of its pins is kept as before
mapped : (row : ℕ) (change : HandleView → HandleView) (places : List (Option HandleView)) (kept : RowPins) → ((place : Option HandleView) → has (pins row) (option_map change place) ≡ has (pins row) place) → ArePinsOf row places kept → ArePinsOf row (map (option_map change) places) kept
mapped row change places kept same of = record {
  counted = of.counted ∙ sym (count-map (has (pins row)) (has (pins row)) (option_map change) places same);
  none_before = λ n before. ap (has (pins row)) (get_or-map (option_map change) places n None) ∙ same (at_place places n) ∙ of.none_before n before;
}

-- after a new image the same handles pin one as before
pub moved_kept : (row : ℕ) (places : List (Option HandleView)) (rows : List RowPins) → AreKept places rows → AreKept (map (option_map (after_new_image row)) places) rows
moved_kept row places rows kept = record {
  all_places = simp length-map kept.all_places;
  all_rows = kept.all_rows;
  each = λ k within. mapped k (after_new_image row) places (row_at rows k) (same k) (kept.each k within);
} where
  same : (k : ℕ) (place : Option HandleView) → has (pins k) (option_map (after_new_image row) place) ≡ has (pins k) place
  same k None = refl
  same k (Some h) = by (pins row h) where
    by : (b : Bool) → pins k (cond b (record h { old = true }) h) ≡ pins k h
    by true = refl
    by false = refl

-- 256 free places
pub none_pinned : (places : List (Option HandleView)) (rows : List RowPins) → places ≡ replicate 256 None → rows ≡ replicate 256 no_pins → AreKept places rows
none_pinned places rows free none = rw (free, none) record {
  all_places = refl;
  all_rows = refl;
  each = λ row within. rw (get_or-replicate 256 row no_pins no_pins within) record { counted = refl; none_before = λ n before. absurd (omega (arith, before)) };
}

ended_here : (row : ℕ) (place : Option HandleView) → has (pins row) (option_map (after_end row) place) ≡ false
ended_here row None = refl
ended_here row (Some h) = by (is_of row h) refl where
  by : (b : Bool) → is_of row h ≡ b → pins row (cond b (record h { row = None; pinned = false; old = false }) h) ≡ false
  by true is = refl
  by false isnt = rw isnt refl

ended_none : (row : ℕ) (places : List (Option HandleView)) → count_by (has (pins row)) (map (option_map (after_end row)) places) ≡ 0
ended_none row places =
    count-map (has (pins row)) (λ (place : Option HandleView). false) (option_map (after_end row)) places (ended_here row)
    ∙ none_counted (λ (place : Option HandleView). false) places (λ place. refl)

of_one : (k row : ℕ) (place : Option ℕ) → (k ≡ row → ⊥) → option_map_or (λ r. r == row) place false ≡ true → option_map_or (λ r. r == k) place false ≡ false
of_one k row None other is = refl
of_one k row (Some r) other is = grind (arith, nat_tests)

ended_other : (k row : ℕ) (place : Option HandleView) → (k ≡ row → ⊥) → has (pins k) (option_map (after_end row) place) ≡ has (pins k) place
ended_other k row None other = refl
ended_other k row (Some h) other = by (is_of row h) refl where
  by : (b : Bool) → is_of row h ≡ b → pins k (cond b (record h { row = None; pinned = false; old = false }) h) ≡ pins k h
  by true is = rw (of_one k row h.row other is) refl
  by false isnt = refl

-- after the end of a table no handle pins an image of it, and all else stays
pub ended_kept : (row : ℕ) (places : List (Option HandleView)) (rows : List RowPins) → AreKept places rows → AreKept (map (option_map (after_end row)) places) (slice_set rows row no_pins)
ended_kept row places rows kept = record {
  all_places = simp length-map kept.all_places;
  all_rows = simp length-set kept.all_rows;
  each = λ k within. elim (cases_eq k row) [
    | inl here ↦
        let at_row : k < length rows = omega (arith, kept.all_rows) in
        rw (here, get_or-set_same rows row no_pins no_pins (rw here at at_row)) record { counted = sym (ended_none row places); none_before = λ n before. absurd (omega (arith, before)) }
    | inr other ↦
        rw (get_or-set_other rows row k no_pins no_pins other) (mapped k (after_end row) places (row_at rows k) (λ place. ended_other k row place other) (kept.each k within))
  ];
}

-- ---- one handle changes

-- once a place is freed
freed : (row at : ℕ) (places : List (Option HandleView)) (kept : RowPins) → at < length places → ArePinsOf row places kept → ArePinsOf row (slice_set places at None) (cond (has (pins row) (at_place places at)) (one_less kept) kept)
freed row at places kept within of = by (has (pins row) (at_place places at)) refl where
  sum : count_by (has (pins row)) (slice_set places at None) + cond (has (pins row) (at_place places at)) 1 0 ≡ count_by (has (pins row)) places + 0
  sum = sum_by-set (λ (place : Option HandleView). cond (has (pins row) place) 1 0) places at None None within

  others : (n : ℕ) → n < kept.start → has (pins row) (at_place (slice_set places at None) n) ≡ false
  others n before = elim (cases_eq n at) [
    | inl here ↦ rw here (ap (has (pins row)) (get_or-set_same places at None None within))
    | inr other ↦ ap (has (pins row)) (get_or-set_other places at n None None other) ∙ of.none_before n before
  ]

  by : (b : Bool) → has (pins row) (at_place places at) ≡ b → ArePinsOf row (slice_set places at None) (cond b (one_less kept) kept)
  by true pinned = record { counted = omega (arith, rw pinned at sum, of.counted); none_before = others }
  by false isnt = record { counted = omega (arith, rw isnt at sum, of.counted); none_before = others }

-- no place passes if none is counted
no_one : (b : Bool) → cond b 1 0 ≤ 0 → b ≡ false
no_one false none = refl
no_one true none = absurd (omega (arith, none))

none_at : (row n : ℕ) (places : List (Option HandleView)) → count_by (has (pins row)) places ≡ 0 → has (pins row) (at_place places n) ≡ false
none_at row n places none = elim (cases_lt n (length places)) [
  | inl within ↦ no_one _ (omega (arith, none, get_or-le-sum_by (λ (place : Option HandleView). cond (has (pins row) place) 1 0) places n None within))
  | inr past ↦ ap (has (pins row)) (get_or_past places n None past)
]

-- once something is at a free place
stands : (row at : ℕ) (place : Option HandleView) (places : List (Option HandleView)) (kept : RowPins) → at < length places → at_place places at ≡ None → ArePinsOf row places kept → ArePinsOf row (slice_set places at place) (cond (has (pins row) place) (one_more at kept) kept)
stands row at place places kept within free of = by (has (pins row) place) refl where
  sum : count_by (has (pins row)) (slice_set places at place) + 0 ≡ count_by (has (pins row)) places + cond (has (pins row) place) 1 0
  sum =
      let set = sum_by-set {X = Option HandleView} (λ (place : Option HandleView). cond (has (pins row) place) 1 0) places at place None within in
      rw free at set

  other : (n : ℕ) → (n ≡ at → ⊥) → has (pins row) (at_place places n) ≡ false → has (pins row) (at_place (slice_set places at place) n) ≡ false
  other n isnt was = ap (has (pins row)) (get_or-set_other places at n place None isnt) ∙ was

  below : (n : ℕ) → n < (one_more at kept).start → n < at
  below n before = grind (arith, nat_tests)

  was_before : (n : ℕ) → n < (one_more at kept).start → has (pins row) (at_place places n) ≡ false
  was_before n before = elim (cases_eq kept.count 0) [
    | inl none ↦ none_at row n places (sym of.counted ∙ none)
    | inr some ↦ of.none_before n (grind (arith, nat_tests))
  ]

  by : (b : Bool) → has (pins row) place ≡ b → ArePinsOf row (slice_set places at place) (cond b (one_more at kept) kept)
  by true is = record {
    counted = omega (arith, rw is at sum, of.counted);
    none_before = λ n before. other n (λ same. absurd (omega (arith, same, below n before))) (was_before n before);
  }
  by false isnt = record {
    counted = omega (arith, rw isnt at sum, of.counted);
    none_before = λ n before. elim (cases_eq n at) [
      | inl here ↦ rw here (ap (has (pins row)) (get_or-set_same places at place None within) ∙ isnt)
      | inr else ↦ other n else (of.none_before n before)
    ];
  }

-- once another handle, or nothing, is at a place: what was kept of a row, without what was there, and then with it
one_put : (row at : ℕ) (place : Option HandleView) (places : List (Option HandleView)) (old mid new : RowPins) → at < length places → mid ≡ cond (has (pins row) (at_place places at)) (one_less old) old → new ≡ cond (has (pins row) place) (one_more at mid) mid → ArePinsOf row places old → ArePinsOf row (slice_set places at place) new
one_put row at place places old mid new within out counted of =
    let free = freed row at places old within of in
    let there = stands row at place (slice_set places at None) mid (rw length-set within) (get_or-set_same places at None None within) (rw out free) in
    rw counted (rw set-set at there)

pub put_kept : (at : ℕ) (place : Option HandleView) (places : List (Option HandleView)) (old mid new : List RowPins) → at < length places → length new ≡ 256 → ((row : ℕ) → row < 256 → row_at mid row ≡ cond (has (pins row) (at_place places at)) (one_less (row_at old row)) (row_at old row)) → ((row : ℕ) → row < 256 → row_at new row ≡ cond (has (pins row) place) (one_more at (row_at mid row)) (row_at mid row)) → AreKept places old → AreKept (slice_set places at place) new
put_kept at place places old mid new within all_rows out counted kept = record {
  all_places = simp length-set kept.all_places;
  all_rows = all_rows;
  each = λ row is_row. one_put row at place places (row_at old row) (row_at mid row) (row_at new row) within (out row is_row) (counted row is_row) (kept.each row is_row);
}
