-- When a row changes: how handles lead on, how they are seen, and which of them pin an image of the row.
use Rattle.std.proofs.Common.{◌≡◌, ◌≢◌, ◌==◌, ◌-◌, ◌<◌, position, ℕ, List, map, length, slice_index_or, slice_set, Bool, true, false, not, ◌&&◌, ◌||◌, is_some, Option, Some, None, refl, ap, sym, ◌∙◌, subst, inl, inr, arith, cond, rules}
use Rattle.std.specs.Option.{option_map, option_map_or}
use Rattle.std.specs.List.{list_any}
use Rattle.std.proofs.lemmas.Bool.{cases_eq, cases_Bool}
use Rattle.std.proofs.lemmas.Bool.Decides.{nat_tests}
use Rattle.std.proofs.lemmas.List.{get_or-set_same, get_or-set_other}
use Rattle.std.proofs.lemmas.Option.{same_Some}
use Rattle.tbl_model.specs.State.{Table, Handle, Tables}
use Rattle.tbl_model.specs.Tables.{is_double}
use Rattle.tbl_model.specs.TableSteps.{is_that, is_in_way, locker, with_table, pins as image_pins}
use Rattle.access_desc.specs.declared.handle_view.HandleView.{HandleView}
use Rattle.access_desc.specs.Steps.{has, pins, pins_old, is_of}
use Rattle.tbl_registry.specs.Pins.{AtEachPlace, Pins, Leads}
use Rattle.tbl_registry.specs.Seen.{count_in, tables_of, handle_of}
use Rattle.tbl_registry.proofs.Places.{map-agree, position-seen, any_is_found, none_passes}

abbrev pub tables_with : List (Option Table) → List (Option Handle) → Tables
tables_with rows handles = record { rows = rows; handles = handles }

-- ---- handles lead on

-- the pins of a row's handles
abbrev pub PinsOf : ℕ → Table → List (Option HandleView) → Type 0
PinsOf row t handles = AtEachPlace (λ h. h.row ≡ Some row → h.pinned ≡ true → Pins t h.old) handles

pub pins_of : (rows : List (Option Table)) (handles : List (Option HandleView)) (row : ℕ) (t : Table) → slice_index_or rows row None ≡ Some t → AtEachPlace (Leads rows) handles → PinsOf row t handles
pins_of rows handles row t there leads n h at of pinned = (leads n h at).pins pinned row of t there

pub leads_on : (rows : List (Option Table)) (row : ℕ) (u : Table) → row < length rows → (handles : List (Option HandleView)) → AtEachPlace (Leads rows) handles → PinsOf row u handles → AtEachPlace (Leads (slice_set rows row (Some u))) handles
leads_on rows row u within handles leads pins n h at =
    let new : slice_index_or (slice_set rows row (Some u)) row None ≡ Some u = get_or-set_same rows row (Some u) None within in record {
      table = λ k of.
          elim (cases_eq k row) [
            | inl here ↦ rw (here, new) refl
            | inr other ↦ rw (get_or-set_other rows row k (Some u) None other) ((leads n h at).table k of)
          ];
      pins = λ pinned k of t is.
          elim (cases_eq k row) [
            | inl here ↦ subst (λ (v : Table). Pins v h.old) (same_Some u t (sym new ∙ rw here at is)) (pins n h at (rw here at of) pinned)
            | inr other ↦ (leads n h at).pins pinned k of t (sym (get_or-set_other rows row k (Some u) None other) ∙ is)
          ];
    }

-- ---- how handles are seen

-- other rows count as they did
count_other : (rows : List (Option Table)) (row k : ℕ) (v : Option Table) → k ≢ row → count_in (slice_set rows row v) (Some k) ≡ count_in rows (Some k)
count_other rows row k v apart = rw (get_or-set_other rows row k v None apart) refl

-- a handle that pins no image of the row is seen as it was
pin_other : (rows : List (Option Table)) (row : ℕ) (v : Option Table) (of : Option ℕ) (pinned old : Bool) → (pinned ≡ true → (k : ℕ) → of ≡ Some k → k ≢ row)
    → cond pinned (Some (cond old (count_in (slice_set rows row v) of - 1) (count_in (slice_set rows row v) of))) None ≡ cond pinned (Some (cond old (count_in rows of - 1) (count_in rows of))) None
pin_other rows row v of false old apart = refl
pin_other rows row v None true old apart = refl
pin_other rows row v (Some k) true old apart = rw (count_other rows row k v (apart refl k refl)) refl

pub handle_other : (rows : List (Option Table)) (row : ℕ) (v : Option Table) (h : HandleView) → (h.pinned ≡ true → (k : ℕ) → h.row ≡ Some k → k ≢ row) → handle_of (slice_set rows row v) h ≡ handle_of rows h
handle_other rows row v h apart =
    ap (λ (pin : Option ℕ). let seen : Handle = record { app = h.app; row = h.row; told = h.told; pin = pin } in seen) (pin_other rows row v h.row h.pinned h.old apart)

pub handles_stay : (rows : List (Option Table)) (row : ℕ) (v : Option Table) (handles : List (Option HandleView)) → AtEachPlace (λ h. h.pinned ≡ true → (k : ℕ) → h.row ≡ Some k → k ≢ row) handles
    → map (option_map (handle_of (slice_set rows row v))) handles ≡ map (option_map (handle_of rows)) handles
handles_stay rows row v handles apart =
    map-agree (handle_of (slice_set rows row v)) (handle_of rows) handles (λ n h there. handle_other rows row v h (apart n h there))

-- a table that has had as many images as the one before leaves all handles as they are seen
count_same : (rows : List (Option Table)) (row : ℕ) (t u : Table) → slice_index_or rows row None ≡ Some t → row < length rows → u.count ≡ t.count → (k : Option ℕ) → count_in (slice_set rows row (Some u)) k ≡ count_in rows k
count_same rows row t u there within same None = refl
count_same rows row t u there within same (Some k) =
    elim (cases_eq k row) [
      | inl here ↦ rw (here, get_or-set_same rows row (Some u) None within, there) same
      | inr other ↦ count_other rows row k (Some u) other
    ]

pub change_seen : (rows : List (Option Table)) (handles : List (Option HandleView)) (row : ℕ) (t u : Table) → slice_index_or rows row None ≡ Some t → row < length rows → u.count ≡ t.count → tables_of (slice_set rows row (Some u)) handles ≡ with_table row u (tables_of rows handles)
change_seen rows handles row t u there within same =
    ap (λ (hs : List (Option Handle)). tables_with (slice_set rows row (Some u)) hs)
    (map-agree (handle_of (slice_set rows row (Some u))) (handle_of rows) handles (λ n h is. rw (count_same rows row t u there within same h.row) refl))

-- ---- who pins an image of the row

pub that_is : (row : ℕ) (of : Option ℕ) → is_that row of ≡ option_map_or (λ r. r == row) of false
that_is row None = refl
that_is row (Some r) = refl

pub of_row : (row : ℕ) (of : Option ℕ) → option_map_or (λ r. r == row) of false ≡ true → of ≡ Some row
of_row row None is = absurd (cc is)
of_row row (Some r) is = let same : r ≡ row = grind (arith, nat_tests) in ap (λ (x : ℕ). Some x) same

pub here_of : (row : ℕ) (h : HandleView) → h.row ≡ Some row → is_of row h ≡ true
here_of row h of = let here : (row == row) ≡ true = search rules in rw (of, here) refl

pub pins_here : (row : ℕ) (h : HandleView) → h.pinned ≡ true → h.row ≡ Some row → pins row h ≡ true
pins_here row h is of = let here : (row == row) ≡ true = search rules in rw (of, is, here) refl

-- a pin as the number of an image, of a table that has had so many
abbrev pub number_of : ℕ → Bool → Bool → Option ℕ
number_of count pinned old = cond pinned (Some (cond old (count - 1) count)) None

-- an image of this number is pinned: the last one by a pin that isn't old, the one before by one that is
pin_is_last : (count : ℕ) (pinned old : Bool) → (pinned ≡ true → 0 < count) → is_that count (number_of count pinned old) ≡ (pinned && not old)
pin_is_last count false old some = refl
pin_is_last count true true some = let more = some refl in grind (arith, nat_tests)
pin_is_last count true false some = grind (arith, nat_tests)

pin_is_before : (count : ℕ) (pinned old : Bool) → (pinned ≡ true → 0 < count) → is_that (count - 1) (number_of count pinned old) ≡ (pinned && old)
pin_is_before count false old some = refl
pin_is_before count true true some = grind (arith, nat_tests)
pin_is_before count true false some = let more = some refl in grind (arith, nat_tests)

module _ (rows : List (Option Table)) (row : ℕ) (t : Table) (there : slice_index_or rows row None ≡ Some t) where
  -- a test of the pin of the row's handles
  test_here : (test : Option ℕ → Bool) (expected : Bool) (h : HandleView) → (h.row ≡ Some row → test (number_of t.count h.pinned h.old) ≡ expected) → (is_that row h.row && test (handle_of rows h).pin) ≡ (is_of row h && expected)
  test_here test expected h passes =
      elim (cases_Bool (is_of row h)) [
        | inl is ↦ let of = of_row row h.row is in rw (that_is row h.row, is) (ap test (rw (of, there) refl) ∙ passes of)
        | inr other ↦ rw (that_is row h.row, other) refl
      ]

  way_of : (count : ℕ) (pinned old double : Bool) → (pinned ≡ true → 0 < count) → (is_some (number_of count pinned old) && not (double && is_that count (number_of count pinned old))) ≡ (pinned && (not double || old))
  way_of count false old double some = refl
  way_of count true old false some = refl
  way_of count true true true some = rw (pin_is_last count true true some) refl
  way_of count true false true some = rw (pin_is_last count true false some) refl

  apart : (a b c : Bool) → ((a && b) && c) ≡ (a && (b && c))
  apart true b c = refl
  apart false b c = refl

  as_pins : (here pinned old double : Bool) → (here && (pinned && (not double || old))) ≡ cond double ((here && pinned) && old) (here && pinned)
  as_pins true true old true = refl
  as_pins true true old false = refl
  as_pins true false old true = refl
  as_pins true false old false = refl
  as_pins false pinned old true = refl
  as_pins false pinned old false = refl

  -- it is in the way of a new image
  in_way : (h : HandleView) → (h.row ≡ Some row → h.pinned ≡ true → 0 < t.count) → is_in_way row t (Some (handle_of rows h)) ≡ cond (is_double t) (pins_old row h) (pins row h)
  in_way h some =
      apart (is_that row h.row) (is_some (handle_of rows h).pin) (not (is_double t && is_that t.count (handle_of rows h).pin))
      ∙ test_here (λ pin. is_some pin && not (is_double t && is_that t.count pin)) (h.pinned && (not (is_double t) || h.old)) h (λ of. way_of t.count h.pinned h.old (is_double t) (some of))
      ∙ as_pins (is_of row h) h.pinned h.old (is_double t)

  -- it pins the last image, or the one before
  pub pins_last : (h : HandleView) → (h.row ≡ Some row → h.pinned ≡ true → 0 < t.count) → image_pins row t.count (Some (handle_of rows h)) ≡ (is_of row h && (h.pinned && not h.old))
  pins_last h some = test_here (is_that t.count) (h.pinned && not h.old) h (λ of. pin_is_last t.count h.pinned h.old (some of))

  pins_before : (h : HandleView) → (h.row ≡ Some row → h.pinned ≡ true → 0 < t.count) → image_pins row (t.count - 1) (Some (handle_of rows h)) ≡ pins_old row h
  pins_before h some = test_here (is_that (t.count - 1)) (h.pinned && h.old) h (λ of. pin_is_before t.count h.pinned h.old (some of)) ∙ sym (apart (is_of row h) h.pinned h.old)

  module _ (handles : List (Option HandleView)) (pinned : PinsOf row t handles) where
    some_image : AtEachPlace (λ h. h.row ≡ Some row → h.pinned ≡ true → 0 < t.count) handles
    some_image n h at of is = (pinned n h at of is).loaded

    neither : (double : Bool) → cond double false false ≡ false
    neither true = refl
    neither false = refl

    pub locker_is : locker (tables_of rows handles) row t ≡ position (λ place. cond (is_double t) (has (pins_old row) place) (has (pins row) place)) handles
    locker_is = position-seen (is_in_way row t) _ (handle_of rows) handles (sym (neither (is_double t))) (λ n h at. in_way h (some_image n h at))

    -- the image before the last is pinned
    pub before_is_pinned : list_any (image_pins row (t.count - 1)) (map (option_map (handle_of rows)) handles) ≡ is_some (position (has (pins_old row)) handles)
    before_is_pinned = any_is_found (image_pins row (t.count - 1)) _ ∙ ap (λ (found : Option ℕ). is_some found) (position-seen (image_pins row (t.count - 1)) (has (pins_old row)) (handle_of rows) handles refl (λ n h at. pins_before h (some_image n h at)))

    -- ---- of a table that isn't locked

    module _ (free : locker (tables_of rows handles) row t ≡ None) where
      pub no_old_pin : AtEachPlace (λ h. pins_old row h ≡ false) handles
      no_old_pin n h at = by (is_double t) (none_passes handles (λ place. cond (is_double t) (has (pins_old row) place) (has (pins row) place)) (neither (is_double t)) (sym locker_is ∙ free) n h at) where
        by : (double : Bool) → cond double (pins_old row h) (pins row h) ≡ false → pins_old row h ≡ false
        by true is = is
        by false is = ap (λ (b : Bool). b && h.old) is

      pub no_pin : is_double t ≡ false → position (has (pins row)) handles ≡ None
      no_pin single = sym (rw single at locker_is) ∙ free
