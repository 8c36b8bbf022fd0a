-- The steps of a handle that leads to a table.
use Rattle.std.proofs.Common.{◌≡◌, ◌==◌, ◌+◌, ◌-◌, ◌<◌, ◌≤◌, nat_lt, ℕ, List, length, position, take, drop, [], unwrap_or, cond, slice_index_or, slice_set, Bool, true, false, ◌&&◌, is_some, IsSome, Option, Some, None, Ok, refl, ap, sym, ◌∙◌, arith, rules, subst, option_and_then}
use Rattle.std.specs.Option.{option_map}
use Rattle.std.specs.Option.{ForSome}
use Rattle.std.proofs.lemmas.List.{map-set}
use Rattle.std.proofs.lemmas.Option.{same_Some}
use Rattle.std.proofs.lemmas.Bool.Decides.{nat_tests}
use Rattle.tbl_model.specs.State.{Table, Handle, Tables}
use Rattle.tbl_model.specs.TableSteps.{access_of, handle_at, new_handle, with_handle, with_table, give_back, give_back_by, drop_before}
use Rattle.tbl_model.specs.AddressSteps.{get_address, release, read}
use Rattle.access_desc.specs.declared.handle_view.HandleView.{HandleView}
use Rattle.access_desc.specs.Steps.{at_place, changed_at, has, pins_old, with_no_pin, new_handle as new_view}
use Rattle.std.proofs.Math.ListN.{get_or-map}
use Rattle.std.proofs.Math.Seq.{take-length}
use Rattle.tbl_registry.specs.Pins.{Pins, Leads, Leading}
use Rattle.tbl_registry.specs.Rows.{IsTable}
use Rattle.tbl_registry.specs.Lending.{pins_image, pinned_image, name_by, lent_at}
use Rattle.tbl_registry.specs.declared.pin.Pin.{Pin}
use Rattle.tbl_registry.specs.Sound.{IsSound}
use Rattle.tbl_registry.specs.Seen.{tables_of, handle_of, is_kept, with_last, drop_before_unless}
use Rattle.tbl_registry.proofs.Places.{AtEachPlace-set, none_passes}
use Rattle.tbl_registry.proofs.Pins.{PinsOf, pins_of, pins_here, tables_with, before_is_pinned}
use Rattle.tbl_registry.proofs.Changes.{FoundRow, pins_sound, row_seen}

not_zero : (n : ℕ) → (n ≡ 0 → ⊥) → (n == 0) ≡ false
not_zero n some = grind (arith, nat_tests)

-- a handle that leads to a table isn't one that leads to none
pub leads_nowhere : (tables other : Tables) (n : ℕ) → tables ≡ other → access_of tables n ≡ None → IsSome (access_of other n) → ⊥
leads_nowhere tables other n same none some = cc (rw (← same, none) at some)

-- ---- the image before the last stays if a handle of the row pins it

module _ {rows : List (Option Table)} {handles : List (Option HandleView)} {row : ℕ} {t : Table} (stood : FoundRow rows handles row t) where
  there : slice_index_or rows row None ≡ Some t
  there = stood.there

  sound : IsSound rows handles
  sound = stood.sound

  abbrev stays : Bool
  stays = is_kept row handles

  kept_pins : PinsOf row (drop_before_unless stays t) handles
  kept_pins k g at of is = by (position (has (pins_old row)) handles) refl where
    p : Pins t g.old
    p = pins_of rows handles row t there sound.leads k g at of is

    by : (found : Option ℕ) → position (has (pins_old row)) handles ≡ found → Pins (drop_before_unless (is_some found) t) g.old
    by (Some m) _ = record { loaded = p.loaded; kept = p.kept; closed = p.closed }
    by None none = record {
      loaded = p.loaded;
      kept = λ old. absurd (cc (none_passes handles (has (pins_old row)) refl none k g at, ap (λ (b : Bool). b && g.old) (pins_here row g is of) ∙ old));
      closed = p.closed;
    }

  pub drop_before_sound : IsSound (slice_set rows row (Some (drop_before_unless stays t))) handles
  drop_before_sound = pins_sound stood (drop_before_unless stays t) refl kept_pins (λ had has. absurd (cc (had, has)))

  pub drop_before_seen : tables_of (slice_set rows row (Some (drop_before_unless stays t))) handles ≡ with_table row (drop_before (tables_of rows handles).handles row t) (tables_of rows handles)
  drop_before_seen =
      row_seen stood (drop_before_unless stays t) refl
      ∙ ap (λ (b : Bool). with_table row (drop_before_unless b t) (tables_of rows handles)) (sym (before_is_pinned rows row t there handles (pins_of rows handles row t there sound.leads)))

-- ---- a handle is given, and taken back

module _ (rows : List (Option Table)) (handles : List (Option HandleView)) (sound : IsSound rows handles) (n : ℕ) where
  place_seen : (place : Option HandleView) → tables_of rows (slice_set handles n place) ≡ tables_with rows (slice_set (tables_of rows handles).handles n (option_map (handle_of rows) place))
  place_seen place = ap (λ (hs : List (Option Handle)). tables_with rows hs) (map-set (option_map (handle_of rows)) handles n place)

  with_place : (place : Option HandleView) → ForSome place (Leads rows) → IsSound rows (slice_set handles n place)
  with_place place leads = record { all_rows = sound.all_rows; named = sound.named; leads = AtEachPlace-set (Leads rows) handles n place sound.leads leads; few = sound.few }

  pub given_sound : (app row : ℕ) → IsSome (slice_index_or rows row None) → IsSound rows (slice_set handles n (Some (new_view app row)))
  given_sound app row there = with_place (Some (new_view app row)) (λ h is. subst (Leads rows) (same_Some (new_view app row) h is) record {
    table = λ k of. subst (λ (at : ℕ). IsSome (slice_index_or rows at None)) (same_Some row k of) there;
    pins = λ pinned. absurd (cc pinned);
  })

  pub given_seen : (app row : ℕ) → tables_of rows (slice_set handles n (Some (new_view app row))) ≡ with_handle n (new_handle app row) (tables_of rows handles)
  given_seen app row = place_seen (Some (new_view app row))

  pub freed_sound : IsSound rows (slice_set handles n None)
  freed_sound = with_place None (λ h is. absurd (cc is))

  handle_seen : (h : HandleView) → at_place handles n ≡ Some h → handle_at (tables_of rows handles) n ≡ Some (handle_of rows h)
  handle_seen h place = get_or-map (option_map (handle_of rows)) handles n None ∙ rw place refl

  -- a handle's table is there
  pub its_table : (h : HandleView) (row : ℕ) → at_place handles n ≡ Some h → h.row ≡ Some row → IsSome (slice_index_or rows row None)
  its_table h row place of = (sound.leads n h place).table row of

  pub not_given : at_place handles n ≡ None → IsSome (handle_at (tables_of rows handles) n) → ⊥
  not_given none some = cc (rw (get_or-map (option_map (handle_of rows)) handles n None, none) at some)

  -- of a handle without a table, and of one with a table
  pub alone_seen : (h : HandleView) → at_place handles n ≡ Some h → h.row ≡ None → tables_of rows (slice_set handles n None) ≡ give_back n (tables_of rows handles)
  alone_seen h place none = place_seen None ∙ sym (ap (λ (at : Option Handle). give_back_by n (tables_of rows handles) (option_and_then (λ (g : Handle). g.row) at)) (handle_seen h place) ∙ rw none refl)

  pub taken_back_seen : (h : HandleView) (row : ℕ) (t : Table) → at_place handles n ≡ Some h → h.row ≡ Some row → slice_index_or rows row None ≡ Some t
      → tables_of (slice_set rows row (Some (drop_before_unless (is_kept row (slice_set handles n None)) t))) (slice_set handles n None) ≡ give_back n (tables_of rows handles)
  taken_back_seen h row t place of there =
      drop_before_seen record { there = there; sound = freed_sound }
      ∙ ap (λ (freed : Tables). with_table row (drop_before freed.handles row t) freed) (place_seen None)
      ∙ sym (ap (λ (at : Option Handle). give_back_by n (tables_of rows handles) (option_and_then (λ (g : Handle). g.row) at)) (handle_seen h place) ∙ rw (of, there) refl)

module _ (rows : List (Option Table)) (handles : List (Option HandleView)) (n : ℕ) (h : HandleView) (row : ℕ) (t : Table) (l : Leading rows handles n h row t) (sound : IsSound rows handles) where
  pub access_is : access_of (tables_of rows handles) n ≡ Some (record { handle = handle_of rows h; row = row; table = t })
  access_is = rw (get_or-map (option_map (handle_of rows)) handles n None, l.place, l.row_is, l.table) refl

  -- ---- the handle changes

  step_seen : (f : HandleView → HandleView) → tables_of rows (changed_at f handles n) ≡ with_handle n (handle_of rows (f h)) (tables_of rows handles)
  step_seen f = rw l.place (place_seen rows handles sound n (Some (f h)))

  step_sound : (f : HandleView → HandleView) → Leads rows (f h) → IsSound rows (changed_at f handles n)
  step_sound f leads = rw l.place (with_place rows handles sound n (Some (f h)) (λ g is. subst (Leads rows) (same_Some (f h) g is) leads))

  -- ---- it pins the last image

  pub pinned_sound : (count : ℕ) → count ≡ t.count → (count ≡ 0 → ⊥) → IsSound rows (changed_at (with_last count) handles n)
  pinned_sound count all loaded = step_sound (with_last count) record {
    table = (sound.leads n h l.place).table;
    pins = λ _ k of u there.
        let here : row ≡ k = same_Some row k (sym l.row_is ∙ of) in
        let same : t ≡ u = same_Some t u (sym l.table ∙ rw (← here) at there) in
        subst (λ (v : Table). Pins v false) same record {
          loaded = omega arith;
          kept = λ old. absurd (cc old);
          closed = λ old. absurd (cc old);
        };
  }

  pub pinned_seen : (count : ℕ) → h.pinned ≡ false → count ≡ t.count → (count ≡ 0 → ⊥) → tables_of rows (changed_at (with_last count) handles n) ≡ (get_address n (tables_of rows handles)).tables
  pinned_seen count free all loaded =
      let some : (t.count == 0) ≡ false = not_zero t.count (λ none. loaded (all ∙ none)) in
      rw (access_is, free, some, all, step_seen (with_last t.count), l.row_is, l.table) refl

  -- ---- its pin ends

  abbrev free : List (Option HandleView)
  free = changed_at with_no_pin handles n

  free_sound : IsSound rows free
  free_sound = step_sound with_no_pin record { table = (sound.leads n h l.place).table; pins = λ pinned. absurd (cc pinned) }

  pub released_sound : IsSound (slice_set rows row (Some (drop_before_unless (is_kept row free) t))) free
  released_sound = drop_before_sound record { there = l.table; sound = free_sound }

  pub released_seen : h.pinned ≡ true → tables_of (slice_set rows row (Some (drop_before_unless (is_kept row free) t))) free ≡ (release n (tables_of rows handles)).tables
  released_seen pinned =
      let after : Tables → Tables = λ ts. with_table row (drop_before ts.handles row t) ts in
      drop_before_seen record { there = l.table; sound = free_sound } ∙ ap after (step_seen with_no_pin) ∙ rw (access_is, pinned) refl

  -- ---- it reads the image that it pins

  here_pins : h.pinned ≡ true → Pins t h.old
  here_pins pinned = (sound.leads n h l.place).pins pinned row l.row_is t l.table

  -- which is there
  pub image_there : h.pinned ≡ true → IsTable t → cond h.old t.before t.last ≡ None → ⊥
  image_there pinned table = by h.old (here_pins pinned) where
    by : (old : Bool) → Pins t old → cond old t.before t.last ≡ None → ⊥
    by true p none = let some = p.kept refl in cc (rw none at some)
    by false p none = let some : (t.count == 0) ≡ false = (let more = p.loaded in grind (arith, nat_tests)) in cc (rw (none, some) at table.loaded)

  pub read_lends : (offset len : ℕ) (image : List ℕ) → h.pinned ≡ true → cond h.old t.before t.last ≡ Some image → length image ≡ t.size → offset + len ≤ length image
      → read n offset len (tables_of rows handles) ≡ Ok (take (offset + len - offset) (drop offset image))
  read_lends offset len image pinned is size within =
      let room : nat_lt t.size (offset + len) ≡ false = grind (arith, nat_tests) in
      let stated : offset + len - offset ≡ len = omega arith in
      let the_image : unwrap_or (cond (cond h.old (t.count - 1) t.count == t.count) t.last t.before) [] ≡ image = by h.old (here_pins pinned) is in
      rw (access_is, pinned, l.row_is, l.table, room, stated, the_image) refl
    where
      by : (old : Bool) → Pins t old → cond old t.before t.last ≡ Some image → unwrap_or (cond (cond old (t.count - 1) t.count == t.count) t.last t.before) [] ≡ image
      by true p last = let some = p.loaded in let other : (t.count - 1 == t.count) ≡ false = grind (arith, nat_tests) in rw (other, last) refl
      by false p last = let same : (t.count == t.count) ≡ true = search rules in rw (same, last) refl

  -- all of them are the image
  pub whole_lends : (offset len : ℕ) (image : List ℕ) → h.pinned ≡ true → cond h.old t.before t.last ≡ Some image → length image ≡ t.size → offset ≡ 0 → length image ≡ len → read n offset len (tables_of rows handles) ≡ Ok image
  whole_lends offset len image pinned is size begins all =
      let e : 0 + len - 0 ≡ length image = omega (arith, all) in
      let it : take (offset + len - offset) (drop offset image) ≡ image = rw (begins, e) (take-length image) in
      rw it at (read_lends offset len image pinned is size (omega (arith, begins, all)))

  -- it pins one, and lends that image
  pub pins_one : h.pinned ≡ true → pins_image n (tables_of rows handles) ≡ true
  pins_one pinned = rw (access_is, pinned) refl

  pub lends : (place : ℕ) (image : List ℕ) → h.pinned ≡ true → cond h.old t.before t.last ≡ Some image → lent_at n place (tables_of rows handles) ≡ Some (record { bytes = image; handle = n; place = place; name = t.name })
  lends place image pinned is =
      let the_image : cond (cond h.old (t.count - 1) t.count == t.count) t.last t.before ≡ Some image = by h.old (here_pins pinned) is in
      let all : pinned_image n (tables_of rows handles) ≡ Some image = rw (access_is, pinned, l.row_is, l.table) the_image in
      let named : name_by n (tables_of rows handles) ≡ t.name = rw access_is refl in
      ap (option_map (λ (bytes : List ℕ). let pin : Pin = record { bytes = bytes; handle = n; place = place; name = name_by n (tables_of rows handles) } in pin)) all
      ∙ ap (λ (name : List ℕ). let pin : Pin = record { bytes = image; handle = n; place = place; name = name } in Some pin) named
    where
      by : (old : Bool) → Pins t old → cond old t.before t.last ≡ Some image → cond (cond old (t.count - 1) t.count == t.count) t.last t.before ≡ Some image
      by true p last = let some = p.loaded in let other : (t.count - 1 == t.count) ≡ false = grind (arith, nat_tests) in rw other last
      by false p last = let same : (t.count == t.count) ≡ true = search rules in rw same last
