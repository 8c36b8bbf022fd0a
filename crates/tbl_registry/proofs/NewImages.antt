-- A table takes a new image: its handles pin the image before, which stays for them.
use Rattle.std.proofs.Common.{◌≡◌, ◌==◌, ◌+◌, ◌-◌, ◌<◌, not, ◌&&◌, ℕ, List, [], length, map, count_by, position, slice_index_or, slice_set, Bool, true, false, cond, is_some, IsSome, Option, Some, None, refl, ap, sym, ◌∙◌, subst, arith}
use Rattle.std.specs.Option.{option_map, option_map_or}
use Rattle.std.specs.List.{list_any}
use Rattle.std.proofs.lemmas.Bool.{and_parts}
use Rattle.std.proofs.lemmas.Bool.Decides.{nat_tests}
use Rattle.std.proofs.lemmas.Option.{same_Some}
use Rattle.std.proofs.lemmas.List.{get_or-set_same}
use Rattle.tbl_model.specs.State.{Load, Table, Handle}
use Rattle.tbl_model.specs.Tables.{is_double, uses_buffer}
use Rattle.tbl_model.specs.TableSteps.{locker, with_table, with_image, load_image, put, activate, pins as image_pins}
use Rattle.access_desc.specs.declared.handle_view.HandleView.{HandleView}
use Rattle.access_desc.specs.Steps.{has, is_of, pins, pins_old, after_new_image}
use Rattle.tbl_registry.specs.Rows.{IsTable}
use Rattle.tbl_registry.specs.Pins.{AtEachPlace, Pins, Leads}
use Rattle.tbl_registry.specs.Seen.{tables_of, handle_of, is_kept, with_next}
use Rattle.tbl_registry.specs.Sound.{IsSound}
use Rattle.tbl_registry.proofs.Places.{within_places, position-seen, any_is_found, map-through, AtEachPlace-map}
use Rattle.tbl_kinds.proofs.PositionLaws.{position-None}
use Rattle.tbl_registry.proofs.Pins.{PinsOf, pins_of, leads_on, tables_with, handle_other, pins_last, of_row, no_old_pin, no_pin, pins_here}
use Rattle.tbl_registry.proofs.Changes.{FoundRow, changed_sound, gives_back}

module _ {rows : List (Option Table)} {handles : List (Option HandleView)} {row : ℕ} {t : Table} (stood : FoundRow rows handles row t) (free : locker (tables_of rows handles) row t ≡ None) where
  there : slice_index_or rows row None ≡ Some t
  there = stood.there

  sound : IsSound rows handles
  sound = stood.sound

  pinned : PinsOf row t handles
  pinned = pins_of rows handles row t there sound.leads

  within : row < length rows
  within = within_places rows row t there

  not_old : AtEachPlace (λ h. pins_old row h ≡ false) handles
  not_old = no_old_pin rows row t there handles pinned free

  -- the handles after it, and whether the image that was the last stays
  abbrev pub moved : List (Option HandleView)
  moved = map (option_map (after_new_image row)) handles

  abbrev pub stays : Bool
  stays = is_kept row moved

  old_after : (h : HandleView) → pins_old row (after_new_image row h) ≡ pins row h
  old_after h = by (pins row h) refl where
    by : (b : Bool) → pins row h ≡ b → pins_old row (cond b (record h { old = true }) h) ≡ b
    by true is = rw is refl
    by false is = rw is refl

  found_after : position (has (pins_old row)) moved ≡ position (has (pins row)) handles
  found_after = position-seen (has (pins_old row)) (has (pins row)) (after_new_image row) handles refl (λ n h at. old_after h)

  and_not_old : (a p old : Bool) → ((a && p) && old) ≡ false → (a && (p && not old)) ≡ (a && p)
  and_not_old true true true isnt = absurd (cc isnt)
  and_not_old true true false _ = refl
  and_not_old true false old _ = refl
  and_not_old false p old _ = refl

  stays_is : list_any (image_pins row t.count) (map (option_map (handle_of rows)) handles) ≡ stays
  stays_is =
      any_is_found (image_pins row t.count) _
      ∙ ap (λ (found : Option ℕ). is_some found) (position-seen (image_pins row t.count) (has (pins row)) (handle_of rows) handles refl
      (λ n h at. pins_last rows row t there h (λ of is. (pinned n h at of is).loaded) ∙ and_not_old (is_of row h) h.pinned h.old (not_old n h at))
      ∙ sym found_after)

  -- a single buffer has no image before the last, and nobody pins one
  before_is : (double : Bool) → is_double t ≡ double → cond stays (cond double t.last None) None ≡ cond stays t.last None
  before_is true _ = refl
  before_is false single = rw (found_after, no_pin rows row t there handles pinned free single) refl

  next_is : (image : List ℕ) → with_next t image stays ≡ with_image (map (option_map (handle_of rows)) handles) row image t
  next_is image =
      ap (λ (before : Option (List ℕ)). let next : Table = record t { count = t.count + 1; last = Some image; before = before } in next)
      (before_is (is_double t) refl ∙ ap (λ (b : Bool). cond b t.last None) (sym stays_is))

  -- ---- a table that has had one image more

  third_is : (ab c : Bool) → ab ≡ true → (ab && c) ≡ false → c ≡ false
  third_is true c _ isnt = isnt
  third_is false c is _ = absurd (cc is)

  module _ (u : Table) (more : u.count ≡ t.count + 1) where
    abbrev rows' : List (Option Table)
    rows' = slice_set rows row (Some u)

    new_there : slice_index_or rows' row None ≡ Some u
    new_there = get_or-set_same rows row (Some u) None within

    seen_moved : (h : HandleView) → pins_old row h ≡ false → handle_of rows' (after_new_image row h) ≡ handle_of rows h
    seen_moved h no_old = by (pins row h) refl where
      pin_moved : h.row ≡ Some row → h.pinned ≡ true → h.old ≡ false → (handle_of rows' (record h { old = true })).pin ≡ (handle_of rows h).pin
      pin_moved of is new = let e : t.count + 1 - 1 ≡ t.count = omega arith in rw (of, is, new, new_there, there, more, e) refl

      by : (c : Bool) → pins row h ≡ c → handle_of rows' (cond c (record h { old = true }) h) ≡ handle_of rows h
      by true is =
          let two = and_parts (is_of row h) h.pinned is in
          ap (λ (pin : Option ℕ). let seen : Handle = record { app = h.app; row = h.row; told = h.told; pin = pin } in seen)
          (pin_moved (of_row row h.row two.0) two.1 (third_is (pins row h) h.old is no_old))
      by false isnt = handle_other rows row (Some u) h (λ is k of same. cc (pins_here row h is (of ∙ ap (λ (j : ℕ). Some j) same), isnt))

    moved_seen : tables_of rows' moved ≡ with_table row u (tables_of rows handles)
    moved_seen = ap (λ (hs : List (Option Handle)). tables_with rows' hs) (map-through (handle_of rows') (after_new_image row) (handle_of rows) handles (λ n h at. seen_moved h (not_old n h at)))

    -- its handles lead on, if the image that was the last stays for them
    module _ (table : IsTable t) (before : u.before ≡ cond stays t.last None) (closed : u.load ≡ None) where
      stays_where : (n : ℕ) (h : HandleView) → slice_index_or handles n None ≡ Some h → pins row h ≡ true → stays ≡ true
      stays_where n h at is = rw found_after (by (position (has (pins row)) handles) refl) where
        by : (found : Option ℕ) → position (has (pins row)) handles ≡ found → is_some found ≡ true
        by None none = absurd (cc (rw at at (position-None (has (pins row)) handles n None none refl), is))
        by (Some k) found = refl

      some_last : 0 < t.count → IsSome t.last
      some_last some = last_is t.last (let more : (t.count == 0) ≡ false = grind (arith, nat_tests) in rw more at table.loaded) where
        last_is : (last : Option (List ℕ)) → is_some last ≡ not false → IsSome last
        last_is None is = absurd (cc is)
        last_is (Some x) is = refl

      leads : AtEachPlace (Leads rows') handles
      leads = leads_on rows row u within handles sound.leads (λ n h at of is.
          let never : h.old ≡ true → ⊥ = λ old. cc (rw (pins_here row h is of, old) at (not_old n h at)) in record {
            loaded = omega (arith, more);
            kept = λ old. absurd (never old);
            closed = λ old. absurd (never old);
          })

      moved_leads : (n : ℕ) (h : HandleView) → slice_index_or handles n None ≡ Some h → Leads rows' (after_new_image row h)
      moved_leads n h at = each (pins row h) refl where
        each : (c : Bool) → pins row h ≡ c → Leads rows' (cond c (record h { old = true }) h)
        each true is = record {
          table = (leads n h at).table;
          pins = λ is_pinned k of v there_v.
              let two = and_parts (is_of row h) h.pinned is in
              let here : row ≡ k = same_Some row k (sym (of_row row h.row two.0) ∙ of) in
              let same : u ≡ v = same_Some _ v (sym new_there ∙ rw (← here) at there_v) in
              subst (λ (w : Table). Pins w true) same record {
                loaded = omega (arith, more);
                kept = λ _. rw (before, stays_where n h at is) (some_last ((pinned n h at (of_row row h.row two.0) is_pinned).loaded));
                closed = λ _. closed;
              };
        }
        each false isnt = leads n h at

      moved_sound : u.name ≡ t.name → (uses_buffer (Some t) ≡ false → uses_buffer (Some u) ≡ true → count_by uses_buffer rows < 4) → IsSound rows' moved
      moved_sound name room = changed_sound stood u moved name (AtEachPlace-map (Leads rows') (after_new_image row) handles moved_leads) room

  -- ---- put, and the load that goes active

  -- the image that closing the load gives
  pub loaded_is : (image : List ℕ) → Some image ≡ option_map (λ (load : Load). load.image) t.load → image ≡ load_image t
  loaded_is image is = by t.load is where
    by : (load : Option Load) → Some image ≡ option_map (λ (load : Load). load.image) load → image ≡ option_map_or (λ (load : Load). load.image) load []
    by None none = absurd (cc none)
    by (Some load) same = cc same

  abbrev pub activated : Table
  activated = record (with_next t (load_image t) stays) { load = None; activation = false }

  pub put_seen : (image : List ℕ) → tables_of (slice_set rows row (Some (with_next t image stays))) moved ≡ put row image (tables_of rows handles)
  put_seen image = moved_seen (with_next t image stays) refl ∙ rw there (ap (λ (u : Table). with_table row u (tables_of rows handles)) (next_is image))

  pub activate_seen : tables_of (slice_set rows row (Some activated)) moved ≡ activate row (tables_of rows handles)
  activate_seen = moved_seen activated refl ∙ rw there (ap (λ (u : Table). with_table row (record u { load = None; activation = false }) (tables_of rows handles)) (next_is (load_image t)))

  pub put_sound : (image : List ℕ) → IsTable t → t.load ≡ None → IsSound (slice_set rows row (Some (with_next t image stays))) moved
  put_sound image table closed = moved_sound (with_next t image stays) refl table (before_is (is_double t) refl) closed refl (λ had has. absurd (cc (had, has)))

  pub activate_sound : IsTable t → IsSound (slice_set rows row (Some activated)) moved
  activate_sound table = moved_sound activated refl table (before_is (is_double t) refl) refl refl (gives_back stood activated refl refl refl)
