-- One table changes in what the registry keeps, and perhaps a handle with it.
use Rattle.std.proofs.Common.{◌≡◌, ◌<◌, ◌≤◌, ◌+◌, ◌==◌, ℕ, List, length, count_by, slice_index_or, slice_set, Bool, true, false, not, ◌&&◌, ◌||◌, cond, is_some, IsSome, Option, Some, None, refl, ◌∙◌, inl, inr, arith}
use Rattle.std.specs.Option.{option_map}
use Rattle.std.proofs.lemmas.Bool.{cases_Bool}
use Rattle.std.proofs.lemmas.Bool.Decides.{nat_tests}
use Rattle.std.proofs.lemmas.List.{length-set, set-get_or}
use Rattle.std.specs.Prelude.{bit_and}
use Rattle.std.proofs.lemmas.Nat.{and_assoc}
use Rattle.tbl_kinds.specs.Numbers.{patched}
use Rattle.tbl_model.specs.State.{Table, Tables, Load, Dump, quiet, requested, filled}
use Rattle.tbl_model.specs.Tables.{table_at, has_option, in_use, is_double, is_quiet, rows_from, uses_buffer}
use Rattle.tbl_model.specs.TableSteps.{with_table, base, unchecked, patch, last_image, filled_with}
use Rattle.tbl_model.specs.Refusals.{open_refusal}
use Rattle.tbl_model.proofs.RefusalLaws.{MayOpen, may_open}
use Rattle.access_desc.specs.declared.handle_view.HandleView.{HandleView}
use Rattle.tbl_registry.specs.Rows.{IsTable}
use Rattle.tbl_registry.specs.Pins.{AtEachPlace, Leads}
use Rattle.tbl_registry.specs.Counts.{one_if}
use Rattle.tbl_registry.specs.Seen.{tables_of}
use Rattle.tbl_registry.specs.Sound.{IsSound}
use Rattle.tbl_registry.proofs.InUse.{rows_count}
use Rattle.tbl_registry.proofs.Named.{named_kept}
use Rattle.tbl_registry.proofs.Places.{count_set, within_places, at_place-read}
use Rattle.tbl_registry.proofs.Pins.{PinsOf, pins_of, pins_here, leads_on, change_seen, no_old_pin}

-- an option that doesn't go
pub other_option : (options bit : ℕ) → bit_and 0xFFF7 bit ≡ bit → has_option bit (bit_and options 0xFFF7) ≡ has_option bit options
other_option options bit stays = rw (and_assoc bit options 0xFFF7, stays) refl

-- a change of what is there opens nothing
pub same_open : {X Y : Type 0} (f : X → Y) (o : Option X) → is_some (option_map f o) ≡ is_some o
same_open f None = refl
same_open f (Some x) = refl

-- this table is in the row, in what the registry keeps
pub record FoundRow (rows : List (Option Table)) (handles : List (Option HandleView)) (n : ℕ) (t : Table) : Type 0 where
  pub there : slice_index_or rows n None ≡ Some t
  pub sound : IsSound rows handles

-- as a call finds it
pub stands : {rows : List (Option Table)} {handles : List (Option HandleView)} {found : Option Table} {t : Table} (n : ℕ) → IsSound rows handles → found ≡ slice_index_or rows n found → found ≡ Some t → IsSome (slice_index_or rows n None) → FoundRow rows handles n t
stands {rows = rows} {found = found} {t = t} n sound read is there = record { there = at_place-read rows n found t read is there; sound = sound }

-- what a row without an open load, or without a dump, uses as well
closing : (double load dump : Bool) → (not double && load || dump) ≡ false → (not double && false || dump) ≡ true → ⊥
closing true load dump had has = cc (had, has)
closing false true dump had has = cc had
closing false false dump had has = cc (had, has)

ending : (load dump : Bool) → (load || dump) ≡ false → (load || false) ≡ true → ⊥
ending true dump had has = cc had
ending false dump had has = cc has

-- a load that opens needs a buffer in a table with a single one
single_opens : (double load dump : Bool) → (not double && load || dump) ≡ false → (not double && true || dump) ≡ true → double ≡ false
single_opens true load dump had has = absurd (cc (had, has))
single_opens false load dump had has = refl

module _ {rows : List (Option Table)} {handles : List (Option HandleView)} {n : ℕ} {t : Table} (row : FoundRow rows handles n t) where
  there : slice_index_or rows n None ≡ Some t
  there = row.there

  sound : IsSound rows handles
  sound = row.sound

  pub seen_there : (tables : Tables) → tables_of rows handles ≡ tables → table_at tables n ≡ Some t
  seen_there tables seen = rw (← seen) there

  within : n < length rows
  within = within_places rows n t there

  pinned : PinsOf n t handles
  pinned = pins_of rows handles n t there sound.leads

  -- a buffer is free if it begins to use one
  abbrev HasRoom : Table → Type 0
  HasRoom u = uses_buffer (Some t) ≡ false → uses_buffer (Some u) ≡ true → count_by uses_buffer rows < 4

  few_still : (u : Table) → HasRoom u → count_by uses_buffer (slice_set rows n (Some u)) ≤ 4
  few_still u room = by (uses_buffer (Some t)) (uses_buffer (Some u)) (rw there at (count_set uses_buffer rows n (Some u) None within)) room where
    by : (had has : Bool) → count_by uses_buffer (slice_set rows n (Some u)) + one_if had ≡ count_by uses_buffer rows + one_if has → (had ≡ false → has ≡ true → count_by uses_buffer rows < 4) → count_by uses_buffer (slice_set rows n (Some u)) ≤ 4
    by true true e room = let few = sound.few in omega (arith, e, few)
    by true false e room = let few = sound.few in omega (arith, e, few)
    by false true e room = let few = room refl refl in omega (arith, e, few)
    by false false e room = let few = sound.few in omega (arith, e, few)

  -- it changes under its name
  pub changed_sound : (u : Table) (handles' : List (Option HandleView)) → u.name ≡ t.name → AtEachPlace (Leads (slice_set rows n (Some u))) handles' → HasRoom u → IsSound (slice_set rows n (Some u)) handles'
  changed_sound u handles' name leads room = record {
    all_rows = simp length-set sound.all_rows;
    named = named_kept rows n t u there name sound.named;
    leads = leads;
    few = few_still u room;
  }

  -- its handles pin images that it still has
  pub pins_sound : (u : Table) → u.name ≡ t.name → PinsOf n u handles → HasRoom u → IsSound (slice_set rows n (Some u)) handles
  pins_sound u name pins room = changed_sound u handles name (leads_on rows n u within handles sound.leads pins) room

  -- it keeps its images, and opens no load: its handles see the same
  row_sound : (u : Table) → u.name ≡ t.name → u.count ≡ t.count → u.before ≡ t.before → (t.load ≡ None → u.load ≡ None) → HasRoom u → IsSound (slice_set rows n (Some u)) handles
  row_sound u name count before load room = pins_sound u name (λ k h at of is. let p = pinned k h at of is in record {
    loaded = rw count p.loaded;
    kept = rw before p.kept;
    closed = λ old. load (p.closed old);
  }) room

  -- and its buffer
  pub quiet_sound : (u : Table) → u.name ≡ t.name → u.count ≡ t.count → u.before ≡ t.before → (t.load ≡ None → u.load ≡ None) → uses_buffer (Some u) ≡ uses_buffer (Some t) → IsSound (slice_set rows n (Some u)) handles
  quiet_sound u name count before load uses = row_sound u name count before load (λ had has. absurd (cc (uses, had, has)))

  -- it has no load any more
  pub gives_back : (u : Table) → u.options ≡ t.options → u.dump ≡ t.dump → u.load ≡ None → HasRoom u
  gives_back u options dump closed had has = absurd (closing (is_double t) (is_some t.load) (not (is_quiet t.dump)) had (rw (options, dump, closed) at has))

  pub closed_sound : IsSound (slice_set rows n (Some (record t { load = None; activation = false }))) handles
  closed_sound = row_sound _ refl refl refl (λ none. refl) (gives_back (record t { load = None; activation = false }) refl refl refl)

  -- a dump of it is requested, and ends
  pub asked_sound : (file : List ℕ) → length (in_use (tables_of rows handles)) < 4 → IsSound (slice_set rows n (Some (record t { dump = requested file }))) handles
  asked_sound file free = row_sound _ refl refl refl (λ none. none) (λ had has. let count = rows_count rows 0 in omega (arith, free, count))

  pub ended_sound : IsSound (slice_set rows n (Some (record t { dump = quiet }))) handles
  ended_sound = row_sound _ refl refl refl (λ none. none) (λ had has. absurd (ending (not (is_double t) && is_some t.load) (not (is_quiet t.dump)) had has))

  pub row_seen : (u : Table) → u.count ≡ t.count → tables_of (slice_set rows n (Some u)) handles ≡ with_table n u (tables_of rows handles)
  row_seen u count = change_seen rows handles n t u there within count

  -- ---- an open load changes

  some_is : {X : Type 0} (o : Option X) → IsSome o → true ≡ is_some o
  some_is None some = absurd (cc some)
  some_is (Some x) some = refl

  -- bytes are written into it, or not
  pub write_uses : IsSome t.load → (written : Bool) (image : List ℕ) → uses_buffer (Some (record t { load = cond written (unchecked image) t.load })) ≡ uses_buffer (Some t)
  write_uses loaded true image = rw (some_is t.load loaded) refl
  write_uses loaded false image = refl

  pub write_sound : IsSome t.load → (written : Bool) (image : List ℕ) → IsSound (slice_set rows n (Some (record t { load = cond written (unchecked image) t.load }))) handles
  write_sound loaded written image = quiet_sound (record t { load = cond written (unchecked image) t.load }) refl refl refl (λ none. absurd (cc (none, loaded))) (write_uses loaded written image)

  pub write_open : IsSome t.load → (written : Bool) (image : List ℕ) → is_some (cond written (unchecked image) t.load) ≡ is_some t.load
  write_open loaded true image = some_is t.load loaded
  write_open loaded false image = refl

  pub write_seen : (written : Bool) (offset : ℕ) (bytes : List ℕ) → tables_of (slice_set rows n (Some (record t { load = cond written (unchecked (patched (base t) offset bytes)) t.load }))) handles ≡ cond written (patch n offset bytes (tables_of rows handles)) (tables_of rows handles)
  write_seen true offset bytes = row_seen (record t { load = unchecked (patched (base t) offset bytes) }) refl ∙ rw there refl
  write_seen false offset bytes = rw (← there, set-get_or rows n None) refl

  -- ---- a load opens, or has another image

  module _ (table : IsTable t) (opens : t.load ≡ None → open_refusal (tables_of rows handles) n t ≡ None) where
    may : t.load ≡ None → MayOpen (tables_of rows handles) n t
    may none = may_open (tables_of rows handles) n t (opens none)

    -- no handle pins the image before the last, if a load may open
    none_is_old : (k : ℕ) (h : HandleView) → slice_index_or handles k None ≡ Some h → h.row ≡ Some n → h.pinned ≡ true → h.old ≡ true → ⊥
    none_is_old k h at of is old =
        let p = pinned k h at of is in
        elim (cases_Bool (is_double t)) [
          | inl double ↦ cc (rw (pins_here n h is of, old) at (no_old_pin rows n t there handles pinned ((may (p.closed old)).unlocked double) k h at))
          | inr single ↦ cc (rw (table.single single) at (p.kept old))
        ]

    -- and a buffer is free, since not as many are in use
    room_for_load : uses_buffer (Some t) ≡ false → is_double t ≡ false → count_by uses_buffer rows < 4
    room_for_load uses single =
        let some : (length (rows_from 0 rows) == 4) ≡ false = (may (none_open t.load _ (rw single at uses))).buffer single in
        let many = sound.few in
        let count = rows_count rows 0 in
        grind (arith, nat_tests)
      where
        none_open : {X : Type 0} (load : Option X) (dump : Bool) → (is_some load || dump) ≡ false → load ≡ None
        none_open None dump _ = refl
        none_open (Some x) dump is = absurd (cc is)

    pub set_load_sound : (image : List ℕ) → IsSound (slice_set rows n (Some (record t { load = unchecked image }))) handles
    set_load_sound image = pins_sound (record t { load = unchecked image }) refl (λ k h at of is. let p = pinned k h at of is in record {
      loaded = p.loaded;
      kept = p.kept;
      closed = λ old. absurd (none_is_old k h at of is old);
    }) (λ had has. room_for_load had (single_opens (is_double t) (is_some t.load) (not (is_quiet t.dump)) had has))

  -- ---- the mark of a load

  pub checked_uses : (checked : Bool) → uses_buffer (Some (record t { load = option_map (λ (load : Load). record load { checked = checked }) t.load })) ≡ uses_buffer (Some t)
  checked_uses checked = rw (same_open (λ (load : Load). record load { checked = checked }) t.load) refl

  pub checked_sound : (checked : Bool) → IsSound (slice_set rows n (Some (record t { load = option_map (λ (load : Load). record load { checked = checked }) t.load }))) handles
  checked_sound checked = quiet_sound _ refl refl refl (λ none. rw none refl) (checked_uses checked)

  -- ---- a dump is filled

  same_quiet : (image : List ℕ) (dump : Dump) → is_quiet (filled_with image dump) ≡ is_quiet dump
  same_quiet image quiet = refl
  same_quiet image (requested file) = refl
  same_quiet image (filled file earlier) = refl

  pub filled_uses : uses_buffer (Some (record t { dump = filled_with (last_image t) t.dump })) ≡ uses_buffer (Some t)
  filled_uses = rw (same_quiet (last_image t) t.dump) refl

  pub filled_sound : IsSound (slice_set rows n (Some (record t { dump = filled_with (last_image t) t.dump }))) handles
  filled_sound = quiet_sound _ refl refl refl (λ none. none) filled_uses

  -- ---- an option goes, and the others stay

  pub uncritical_uses : uses_buffer (Some (record t { options = bit_and t.options 0xFFF7 })) ≡ uses_buffer (Some t)
  uncritical_uses = rw (other_option t.options 0x0001 refl) refl

  pub uncritical_sound : IsSound (slice_set rows n (Some (record t { options = bit_and t.options 0xFFF7 }))) handles
  uncritical_sound = quiet_sound _ refl refl refl (λ none. none) uncritical_uses
