-- Filled dumps are written while none has ended, and then all end: the same as each in its turn.
use Rattle.std.proofs.Common.{◌≡◌, ◌≢◌, ◌+◌, ℕ, suc, List, [], ◌∷◌, ◌++◌, length, map, Bool, true, false, cond, not, ◌&&◌, ◌||◌, Option, Some, None, is_some, refl, sym, ap, ◌∙◌, slice_index_or, arith}
use Rattle.std.specs.List.{fold}
use Rattle.std.proofs.lemmas.Option.{same_Some}
use Rattle.std.proofs.lemmas.List.{get_or-set_other}
use Rattle.tbl_kinds.specs.Drawer.{with_file, is_full_for}
use Rattle.tbl_model.specs.State.{State, Table, Tables, Dump, quiet, requested, filled}
use Rattle.tbl_model.specs.Tables.{table_at, is_double, is_quiet, uses_buffer, rows_where, rows_from, in_use}
use Rattle.tbl_model.specs.TableSteps.{with_table, changed_in}
use Rattle.tbl_model.specs.Effects.{answered}
use Rattle.tbl_model.specs.Management.{is_requested}
use Rattle.tbl_model.specs.Dumps.{dump_file, Ended, end_by, then_end, is_filled, dumps_ended, housekeeping_effect}
use Rattle.tbl_model.specs.declared.telemetry.TelemetryEvent.{TelemetryEvent}
use Rattle.tbl_model.specs.declared.telemetry.TelemetryEvent.TheVariants.{Dumped, NotDumped}
use Rattle.tbl_model.specs.declared.telemetry.Shown.TheVariants.{Housekeeping}
use Rattle.tbl_kinds.specs.declared.status.TheConstants.Status.{SUCCESS}
use Rattle.dump_requests.specs.Images.{filled_name, filled_file}
use Rattle.dump_requests.specs.Housekeeping.{Written, with_files, files_of, then_write, then_finish}

-- what is written, and the tables that are left
abbrev pub joined : State → Tables → Written → Ended
joined s tables w = record { state = record s { tables = tables; drawer = w.drawer }; bytes = w.bytes; events = w.events }

-- a row whose dump isn't filled is passed over
pub not_written : (s : State) (w : Written) (n : ℕ) (x : Option Table) → table_at s.tables n ≡ x → is_filled x ≡ false → then_write s w n ≡ w
not_written s w n None there is = rw there refl
not_written s w n (Some t) there is = rw there (by t.dump is)
  where
    by : (dump : Dump) → is_filled (Some (record t { dump = dump })) ≡ false → files_of (end_by (with_files s w) n t.name dump) ≡ w
    by quiet is = refl
    by (requested file) is = refl
    by (filled file image) is = absurd (cc is)

-- a filled one is written, if the drawer takes its file, and that is reported
module _ (s : State) (w : Written) (n len : ℕ) (file : List ℕ) where
  pub is_written : (x : Option Table) → table_at s.tables n ≡ x → filled_name x ≡ Some file → length (filled_file s x) ≡ len → is_full_for w.drawer file ≡ false
      → then_write s w n ≡ record { drawer = with_file w.drawer file (filled_file s x); bytes = w.bytes ++ filled_file s x; events = w.events ++ Dumped (Some n) file len ∷ [] }
  unfolding dump_file
  is_written None there name of_len room = absurd (cc name)
  is_written (Some t) there name of_len room = rw there (by t.dump name of_len)
    where
      by : (dump : Dump) → filled_name (Some (record t { dump = dump })) ≡ Some file → length (filled_file s (Some (record t { dump = dump }))) ≡ len
          → files_of (end_by (with_files s w) n t.name dump) ≡ record { drawer = with_file w.drawer file (filled_file s (Some (record t { dump = dump }))); bytes = w.bytes ++ filled_file s (Some (record t { dump = dump })); events = w.events ++ Dumped (Some n) file len ∷ [] }
      by quiet name of_len = absurd (cc name)
      by (requested other) name of_len = absurd (cc name)
      by (filled other image) name of_len = let same = same_Some other file name in rw (same, room, of_len) refl

-- or dropped, if the drawer is full, and that is reported
pub is_dropped : (s : State) (w : Written) (n : ℕ) (file : List ℕ) (x : Option Table) → table_at s.tables n ≡ x → filled_name x ≡ Some file → is_full_for w.drawer file ≡ true
    → then_write s w n ≡ record { drawer = w.drawer; bytes = w.bytes; events = w.events ++ NotDumped n ∷ [] }
is_dropped s w n file None there name full = absurd (cc name)
is_dropped s w n file (Some t) there name full = rw there (by t.dump name)
  where
    by : (dump : Dump) → filled_name (Some (record t { dump = dump })) ≡ Some file → files_of (end_by (with_files s w) n t.name dump) ≡ record { drawer = w.drawer; bytes = w.bytes; events = w.events ++ NotDumped n ∷ [] }
    by quiet name = absurd (cc name)
    by (requested other) name = absurd (cc name)
    by (filled other image) name = let same = same_Some other file name in rw (same, full) refl

-- a filled one is written, and ends
written_and_ended : (s : State) (tables : Tables) (w : Written) (n : ℕ) (x : Option Table) → table_at s.tables n ≡ x → table_at tables n ≡ x → is_filled x ≡ true
    → then_end (joined s tables w) n ≡ joined s (then_finish tables n) (then_write s w n)
unfolding dump_file
written_and_ended s tables w n None there now is = absurd (cc is)
written_and_ended s tables w n (Some t) there now is = rw (there, now, is) (by t.dump is)
  where
    by : (dump : Dump) → is_filled (Some (record t { dump = dump })) ≡ true
        → end_by (joined s tables w) n t.name dump ≡ joined s (with_table n (record t { dump = quiet }) tables) (files_of (end_by (with_files s w) n t.name dump))
    by quiet is = absurd (cc is)
    by (requested file) is = absurd (cc is)
    by (filled file image) is = full (is_full_for w.drawer file) refl
      where
        full : (b : Bool) → is_full_for w.drawer file ≡ b
            → end_by (joined s tables w) n t.name (filled file image) ≡ joined s (with_table n (record t { dump = quiet }) tables) (files_of (end_by (with_files s w) n t.name (filled file image)))
        full true is = rw (is, now) refl
        full false is = rw (is, now) refl

-- a dump that ends changes no other row
others_stay : (tables : Tables) (n k : ℕ) → k ≢ n → table_at (then_finish tables n) k ≡ table_at tables k
others_stay tables n k other = by (is_filled (table_at tables n)) (table_at tables n)
  where
    by : (b : Bool) (x : Option Table) → table_at (cond b (changed_in tables n (λ (t : Table). record t { dump = quiet }) x) tables) k ≡ table_at tables k
    by false x = refl
    by true None = refl
    by true (Some t) = get_or-set_other tables.rows n k (Some (record t { dump = quiet })) None other

-- a filled dump uses a buffer
filled_uses : (x : Option Table) → is_filled x ≡ true → uses_buffer x ≡ true
filled_uses None is = absurd (cc is)
filled_uses (Some t) is = by (is_quiet t.dump) (is_requested t.dump) (not (is_double t) && is_some t.load) is
  where
    by : (none fresh used : Bool) → (not none && not fresh) ≡ true → (used || not none) ≡ true
    by true fresh used is = absurd (cc is)
    by false fresh true is = refl
    by false fresh false is = refl

-- of the rows from one on, which hold these tables
module _ (s : State) where
  pub both_ends : (xs : List (Option Table)) (k : ℕ) (tables : Tables) (w : Written)
      → ((j : ℕ) → table_at s.tables (k + j) ≡ slice_index_or xs j None) → ((j : ℕ) → table_at tables (k + j) ≡ slice_index_or xs j None)
      → fold then_end (joined s tables w) (rows_where is_filled k xs) ≡ joined s (fold then_finish tables (rows_from k xs)) (fold (then_write s) w (rows_from k xs))
  both_ends [] k tables w there now = refl
  both_ends (x ∷ xs) k tables w there now = by (is_filled x) (uses_buffer x) refl refl
      (λ tables' w' now'. both_ends xs (k + 1) tables' w' (λ j. ap (table_at s.tables) (next j) ∙ there (suc j)) now')
    where
      zero_on : k + 0 ≡ k
      zero_on = omega arith

      first : table_at s.tables k ≡ x
      first = ap (table_at s.tables) (sym zero_on) ∙ there 0

      first_now : table_at tables k ≡ x
      first_now = ap (table_at tables) (sym zero_on) ∙ now 0

      next : (j : ℕ) → k + 1 + j ≡ k + suc j
      next j = omega arith

      by : (b u : Bool) → is_filled x ≡ b → uses_buffer x ≡ u
          → ((tables' : Tables) (w' : Written) → ((j : ℕ) → table_at tables' (k + 1 + j) ≡ slice_index_or xs j None)
          → fold then_end (joined s tables' w') (rows_where is_filled (k + 1) xs) ≡ joined s (fold then_finish tables' (rows_from (k + 1) xs)) (fold (then_write s) w' (rows_from (k + 1) xs)))
          → fold then_end (joined s tables w) (cond b (k ∷ rows_where is_filled (k + 1) xs) (rows_where is_filled (k + 1) xs))
          ≡ joined s (fold then_finish tables (cond u (k ∷ rows_from (k + 1) xs) (rows_from (k + 1) xs))) (fold (then_write s) w (cond u (k ∷ rows_from (k + 1) xs) (rows_from (k + 1) xs)))
      by true true is uses more =
          ap (λ (e : Ended). fold then_end e (rows_where is_filled (k + 1) xs)) (written_and_ended s tables w k x first first_now is)
          ∙ more (then_finish tables k) (then_write s w k)
          (λ j. others_stay tables k (k + 1 + j) (λ same. absurd (omega (arith, same))) ∙ ap (table_at tables) (next j) ∙ now (suc j))
      by true false is uses more = absurd (cc (filled_uses x is, uses))
      by false true is uses more =
          let stays : then_finish tables k ≡ tables = rw (first_now, is) refl in
          more tables w (λ j. ap (table_at tables) (next j) ∙ now (suc j))
          ∙ sym (λ i. joined s (fold then_finish (stays i) (rows_from (k + 1) xs)) (fold (then_write s) (not_written s w k x first is i) (rows_from (k + 1) xs)))
      by false false is uses more = more tables w (λ j. ap (table_at tables) (next j) ∙ now (suc j))

-- all that housekeeping writes, ends and reports
pub all_ended : (s : State) (w : Written) (tables : Tables) → fold (then_write s) (record { drawer = s.drawer; bytes = []; events = [] }) (in_use s.tables) ≡ w → tables ≡ fold then_finish s.tables (in_use s.tables)
    → housekeeping_effect s ≡ record (answered s SUCCESS 0) { bytes = w.bytes; events = w.events; images = map (λ (event : TelemetryEvent). None) w.events; shown = Housekeeping; next = record s { tables = tables; drawer = w.drawer } }
unfolding dumps_ended housekeeping_effect
all_ended s w tables written left = rw (both_ends s s.tables.rows 0 s.tables (record { drawer = s.drawer; bytes = []; events = [] }) here here, written, left) refl
  where
    here : (j : ℕ) → table_at s.tables (0 + j) ≡ slice_index_or s.tables.rows j None
    here j = ap (table_at s.tables) (omega arith)
