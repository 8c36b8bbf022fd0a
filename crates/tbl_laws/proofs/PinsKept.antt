-- The further changes of the tables, and what they do to pins: activation, and handles and tables that are given up.
use Rattle.std.proofs.Common.{◌≡◌, ◌≢◌, ◌<◌, ℕ, List, [], ◌∷◌, length, Bool, true, false, cond, Option, Some, None, is_some, refl, ap, sym, ◌∙◌, subst, inl, inr}
use Rattle.std.specs.Prelude.{slice_index_or, slice_set, option_and_then}
use Rattle.std.specs.List.{fold}
use Rattle.std.proofs.lemmas.Bool.{cases_eq, eq-eqb}
use Rattle.std.proofs.lemmas.List.{get_or-set_same, get_or-set_other, set-set}
use Rattle.std.proofs.lemmas.Option.{same_Some}
use Rattle.std.proofs.Math.ListN.{get_or-map}
use Rattle.tbl_model.specs.State.{State, Load, Table, Handle, Tables}
use Rattle.tbl_model.specs.Tables.{table_at}
use Rattle.tbl_model.specs.TableSteps.{is_that, handle_at, is_in_way, locker, drop_before, with_table, with_image, put, set_time, changed, load_image, activate, without_handle, give_back_by, orphaned, remove, registered_by}
use Rattle.tbl_model.specs.Sharing.{give_up, give_up_by, give_up_if}
use Rattle.tbl_laws.proofs.Rows.{within}
use Rattle.tbl_laws.proofs.Pins.{none_passes, kept, IsNear, Gives, Keeps, stays_goes_on, stays_keeps, set_keeps, drop_before_gives, image_gives, then_keeps}
use Rattle.tbl_laws.proofs.GivingUp.{fewer_without}

-- ---- activation

-- the time of a table that was just put into its row
time_set : (tables : Tables) (row : ℕ) (t u : Table) (seconds sub : ℕ) → table_at tables row ≡ Some t → set_time row seconds sub (with_table row u tables) ≡ with_table row (record u { seconds = seconds; sub = sub }) tables
time_set tables row t u seconds sub there =
    let room : row < length tables.rows = within tables.rows row t there in
    rw (get_or-set_same tables.rows row (Some u) None room, set-set) refl

-- what is seen of a new image by pins is seen whatever becomes of the load
gives_closed : (t u v : Table) (p : ℕ) → Gives t p u → kept v ≡ kept u → v.count ≡ u.count → v.last ≡ u.last → v.before ≡ u.before → Gives t p v
gives_closed t u v p g same count last before = record { same = same ∙ g.same; near = rw count g.near; image = rw (count, last, before) g.image }

-- the load's image becomes the last of a table that isn't locked
pub update_keeps : (tables : Tables) (row : ℕ) (t : Table) (seconds sub : ℕ) → table_at tables row ≡ Some t → locker tables row t ≡ None → is_some t.load ≡ true → Keeps tables (set_time row seconds sub (activate row tables))
update_keeps tables row t seconds sub there free open_load =
    let closed : Table = record (with_image tables.handles row (load_image t) t) { load = None; activation = false } in
    let new : Table = record closed { seconds = seconds; sub = sub } in
    let is : set_time row seconds sub (activate row tables) ≡ with_table row new tables = rw there (time_set tables row t closed seconds sub there) in
    subst (Keeps tables) (sym is) (set_keeps tables row new tables.handles (λ n g p at pin. at)
    (λ n g p u pins stood near. subst (λ (v : Table). Gives v p new) (same_Some t u (sym there ∙ stood))
    (gives_closed t _ new p (image_gives tables.handles n g row p t (load_image t) seconds sub pins (none_passes (is_in_way row t) tables.handles n g free pins.place)) refl refl refl refl))
    (λ all. record { some = λ some. refl; sized = λ image last. ap length (sym (same_Some _ image last)) ∙ load_is t.load open_load (all row t there).load_sized; load_sized = λ load none. absurd (cc none) }))
  where
    load_is : {size : ℕ} (load : Option Load) → is_some load ≡ true → ((l : Load) → load ≡ Some l → length l.image ≡ size) → length (Rattle.std.specs.Option.option_map_or (λ (l : Load). l.image) load []) ≡ size
    load_is None is sized = absurd (cc is)
    load_is (Some l) is sized = sized l refl

-- an image becomes the last one, and no time is set
pub put_alone_keeps : (tables : Tables) (row : ℕ) (t : Table) (image : List ℕ) → table_at tables row ≡ Some t → locker tables row t ≡ None → length image ≡ t.size → Keeps tables (put row image tables)
put_alone_keeps tables row t image there free size =
    let new : Table = with_image tables.handles row image t in
    let is : put row image tables ≡ with_table row new tables = rw there refl in
    subst (Keeps tables) (sym is) (set_keeps tables row new tables.handles (λ n g p at pin. at)
    (λ n g p u pins stood near. subst (λ (v : Table). Gives v p new) (same_Some t u (sym there ∙ stood))
    (gives_closed t _ new p (image_gives tables.handles n g row p t image t.seconds t.sub pins (none_passes (is_in_way row t) tables.handles n g free pins.place)) refl refl refl refl))
    (λ all. record { some = λ some. refl; sized = λ other last. ap length (sym (same_Some image other last)) ∙ size; load_sized = (all row t there).load_sized }))

-- ---- handles and tables that are given up

-- a handle goes
pub without_keeps : (tables : Tables) (m : ℕ) → Keeps tables (without_handle m tables)
without_keeps tables m = record {
  remains = λ n h p at pin. record { was = fewer_without tables.handles m n h at; goes_on = λ row t of there near. stays_goes_on tables.rows row p t there near };
  loaded = λ all. all;
}

pub back_keeps : (tables : Tables) (m : ℕ) (row : Option ℕ) → Keeps tables (give_back_by m tables row)
back_keeps tables m None = without_keeps tables m
back_keeps tables m (Some row) = by (table_at tables row) refl where
  by : (found : Option Table) → table_at tables row ≡ found → Keeps tables (changed row (drop_before (slice_set tables.handles m None) row) (without_handle m tables))
  by None there = rw there (without_keeps tables m)
  by (Some t) there = rw there (set_keeps tables row (drop_before (slice_set tables.handles m None) row t) (slice_set tables.handles m None) (λ n g p at pin. fewer_without tables.handles m n g at)
      (λ n g p u pins stood near. let one : t ≡ u = same_Some t u (sym there ∙ stood) in
      subst (λ (v : Table). Gives v p (drop_before (slice_set tables.handles m None) row t)) one (drop_before_gives (slice_set tables.handles m None) n g row p t pins (subst (IsNear p) (sym one) near)))
      (λ all. let loaded = all row t there in record { some = loaded.some; sized = loaded.sized; load_sized = loaded.load_sized }))

-- a handle of another row, or of none, stays as it is
pub orphan_pins : (row : ℕ) (place : Option Handle) (h : Handle) (p : ℕ) → orphaned row place ≡ Some h → h.pin ≡ Some p → (place ≡ Some h) × (h.row ≢ Some row)
orphan_pins row None h p is pin = absurd (cc is)
orphan_pins row (Some g) h p is pin = by (is_that row g.row) refl is where
  that_row : (of : Option ℕ) → is_that row of ≡ false → of ≢ Some row
  that_row None is same = cc same
  that_row (Some k) is same = cc (is, eq-eqb k row (same_Some k row same))

  by : (b : Bool) → is_that row g.row ≡ b → Some (cond b (record g { row = None; pin = None }) g) ≡ Some h → (Some g ≡ Some h) × (h.row ≢ Some row)
  by true that same = absurd (cc (ap (λ (x : Handle). x.pin) (same_Some _ h same), pin))
  by false that same = let one : g ≡ h = same_Some g h same in (ap (λ (x : Handle). Some x) one, subst (λ (x : Handle). x.row ≢ Some row) one (that_row g.row that))

-- a table goes, and its handles lead to none
pub remove_keeps : (tables : Tables) (row : ℕ) → Keeps tables (remove row tables)
remove_keeps tables row = record {
  remains = λ n h p at pin.
      let was = orphan_pins row (slice_index_or tables.handles n None) h p (sym (get_or-map (orphaned row) tables.handles n None) ∙ at) pin in record {
        was = was.0;
        goes_on = λ k t of there near.
            let other : k ≢ row = λ same. was.1 (of ∙ ap (λ (j : ℕ). Some j) same) in
            stays_goes_on _ k p t (get_or-set_other tables.rows row k None None other ∙ there) near;
      };
  loaded = λ all k t there. elim (cases_eq k row) [
    | inl same ↦ absurd (cc (rw same at there, set_none_of tables.rows row))
    | inr other ↦ all k t (sym (get_or-set_other tables.rows row k None None other) ∙ there)
  ];
} where
  set_none_of : {X : Type 0} (xs : List (Option X)) (n : ℕ) → slice_index_or (slice_set xs n None) n None ≡ None
  set_none_of [] Prim.Native.Nat.zero = refl
  set_none_of [] (Prim.Native.Nat.suc n) = refl
  set_none_of (x ∷ xs) Prim.Native.Nat.zero = refl
  set_none_of (x ∷ xs) (Prim.Native.Nat.suc n) = set_none_of xs n

pub give_up_keeps : (m : ℕ) (s : State) → Keeps s.tables (give_up m s).tables
give_up_keeps m s = by (registered_by s.tables m) where
  by : (row : Option ℕ) → Keeps s.tables (give_up_by m s row).tables
  by None = back_keeps s.tables m (option_and_then (λ (h : Handle). h.row) (handle_at s.tables m))
  by (Some row) = then_keeps s.tables (remove row s.tables) _ (remove_keeps s.tables row) (without_keeps (remove row s.tables) m)

-- an application's handles go, one after another
pub leave_keeps : (app : ℕ) (numbers : List ℕ) (s : State) → Keeps s.tables (fold (give_up_if app) s numbers).tables
leave_keeps app [] s = stays_keeps s.tables
leave_keeps app (m ∷ numbers) s = then_keeps s.tables (give_up_if app s m).tables _ (one (Rattle.tbl_model.specs.Sharing.is_handle_of app (handle_at s.tables m))) (leave_keeps app numbers (give_up_if app s m)) where
  one : (b : Bool) → Keeps s.tables (cond b (give_up m s) s).tables
  one true = give_up_keeps m s
  one false = stays_keeps s.tables
