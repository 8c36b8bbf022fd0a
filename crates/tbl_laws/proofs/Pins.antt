-- What changes of the tables do to pins: each handle that pins an image goes on to lead to that image.
use Rattle.std.specs.Prelude.{replicate, IfSome}
use Rattle.std.proofs.Common.{◌≡◌, ◌≢◌, ◌<◌, ◌≤◌, ℕ, ◌+◌, ◌-◌, eqb, nat_lt, zero, suc, List, [], ◌∷◌, length, replicate, position, slice_index_or, slice_set, Bool, true, false, cond, Option, Some, None, is_some, IsSome, refl, ap, sym, ◌∙◌, subst, ◌⊎◌, inl, inr, arith}
use Rattle.std.specs.List.{list_any, position_or_len}
use Rattle.std.proofs.lemmas.Bool.{cases_eq, cases_lt, eqb-true, eq-eqb, ne_eqb, and_parts, not-false}
use Rattle.std.proofs.lemmas.Bool.Decides.{nat_tests}
use Rattle.std.proofs.lemmas.List.{get_or-set_same, get_or-set_other, get_or_past, set-set}
use Rattle.std.proofs.lemmas.List.Folds.{list_any_at}
use Rattle.std.proofs.lemmas.List.Sums.{fails_before_first}
use Rattle.std.proofs.lemmas.Option.{same_Some}
use Rattle.tbl_model.specs.State.{Load, Table, Handle, Tables}
use Rattle.tbl_model.specs.Tables.{table_at, is_double}
use Rattle.tbl_model.specs.TableSteps.{handle_at, pins, is_in_way, locker, image_of, drop_before, with_table, with_handle, with_image, put, set_time, changed, changed_in, new_handle, with_first, added}

-- ---- places

-- what is at a place after something, or nothing, was put at one of them
pub at_put : {X : Type 0} (xs : List (Option X)) (n k : ℕ) (x : Option X) (y : X) → slice_index_or (slice_set xs n x) k None ≡ Some y
    → ((k ≡ n) × (x ≡ Some y)) ⊎ ((k ≢ n) × (slice_index_or xs k None ≡ Some y))
at_put [] n k x y there = absurd (cc there)
at_put (z ∷ zs) zero zero x y there = inl (refl, there)
at_put (z ∷ zs) zero (suc k) x y there = inr (λ same. absurd (omega (arith, same)), there)
at_put (z ∷ zs) (suc n) zero x y there = inr (λ same. absurd (omega (arith, same)), there)
at_put (z ∷ zs) (suc n) (suc k) x y there =
    elim (at_put zs n k x y there) [ inl here ↦ inl (ap suc here.0, here.1) | inr other ↦ inr (λ same. other.0 (omega arith), other.1) ]

pub at_set : {X : Type 0} (xs : List (Option X)) (n k : ℕ) (x y : X) → slice_index_or (slice_set xs n (Some x)) k None ≡ Some y
    → ((k ≡ n) × (x ≡ y)) ⊎ ((k ≢ n) × (slice_index_or xs k None ≡ Some y))
at_set xs n k x y there = elim (at_put xs n k (Some x) y there) [ inl here ↦ inl (here.0, same_Some x y here.1) | inr other ↦ inr other ]

-- there is something only within the list
pub within : {X : Type 0} (xs : List (Option X)) (k : ℕ) (x : X) → slice_index_or xs k None ≡ Some x → k < length xs
within xs k x there = elim (cases_lt k (length xs)) [ inl is ↦ is | inr past ↦ absurd (cc (get_or_past xs k None past)) ]

-- nothing is at a free place
pub nothing_there : {X : Type 0} (n k : ℕ) (x : X) → slice_index_or (replicate {A = Option X} n None) k None ≡ Some x → ⊥
nothing_there zero k x there = cc
nothing_there (suc n) zero x there = cc
nothing_there (suc n) (suc k) x there = nothing_there n k x there

-- the first place that passes a test is past the end if none does
past_none : (n all : ℕ) → cond (nat_lt n all) (Some n) None ≡ None → all ≤ n
past_none n all none = grind (arith, nat_tests)

-- if no place passes a test, nothing that is at one does
pub none_passes : {X : Type 0} (p : Option X → Bool) (xs : List (Option X)) (k : ℕ) (x : X) → position p xs ≡ None → slice_index_or xs k None ≡ Some x → p (Some x) ≡ false
none_passes p xs k x none there =
    let past : length xs ≤ position_or_len p xs = past_none (position_or_len p xs) (length xs) none in
    let before : k < length xs = within xs k x there in
    rw there at (fails_before_first p xs k None (omega arith))

pub some_there : {X : Type 0} (o : Option X) → is_some o ≡ true → (x : X) × (o ≡ Some x)
some_there None is = absurd (cc is)
some_there (Some x) is = (x, refl)

-- ---- the image of a pin

-- what a table keeps as long as it is registered: its size, its owner, and the handle that its registration gave
abbrev pub kept : Table → ℕ × ℕ × ℕ
kept t = (t.size, t.owner, t.handle)

-- the number is that of the last image, or of the one before
abbrev pub IsNear : ℕ → Table → Type 0
IsNear p t = (p ≡ t.count) ⊎ (p + 1 ≡ t.count)

-- the table became another that gives the same image under this number
pub record Gives (t : Table) (p : ℕ) (u : Table) : Type 0 where
  pub same : kept u ≡ kept t
  pub near : IsNear p u
  pub image : image_of u p ≡ image_of t p

-- a handle pins the image of this number of the table in this row
pub record PinsAt (handles : List (Option Handle)) (n : ℕ) (h : Handle) (row p : ℕ) : Type 0 where
  pub place : slice_index_or handles n None ≡ Some h
  pub row_is : h.row ≡ Some row
  pub pin : h.pin ≡ Some p

-- so it is found among the handles
pin_found : (handles : List (Option Handle)) (n : ℕ) (h : Handle) (row p : ℕ) → PinsAt handles n h row p → list_any (pins row p) handles ≡ true
pin_found handles n h row p is =
    list_any_at (pins row p) handles n None (within handles n h is.place) (rw (is.place, is.row_is, is.pin, eq-eqb row row refl, eq-eqb p p refl) refl)

-- the image before the last isn't let go while a handle pins it
pub drop_before_gives : (handles : List (Option Handle)) (n : ℕ) (h : Handle) (row p : ℕ) (t : Table) → PinsAt handles n h row p → IsNear p t → Gives t p (drop_before handles row t)
drop_before_gives handles n h row p t is near = record {
  same = refl;
  near = near;
  image = elim near [
    | inl last ↦ rw (eq-eqb p t.count last) refl
    | inr before ↦ let e : t.count - 1 ≡ p = omega arith in rw (e, pin_found handles n h row p is) refl
  ];
}

-- a handle that isn't in the way of a new image pins the last one, which stays as the one before
pub image_gives : (handles : List (Option Handle)) (n : ℕ) (h : Handle) (row p : ℕ) (t : Table) (image : List ℕ) (seconds sub : ℕ) → PinsAt handles n h row p → is_in_way row t (Some h) ≡ false
    → Gives t p (record (with_image handles row image t) { seconds = seconds; sub = sub })
image_gives handles n h row p t image seconds sub is free =
    let last : p ≡ t.count = eqb-true p t.count (and_parts (is_double t) (eqb p t.count) (not-false _ (rw (is.row_is, is.pin, eq-eqb row row refl) at free))).1 in
    let other : p ≢ t.count + 1 = omega arith in
    let found : list_any (pins row t.count) handles ≡ true = pin_found handles n h row t.count (record { place = is.place; row_is = is.row_is; pin = rw (← last) is.pin }) in
    record { same = refl; near = inr (omega arith); image = rw (ne_eqb p (t.count + 1) other, eq-eqb p t.count last, found) refl }

-- ---- changes of the tables

-- a table that has had an image has a last one, of its size, and so is that of its open load
pub record IsLoaded (t : Table) : Type 0 where
  pub some : t.count ≢ 0 → IsSome t.last
  pub sized : (image : List ℕ) → t.last ≡ Some image → length image ≡ t.size
  pub load_sized : (load : Load) → t.load ≡ Some load → length load.image ≡ t.size

-- this holds of each table
abbrev pub AreLoaded : List (Option Table) → Type 0
AreLoaded rows = (row : ℕ) (t : Table) → slice_index_or rows row None ≡ Some t → IsLoaded t

-- the row has a table that gives the image of this number as the one did that was there
pub record GoesOn (rows : List (Option Table)) (row p : ℕ) (t : Table) : Type 0 where
  pub table : Table
  pub there : slice_index_or rows row None ≡ Some table
  pub gives : Gives t p table

-- the handle pinned this image before, and its table goes on giving it
pub record Remains (old new : Tables) (n : ℕ) (h : Handle) (p : ℕ) : Type 0 where
  pub was : handle_at old n ≡ Some h
  pub goes_on : (row : ℕ) (t : Table) → h.row ≡ Some row → table_at old row ≡ Some t → IsNear p t → GoesOn new.rows row p t

-- each handle that pins an image after the change remains
pub record Keeps (old new : Tables) : Type 0 where
  pub remains : (n : ℕ) (h : Handle) (p : ℕ) → handle_at new n ≡ Some h → h.pin ≡ Some p → Remains old new n h p
  pub loaded : AreLoaded old.rows → AreLoaded new.rows

-- a row that doesn't change
pub stays_goes_on : (rows : List (Option Table)) (row p : ℕ) (t : Table) → slice_index_or rows row None ≡ Some t → IsNear p t → GoesOn rows row p t
stays_goes_on rows row p t there near = record { table = t; there = there; gives = record { same = refl; near = near; image = refl } }

-- nothing changes
pub stays_keeps : (tables : Tables) → Keeps tables tables
stays_keeps tables = record {
  remains = λ n h p at pin. record { was = at; goes_on = λ row t of there near. stays_goes_on tables.rows row p t there near };
  loaded = λ all. all;
}

-- a table is put into a row, and no handle pins what it didn't pin before
pub set_keeps : (old : Tables) (row : ℕ) (u : Table) (handles : List (Option Handle))
    → ((n : ℕ) (h : Handle) (p : ℕ) → slice_index_or handles n None ≡ Some h → h.pin ≡ Some p → handle_at old n ≡ Some h)
    → ((n : ℕ) (h : Handle) (p : ℕ) (t : Table) → PinsAt handles n h row p → table_at old row ≡ Some t → IsNear p t → Gives t p u)
    → (AreLoaded old.rows → IsLoaded u) → Keeps old (record { rows = slice_set old.rows row (Some u); handles = handles })
set_keeps old row u handles stay gives new = record {
  remains = λ n h p at pin. record {
    was = stay n h p at pin;
    goes_on = λ k t of there near. elim (cases_eq k row) [
      | inl here ↦
          let there' : table_at old row ≡ Some t = rw here at there in
          let room : row < length old.rows = within old.rows row t there' in record {
            table = u;
            there = rw here (get_or-set_same old.rows row (Some u) None room);
            gives = gives n h p t (record { place = at; row_is = rw here at of; pin = pin }) there' near;
          }
      | inr other ↦ stays_goes_on _ k p t (get_or-set_other old.rows row k (Some u) None other ∙ there) near
    ];
  };
  loaded = λ all k t there. elim (at_set old.rows row k u t there) [ inl here ↦ subst IsLoaded here.1 (new all) | inr other ↦ all k t other.1 ];
}

-- a handle that pins nothing is put at a place: each that pins an image was there before, at another place
pub unpinned_set : (handles : List (Option Handle)) (m : ℕ) (free : Handle) (n : ℕ) (h : Handle) (p : ℕ) → free.pin ≡ None → slice_index_or (slice_set handles m (Some free)) n None ≡ Some h → h.pin ≡ Some p
    → (n ≢ m) × (slice_index_or handles n None ≡ Some h)
unpinned_set handles m free n h p none at pin =
    elim (at_set handles m n free h at) [ inl here ↦ absurd (cc (none, pin, ap (λ (x : Handle). x.pin) here.1)) | inr other ↦ other ]

-- a handle gives its pin back
pub release_keeps : (tables : Tables) (m : ℕ) (h : Handle) (row : ℕ) (t : Table) → table_at tables row ≡ Some t
    → Keeps tables (with_table row (drop_before (slice_set tables.handles m (Some (record h { pin = None }))) row t) (with_handle m (record h { pin = None }) tables))
release_keeps tables m h row t there =
    let handles : List (Option Handle) = slice_set tables.handles m (Some (record h { pin = None })) in
    set_keeps tables row (drop_before handles row t) handles (λ n g p at pin. (unpinned_set tables.handles m (record h { pin = None }) n g p refl at pin).1)
    (λ n g p u is stood near.
    let one : t ≡ u = same_Some t u (sym there ∙ stood) in
    subst (λ (v : Table). Gives v p (drop_before handles row t)) one (drop_before_gives handles n g row p t is (subst (IsNear p) (sym one) near)))
    (λ all. let loaded = all row t there in record { some = loaded.some; sized = loaded.sized; load_sized = loaded.load_sized })

-- a table comes into a free row, with a handle that pins nothing
pub add_keeps : (tables : Tables) (row : ℕ) (t : Table) (first : Option (List ℕ)) → table_at tables row ≡ None → t.load ≡ None → IfSome first (λ image. length image ≡ t.size) → Keeps tables (added row (with_first first t) tables)
add_keeps tables row t first free no_load sized =
    set_keeps tables row (with_first first t) (slice_set tables.handles t.handle (Some (new_handle t.owner row))) (λ n g p at pin. (unpinned_set tables.handles t.handle (new_handle t.owner row) n g p refl at pin).1)
    (λ n g p u is stood near. absurd (cc (stood, free)))
    (λ all. begins first sized)
  where
    begins : (first : Option (List ℕ)) → IfSome first (λ image. length image ≡ t.size) → IsLoaded (with_first first t)
    begins (Some image) size = record { some = λ some. refl; sized = λ other is. ap length (sym (same_Some image other is)) ∙ size; load_sized = λ load is. absurd (cc (is, no_load)) }
    begins None size = record { some = λ some. absurd (some refl); sized = λ image is. absurd (cc is); load_sized = λ load is. absurd (cc (is, no_load)) }

-- a new image and its time are put into the table's row
put_is : (tables : Tables) (row : ℕ) (t : Table) (image : List ℕ) (seconds sub : ℕ) → table_at tables row ≡ Some t
    → set_time row seconds sub (put row image tables) ≡ with_table row (record (with_image tables.handles row image t) { seconds = seconds; sub = sub }) tables
put_is tables row t image seconds sub there =
    let room : row < length tables.rows = within tables.rows row t there in
    rw (there, get_or-set_same tables.rows row (Some (with_image tables.handles row image t)) None room, set-set) refl

-- an image becomes the last of a table that isn't locked
pub put_keeps : (tables : Tables) (row : ℕ) (t : Table) (image : List ℕ) (seconds sub : ℕ) → table_at tables row ≡ Some t → locker tables row t ≡ None → length image ≡ t.size
    → Keeps tables (set_time row seconds sub (put row image tables))
put_keeps tables row t image seconds sub there free size =
    let new : Table = record (with_image tables.handles row image t) { seconds = seconds; sub = sub } in
    subst (Keeps tables) (sym (put_is tables row t image seconds sub there)) (set_keeps tables row new tables.handles (λ n g p at pin. at)
    (λ n g p u is stood near. subst (λ (v : Table). Gives v p new) (same_Some t u (sym there ∙ stood))
    (image_gives tables.handles n g row p t image seconds sub is (none_passes (is_in_way row t) tables.handles n g free is.place)))
    (λ all. record { some = λ some. refl; sized = λ other is. ap length (sym (same_Some image other is)) ∙ size; load_sized = (all row t there).load_sized }))

-- what handles that pin an image of a table see of it: its images, and what it keeps as long as it is registered
record SeenByPins : Type 0 where
  count : ℕ
  last : Option (List ℕ)
  before : Option (List ℕ)
  kept : ℕ × ℕ × ℕ

abbrev seen_by_pins : Table → SeenByPins
seen_by_pins t = record { count = t.count; last = t.last; before = t.before; kept = kept t }

-- a table of which they see the same
same_gives : (t u : Table) (p : ℕ) → seen_by_pins u ≡ seen_by_pins t → IsNear p t → Gives t p u
same_gives t u p same near =
    let count : u.count ≡ t.count = ap (λ (k : SeenByPins). k.count) same in record {
      same = ap (λ (k : SeenByPins). k.kept) same;
      near = rw count near;
      image = ap (λ (k : SeenByPins). cond (eqb p k.count) k.last k.before) same;
    }

-- a table changes, but not what is seen of it by pins
pub changed_keeps : (tables : Tables) (row : ℕ) (change : Table → Table) → ((t : Table) → seen_by_pins (change t) ≡ seen_by_pins t) → ((t : Table) → table_at tables row ≡ Some t → IsLoaded t → IsLoaded (change t)) → Keeps tables (changed row change tables)
changed_keeps tables row change same loaded = here (table_at tables row) refl where
  here : (found : Option Table) → table_at tables row ≡ found → Keeps tables (changed_in tables row change found)
  here None at = stays_keeps tables
  here (Some t) at =
      set_keeps tables row (change t) tables.handles (λ n h p at pin. at)
      (λ n h p u is stood near. subst (λ (v : Table). Gives v p (change t)) (same_Some t u (sym at ∙ stood)) (same_gives t (change t) p (same t) (subst (IsNear p) (sym (same_Some t u (sym at ∙ stood))) near)))
      (λ all. loaded t at (all row t at))

-- nor its load
pub unseen_keeps : (tables : Tables) (row : ℕ) (change : Table → Table) → ((t : Table) → seen_by_pins (change t) ≡ seen_by_pins t) → ((t : Table) → (change t).load ≡ t.load) → Keeps tables (changed row change tables)
unseen_keeps tables row change same load = changed_keeps tables row change same (λ t there loaded.
    let count : (change t).count ≡ t.count = ap (λ (k : SeenByPins). k.count) (same t) in
    let last : (change t).last ≡ t.last = ap (λ (k : SeenByPins). k.last) (same t) in
    let size : (change t).size ≡ t.size = ap (λ (k : SeenByPins). k.kept.0) (same t) in record {
      some = λ some. rw last (loaded.some (rw count at some));
      sized = λ image is. loaded.sized image (sym last ∙ is) ∙ sym size;
      load_sized = λ open_load is. loaded.load_sized open_load (sym (load t) ∙ is) ∙ sym size;
    })

-- one change after another
pub then_keeps : (old mid new : Tables) → Keeps old mid → Keeps mid new → Keeps old new
then_keeps old mid new first second = record {
  remains = λ n h p at pin.
      let later = second.remains n h p at pin in
      let sooner = first.remains n h p later.was pin in record {
        was = sooner.was;
        goes_on = λ row t of there near.
            let one : GoesOn mid.rows row p t = sooner.goes_on row t of there near in
            let two : GoesOn new.rows row p one.table = later.goes_on row one.table of one.there one.gives.near in record {
              table = two.table;
              there = two.there;
              gives = record { same = two.gives.same ∙ one.gives.same; near = two.gives.near; image = two.gives.image ∙ one.gives.image };
            };
      };
  loaded = λ all. second.loaded (first.loaded all);
}
