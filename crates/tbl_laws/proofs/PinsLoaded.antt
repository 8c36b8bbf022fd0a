-- Loads keep what pins see.
use Rattle.std.specs.Prelude.{replicate}
use Rattle.std.proofs.Common.{◌≡◌, ◌≤◌, ℕ, ◌+◌, List, ◌++◌, length, take, drop, replicate, unwrap_or, length-append, Bool, false, Option, Some, None, refl, ap, sym, ◌∙◌, arith}
use Rattle.std.specs.Option.{option_map, option_map_or}
use Rattle.std.proofs.lemmas.List.{length-take-le, length-drop, length-replicate}
use Rattle.std.proofs.lemmas.Option.{same_Some}
use Rattle.tbl_kinds.specs.Numbers.{patched}
use Rattle.tbl_model.specs.State.{Load, Table, Tables}
use Rattle.tbl_model.specs.Tables.{table_at}
use Rattle.tbl_model.specs.TableSteps.{base, unchecked, changed, patch, set_file, set_checked}
use Rattle.tbl_laws.proofs.Pins.{IsLoaded, Keeps, changed_keeps, then_keeps, unseen_keeps, within}

length_patched : (image : List ℕ) (offset : ℕ) (bytes : List ℕ) → offset + length bytes ≤ length image → length (patched image offset bytes) ≡ length image
length_patched image offset bytes within =
    omega (arith, length-append (take offset image ++ bytes) (drop (offset + length bytes) image), length-append (take offset image) bytes, length-take-le offset image (omega (arith, within)), length-drop (offset + length bytes) image)

-- what a load begins with has the table's size
pub base_sized : (t : Table) → IsLoaded t → length (base t) ≡ t.size
base_sized t loaded = by t.load t.last loaded.load_sized loaded.sized where
  by : (load : Option Load) (last : Option (List ℕ)) → ((l : Load) → load ≡ Some l → length l.image ≡ t.size) → ((image : List ℕ) → last ≡ Some image → length image ≡ t.size)
      → length (option_map_or (λ (l : Load). l.image) load (unwrap_or last (replicate t.size 0))) ≡ t.size
  by (Some l) last open_load of_last = open_load l refl
  by None (Some image) open_load of_last = of_last image refl
  by None None open_load of_last = length-replicate t.size 0

pub patched_sized : (t : Table) (offset : ℕ) (bytes : List ℕ) → IsLoaded t → offset + length bytes ≤ t.size → length (patched (base t) offset bytes) ≡ t.size
patched_sized t offset bytes loaded within = let size = base_sized t loaded in length_patched (base t) offset bytes (omega (arith, within, size)) ∙ size

-- bytes of a file go into a load
pub file_keeps : (tables : Tables) (row offset : ℕ) (bytes name : List ℕ) (t : Table) → table_at tables row ≡ Some t → offset + length bytes ≤ t.size → Keeps tables (set_file row name (patch row offset bytes tables))
file_keeps tables row offset bytes name t there within =
    then_keeps tables (patch row offset bytes tables) _
    (changed_keeps tables row (λ t. record t { load = unchecked (patched (base t) offset bytes) }) (λ t. refl) (λ u at loaded. let one : t ≡ u = same_Some t u (sym there ∙ at) in record {
      some = loaded.some;
      sized = loaded.sized;
      load_sized = λ load is. ap length (sym (ap (λ (l : Load). l.image) (same_Some _ load is))) ∙ patched_sized u offset bytes loaded (rw one at within);
    }))
    (unseen_keeps (patch row offset bytes tables) row (λ t. record t { file = name }) (λ t. refl) (λ t. refl))

-- the load is dropped
pub close_keeps : (tables : Tables) (row : ℕ) → Keeps tables (changed row (λ t. record t { load = None; activation = false }) tables)
close_keeps tables row = changed_keeps tables row (λ t. record t { load = None; activation = false }) (λ t. refl) (λ t there loaded. record { some = loaded.some; sized = loaded.sized; load_sized = λ load is. absurd (cc is) })

-- its mark changes
pub mark_keeps : (tables : Tables) (row : ℕ) (checked : Bool) → Keeps tables (set_checked row checked tables)
mark_keeps tables row checked = changed_keeps tables row (λ t. record t { load = option_map (λ (load : Load). record load { checked = checked }) t.load }) (λ t. refl) (λ t there loaded. record {
  some = loaded.some;
  sized = loaded.sized;
  load_sized = λ load is. by t.load load is loaded.load_sized;
}) where
  by : {size : ℕ} (found : Option Load) (load : Load) → option_map (λ (l : Load). record l { checked = checked }) found ≡ Some load → ((l : Load) → found ≡ Some l → length l.image ≡ size) → length load.image ≡ size
  by None load is sized = absurd (cc is)
  by (Some l) load is sized = ap length (sym (ap (λ (k : Load). k.image) (same_Some _ load is))) ∙ sized l refl
