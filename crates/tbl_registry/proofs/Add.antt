-- A new table.
use Rattle.std.proofs.Common.{◌≡◌, ◌≢◌, ◌<◌, ◌≤◌, ◌+◌, ℕ, List, length, position, slice_index_or, slice_set, Bool, true, false, not, ◌&&◌, ◌||◌, IsSome, Option, Some, None, refl, ap, arith}
use Rattle.std.specs.Option.{option_map}
use Rattle.std.proofs.lemmas.List.{map-set, get_or-set_same, length-set}
use Rattle.tbl_kinds.specs.Free.{least_free}
use Rattle.tbl_model.specs.State.{Table, Handle}
use Rattle.tbl_model.specs.Tables.{uses_buffer}
use Rattle.tbl_model.specs.TableSteps.{has_name, new_handle, with_table, with_handle}
use Rattle.access_desc.specs.declared.handle_view.HandleView.{HandleView}
use Rattle.access_desc.specs.Steps.{new_handle as new_view}
use Rattle.tbl_registry.specs.Pins.{AtEachPlace}
use Rattle.tbl_registry.specs.Seen.{tables_of, handle_of}
use Rattle.tbl_registry.specs.Sound.{IsSound}
use Rattle.tbl_registry.proofs.Places.{count_set}
use Rattle.tbl_registry.proofs.Steps.{given_sound}
use Rattle.tbl_registry.proofs.Named.{named_added}
use Rattle.tbl_registry.proofs.Pins.{leads_on, handles_stay, tables_with}
use Rattle.tbl_kinds.proofs.FreeLaws.{least_free-None, least_free-within}

-- dump-only goes with one buffer
pub one_buffer : (only double : Bool) → (only && double) ≡ false → only ≡ true → double ≡ false
one_buffer true double not_both is = not_both
one_buffer false double not_both is = absurd (cc is)

-- a table without a load and without a dump uses no buffer
pub no_buffer : (double : Bool) → (not double && false || false) ≡ false
no_buffer true = refl
no_buffer false = refl

module _ (rows : List (Option Table)) (handles : List (Option HandleView)) (row handle app : ℕ) (t : Table) (sound : IsSound rows handles) (free : least_free rows ≡ Some row) where
  empty : slice_index_or rows row None ≡ None
  empty = least_free-None rows row free

  within : row < length rows
  within = least_free-within rows row free

  -- no handle leads to a free row
  apart_from_free : AtEachPlace (λ h. (k : ℕ) → h.row ≡ Some k → k ≢ row) handles
  apart_from_free n h at k of same =
      let taken : IsSome (slice_index_or rows row None) = rw same at ((sound.leads n h at).table k of) in
      cc (rw empty at taken)

  pub row_added : uses_buffer (Some t) ≡ false → position (has_name t.name) rows ≡ None → IsSound (slice_set rows row (Some t)) handles
  row_added uses new = record {
    all_rows = simp length-set sound.all_rows;
    named = named_added rows row t empty within new sound.named;
    leads = leads_on rows row t within handles sound.leads (λ n h at of _. absurd (apart_from_free n h at row of refl));
    few = let a = rw (empty, uses) at (count_set uses_buffer rows row (Some t) None within) in let few = sound.few in omega (arith, a, few);
  }

  pub add_sound : uses_buffer (Some t) ≡ false → position (has_name t.name) rows ≡ None → IsSound (slice_set rows row (Some t)) (slice_set handles handle (Some (new_view app row)))
  add_sound uses new = given_sound _ handles (row_added uses new) handle app row (rw (get_or-set_same rows row (Some t) None within) refl)

  pub add_seen : tables_of (slice_set rows row (Some t)) (slice_set handles handle (Some (new_view app row))) ≡ with_handle handle (new_handle app row) (with_table row t (tables_of rows handles))
  add_seen =
      rw (map-set (option_map (handle_of (slice_set rows row (Some t)))) handles handle (Some (new_view app row)))
      (ap (λ (hs : List (Option Handle)). tables_with (slice_set rows row (Some t)) (slice_set hs handle (Some (new_handle app row)))) (handles_stay rows row (Some t) handles (λ n h at _ k of. apart_from_free n h at k of)))
