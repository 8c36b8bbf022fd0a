-- How many tables, open loads and users of a shared working buffer there are, when a row changes.
use Rattle.std.proofs.Common.{◌≡◌, ◌<◌, ◌≤◌, ◌+◌, ◌-◌, ℕ, List, length, count_by, slice_index_or, slice_set, Bool, true, false, is_some, Option, Some, None, refl, arith}
use Rattle.std.proofs.lemmas.List.Sums.{count_by-le-length}
use mir.Val.{bool_byte}
use Rattle.tbl_model.specs.State.{Table}
use Rattle.tbl_model.specs.Tables.{has_load, uses_buffer}
use Rattle.access_desc.specs.declared.handle_view.HandleView.{HandleView}
use Rattle.tbl_registry.specs.declared.tables.counts.Counts.{Counts}
use Rattle.tbl_registry.specs.Counts.{AreCounted, CanCount, IsCounted, counted_with, counted_without, one_if}
use Rattle.tbl_registry.specs.Sound.{IsSound, IsKept}
use Rattle.tbl_registry.proofs.Places.{count_set, within_places}
use Rattle.tbl_registry.proofs.Changes.{FoundRow}

pub byte_one : (b : Bool) → bool_byte b ≡ one_if b
byte_one true = refl
byte_one false = refl

-- ---- those that pass a test, which no free row does

module _ (p : Option Table → Bool) (none : p None ≡ false) (rows : List (Option Table)) (n : ℕ) (was : Option Table) (there : slice_index_or rows n None ≡ was) (within : n < length rows) (old : ℕ) (counted : old ≡ count_by p rows) where
  counts_in : one_if (p was) ≤ old
  counts_in = let a = rw (there, none) at (count_set p rows n None None within) in omega (arith, a, counted)

  recount : (new : Option Table) → old - one_if (p was) + one_if (p new) ≡ count_by p (slice_set rows n new)
  recount new = let a = rw there at (count_set p rows n new None within) in let b = counts_in in omega (arith, a, b, counted)

  same_count : (new : Option Table) → p new ≡ p was → old ≡ count_by p (slice_set rows n new)
  same_count new same = let a = rw (there, same) at (count_set p rows n new None within) in omega (arith, a, counted)

-- ---- all that is counted

pub can_count : (rows : List (Option Table)) (counts : Counts) → AreCounted rows counts → length rows ≡ 128 → CanCount counts
can_count rows counts counted all = record {
  tables = let a = count_by-le-length is_some rows in let b = counted.tables in omega (arith, a, b, all);
  loads = let a = count_by-le-length has_load rows in let b = counted.loads in omega (arith, a, b, all);
  users = let a = count_by-le-length uses_buffer rows in let b = counted.users in omega (arith, a, b, all);
}

-- a table comes into a free row
pub newly_counted : (rows : List (Option Table)) (n : ℕ) (t : Table) (counts : Counts) → slice_index_or rows n None ≡ None → n < length rows → AreCounted rows counts → AreCounted (slice_set rows n (Some t)) (counted_with t counts)
newly_counted rows n t counts free within counted = record {
  tables = let a = recount is_some refl rows n None free within counts.tables counted.tables (Some t) in omega (arith, a);
  loads = let a = recount has_load refl rows n None free within counts.loads counted.loads (Some t) in omega (arith, a);
  users = let a = recount uses_buffer refl rows n None free within counts.users counted.users (Some t) in omega (arith, a);
}

module _ {rows : List (Option Table)} {handles : List (Option HandleView)} {n : ℕ} {t : Table} (row : FoundRow rows handles n t) {counts : Counts} (counted : AreCounted rows counts) where
  within : n < length rows
  within = within_places rows n t row.there

  pub is_counted : IsCounted t counts
  is_counted = record {
    tables = let a = counts_in is_some refl rows n (Some t) row.there within counts.tables counted.tables in omega (arith, a);
    loads = counts_in has_load refl rows n (Some t) row.there within counts.loads counted.loads;
    users = counts_in uses_buffer refl rows n (Some t) row.there within counts.users counted.users;
  }

  pub room_again : CanCount (counted_without t counts)
  room_again = let c = can_count rows counts counted row.sound.all_rows in record {
    tables = let a = c.tables in omega (arith, a);
    loads = let a = c.loads in omega (arith, a);
    users = let a = c.users in omega (arith, a);
  }

  -- it changes, or keeps its load and its buffer, or goes
  pub recounted : {handles' : List (Option HandleView)} (u : Table) → IsSound (slice_set rows n (Some u)) handles' → IsKept (slice_set rows n (Some u)) handles' (counted_with u (counted_without t counts))
  recounted u sound = record {
    sound = sound;
    counted = record {
      tables = recount is_some refl rows n (Some t) row.there within counts.tables counted.tables (Some u);
      loads = recount has_load refl rows n (Some t) row.there within counts.loads counted.loads (Some u);
      users = recount uses_buffer refl rows n (Some t) row.there within counts.users counted.users (Some u);
    };
  }

  pub kept : {handles' : List (Option HandleView)} (u : Table) → IsSound (slice_set rows n (Some u)) handles' → is_some u.load ≡ is_some t.load → uses_buffer (Some u) ≡ uses_buffer (Some t) → IsKept (slice_set rows n (Some u)) handles' counts
  kept u sound load uses = record {
    sound = sound;
    counted = record {
      tables = same_count is_some refl rows n (Some t) row.there within counts.tables counted.tables (Some u) refl;
      loads = same_count has_load refl rows n (Some t) row.there within counts.loads counted.loads (Some u) load;
      users = same_count uses_buffer refl rows n (Some t) row.there within counts.users counted.users (Some u) uses;
    };
  }

  pub removed_kept : {handles' : List (Option HandleView)} → IsSound (slice_set rows n None) handles' → IsKept (slice_set rows n None) handles' (counted_without t counts)
  removed_kept sound = record {
    sound = sound;
    counted = record {
      tables = let a = recount is_some refl rows n (Some t) row.there within counts.tables counted.tables None in omega (arith, a);
      loads = let a = recount has_load refl rows n (Some t) row.there within counts.loads counted.loads None in omega (arith, a);
      users = let a = recount uses_buffer refl rows n (Some t) row.there within counts.users counted.users None in omega (arith, a);
    };
  }
