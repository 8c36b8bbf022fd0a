-- The registry without tables.
use Rattle.std.proofs.Common.{◌≡◌, List, replicate, count_by, Option, None, refl, arith}
use Rattle.tbl_model.specs.State.{Table, no_tables}
use Rattle.tbl_model.specs.Tables.{uses_buffer}
use Rattle.access_desc.specs.declared.handle_view.HandleView.{HandleView}
use Rattle.tbl_registry.specs.declared.tables.counts.Counts.{Counts}
use Rattle.tbl_registry.specs.Seen.{tables_of}
use Rattle.tbl_registry.specs.Sound.{IsSound, IsKept}
use Rattle.tbl_registry.proofs.Places.{get_or-replicate_None}

sound_start : (rows : List (Option Table)) (handles : List (Option HandleView)) → rows ≡ replicate 128 None → handles ≡ replicate 256 None → IsSound rows handles
sound_start rows handles r h = rw (r, h) record {
  all_rows = refl;
  named = λ k t there. absurd (cc (get_or-replicate_None {X = Table} 128 k));
  leads = λ k t there. absurd (cc (get_or-replicate_None {X = HandleView} 256 k));
  few = let none : count_by uses_buffer (replicate {A = Option Table} 128 None) ≡ 0 = refl in omega (arith, none);
}

pub kept_start : (rows : List (Option Table)) (handles : List (Option HandleView)) (counts : Counts) → rows ≡ replicate 128 None → handles ≡ replicate 256 None
    → counts ≡ record { tables = 0; loads = 0; users = 0 } → IsKept rows handles counts
kept_start rows handles counts r h c = record { sound = sound_start rows handles r h; counted = rw (r, c) record { tables = refl; loads = refl; users = refl } }

pub seen_start : (rows : List (Option Table)) (handles : List (Option HandleView)) → rows ≡ replicate 128 None → handles ≡ replicate 256 None → tables_of rows handles ≡ no_tables
seen_start rows handles r h = rw (r, h) refl
