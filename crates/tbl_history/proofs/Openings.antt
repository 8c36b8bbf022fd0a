-- How a session begins.
use Rattle.std.proofs.Common.{ℕ, List, refl}
use Rattle.tbl_kinds.specs.Admitted.{Admitted}
use Rattle.cds_layout.proofs.SingleBlocks.{store-single}
use Rattle.tbl_outside.specs.declared.validator.KitEntry.{KitEntry}
use Rattle.tbl_session.specs.Openings.{IsFirst}
use Rattle.tbl_session.specs.Session.{state_from}

-- without a table, and with the blocks that the bank shows
pub first_opening : {C : Type 0} (bytes : List ℕ) (kit : List (KitEntry C)) (admit : Admitted) → IsFirst (state_from bytes kit admit)
first_opening bytes kit admit = record { tables = refl; pending = refl; single = store-single bytes }
