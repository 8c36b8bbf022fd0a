-- Which note a request leaves that makes no call of the store.
use Rattle.std.proofs.Common.{◌≡◌, false, [], None, refl}
use Rattle.tbl_kinds.specs.Blocks.{Store}
use Rattle.tbl_kinds.specs.Notes.{untouched}
use Rattle.tbl_model.specs.Counts.{is_reset}
use Rattle.tbl_model.specs.StoreNotes.{boot_in, IsNoteOf}
use Rattle.tbl_kinds.specs.declared.note.Outcome.TheVariants.{Untouched}
use Rattle.tbl_kinds.specs.declared.request.Request.{Request}
use Rattle.tbl_kinds.specs.declared.request.Request.TheVariants as ask

-- no boot follows it
no_boot : (request : Request) → is_reset request ≡ false → boot_in request Untouched ≡ None
no_boot (ask.Reset kind) other = absurd (cc other)
no_boot request other = refl

-- that nothing was done may always be noted of it
pub may_be_untouched : (request : Request) (store : Store) → is_reset request ≡ false → IsNoteOf request [] store untouched
may_be_untouched request store other = record { ends = (refl, refl, (refl, refl)); gave = tt; tells = (refl, refl); boots = rw (no_boot request other) (refl, refl, refl) }
