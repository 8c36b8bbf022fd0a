use Rattle.tbl_registry.proofs.Owners.{in_field}
use Rattle.tbl_registry.proofs.row.info.owner_field.Goals as goal

pub returns-clause-bytes : goal.returns-clause-bytes
returns-clause-bytes c = in_field c.copy_from_slice.new.self c.owner_in-owner.result.now _ c.copy_from_slice.ensures.after c.owner_in-owner.ensures.owner
