-- What a history is worth, from whatever opening it was served.
use Rattle.std.specs.Prelude.{◌≡◌, List, []}
use Rattle.tbl_model.specs.History.{begins_at, run_from}
use Rattle.tbl_model.specs.State.{State, no_tables}
use Rattle.tbl_model.specs.Vouched.{IsVouched}
use Rattle.tbl_model.specs.Whole.{IsWhole}
use Rattle.tbl_session.specs.Backed.{AreSingle, AreBacked}
use Rattle.tbl_kinds.specs.declared.entry.Entry.{Entry}

pub record IsSound (opening : State) (entries : List Entry) : Type 0 where
  -- no image goes active unjudged, if there were no tables and no validations at first
  pub vouched : opening.tables ≡ no_tables → opening.pending ≡ [] → IsVouched opening entries
  -- each read is of one image, under the same condition
  pub whole : opening.tables ≡ no_tables → opening.pending ≡ [] → IsWhole opening entries
  -- each critical table has its block, if there were no tables and no two blocks of one kind and name at first
  pub backed : opening.tables ≡ no_tables → AreSingle opening.store → AreBacked (run_from (begins_at opening) entries).state
