-- What one handle holds, copied for another.
use Rattle.std.specs.Prelude.{List, [], Option}
use Rattle.tbl_outside.specs.declared.validator.KitEntry.{KitEntry}
use Rattle.handed_kit.specs.Answering.{Spoken}
use Rattle.tbl_core.specs.Copying.{IsCopy}
use Rattle.tbl_c.specs.Breaks.{breaking}
use Rattle.tbl_c.specs.Serving.{Serving, memory}

-- the copy is what is held, over the same bytes of preserved memory, of which no write is to break off, and with some functions
abbrev pub IsCopied : Serving → Serving → Type 0
IsCopied held copy = (kit : List (Option (KitEntry Spoken))) × IsCopy memory (breaking [] held.state.store.bank.bytes) kit held copy
