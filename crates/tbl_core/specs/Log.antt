-- What the history shows.
use Rattle.std.specs.Prelude.{◌≤◌, length}
use Rattle.request_effects.specs.Effects.{reply_limit}
use Rattle.tbl_kinds.specs.declared.entry.Entry.{Entry}
use Rattle.tbl_kinds.specs.declared.entry.Reply.{Reply}

-- what an entry answers, and its packets
pub record IsSmallReply (reply : Reply) : Type 0 where
  pub bytes : length reply.bytes.list ≤ reply_limit
  pub packets : length reply.packets.list ≤ reply_limit

abbrev pub IsSmall : Entry → Type 0
IsSmall e = IsSmallReply e.reply
