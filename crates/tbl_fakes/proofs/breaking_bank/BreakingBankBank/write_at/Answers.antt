-- A write that broke off left one of the images that it may leave.
use Rattle.std.proofs.Common.{◌≡◌, length, take, sym, subst, rules}
use Rattle.tbl_kinds.specs.Numbers.{patched}
use Rattle.tbl_outside.specs.Bank.{Torn}
use Rattle.tbl_outside.proofs.Pieces.{torn_front}
use Rattle.tbl_fakes.proofs.breaking_bank.BreakingBankBank.write_at.Goals as goal

-- the bytes with a front of the piece
front : (c : goal.After-end_write) → c.write_over.new.bytes.items ≡ patched c.args.self.now.bytes c.args.at (take c.reach-reach.result c.args.bytes.now)
front c = rw (← c.self.view_is) c.write_over.ensures

pub returns : goal.returns
returns c = record { torn = subst (Torn c.args.at (length c.args.bytes.now) c.args.self.now.bytes) (sym (front c)) (torn_front c.args.self.now.bytes c.args.at c.reach-reach.result c.args.bytes.now c.requires); fault_count = search rules; stop_count = search rules; ends = search rules; written = search rules }
