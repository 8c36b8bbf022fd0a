-- What a note says that takes no memory.
use Rattle.std.proofs.Common.{◌≡◌, false, inl, inr, ap}
use Rattle.tbl_kinds.specs.Notes.{IsPlain}
use Rattle.tbl_kinds.specs.declared.note.BankNote.{BankNote}

-- no boot in the request failed or was stopped
pub plain_goes_on : (note : BankNote) → IsPlain note → note.ended ≡ false
plain_goes_on note (inl e) = ap (λ (n : BankNote). n.ended) e
plain_goes_on note (inr e) = ap (λ (n : BankNote). n.ended) e
