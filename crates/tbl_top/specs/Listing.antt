-- The store of a bank, written as text.
use Rattle.std.specs.Prelude.{◌≡◌, ◌≢◌, ◌⊎◌, ℕ, List}
use Rattle.std.specs.Io.KnownBytes.{append_known}
use Rattle.cds_layout.specs.Images.{store_of}
use Rattle.cds_layout.specs.Texts.{text_of}
use Rattle.tbl_outside.specs.Bank.{LeavesOnly}
use Rattle.tbl_outside.specs.Counts.{Rose, Still}
use Rattle.tbl_outside.specs.Streams.{TakesFront}
use Rattle.tbl_outside.specs.declared.bank.Bank.{Ghosts}
use Rattle.tbl_stream.specs.Writing.{Taken}

-- What a sink took of a text, by the status: after 0 all of it, after 4 a front of it, if the sink failed, and else nothing. A write that
-- fails is reported by 4.
pub record TellsText (status : ℕ) (text : List ℕ) (before after : Taken) : Type 0 where
  pub whole : status ≡ 0 → after.0 ≡ append_known before.0 text
  pub broken : status ≡ 4 → TakesFront before.0 after.0 text × Rose before.1 after.1
  pub silent : (status ≡ 0) ⊎ (status ≡ 4) ⊎ (after.0 ≡ before.0)
  pub calm : status ≢ 4 → after.1 ≡ before.1

-- The text is that of the store that the bank's bytes show. The bank is read and not written.
pub record ListsStore {B : Type 0} (g : Ghosts B) (bank bank_then : B) (status : ℕ) (before after : Taken) : Type 0 where
  pub known : (status ≡ 0) ⊎ (status ≡ 1) ⊎ (status ≡ 4) ⊎ (status ≡ 7)
  pub text : List ℕ
  pub shown : g.tells → text ≡ text_of (store_of (g.now bank))
  pub told : TellsText status text before after
  pub fault : status ≡ 7 → Rose (g.faults bank) (g.faults bank_then)
  pub still : status ≢ 7 → Still g.faults g.stops bank bank_then
  pub kept : g.tells → g.now bank_then ≡ g.now bank
  pub moments : g.tells_moments → LeavesOnly g.clock g.left_since bank bank_then (λ image. image ≡ g.now bank)

-- It is written, unless the bank or the sink failed, or memory ran out.
abbrev pub ListsThrough : {B : Type 0} → Ghosts B → B → B → ℕ → ℕ → ℕ → Type 0
ListsThrough g bank bank_then status unwritten unwritten_then =
    ¬ Rose unwritten unwritten_then → ¬ Rose (g.faults bank) (g.faults bank_then) → (status ≡ 0) ⊎ (status ≡ 1)
