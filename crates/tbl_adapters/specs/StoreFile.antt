-- What a bank in a file consists of.
use Rattle.std.specs.Prelude.{ℕ}

-- the file, how many bytes the bank has, and how many calls failed
pub record StoreFileParts (F : Type 0) : Type 0 where
  pub file : F
  pub size : ℕ
  pub faults : ℕ
