-- The laws that each bank keeps, as one value.
use Rattle.std.proofs.Common.{◌≡◌, ℕ, ◌≤◌, List}
use Rattle.tbl_outside.specs.declared.bank.Bank.{Ghosts}

pub record Laws {B : Type 0} (g : Ghosts B) : Type 0 where
  pub tells_both : g.tells_moments → g.tells
  pub leaves_now : (bank : B) → g.tells_moments → g.may_leave bank (g.now bank)
  pub leaves_only_now : (bank : B) (image : List ℕ) → g.tells_moments → g.may_leave bank image → image ≡ g.now bank
  pub counts_now : (bank : B) (t : ℕ) (image : List ℕ) → g.tells_moments → t ≤ g.clock bank → g.may_leave bank image → g.left_since bank t image
