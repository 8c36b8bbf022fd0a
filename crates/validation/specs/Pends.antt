-- What asking a validation promises.
use Rattle.std.specs.Prelude.{◌≡◌, ◌↔◌, ◌++◌, ◌∷◌, [], ℕ, List, Bool, true, false, length, Result, Err, OnOk, OnErr}
use Rattle.tbl_model.specs.Pending.{is_pending}
use Rattle.validation.specs.declared.pending.PendFault.{PendFault}
use Rattle.validation.specs.declared.pending.PendFault.TheVariants.{Twice, Full}

-- it is pending from now on, after the others, unless it is pending already or ten are
pub record Pends (row : ℕ) (active : Bool) (old new : List (ℕ × Bool)) (result : Result Unit PendFault) : Type 0 where
  pub ok : OnOk result (new ≡ old ++ (row, active) ∷ [])
  pub twice : (result ≡ Err Twice) ↔ (is_pending row active old ≡ true)
  pub full : (result ≡ Err Full) ↔ ((is_pending row active old ≡ false) × (length old ≡ 10))
  pub err : OnErr result (new ≡ old)
