-- An uplinked file.
use Rattle.std.specs.Prelude.{ℕ, List}

pub record Uplinked : Type 0 where
  pub name : List ℕ
  pub bytes : List ℕ
