-- What holds of a call's result where only its variant is known.
use Rattle.std.proofs.Common.{◌≡◌, ℕ, List, replicate, ap, ◌∙◌, Result, Ok, Err}
use Rattle.std.specs.Prelude.{OnOk, OnErr}
use Rattle.tbl_adapters.specs.Files.{written}

pub on_err : {T E P : Type 0} (r : Result T E) → P → OnErr r P
on_err (Ok x) p = tt
on_err (Err y) p = p

pub zeros_written : {T E : Type 0} (r : Result T E) (old new others : List ℕ) (at count : ℕ) → OnOk r (new ≡ written old at others) → others ≡ replicate count 0 → OnOk r (new ≡ written old at (replicate count 0))
zeros_written (Ok x) old new others at count is same = is ∙ ap (written old at) same
zeros_written (Err y) old new others at count is same = tt
