-- What has to hold of all tables before a request.
use Rattle.std.specs.Prelude.{ℕ, ◌-◌, ◌^◌, ◌<◌, IfSome}
use Rattle.std.specs.Option.{ForSome}
use Rattle.tbl_model.specs.State.{Tables}
use Rattle.tbl_model.specs.Tables.{table_at}
use Rattle.tbl_model.specs.Fit.{HasCode}

-- the next image of each table can be counted in 32 bits
abbrev pub AreCounted : Tables → Type 0
AreCounted tables = (row : ℕ) → ForSome (table_at tables row) (λ t. t.count < 2 ^ 32 - 1)

-- the notice of each table can be sent
abbrev pub AreSendable : Tables → Type 0
AreSendable tables = (row : ℕ) → ForSome (table_at tables row) (λ t. IfSome t.notice HasCode)
