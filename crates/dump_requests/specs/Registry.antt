-- What a request for a packet of the registry means.
use Rattle.std.specs.Prelude.{ℕ}
use Rattle.tbl_model.specs.Effects.{answered}
use Rattle.tbl_model.specs.declared.telemetry.Shown.TheVariants.{Registry}
use Rattle.tbl_kinds.specs.declared.status.TheConstants.Status.{SUCCESS}
use Rattle.desk.specs.Requests.{Meaning, for_row}

-- the packet after the events has the record of the table in a row
abbrev pub record_packet : ℕ → Meaning
record_packet row = for_row row (λ s given t. record (answered s SUCCESS 0) { shown = Registry row }) 0 (λ tables. 24)
