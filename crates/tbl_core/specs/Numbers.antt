-- The running numbers of telemetry, each below its modulus.
use Rattle.std.specs.Prelude.{◌<◌}
use Rattle.tbl_model.specs.Counts.{Counts}

-- one byte, two bytes, and the 14 bits of a sequence count
pub record AreCounts (c : Counts) : Type 0 where
  pub accepted : c.accepted < 256
  pub refused : c.refused < 256
  pub finished : c.finished < 65536
  pub good : c.good < 256
  pub bad : c.bad < 256
  pub requests : c.requests < 256
  pub events : c.events < 16384
  pub housekeepings : c.housekeepings < 16384
  pub registries : c.registries < 16384
  pub notices : c.notices < 16384
