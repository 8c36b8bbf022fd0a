-- How many requests a service plays.
use Rattle.std.specs.Prelude.{◌≡◌, ◌⊎◌, ℕ, ◌≤◌}
use Rattle.tbl_kinds.specs.Records.{record_limit}
use Rattle.tbl_model.specs.State.{Tables}
use Rattle.tbl_registry.specs.Images.{most_images}
use Rattle.tbl_core.specs.Service.{engine_limit, image_limit}

-- so many at most; and after so many, with these tables, none more, when this number is given
pub record Bound : Type 1 where
  pub limit : ℕ
  pub full : ℕ → Tables → ℕ → Type 0

-- over a core, which keeps its history: as many as a history has entries
abbrev pub core_bound : Bound
core_bound = record { limit = record_limit; full = λ played tables count. (count ≡ record_limit) × (record_limit ≤ played) }

-- over a core that keeps none: as many as it can count, and none while a table has had as many images as can be counted
abbrev pub lasting_bound : Bound
lasting_bound = record {
  limit = engine_limit;
  full = λ played tables count. ((count ≡ engine_limit) × (engine_limit ≤ played)) ⊎ ((count ≡ image_limit) × (image_limit ≤ most_images tables));
}
