-- The place that something new takes: the least one that is free.
use Rattle.std.specs.Prelude.{ℕ, List, position, Option, is_none}

abbrev pub least_free : {X : Type 0} → List (Option X) → Option ℕ
least_free places = position is_none places
