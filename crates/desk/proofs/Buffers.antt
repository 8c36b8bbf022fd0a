-- The rows that use the shared working buffers.
use Rattle.std.proofs.Common.{◌≡◌, ◌-◌, ℕ, zero, suc, List, [], ◌∷◌, ◌++◌, length, map, replicate, Option, Some, None, refl, ap, ◌∙◌}
use Rattle.std.proofs.lemmas.List.{append-nil}
use Rattle.std.proofs.lemmas.List.Elements.{filter_map-append}
use Rattle.tbl_registry.specs.Seen.{padded}
use Rattle.desk.specs.Rows.{rows_in}

rows_in_some : (rows : List ℕ) → rows_in (map (λ (row : ℕ). Some row) rows) ≡ rows
rows_in_some [] = refl
rows_in_some (row ∷ rows) = ap (λ xs. row ∷ xs) (rows_in_some rows)

rows_in_none : (n : ℕ) → rows_in (replicate n None) ≡ []
rows_in_none zero = refl
rows_in_none (suc n) = rows_in_none n

pub rows_in_padded : (rows : List ℕ) → rows_in (padded rows) ≡ rows
rows_in_padded rows =
    filter_map-append (λ (row : Option ℕ). row) (map (λ (row : ℕ). Some row) rows) (replicate (4 - length rows) None)
    ∙ ap (λ xs. xs ++ rows_in (replicate (4 - length rows) None)) (rows_in_some rows)
    ∙ ap (λ xs. rows ++ xs) (rows_in_none (4 - length rows))
    ∙ append-nil rows
