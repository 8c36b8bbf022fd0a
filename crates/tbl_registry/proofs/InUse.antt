-- The rows that use the shared working buffers, collected from the last one on.
use Rattle.std.proofs.Common.{◌≡◌, ◌<◌, ◌≤◌, ◌+◌, ℕ, suc, List, [], ◌∷◌, length, take, drop, count_by, slice_index_or, Bool, true, false, cond, replicate, Option, Some, None, refl, ap, ◌∙◌, arith}
use Rattle.std.proofs.lemmas.List.Sums.{sum_by-cons, sum_by-take-drop}
use Rattle.std.proofs.Math.Seq.{drop-cons}
use Rattle.tbl_model.specs.State.{Table}
use Rattle.tbl_model.specs.Tables.{uses_buffer, rows_from}
use Rattle.tbl_registry.specs.Seen.{padded}

-- there are as many of them as rows that use one
pub rows_count : (rows : List (Option Table)) (k : ℕ) → length (rows_from k rows) ≡ count_by uses_buffer rows
rows_count [] k = refl
rows_count (row ∷ rows) k =
    let a : count_by uses_buffer (row ∷ rows) ≡ cond (uses_buffer row) 1 0 + count_by uses_buffer rows = sum_by-cons (λ r. cond (uses_buffer r) 1 0) row rows in
    let i = rows_count rows (k + 1) in
    by (uses_buffer row) (rows_from (k + 1) rows) a i where
      by : (b : Bool) (rest : List ℕ) → count_by uses_buffer (row ∷ rows) ≡ cond b 1 0 + count_by uses_buffer rows → length rest ≡ count_by uses_buffer rows → length (cond b (k ∷ rest) rest) ≡ count_by uses_buffer (row ∷ rows)
      by true rest a i = omega (arith, a, i)
      by false rest a i = omega (arith, a, i)

-- none of them, if none does
pub none_in_use : (rows : List (Option Table)) → count_by uses_buffer rows ≡ 0 → replicate 4 None ≡ padded (rows_from 0 rows)
none_in_use rows none = by (rows_from 0 rows) (rows_count rows 0 ∙ none) where
  by : (found : List ℕ) → length found ≡ 0 → replicate 4 None ≡ padded found
  by [] _ = refl
  by (row ∷ found) some = absurd (cc some)

-- one more goes to the front
padded_front : (rows : List ℕ) (row : ℕ) → length (row ∷ rows) ≤ 4 → Some row ∷ take 3 (padded rows) ≡ padded (row ∷ rows)
padded_front [] row few = refl
padded_front (a ∷ []) row few = refl
padded_front (a ∷ b ∷ []) row few = refl
padded_front (a ∷ b ∷ c ∷ []) row few = refl
padded_front (a ∷ b ∷ c ∷ d ∷ rows) row few = absurd (omega (arith, few))

-- a row is looked at
pub collected : (rows : List (Option Table)) (n : ℕ) (d : Option Table) (uses : Bool) (found : List (Option ℕ)) → n < length rows → count_by uses_buffer rows ≤ 4 → uses ≡ uses_buffer (slice_index_or rows n d)
    → found ≡ padded (rows_from (n + 1) (drop (n + 1) rows)) → cond uses (Some n ∷ take 3 found) found ≡ padded (rows_from n (drop n rows))
collected rows n d uses found within few is found_is =
    let all = sum_by-take-drop (λ k. cond (uses_buffer k) 1 0) rows n in
    let most : length (rows_from n (drop n rows)) ≤ 4 = omega (arith, rows_count (drop n rows) n, all, few) in
    let next : suc n ≡ n + 1 = omega arith in
    let cells : drop n rows ≡ slice_index_or rows n d ∷ drop (n + 1) rows = drop-cons rows n d within ∙ ap (λ (k : ℕ). slice_index_or rows n d ∷ drop k rows) next in
    rw (is, found_is, cells) (by (uses_buffer (slice_index_or rows n d)) (rw cells at most)) where
      by : (b : Bool) → length (cond b (n ∷ rows_from (n + 1) (drop (n + 1) rows)) (rows_from (n + 1) (drop (n + 1) rows))) ≤ 4
          → cond b (Some n ∷ take 3 (padded (rows_from (n + 1) (drop (n + 1) rows)))) (padded (rows_from (n + 1) (drop (n + 1) rows))) ≡ padded (cond b (n ∷ rows_from (n + 1) (drop (n + 1) rows)) (rows_from (n + 1) (drop (n + 1) rows)))
      by true most = padded_front (rows_from (n + 1) (drop (n + 1) rows)) n most
      by false most = refl
