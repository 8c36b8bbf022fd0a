-- The session of a drill, a round more.
use Rattle.std.proofs.Common.{◌≡◌, ℕ, suc, ◌+◌, ◌*◌, List, [], ◌∷◌, ◌++◌, length, map, refl, sym, ap, ◌∙◌, append_assoc, arith}
use Rattle.std.proofs.lemmas.List.{map-append, length-map, length-append}
use Rattle.std.proofs.lemmas.List.FromFn.{map-range_with_len_more, length-map-range_with_len}
use Rattle.tbl_kinds.specs.Records.{Pair}
use Rattle.tbl_drill.specs.Generator.{after, number}
use Rattle.tbl_drill.specs.Drill.{opening, roomless, round_from, rounds_of, session}

-- the record of a round
abbrev pub round : ℕ → ℕ → Pair
round seed r = round_from (number seed (3 * r))

session_more : (seed r : ℕ) → session seed (r + 1) ≡ session seed r ++ round seed r ∷ []
session_more seed r =
    ap (λ (rounds : List Pair). opening ++ rounds) (map-range_with_len_more (round seed) 0 r r (omega arith))
    ∙ sym (append_assoc opening (rounds_of seed r) (round seed r ∷ []))

-- a record was put last, which is that of the round but for its room
pub goes_on : (seed r : ℕ) (old new : List Pair) (p : Pair) → new ≡ old ++ p ∷ [] → map roomless old ≡ session seed r → roomless p ≡ round seed r → map roomless new ≡ session seed (r + 1)
goes_on seed r old new p put list same =
    ap (map roomless) put ∙ map-append roomless old (p ∷ [])
    ∙ ap (λ (xs : List Pair). xs ++ roomless p ∷ []) list
    ∙ ap (λ (q : Pair). session seed r ++ q ∷ []) same
    ∙ sym (session_more seed r)

-- three draws further
pub three_draws : (seed r x : ℕ) → x ≡ number seed (3 * r) → after (after (after x)) ≡ number seed (3 * (r + 1))
three_draws seed r x at =
    let places : 3 * (r + 1) ≡ suc (suc (suc (3 * r))) = omega arith in
    rw (at, places) refl

pub length-session : (seed rounds : ℕ) (script : List Pair) → map roomless script ≡ session seed rounds → length script ≡ 9 + rounds
length-session seed rounds script same =
    omega (arith, length-map script roomless, ap length same, length-append opening (rounds_of seed rounds), length-map-range_with_len (round seed) 0 rounds)
