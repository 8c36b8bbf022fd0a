-- How many bytes the records of a history have, entry by entry.
use Rattle.std.proofs.Common.{◌≡◌, ℕ, zero, suc, ◌+◌, ◌*◌, ◌<◌, ◌≤◌, List, [], ◌∷◌, ◌++◌, length, take, get_or, sym, ap, ◌∙◌, subst, arith}
use Rattle.std.specs.List.{AllByRecursion}
use Rattle.std.proofs.lemmas.List.{length-append, length-map, take_more}
use Rattle.tbl_kinds.specs.Records.{Pair, IsRecord, body_of, record_limit, spelling, joined}
use Rattle.tbl_kinds.specs.Transcript.{pair_of, pairs_of, offset_of}
use Rattle.tbl_kinds.specs.declared.entry.Entry.{Entry}
use Rattle.tbl_kinds.proofs.RecordLaws.{length-spelling}
use Rattle.tbl_kinds.proofs.TranscriptLaws.{offset_is, offset_of-snoc}

-- records have at most 32,836 bytes each
pub joined_bound : (pairs : List Pair) → AllByRecursion IsRecord pairs → length (joined pairs) ≤ 32836 * length pairs
joined_bound [] each = omega arith
joined_bound (p ∷ pairs) each =
    omega (arith, length-append (spelling p) (joined pairs), length-spelling p, each.0.within, joined_bound pairs each.1)

-- the entry at a place is of a record
record_at : (entries : List Entry) (place : ℕ) (d : Entry) → AllByRecursion IsRecord (pairs_of entries) → place < length entries → IsRecord (pair_of (get_or entries place d))
record_at [] place d each within = absurd (omega arith)
record_at (e ∷ entries) zero d each within = each.0
record_at (e ∷ entries) (suc place) d each within = record_at entries place d each.1 (omega arith)

-- so its body is no longer than that of a record
pub body_bound : (entries : List Entry) (place : ℕ) (e : Entry) → AllByRecursion IsRecord (pairs_of entries) → place < length entries → e ≡ get_or entries place e → length (body_of e.request) ≤ 32832
body_bound entries place e each within is =
    (subst (λ (x : Entry). IsRecord (pair_of x)) (sym is) (record_at entries place e each within)).within

-- one entry more: four bytes, and the body
pub offset_more : (entries : List Entry) (place : ℕ) (e : Entry) → place < length entries → e ≡ get_or entries place e
    → offset_of (take (place + 1) entries) ≡ offset_of (take place entries) + (4 + length (body_of e.request))
offset_more entries place e within is =
    ap offset_of (take_more entries place e within ∙ ap (λ (x : Entry). take place entries ++ x ∷ []) (sym is))
    ∙ offset_of-snoc (take place entries) e
    ∙ ap (λ n. offset_of (take place entries) + n) (length-spelling (pair_of e))

-- the first of them have no more bytes than all
joined_front : (entries : List Entry) (place : ℕ) → length (joined (pairs_of (take place entries))) ≤ length (joined (pairs_of entries))
joined_front [] zero = omega arith
joined_front [] (suc place) = omega arith
joined_front (e ∷ entries) zero = omega arith
joined_front (e ∷ entries) (suc place) =
    omega (arith, length-append (spelling (pair_of e)) (joined (pairs_of (take place entries))), length-append (spelling (pair_of e)) (joined (pairs_of entries)), joined_front entries place)

-- and all of a session's fit four bytes
pub front_bound : (entries : List Entry) (place : ℕ) → AllByRecursion IsRecord (pairs_of entries) → length entries ≤ record_limit → offset_of (take place entries) ≤ 32836 * 32768
front_bound entries place each few =
    omega (arith, offset_is (take place entries), joined_front entries place, joined_bound (pairs_of entries) each, length-map entries pair_of, few)
