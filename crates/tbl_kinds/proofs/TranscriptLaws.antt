-- One more entry at the end of a history: its bytes in the transcript, its request among the records, and their length.
use Rattle.std.proofs.Common.{◌≡◌, ℕ, ◌+◌, List, [], ◌∷◌, ◌++◌, length, refl, sym, ap, ◌∙◌, append_assoc, arith}
use Rattle.std.proofs.lemmas.List.{append-nil, length-append}
use Rattle.std.proofs.lemmas.List.Concat.{length-flat_map}
use Rattle.tbl_kinds.specs.Records.{Pair, spelling, joined}
use Rattle.tbl_kinds.specs.Transcript.{pair_of, pairs_of, entry_bytes, entries_bytes, offset_of}
use Rattle.tbl_kinds.specs.declared.entry.Entry.{Entry}
use Rattle.tbl_kinds.proofs.InputLaws.{joined-snoc}

pub pairs_of-snoc : (entries : List Entry) (e : Entry) → pairs_of (entries ++ e ∷ []) ≡ pairs_of entries ++ pair_of e ∷ []
pairs_of-snoc [] e = refl
pairs_of-snoc (x ∷ entries) e = ap (λ (s : List Pair). pair_of x ∷ s) (pairs_of-snoc entries e)

pub entries_bytes-snoc : (place : ℕ) (entries : List Entry) (e : Entry) → entries_bytes place (entries ++ e ∷ []) ≡ entries_bytes place entries ++ entry_bytes (place + length entries) e
entries_bytes-snoc place [] e = append-nil (entry_bytes place e) ∙ ap (λ n. entry_bytes n e) (omega arith)
entries_bytes-snoc place (x ∷ entries) e =
    ap (λ (s : List ℕ). entry_bytes place x ++ s) (entries_bytes-snoc (place + 1) entries e)
    ∙ sym (append_assoc (entry_bytes place x) (entries_bytes (place + 1) entries) (entry_bytes (place + 1 + length entries) e))
    ∙ ap (λ n. (entry_bytes place x ++ entries_bytes (place + 1) entries) ++ entry_bytes n e) (omega arith)

-- the offset is where the spellings of all requests end
pub offset_is : (entries : List Entry) → offset_of entries ≡ length (joined (pairs_of entries))
offset_is entries = sym (length-flat_map spelling (pairs_of entries))

pub offset_of-snoc : (entries : List Entry) (e : Entry) → offset_of (entries ++ e ∷ []) ≡ offset_of entries + length (spelling (pair_of e))
offset_of-snoc entries e =
    offset_is (entries ++ e ∷ [])
    ∙ ap (λ s. length (joined s)) (pairs_of-snoc entries e)
    ∙ ap length (joined-snoc (pairs_of entries) (pair_of e))
    ∙ length-append (joined (pairs_of entries)) (spelling (pair_of e))
    ∙ ap (λ n. n + length (spelling (pair_of e))) (sym (offset_is entries))
