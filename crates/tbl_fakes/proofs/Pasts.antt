-- How the record of a bank's writes grows.
use Rattle.std.proofs.Common.{◌≡◌, ℕ, ◌+◌, ◌≤◌, List, [], ◌∷◌, ◌++◌, length, take, drop, map, refl, sym, ◌∙◌, ap, subst, arith}
use Rattle.std.proofs.lemmas.List.{take_all, take-append-le, drop-append-le, length-drop, nil_from_length}
use Rattle.std.proofs.lemmas.List.Sums.{sum_by-cons}
use Rattle.tbl_kinds.specs.Numbers.{piece, patched}
use Rattle.tbl_outside.specs.Bank.{Torn}
use Rattle.tbl_outside.proofs.Pieces.{length-piece, torn_front, undone as back}
use Rattle.tbl_fakes.specs.Past.{OldsKept, Passed, undone, passed}
use Rattle.tbl_fakes.specs.declared.past.Span.{Span}

pub map-passed : (spans : List Span) (olds bytes : List ℕ) → map (λ (write : Passed). write.span) (passed spans olds bytes) ≡ spans
map-passed [] olds bytes = refl
map-passed (span ∷ spans) olds bytes = ap (λ (l : List Span). span ∷ l) (map-passed spans (drop span.length olds) bytes)

-- the bytes before the first write stay the same, if one more is kept
module _ (span : Span) (bytes new : List ℕ) (torn : Torn span.at span.length bytes new) (fits : span.at + span.length ≤ length bytes) where
  undone-push : (spans : List Span) (olds : List ℕ) → OldsKept spans olds → undone (spans ++ span ∷ []) (olds ++ piece span.at span.length bytes) new ≡ undone spans olds bytes
  undone-push [] olds whole =
      let empty : olds ≡ [] = nil_from_length olds whole in
      ap (λ (l : List ℕ). patched new span.at (take span.length (l ++ piece span.at span.length bytes))) empty
      ∙ ap (patched new span.at) (take_all span.length (piece span.at span.length bytes) (omega (arith, length-piece bytes span.at span.length fits)))
      ∙ back span.at span.length bytes new torn fits
  undone-push (first ∷ spans) olds whole =
      let within : first.length ≤ length olds = omega (arith, whole, sum_by-cons (λ (one : Span). one.length) first spans) in
      let rest : OldsKept spans (drop first.length olds) = omega (arith, whole, length-drop first.length olds, sum_by-cons (λ (one : Span). one.length) first spans) in
      ap (λ (l : List ℕ). patched (undone (spans ++ span ∷ []) l new) first.at (take first.length (olds ++ piece span.at span.length bytes))) (drop-append-le first.length olds (piece span.at span.length bytes) within)
      ∙ ap (λ (l : List ℕ). patched l first.at (take first.length (olds ++ piece span.at span.length bytes))) (undone-push spans (drop first.length olds) rest)
      ∙ ap (patched (undone spans (drop first.length olds) bytes) first.at) (take-append-le first.length olds (piece span.at span.length bytes) within)

  pub passed-push : (spans : List Span) (olds : List ℕ) → OldsKept spans olds → passed (spans ++ span ∷ []) (olds ++ piece span.at span.length bytes) new ≡ passed spans olds bytes ++ record { before = bytes; span = span } ∷ []
  passed-push [] olds whole =
      ap (λ (l : List ℕ). let write : Passed = record { before = l; span = span } in write ∷ []) (undone-push [] olds whole)
  passed-push (first ∷ spans) olds whole =
      let within : first.length ≤ length olds = omega (arith, whole, sum_by-cons (λ (one : Span). one.length) first spans) in
      let rest : OldsKept spans (drop first.length olds) = omega (arith, whole, length-drop first.length olds, sum_by-cons (λ (one : Span). one.length) first spans) in
      ap (λ (l : List ℕ). let write : Passed = record { before = l; span = first } in write ∷ passed (spans ++ span ∷ []) (drop first.length (olds ++ piece span.at span.length bytes)) new) (undone-push (first ∷ spans) olds whole)
      ∙ ap (λ (l : List ℕ). let write : Passed = record { before = undone (first ∷ spans) olds bytes; span = first } in write ∷ passed (spans ++ span ∷ []) l new) (drop-append-le first.length olds (piece span.at span.length bytes) within)
      ∙ ap (λ (l : List Passed). let write : Passed = record { before = undone (first ∷ spans) olds bytes; span = first } in write ∷ l) (passed-push spans (drop first.length olds) rest)

-- what is in the range of a piece is kept, and then a front of the piece is written over it
pub kept_and_written : (spans now : List Span) (olds kept bytes old new others : List ℕ) (at reach : ℕ)
    → OldsKept spans olds → at + length others ≤ length bytes
    → old ≡ piece at (length others) bytes
    → now ≡ spans ++ record { at = at; length = length old } ∷ []
    → kept ≡ olds ++ old
    → new ≡ patched bytes at (take reach others)
    → passed now kept new ≡ passed spans olds bytes ++ record { before = bytes; span = record { at = at; length = length others } } ∷ []
kept_and_written spans now olds kept bytes old new others at reach whole fits is_old is_now is_kept is_new =
    let span : Span = record { at = at; length = length others } in
    let torn : Torn at (length others) bytes new = subst (Torn at (length others) bytes) (sym is_new) (torn_front bytes at reach others fits) in
    let as_long : length old ≡ length others = ap length is_old ∙ length-piece bytes at (length others) fits in
    let with_span : now ≡ spans ++ span ∷ [] = is_now ∙ ap (λ n. let one : Span = record { at = at; length = n } in spans ++ one ∷ []) as_long in
    ap (λ (l : List Span). passed l kept new) with_span
    ∙ ap (λ (l : List ℕ). passed (spans ++ span ∷ []) l new) (is_kept ∙ ap (λ (l : List ℕ). olds ++ l) is_old)
    ∙ passed-push span bytes new torn fits spans olds whole
