-- What is left of bytes of which the first ones go.
use Rattle.std.proofs.Common.{◌≡◌, ℕ, ◌+◌, ◌-◌, ◌≤◌, List, length, take, drop, ap, sym, ◌∙◌, arith}
use Rattle.std.specs.List.{copy_within}
use Rattle.std.proofs.Math.Seq.{paste}
use Rattle.std.proofs.lemmas.List.{length-drop, take_all}
use Rattle.std.proofs.lemmas.List.Edits.{take-paste}

moved : (xs : List ℕ) (count : ℕ) → count ≤ length xs → take (length xs - count) (paste xs 0 (drop count xs) (length xs - count)) ≡ drop count xs
moved xs count within =
    let long = length-drop count xs in
    let plus : 0 + (length xs - count) ≡ length xs - count = omega arith in
    ap (λ (m : ℕ). take m (paste xs 0 (drop count xs) (length xs - count))) (sym plus)
    ∙ take-paste xs 0 (drop count xs) (length xs - count) (omega arith) (omega (arith, long)) ∙ take_all (length xs - count) (drop count xs) (omega (arith, long))

-- they are moved to the front, and the end is cut off
pub moved_front : (xs : List ℕ) (count left end : ℕ) → left ≡ length xs - count → end ≡ length xs → count ≤ length xs → take left (copy_within xs count end 0) ≡ drop count xs
moved_front xs count left end left_is end_is within = (λ i. take (left_is i) (paste xs 0 (drop count xs) (end_is i - count))) ∙ moved xs count within
