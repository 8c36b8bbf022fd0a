-- What a file in memory that moves one byte at a time does with its bytes.
use Rattle.std.proofs.Common.{◌≡◌, ℕ, ◌+◌, ◌<◌, ◌≤◌, List, [], ◌∷◌, ◌++◌, length, take, drop, set, get_or, sym, ◌∙◌, ap, arith}
use Rattle.std.proofs.lemmas.List.{append-nil, drop_more, take_all, drop_all}
use Rattle.tbl_kinds.specs.Numbers.{piece}
use Rattle.tbl_adapters.specs.Files.{padded, written, Spoiled}
use Rattle.tbl_adapters.proofs.Padding.{padded-whole}

pub read_one : (bytes here into : List ℕ) (at : ℕ) → here ≡ bytes → at < length here → 0 < length into → take 1 (set into 0 (get_or here at 0)) ≡ piece at 1 bytes
read_one bytes here [] at same inside some = absurd (omega (arith, some))
read_one bytes here (x ∷ into) at same inside some = sym (ap (take 1) (drop_more here at 0 inside)) ∙ ap (piece at 1) same

-- bytes written over others, and bytes written after the last
pub written_over : (bytes others : List ℕ) (at : ℕ) → at ≤ length bytes → 0 < length others → written bytes at others ≡ take at bytes ++ others ++ drop (at + length others) bytes
written_over bytes [] at fits some = absurd (omega (arith, some))
written_over bytes (o ∷ others) at fits some = ap (λ (l : List ℕ). l ++ (o ∷ others) ++ drop (at + length (o ∷ others)) bytes) (padded-whole bytes at fits)

pub written_last : (bytes others : List ℕ) (at : ℕ) → at ≡ length bytes → 0 < length others → written bytes at others ≡ bytes ++ others
written_last bytes others at end some =
    written_over bytes others at (omega (arith, end)) some
    ∙ ap (λ (l : List ℕ). l ++ others ++ drop (at + length others) bytes) (take_all at bytes (omega (arith, end)))
    ∙ ap (λ (l : List ℕ). bytes ++ others ++ l) (drop_all (at + length others) bytes (omega (arith, end)))
    ∙ append-nil (bytes ++ others)

pub spoiled_same : (at count : ℕ) (old new : List ℕ) → new ≡ old → Spoiled at count old new
spoiled_same at count old new same = record { before = ap (padded at) same; behind = ap (drop (at + count)) same }
