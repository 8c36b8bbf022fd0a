-- How a file is made longer, piece by piece.
use Rattle.std.proofs.Common.{◌≡◌, ℕ, ◌+◌, ◌-◌, ◌≤◌, List, [], ◌∷◌, ◌++◌, length, take, drop, replicate, refl, sym, ◌∙◌, ap, arith, length-append}
use Rattle.std.proofs.lemmas.List.{append-nil, append_assoc, length-replicate, take_all, take_at, drop_all, replicate-append-replicate}
use Rattle.tbl_adapters.specs.Files.{padded, written, Spoiled}
use Rattle.tbl_adapters.proofs.Padding.{padded-whole, take-padded}

-- so many zeros stand after the bytes that were there, and no more than are wanted
pub record Growing (size len : ℕ) (old now : List ℕ) : Type 0 where
  pub more : ℕ
  pub long : len ≡ length old + more
  pub within : more ≤ size - length old
  pub grown : now ≡ old ++ replicate more 0

length-grown : (size len : ℕ) (old now : List ℕ) → Growing size len old now → length now ≡ len
length-grown size len old now g = omega (arith, ap length g.grown, length-append old (replicate g.more 0), length-replicate {A = ℕ} g.more 0, g.long)

written-behind : (bytes others : List ℕ) (at : ℕ) → at ≡ length bytes → written bytes at others ≡ bytes ++ others
written-behind bytes [] at e = sym (append-nil bytes)
written-behind bytes (o ∷ others) at e =
    ap (λ (l : List ℕ). l ++ (o ∷ others) ++ drop (at + length (o ∷ others)) bytes) (padded-whole bytes at (omega (arith, e)) ∙ take_all at bytes (omega (arith, e)))
    ∙ ap (λ (l : List ℕ). bytes ++ (o ∷ others) ++ l) (drop_all (at + length (o ∷ others)) bytes (omega (arith, e)))
    ∙ append-nil (bytes ++ (o ∷ others))

pub growing_more : (size len count : ℕ) (old now next zeros : List ℕ) → Growing size len old now → len + count ≤ size → zeros ≡ replicate count 0 → next ≡ written now len zeros → Growing size (len + count) old next
growing_more size len count old now next zeros g fits are is = record {
  more = g.more + count;
  long = omega (arith, g.long);
  within = omega (arith, g.long, fits);
  grown = is ∙ written-behind now zeros len (sym (length-grown size len old now g))
      ∙ ap (λ (l : List ℕ). l ++ zeros) g.grown
      ∙ append_assoc old (replicate g.more 0) zeros
      ∙ ap (λ (l : List ℕ). old ++ l) (ap (λ (l : List ℕ). replicate g.more 0 ++ l) are ∙ replicate-append-replicate g.more count 0);
}

pub kept_first : (old now : List ℕ) → now ≡ old → padded (length old) now ≡ old
kept_first old now same = ap (padded (length old)) same ∙ padded-whole old (length old) (omega arith) ∙ take_all (length old) old (omega arith)

-- what was there stays, where a write after it failed
pub kept_spoiled : (size len count : ℕ) (old now new : List ℕ) → Growing size len old now → Spoiled len count now new → padded (length old) new ≡ old
kept_spoiled size len count old now new g failed =
    sym (take-padded (length old) len new (omega (arith, g.long)))
    ∙ ap (take (length old)) (failed.before ∙ padded-whole now len (omega (arith, length-grown size len old now g)) ∙ take_all len now (omega (arith, length-grown size len old now g)) ∙ g.grown)
    ∙ take_at old (replicate g.more 0) (length old) refl
