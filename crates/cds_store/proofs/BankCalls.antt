-- What a boot asks of its bank.
use Rattle.std.proofs.Common.{◌≡◌, ℕ, zero, suc, ◌≤◌, List, [], ◌∷◌, ◌++◌, length, Bool, true, false, cond, Option, refl, sym, ◌∙◌, ap, arith}
use Rattle.tbl_kinds.specs.Numbers.{byte_at}
use Rattle.tbl_kinds.specs.declared.block.Block.{Block}
use Rattle.tbl_kinds.specs.declared.request.ResetKind.TheVariants.{Processor}
use Rattle.cds_layout.specs.Directory.{directory_of, is_live}
use Rattle.cds_layout.specs.Entries.{slot_count}
use Rattle.cds_layout.specs.Order.{close_stray, strays_to, delete_calls, zeros, clear_by, clear_calls, carry_calls, boot_writes}
use Rattle.cds_store.specs.Boots.{AreZeros}
use Rattle.cds_layout.specs.Fronts.{IsFront}
use Rattle.cds_layout.proofs.SlotCalls.{slot_calls_alike}
use Rattle.cds_store.proofs.Strays.{stray_is}

-- ---- stray gates

-- what was read first says the same
pub strays_read : (front old : List ℕ) (directory : List (Option Block)) → IsFront front directory old → (k : ℕ) → k ≤ slot_count → strays_to k front directory ≡ strays_to k old (directory_of old)
strays_read front old directory is k le =
    slot_calls_alike (close_stray front directory) (close_stray old (directory_of old)) k
    (λ slot lt. ap (λ (b : Bool). cond b (delete_calls slot) []) (stray_is front directory old slot is (omega (arith, lt, le))))

-- ---- zeros

pub zeros_are : (n : ℕ) (bytes : List ℕ) → length bytes ≡ n → AreZeros bytes → bytes ≡ zeros n
unfolding zeros
zeros_are zero [] size all = refl
zeros_are zero (x ∷ xs) size all = absurd (omega (arith, size))
zeros_are (suc n) [] size all = absurd (omega (arith, size))
zeros_are (suc n) (x ∷ xs) size all =
    ap (λ (y : ℕ). y ∷ xs) (all 0) ∙ ap (λ (l : List ℕ). 0 ∷ l) (zeros_are n xs (omega (arith, size)) (λ i. all (suc i)))

-- a bank is cleared with zeros that were read over
pub clear_calls_made : (first : ℕ) (empty bytes : List ℕ) → first ≡ byte_at 0 bytes → length empty ≡ 8192 → AreZeros empty → clear_by first empty ≡ clear_calls bytes
clear_calls_made first empty bytes is size all = ap (λ n. clear_by n empty) is ∙ ap (clear_by (byte_at 0 bytes)) (zeros_are 8192 empty size all)

-- ---- by whether the bank is live

pub live_writes : (old : List ℕ) → is_live old ≡ true → strays_to slot_count old (directory_of old) ++ carry_calls old ≡ boot_writes Processor old
live_writes old live = ap (λ (b : Bool). cond b (strays_to slot_count old (directory_of old) ++ carry_calls old) (clear_calls old)) (sym live)

pub dead_writes : (old : List ℕ) → is_live old ≡ false → clear_calls old ≡ boot_writes Processor old
dead_writes old dead = ap (λ (b : Bool). cond b (strays_to slot_count old (directory_of old) ++ carry_calls old) (clear_calls old)) (sym dead)
