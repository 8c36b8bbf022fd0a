-- What a bank shows of each slot. No other proof looks into the list that it shows.
use Rattle.std.proofs.Common.{◌≡◌, ℕ, zero, suc, ◌+◌, List, [], ◌∷◌, length, slice_index_or, Option, None, refl, ap, ◌∙◌, arith}
use Rattle.std.specs.Option.{option_map}
use Rattle.tbl_kinds.specs.StoreSteps.{stored_at}
use Rattle.tbl_kinds.specs.declared.block.Block.{Block}
use Rattle.cds_layout.specs.Directory.{directory_of}
use Rattle.cds_layout.specs.Entries.{slot_count}
use Rattle.cds_layout.specs.Images.{stored_in, stored_from, store_of}
use Rattle.cds_layout.proofs.Directories.{length-directory_of}

pub length-stored : (bytes : List ℕ) (slot : ℕ) (blocks : List (Option Block)) → length (stored_from bytes slot blocks) ≡ length blocks
length-stored bytes slot [] = refl
length-stored bytes slot (o ∷ blocks) = ap suc (length-stored bytes (slot + 1) blocks)

pub stored-from : (bytes : List ℕ) (slot : ℕ) (blocks : List (Option Block)) (n : ℕ) → slice_index_or (stored_from bytes slot blocks) n None ≡ option_map (stored_in bytes (slot + n)) (slice_index_or blocks n None)
stored-from bytes slot [] zero = refl
stored-from bytes slot [] (suc n) = refl
stored-from bytes slot (o ∷ blocks) zero = let same : slot ≡ slot + 0 = omega arith in ap (λ k. option_map (stored_in bytes k) o) same
stored-from bytes slot (o ∷ blocks) (suc n) =
    let same : slot + 1 + n ≡ slot + suc n = omega arith in
    stored-from bytes (slot + 1) blocks n ∙ ap (λ k. option_map (stored_in bytes k) (slice_index_or blocks n None)) same

pub stored_there : (bytes : List ℕ) (n : ℕ) → stored_at (store_of bytes) n ≡ option_map (stored_in bytes n) (slice_index_or (directory_of bytes) n None)
unfolding store_of
stored_there bytes n =
    let same : 0 + n ≡ n = omega arith in
    stored-from bytes 0 (directory_of bytes) n ∙ ap (λ k. option_map (stored_in bytes k) (slice_index_or (directory_of bytes) n None)) same

pub length-store : (bytes : List ℕ) → length (store_of bytes) ≡ slot_count
unfolding store_of
length-store bytes = length-stored bytes 0 (directory_of bytes) ∙ length-directory_of bytes
