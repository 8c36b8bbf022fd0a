-- A bank that isn't live shows no block, and shows none while it is cleared.
use Rattle.std.proofs.Common.{◌≡◌, inl, inr, ℕ, zero, suc, ◌+◌, List, drop, replicate, slice_index, slice_index_or, false, Option, None, refl, sym, ◌∙◌, ap, subst, arith}
use Rattle.std.specs.Option.{option_map}
use Rattle.std.proofs.lemmas.List.{get_or-take, get_or-drop}
use Rattle.tbl_kinds.specs.Numbers.{byte_at, piece}
use Rattle.tbl_kinds.specs.declared.block.Block.{Block}
use Rattle.cds_layout.specs.Directory.{directory_len, is_live}
use Rattle.cds_layout.specs.Entries.{slot_count}
use Rattle.cds_store.specs.Boots.{SameStore, IsTidy, IsEmptied, IsCleared, Clears, AreZeros, opened_slot}
use Rattle.cds_store.specs.Sound.{EntryIs}
use Rattle.cds_store.proofs.Strays.{emptied_alike, same_store}
use Rattle.cds_store.proofs.DirectoryEntries.{dead_is_emptied, shut_is_emptied, no_blocks_at}

pub cleared_is_emptied : (bytes : List ℕ) → IsCleared bytes → IsEmptied bytes
cleared_is_emptied bytes cleared = shut_is_emptied bytes cleared.shut

pub dead_clears : (old image : List ℕ) → is_live old ≡ false → Clears old image → SameStore old image
dead_clears old image dead (inl same) = subst (SameStore old) (sym same) (same_store old)
dead_clears old image dead (inr emptied) = emptied_alike old image (dead_is_emptied old dead) emptied

pub dead_tidy : (old now : List ℕ) → is_live old ≡ false → IsCleared now → IsTidy old now
dead_tidy old now dead cleared = record {
  same = emptied_alike old now (dead_is_emptied old dead) (cleared_is_emptied now cleared);
  live = cleared.live;
  version = cleared.version;
  entries = λ n lt.
      subst (λ (o : Option Block). EntryIs now n (option_map opened_slot o)) (sym (ap (λ (l : List (Option Block)). slice_index_or l n None) (dead_is_emptied old dead) ∙ no_blocks_at slot_count n))
      (cleared.shut n lt);
}

pub zeros_replicate : (n i : ℕ) → slice_index (replicate n 0) i ≡ 0
zeros_replicate zero i = refl
zeros_replicate (suc n) zero = refl
zeros_replicate (suc n) (suc i) = zeros_replicate n i

pub zeros_drop : (bytes : List ℕ) (n : ℕ) → AreZeros bytes → AreZeros (drop n bytes)
zeros_drop bytes n all i = get_or-drop n bytes i 0 ∙ all (n + i)

pub first_read : (front old : List ℕ) → front ≡ piece 0 directory_len old → byte_at 0 front ≡ byte_at 0 old
first_read front old is = ap (byte_at 0) is ∙ get_or-take directory_len old 0 0 (omega arith)
