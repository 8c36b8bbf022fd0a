-- A bank shows no two blocks of one kind and one name: an entry counts only where it agrees with each earlier one that counts.
use Rattle.std.proofs.Common.{◌≡◌, ℕ, true, not, List, Option, Some, None, sym, ap, ◌∙◌, inl, inr}
use Rattle.std.specs.Prelude.{slice_index_or}
use Rattle.std.specs.Option.{option_map}
use Rattle.std.proofs.lemmas.Bool.{and_parts, cases_eq}
use Rattle.std.proofs.lemmas.Option.{same_Some}
use Rattle.tbl_kinds.specs.Blocks.{Stored}
use Rattle.tbl_kinds.specs.Places.{are_apart}
use Rattle.tbl_kinds.specs.StoreSteps.{same_block, stored_at}
use Rattle.tbl_kinds.specs.declared.block.Block.{Block}
use Rattle.cds_layout.specs.Directory.{directory_of}
use Rattle.cds_layout.specs.Images.{stored_in, store_of}
use Rattle.cds_layout.proofs.DirectoryLaws.{directory-agree_both}
use Rattle.cds_layout.proofs.Stored.{stored_there}

-- of two entries that count
pub directory-single : (bytes : List ℕ) (m n : ℕ) (a b : Block) → slice_index_or (directory_of bytes) m None ≡ Some a → slice_index_or (directory_of bytes) n None ≡ Some b → same_block a b ≡ true → m ≡ n
directory-single bytes m n a b at_m at_n same = elim (cases_eq m n) [
  | inl one ↦ one
  | inr apart ↦
      let agree = and_parts (are_apart a.offset a.size b.offset b.size) (not (same_block a b)) (directory-agree_both bytes m n a b apart at_m at_n) in
      absurd (cc (ap not same, agree.1))
]

-- the block of a slot is the one that its entry states
stated_by : (bytes : List ℕ) (n : ℕ) (o : Option Block) (b : Stored) → option_map (stored_in bytes n) o ≡ Some b → o ≡ Some b.block
stated_by bytes n None b is = absurd (cc is)
stated_by bytes n (Some block) b is = ap (λ (s : Stored). Some s.block) (same_Some (stored_in bytes n block) b is)

stored_block : (bytes : List ℕ) (n : ℕ) (b : Stored) → stored_at (store_of bytes) n ≡ Some b → slice_index_or (directory_of bytes) n None ≡ Some b.block
stored_block bytes n b there = stated_by bytes n (slice_index_or (directory_of bytes) n None) b (sym (stored_there bytes n) ∙ there)

-- so it is of two blocks that the bank shows
pub store-single : (bytes : List ℕ) (m n : ℕ) (a b : Stored) → stored_at (store_of bytes) m ≡ Some a → stored_at (store_of bytes) n ≡ Some b → same_block a.block b.block ≡ true → m ≡ n
store-single bytes m n a b at_m at_n same = directory-single bytes m n a.block b.block (stored_block bytes m a at_m) (stored_block bytes n b at_n) same
