-- What the entries of a live bank say of its directory.
use Rattle.std.proofs.Common.{◌≡◌, inl, inr, ℕ, zero, suc, ◌<◌, ◌≤◌, List, [], ◌∷◌, ◌++◌, length, replicate, slice_index_or, Bool, true, false, cond, Option, Some, None, refl, sym, ◌∙◌, ap, arith, length-append}
use Rattle.std.specs.List.{list_all}
use Rattle.std.proofs.lemmas.Bool.{cases_Bool, cases_lt}
use Rattle.std.proofs.lemmas.List.{get_or_past, get_or_push, get_or_append_left, get_or-replicate, length-replicate, ext_get_or}
use Rattle.tbl_kinds.specs.declared.block.Block.{Block}
use Rattle.cds_layout.specs.Entries.{slot_count, gate_at, told_at, block_in}
use Rattle.cds_layout.specs.Directory.{is_live, agrees_at, stated, counted, directory_to, directory_of}
use Rattle.cds_layout.proofs.Directories.{directory-is, length-directory_of}
use Rattle.cds_store.specs.Boots.{IsEmptied}
use Rattle.cds_store.proofs.Reading.{is_open}

-- ---- the directory, slot by slot

length_to : (bytes : List ℕ) (k : ℕ) → length (directory_to bytes k) ≡ k
length_to bytes zero = refl
length_to bytes (suc k) = length-append (directory_to bytes k) (counted (directory_to bytes k) (stated bytes k) ∷ []) ∙ omega (arith, length_to bytes k)

-- what counts of the entry of a slot
abbrev pub counts_at : List ℕ → ℕ → Option Block
counts_at bytes n = counted (directory_to bytes n) (stated bytes n)

entry_to : (bytes : List ℕ) (k n : ℕ) → n < k → slice_index_or (directory_to bytes k) n None ≡ counts_at bytes n
entry_to bytes zero n lt = absurd (omega (arith, lt))
entry_to bytes (suc k) n lt =
    elim (cases_lt n k) [
      | inl before ↦ get_or_append_left (directory_to bytes k) (counts_at bytes k ∷ []) None n (omega (arith, before, length_to bytes k)) ∙ entry_to bytes k n before
      | inr last ↦
          let here : k ≡ n = omega (arith, lt, last) in
          get_or_push (directory_to bytes k) (counts_at bytes k) None n (length_to bytes k ∙ here) ∙ ap (counts_at bytes) here
    ]

counted_some : (earlier : List (Option Block)) (o : Option Block) (b : Block) → counted earlier o ≡ Some b → o ≡ Some b
counted_some earlier None b is = absurd (cc is)
counted_some earlier (Some c) b is = by (list_all (agrees_at c) earlier) is
  where
    by : (agrees : Bool) → cond agrees (Some c) None ≡ Some b → Some c ≡ Some b
    by true found = found
    by false found = absurd (cc found)

stated_parts : (bytes : List ℕ) (n : ℕ) (b : Block) → stated bytes n ≡ Some b → (is_open bytes n ≡ true) × (block_in (told_at bytes n) ≡ Some b)
stated_parts bytes n b is = by (is_open bytes n) refl is
  where
    by : (gate : Bool) → is_open bytes n ≡ gate → cond gate (block_in (told_at bytes n)) None ≡ Some b → (is_open bytes n ≡ true) × (block_in (told_at bytes n) ≡ Some b)
    by true open_is found = (open_is, found)
    by false shut found = absurd (cc found)

abbrev pub no_block : Option Block
no_block = None

pub no_blocks_at : (k n : ℕ) → slice_index_or (replicate k no_block) n None ≡ None
no_blocks_at k n = elim (cases_lt n k) [
  | inl lt ↦ get_or-replicate k n None None lt
  | inr past ↦ get_or_past (replicate k None) n None (omega (arith, past, length-replicate k no_block))
]

-- a block of the directory is in a slot
pub directory_within : (bytes : List ℕ) (n : ℕ) (b : Block) → slice_index_or (directory_of bytes) n None ≡ Some b → n < slot_count
directory_within bytes n b there = elim (cases_lt n slot_count) [
  | inl lt ↦ lt
  | inr past ↦ absurd (cc (sym (get_or_past (directory_of bytes) n None (omega (arith, past, length-directory_of bytes))) ∙ there))
]

-- by a number of slots that stays a variable
directory_by : (bytes : List ℕ) (n k : ℕ) → k ≡ slot_count → n < k → is_live bytes ≡ true → slice_index_or (directory_of bytes) n None ≡ counts_at bytes n
directory_by bytes n k is lt live =
    ap (λ (l : List (Option Block)). slice_index_or l n None) (directory-is bytes k is ∙ ap (λ live_is. cond live_is (directory_to bytes k) (replicate k None)) live) ∙ entry_to bytes k n lt

pub entry_counts : (bytes : List ℕ) (n : ℕ) → n < slot_count → is_live bytes ≡ true → slice_index_or (directory_of bytes) n None ≡ counts_at bytes n
entry_counts bytes n lt live = directory_by bytes n slot_count refl lt live

dead_by : (bytes : List ℕ) (k : ℕ) → k ≡ slot_count → is_live bytes ≡ false → directory_of bytes ≡ replicate k None
dead_by bytes k is dead = directory-is bytes k is ∙ ap (λ live. cond live (directory_to bytes k) (replicate k None)) dead

-- a bank that isn't live shows no block
pub dead_is_emptied : (bytes : List ℕ) → is_live bytes ≡ false → IsEmptied bytes
dead_is_emptied bytes dead = dead_by bytes slot_count refl dead

-- the entry of a block in the directory is open, and has it
pub directory_states : (bytes : List ℕ) (n : ℕ) (b : Block) → n < slot_count → is_live bytes ≡ true → slice_index_or (directory_of bytes) n None ≡ Some b
    → (is_open bytes n ≡ true) × (block_in (told_at bytes n) ≡ Some b)
directory_states bytes n b lt live there = stated_parts bytes n b (counted_some (directory_to bytes n) (stated bytes n) b (sym (entry_counts bytes n lt live) ∙ there))

pub stated_alike : (old image : List ℕ) (k : ℕ) → gate_at image k ≡ gate_at old k → told_at image k ≡ told_at old k → stated image k ≡ stated old k
stated_alike old image k gate told = rw (gate, told) refl

-- bytes with the same gates, which have the same blocks
module _ (old image : List ℕ) (live : is_live image ≡ is_live old) (gates : (k : ℕ) → k < slot_count → gate_at image k ≡ gate_at old k) (told : (k : ℕ) → k < slot_count → told_at image k ≡ told_at old k) where
  alike_to : (k : ℕ) → k ≤ slot_count → directory_to image k ≡ directory_to old k
  alike_to zero le = refl
  alike_to (suc k) le =
      let before = alike_to k (omega (arith, le)) in
      let here = stated_alike old image k (gates k (omega (arith, le))) (told k (omega (arith, le))) in
      λ i. before i ++ counted (before i) (here i) ∷ []

  alike_by : (k : ℕ) → k ≡ slot_count → directory_of image ≡ directory_of old
  alike_by k is =
      directory-is image k is
      ∙ ap (λ is_live_now. cond is_live_now (directory_to image k) (replicate k None)) live
      ∙ ap (λ (l : List (Option Block)). cond (is_live old) l (replicate k None)) (alike_to k (omega (arith, is)))
      ∙ sym (directory-is old k is)

  pub directory_alike : directory_of image ≡ directory_of old
  directory_alike = alike_by slot_count refl

-- if all gates are closed, too
pub shut_is_emptied : (bytes : List ℕ) → ((n : ℕ) → n < slot_count → is_open bytes n ≡ false) → IsEmptied bytes
shut_is_emptied bytes shut =
    elim (cases_Bool (is_live bytes)) [
      | inl live ↦
          ext_get_or None (directory_of bytes) (replicate slot_count None) (length-directory_of bytes ∙ sym (length-replicate slot_count no_block))
          (λ n lt. entry_counts bytes n (omega (arith, lt, length-directory_of bytes)) live ∙ none_counts n (omega (arith, lt, length-directory_of bytes)) ∙ sym (no_blocks_at slot_count n))
      | inr dead ↦ dead_is_emptied bytes dead
    ]
  where
    none_counts : (n : ℕ) → n < slot_count → counts_at bytes n ≡ None
    none_counts n lt = ap (counted (directory_to bytes n)) (shut_states n (shut n lt))
      where
        shut_states : (m : ℕ) → is_open bytes m ≡ false → stated bytes m ≡ None
        shut_states m is = rw is refl
