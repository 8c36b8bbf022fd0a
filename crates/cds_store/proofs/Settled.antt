-- The blocks that a boot leaves.
use Rattle.std.proofs.Common.{◌≡◌, inl, inr, ℕ, zero, suc, ◌+◌, ◌<◌, ◌==◌, ◌&&◌, List, [], ◌∷◌, length, map, slice_index_or, Bool, true, false, Option, Some, None, is_some, refl, sym, ◌∙◌, ap, subst, arith}
use Rattle.std.specs.List.{list_any, filter, range_with_len}
use Rattle.std.specs.Option.{option_map, ForSome}
use Rattle.std.proofs.lemmas.Bool.{cases_Bool, cases_lt}
use Rattle.std.proofs.lemmas.List.{length-map, get_or_past, ext_get_or}
use Rattle.std.proofs.lemmas.Option.{same_Some}
use Rattle.std.proofs.Math.ListN.{get_or-map}
use Rattle.tbl_kinds.specs.Blocks.{Stored, Store as Blocks}
use Rattle.tbl_kinds.specs.StoreSteps.{stored_at, MayGive, MayShow, shown, settled, settled_from}
use Rattle.tbl_kinds.specs.declared.block.Block.{Block}
use Rattle.cds_layout.specs.Entries.{slot_count}
use Rattle.cds_layout.specs.Directory.{directory_of}
use Rattle.cds_layout.specs.Images.{held_in, stored_in, store_of}
use Rattle.cds_layout.specs.Lines.{IsRightAt, CanBeTogether}
use Rattle.cds_layout.proofs.Directories.{length-directory_of}
use Rattle.cds_layout.proofs.DirectoryLaws.{directory-together}
use Rattle.cds_store.specs.Boots.{IsTidy, opened_slot, is_doubtful_slot, is_doubtful_at, is_found, found_open, found_in, found_to}
use Rattle.cds_store.specs.Moments.{ShowsIn}
use Rattle.cds_store.specs.Sound.{slot_at, AreTogether, EntryIs, Matches}
use Rattle.cds_store.specs.StoreBlocks.{slot_of}
use Rattle.cds_store.specs.declared.slot.Slot.{Slot}
use Rattle.cds_store.proofs.Changes.{MatchesBlocks}
use Rattle.cds_store.proofs.Found.{found_has}
use Rattle.cds_layout.proofs.Stored.{stored_there, length-store}

-- ---- the slots of a directory

opened_parts : (o : Option Block) (s : Slot) → option_map opened_slot o ≡ Some s → (o ≡ Some s.block) × (s.doubtful ≡ false)
opened_parts None s is = absurd (cc is)
opened_parts (Some b) s is = rw (← same_Some (opened_slot b) s is) (refl, refl)

slots_at : (directory : List (Option Block)) (n : ℕ) → slot_at (map (option_map opened_slot) directory) n ≡ option_map opened_slot (slice_index_or directory n None)
slots_at directory n = get_or-map (option_map opened_slot) directory n None

pub opened_together : (directory : List (Option Block)) → CanBeTogether directory → AreTogether (map (option_map opened_slot) directory)
opened_together directory together = record {
  all_slots = length-map directory (option_map opened_slot) ∙ together.slots;
  right = λ n s there. subst IsRightAt (block_there n s there) (together.right n);
  apart = λ n m differ a at_n b at_m. together.apart n m a.block b.block differ (block_there n a at_n) (block_there m b at_m);
}
  where
    block_there : (n : ℕ) (s : Slot) → slot_at (map (option_map opened_slot) directory) n ≡ Some s → slice_index_or directory n None ≡ Some s.block
    block_there n s there = (opened_parts (slice_index_or directory n None) s (sym (slots_at directory n) ∙ there)).0

pub tidy_matches : (old now : List ℕ) → IsTidy old now → Matches now (map (option_map opened_slot) (directory_of old))
tidy_matches old now tidy = record {
  live = tidy.live;
  version = tidy.version;
  entries = λ n lt. subst (EntryIs now n) (sym (slots_at (directory_of old) n)) (tidy.entries n lt);
}

-- ---- the blocks, settled

settled_at : (found : List ℕ) (k : ℕ) (blocks : Blocks) (n : ℕ) → stored_at (settled_from found k blocks) n ≡ settled found (k + n) (stored_at blocks n)
settled_at found k [] n = refl
settled_at found k (b ∷ bs) zero = let same : k + 0 ≡ k = omega arith in ap (λ i. settled found i b) (sym same)
settled_at found k (b ∷ bs) (suc n) =
    let same : k + 1 + n ≡ k + suc n = omega arith in
    settled_at found (k + 1) bs n ∙ ap (λ i. settled found i (stored_at bs n)) same

length-settled : (found : List ℕ) (k : ℕ) (blocks : Blocks) → length (settled_from found k blocks) ≡ length blocks
length-settled found k [] = refl
length-settled found k (b ∷ bs) = ap (λ n. suc n) (length-settled found (k + 1) bs)

-- what is known of one slot after a boot
record Settles (found : List ℕ) (old : List ℕ) (n : ℕ) (o : Option Stored) (left : Option Block) : Type 0 where
  slot : option_map slot_of (settled found n o) ≡ option_map opened_slot left
  holds : ForSome (settled found n o) (λ b. MayGive b (held_in old n b.block) × (left ≡ Some b.block))

sure_settles : (found : List ℕ) (old : List ℕ) (n : ℕ) (b : Stored) (d : Block) → b.doubtful ≡ false → stored_in old n d ≡ shown b (held_in old n d) → MayGive b (held_in old n d) → Settles found old n (Some b) (Some d)
sure_settles found old n b d sure is gives =
    let same : d ≡ b.block = ap (λ (s : Stored). s.block) is in
    let stays : settled found n (Some b) ≡ Some b = rw sure refl in
    record {
      slot = rw (stays, same, sure) refl;
      holds = λ c there.
          let c_is : b ≡ c = same_Some b c (sym stays ∙ there) in
          (subst (λ (e : Stored). MayGive e (held_in old n e.block)) c_is (subst (λ (e : Block). MayGive b (held_in old n e)) same gives), ap (λ (e : Block). Some e) (same ∙ ap (λ (e : Stored). e.block) c_is));
    }

found_settles : (found : List ℕ) (old : List ℕ) (n : ℕ) (b : Stored) (d : Block) → b.doubtful ≡ true → list_any (λ m. m == n) found ≡ true → stored_in old n d ≡ shown b (held_in old n d) → MayGive b (held_in old n d) → Settles found old n (Some b) (Some d)
found_settles found old n b d doubt among is gives =
    let same : d ≡ b.block = ap (λ (s : Stored). s.block) is in
    let then_sure : Stored = record b { doubtful = false } in
    let stays : settled found n (Some b) ≡ Some (record b { doubtful = false }) = rw (doubt, among) refl in
    record {
      slot = rw (stays, same) refl;
      holds = λ c there.
          let c_is : (record b { doubtful = false }) ≡ c = same_Some (record b { doubtful = false }) c (sym stays ∙ there) in (
            subst (λ (e : Stored). MayGive e (held_in old n e.block)) c_is
                (subst (λ (e : Block). MayGive b (held_in old n e)) same gives),
            ap (λ (e : Block). Some e) (same ∙ ap (λ (e : Stored). e.block) c_is),
          );
    }

gone_settles : (found : List ℕ) (old : List ℕ) (n : ℕ) (b : Stored) → b.doubtful ≡ true → list_any (λ m. m == n) found ≡ false → Settles found old n (Some b) None
gone_settles found old n b doubt not_among =
    let goes : settled found n (Some b) ≡ None = rw (doubt, not_among) refl in
    record {
      slot = rw goes refl;
      holds = λ c there. absurd (cc (sym goes ∙ there));
    }

-- whether a block in doubt was found open
abbrev Finds : List ℕ → ℕ → Option Stored → Option Block → Type 0
Finds found n o left = (b : Stored) → o ≡ Some b → b.doubtful ≡ true → list_any (λ m. m == n) found ≡ is_some left

settles : (found : List ℕ) (old : List ℕ) (n : ℕ) (o : Option Stored) (left : Option Block) → MayShow o (option_map (stored_in old n) left) → Finds found n o left → Settles found old n o left
settles found old n None None shows finds = record { slot = refl; holds = λ b is. absurd (cc is) }
settles found old n None (Some d) shows finds = absurd (cc shows)
settles found old n (Some b) None shows finds = gone_settles found old n b shows (finds b refl shows)
settles found old n (Some b) (Some d) shows finds =
    elim (cases_Bool b.doubtful) [
      | inl doubt ↦ found_settles found old n b d doubt (finds b refl doubt) shows.0 shows.1
      | inr sure ↦ sure_settles found old n b d sure shows.0 shows.1
    ]

module _ (old now : List ℕ) (found : List ℕ) (blocks : Blocks) (tidy : IsTidy old now) (shows : ShowsIn blocks old) (finds : (n : ℕ) → n < slot_count → Finds found n (stored_at blocks n) (slice_index_or (directory_of old) n None)) where
  long : length blocks ≡ slot_count
  long = sym shows.as_long ∙ length-store old

  settles_at : (n : ℕ) → n < slot_count → Settles found old n (stored_at blocks n) (slice_index_or (directory_of old) n None)
  settles_at n lt = settles found old n (stored_at blocks n) (slice_index_or (directory_of old) n None) (subst (MayShow (stored_at blocks n)) (stored_there old n) (shows.each n)) (finds n lt)

  at_zero : (n : ℕ) → stored_at (settled_from found 0 blocks) n ≡ settled found n (stored_at blocks n)
  at_zero n = let same : 0 + n ≡ n = omega arith in settled_at found 0 blocks n ∙ ap (λ i. settled found i (stored_at blocks n)) same

  settled_same : map (option_map opened_slot) (directory_of old) ≡ map (option_map slot_of) (settled_from found 0 blocks)
  settled_same =
      ext_get_or None (map (option_map opened_slot) (directory_of old)) (map (option_map slot_of) (settled_from found 0 blocks))
      (length-map (directory_of old) (option_map opened_slot) ∙ length-directory_of old ∙ sym long ∙ sym (length-settled found 0 blocks) ∙ sym (length-map (settled_from found 0 blocks) (option_map slot_of)))
      (λ n lt.
      let within : n < slot_count = omega (arith, lt, length-map (directory_of old) (option_map opened_slot), length-directory_of old) in
      slots_at (directory_of old) n ∙ sym (settles_at n within).slot ∙ ap (option_map slot_of) (sym (at_zero n)) ∙ sym (get_or-map (option_map slot_of) (settled_from found 0 blocks) n None))

  settled_within : (n : ℕ) (b : Stored) → stored_at (settled_from found 0 blocks) n ≡ Some b → n < slot_count
  settled_within n b there =
      elim (cases_lt n slot_count) [
        | inl lt ↦ lt
        | inr past ↦ absurd (cc (sym (get_or_past (settled_from found 0 blocks) n None (omega (arith, past, long, length-settled found 0 blocks))) ∙ there))
      ]

  pub settled_stands : MatchesBlocks now (map (option_map opened_slot) (directory_of old)) (settled_from found 0 blocks)
  settled_stands = record {
    same = settled_same;
    together = opened_together (directory_of old) (directory-together old);
    matches = tidy_matches old now tidy;
    held = λ n b there.
        let gives = (settles_at n (settled_within n b there)).holds b (sym (at_zero n) ∙ there) in
        subst (MayGive b) (sym (tidy.same.held n b.block gives.1)) gives.0;
  }

-- ---- which are found

abbrev pub DoubtKnown : List (Option Slot) → Blocks → Type 0
DoubtKnown slots blocks = (n : ℕ) (b : Stored) → stored_at blocks n ≡ Some b → b.doubtful ≡ true → is_doubtful_at slots n ≡ true

pub doubt_known : (slots : List (Option Slot)) (blocks : Blocks) → slots ≡ map (option_map slot_of) blocks → DoubtKnown slots blocks
doubt_known slots blocks same n b there doubt =
    ap is_doubtful_slot (ap (λ (l : List (Option Slot)). slot_at l n) same ∙ get_or-map (option_map slot_of) blocks n None ∙ ap (option_map slot_of) there) ∙ doubt

shown_sure : (bytes : List ℕ) (n : ℕ) (o : Option Block) (b : Stored) → option_map (stored_in bytes n) o ≡ Some b → b.doubtful ≡ false
shown_sure bytes n None b is = absurd (cc is)
shown_sure bytes n (Some d) b is = rw (← same_Some (stored_in bytes n d) b is) refl

pub shown_known : (slots : List (Option Slot)) (bytes : List ℕ) → DoubtKnown slots (store_of bytes)
shown_known slots bytes n b there doubt = absurd (cc (sym (shown_sure bytes n (slice_index_or (directory_of bytes) n None) b (sym (stored_there bytes n) ∙ there)) ∙ doubt))

pub finds_open : (slots : List (Option Slot)) (directory : List (Option Block)) (blocks : Blocks) → DoubtKnown slots blocks → (n : ℕ) → n < slot_count → Finds (found_open slots directory) n (stored_at blocks n) (slice_index_or directory n None)
finds_open slots directory blocks known n lt b there doubt =
    found_has (is_found slots directory) slot_count n lt ∙ ap (λ d. d && is_some (slice_index_or directory n None)) (known n b there doubt)

-- a store shows itself
shows_own : (bytes : List ℕ) (n : ℕ) (o : Option Block) → MayShow (option_map (stored_in bytes n) o) (option_map (stored_in bytes n) o)
shows_own bytes n None = refl
shows_own bytes n (Some d) = (refl, refl)

pub shows_itself : (bytes : List ℕ) → ShowsIn (store_of bytes) bytes
shows_itself bytes = record {
  as_long = refl;
  each = λ n. subst (λ o. MayShow o o) (sym (stored_there bytes n)) (shows_own bytes n (slice_index_or (directory_of bytes) n None));
}

stored_is_some : (bytes : List ℕ) (n : ℕ) (o : Option Block) → is_some (option_map (stored_in bytes n) o) ≡ is_some o
stored_is_some bytes n None = refl
stored_is_some bytes n (Some b) = refl

found_alike : (p q : ℕ → Bool) → ((n : ℕ) → p n ≡ q n) → (count : ℕ) → found_to count p ≡ found_to count q
unfolding found_to
found_alike p q same count = by (range_with_len 0 count)
  where
    by : (xs : List ℕ) → filter p xs ≡ filter q xs
    by [] = refl
    by (x ∷ xs) = rw (same x, by xs) refl

pub found_shown : (slots : List (Option Slot)) (bytes : List ℕ) → found_open slots (directory_of bytes) ≡ found_in slots (store_of bytes)
found_shown slots bytes =
    found_alike (is_found slots (directory_of bytes)) (λ n. is_doubtful_at slots n && is_some (stored_at (store_of bytes) n))
    (λ n. ap (λ s. is_doubtful_at slots n && s) (sym (stored_is_some bytes n (slice_index_or (directory_of bytes) n None)) ∙ sym (ap is_some (stored_there bytes n))))
    slot_count
