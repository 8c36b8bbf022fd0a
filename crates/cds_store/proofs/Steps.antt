-- What each write of a call makes of the blocks that the bytes represent.
use Rattle.std.proofs.Common.{◌≡◌, ◌≢◌, inl, inr, ℕ, ◌<◌, ◌==◌, List, slice_index_or, slice_set, Bool, true, false, Option, Some, None, refl, sym, ◌∙◌, ap, subst, arith}
use Rattle.std.specs.Option.{option_map}
use Rattle.std.proofs.lemmas.List.{set-get_or}
use Rattle.std.proofs.lemmas.Option.{same_Some}
use Rattle.tbl_kinds.specs.Blocks.{Stored, Store as Blocks}
use Rattle.tbl_kinds.specs.StoreSteps.{stored_at, MayGive, with_held, in_doubt, new_block, deleted, delete_broken, restored}
use Rattle.tbl_kinds.specs.declared.block.Block.{Block}
use Rattle.tbl_outside.specs.Bank.{Torn}
use Rattle.cds_layout.specs.Entries.{slot_count, gate_open, gate_at, gate_place, told_at, tail_place, tail_len, block_in}
use Rattle.cds_layout.specs.Directory.{agree, is_first_version}
use Rattle.cds_layout.specs.Images.{held_in, turned_in}
use Rattle.cds_store.specs.Sound.{slot_at, AreTogether, EntryIs, IsNew}
use Rattle.cds_store.specs.StoreBlocks.{slot_of}
use Rattle.cds_store.specs.declared.slot.Slot.{Slot}
use Rattle.cds_store.proofs.Changes.{Elsewhere, elsewhere_same, MatchesBlocks, stands_slot, stands_after}
use Rattle.cds_store.proofs.Frames.{gate_stays, told_stays, held_stays, gate_clear, in_entry}
use Rattle.cds_layout.proofs.EntryLaws.{IsRight, right-parts}
use Rattle.cds_layout.proofs.Restored.{shown-turned, held-shown}
use Rattle.cds_store.proofs.Together.{there_within, together_without, together_same, together_set}

-- a block that shows no place holds no image
holds_none : (bytes : List ℕ) (n : ℕ) (b : Block) → is_first_version bytes ≡ false → turned_in bytes n ≡ None → held_in bytes n b ≡ None
holds_none bytes n b version none = sym (held-shown bytes n b None (sym (shown-turned bytes n version ∙ none)))

-- nothing changes if a place gets what it has
pub put_back : {X : Type 0} (xs : List (Option X)) (n : ℕ) (o : Option X) → slice_index_or xs n None ≡ o → slice_set xs n o ≡ xs
put_back xs n o is = ap (slice_set xs n) (sym is) ∙ set-get_or xs n None

pub within_slots : (slots : List (Option Slot)) (n : ℕ) (s : Slot) → AreTogether slots → slot_at slots n ≡ Some s → n < slot_count
within_slots slots n s together there = omega (arith, together.all_slots, there_within slots n s there)

-- ---- the gate of a taken slot

module _ (n : ℕ) (slots : List (Option Slot)) (blocks : Blocks) (old image : List ℕ) (b : Stored) (stands : MatchesBlocks old slots blocks) (there : stored_at blocks n ≡ Some b) (torn : Torn (gate_place n) 1 old image) where
  gate_slot : slot_at slots n ≡ Some (slot_of b)
  gate_slot = stands_slot old slots blocks stands n b there

  gate_within : n < slot_count
  gate_within = within_slots slots n (slot_of b) stands.together gate_slot

  gate_elsewhere : Elsewhere n slots old image
  gate_elsewhere = in_entry (gate_place n) 1 old image n slots torn stands.together gate_within (omega arith) (omega arith)

  gate_told : block_in (told_at image n) ≡ Some b.block
  gate_told = ap block_in (told_stays (gate_place n) 1 old image torn n (inr (omega arith))) ∙ (subst (EntryIs old n) gate_slot (stands.matches.entries n gate_within)).0

  gate_held : MayGive b (held_in image n b.block)
  gate_held =
      let right = right-parts b.block (stands.together.right n (slot_of b) gate_slot) in
      subst (MayGive b) (sym (held_stays (gate_place n) 1 old image torn n b.block (gate_clear n n b.block gate_within gate_within right.behind old image torn))) (stands.held n b there)

  -- it is in doubt
  pub gate_torn : MatchesBlocks image (slice_set slots n (Some (slot_of (in_doubt b)))) (delete_broken n blocks)
  gate_torn =
      subst (λ o. MatchesBlocks image (slice_set slots n (Some (slot_of (in_doubt b)))) (slice_set blocks n (option_map in_doubt o))) (sym there)
      (stands_after n slots blocks old image gate_elsewhere gate_within stands (Some (in_doubt b))
      (together_same slots n (slot_of b) (slot_of (in_doubt b)) stands.together gate_slot refl)
      (gate_told, λ sure. absurd (cc sure))
      (λ c is. rw (← same_Some (in_doubt b) c is) gate_held))

  -- it is closed
  pub gate_closed : (gate_at image n == gate_open) ≡ false → MatchesBlocks image (slice_set slots n None) (deleted n blocks)
  gate_closed shut =
      stands_after n slots blocks old image gate_elsewhere gate_within stands None
      (together_without slots n stands.together gate_within)
      shut
      (λ c is. absurd (cc is))

-- ---- a new block

module _ (n : ℕ) (slots : List (Option Slot)) (blocks : Blocks) (old image : List ℕ) (block : Block) (stands : MatchesBlocks old slots blocks) (new : IsNew n slots block) where
  no_block : (o : Option Stored) → stored_at blocks n ≡ o → o ≡ None
  no_block None is = refl
  no_block (Some b) is = absurd (cc (sym new.free ∙ stands_slot old slots blocks stands n b is))

  -- while its entry is written, nothing has changed: its gate is closed
  pub prepared : Torn (tail_place n) tail_len old image → MatchesBlocks image slots blocks
  prepared torn =
      let entry : Elsewhere n slots old image = in_entry (tail_place n) tail_len old image n slots torn stands.together new.within (omega arith) (omega arith) in
      let gate : gate_at image n ≡ gate_at old n = gate_stays (tail_place n) tail_len old image torn n (inl (omega arith)) in
      let shut : (gate_at old n == gate_open) ≡ false = subst (EntryIs old n) new.free (stands.matches.entries n new.within) in
      let after : MatchesBlocks image (slice_set slots n None) (slice_set blocks n None) =
      stands_after n slots blocks old image entry new.within stands None
      (together_without slots n stands.together new.within)
      (ap (λ g. g == gate_open) gate ∙ shut)
      (λ c is. absurd (cc is)) in
      subst (λ (l : List (Option Slot)). MatchesBlocks image l blocks) (put_back slots n None new.free)
      (subst (λ (l : Blocks). MatchesBlocks image (slice_set slots n None) l) (put_back blocks n None (no_block (stored_at blocks n) refl)) after)

  -- once its entry is written and no place shows, the write that opens the gate makes it
  pub made_torn : (doubtful : Bool) → Torn (gate_place n) 1 old image → block_in (told_at old n) ≡ Some block → turned_in old n ≡ None
      → (doubtful ≡ false → (gate_at image n == gate_open) ≡ true)
      → MatchesBlocks image (slice_set slots n (Some (record { block = block; doubtful = doubtful }))) (slice_set blocks n (Some (new_block doubtful block.kind block.name block.size block.offset)))
  made_torn doubtful torn told none sure =
      let right = right-parts block new.right in
      let made = new_block doubtful block.kind block.name block.size block.offset in
      stands_after n slots blocks old image (in_entry (gate_place n) 1 old image n slots torn stands.together new.within (omega arith) (omega arith)) new.within stands (Some made)
      (together_set slots n (Some (slot_of made)) stands.together new.within
      (λ s is. rw (← same_Some (slot_of made) s is) new.right)
      (λ k s t other there is. rw (← same_Some (slot_of made) t is) (new.agrees k s there)))
      (ap block_in (told_stays (gate_place n) 1 old image torn n (inr (omega arith))) ∙ told, sure)
      (λ c is. rw (← same_Some made c is) (held_stays (gate_place n) 1 old image torn n block (gate_clear n n block new.within new.within right.behind old image torn) ∙ holds_none old n block stands.matches.version none))

-- ---- the places of a block

module _ (n : ℕ) (slots : List (Option Slot)) (blocks : Blocks) (old image : List ℕ) (b : Stored) (stands : MatchesBlocks old slots blocks) (there : stored_at blocks n ≡ Some b) where
  pub own_slot : slot_at slots n ≡ Some (slot_of b)
  own_slot = stands_slot old slots blocks stands n b there

  pub own_within : n < slot_count
  own_within = within_slots slots n (slot_of b) stands.together own_slot

  pub own_right : IsRight b.block
  own_right = right-parts b.block (stands.together.right n (slot_of b) own_slot)

  -- what is known of it changes, and neither its entry nor its slot does
  pub own_changed : (c : Stored) → slot_of c ≡ slot_of b → Elsewhere n slots old image → gate_at image n ≡ gate_at old n → told_at image n ≡ told_at old n → MayGive c (held_in image n c.block) → MatchesBlocks image slots (slice_set blocks n (Some c))
  own_changed c same elsewhere gate told gives =
      let entry : EntryIs old n (Some (slot_of b)) = subst (EntryIs old n) own_slot (stands.matches.entries n own_within) in
      let after : MatchesBlocks image (slice_set slots n (Some (slot_of c))) (slice_set blocks n (Some c)) =
      stands_after n slots blocks old image elsewhere own_within stands (Some c)
      (together_same slots n (slot_of b) (slot_of c) stands.together own_slot (ap (λ (s : Slot). s.block) same))
      (ap block_in told ∙ entry.0 ∙ ap (λ (s : Slot). Some s.block) (sym same), λ sure. ap (λ g. g == gate_open) gate ∙ entry.1 (ap (λ (s : Slot). s.doubtful) (sym same) ∙ sure))
      (λ d is. subst (λ (e : Stored). MayGive e (held_in image n e.block)) (same_Some c d is) gives) in
      subst (λ (l : List (Option Slot)). MatchesBlocks image l (slice_set blocks n (Some c))) (put_back slots n (Some (slot_of c)) (own_slot ∙ ap Some (sym same))) after

  pub own_agrees : (k : ℕ) (s : Slot) → k ≢ n → slot_at slots k ≡ Some s → agree b.block s.block ≡ true
  own_agrees k s other at_k = stands.together.apart n k (λ e. other (sym e)) (slot_of b) own_slot s at_k

  -- it holds this, whole or torn, and no byte was written
  pub settled_to : (given : Option (List ℕ)) → image ≡ old → held_in image n b.block ≡ given → MatchesBlocks image slots (restored n given blocks)
  settled_to given same holds =
      subst (λ o. MatchesBlocks image slots (slice_set blocks n (option_map (with_held given) o))) (sym there)
      (own_changed (with_held given b) refl
      (subst (Elsewhere n slots old) (sym same) (elsewhere_same n slots old))
      (ap (λ (bytes : List ℕ). gate_at bytes n) same)
      (ap (λ (bytes : List ℕ). told_at bytes n) same)
      holds)
