-- The image of an open block is copied and restored.
use Rattle.std.proofs.Common.{◌≡◌, inl, inr, ℕ, ◌+◌, ◌^◌, ◌<◌, ◌≤◌, List, map, length, slice_index_or, slice_set, Bool, true, false, Option, Some, None, IsSome, option_and_then, refl, sym, ◌∙◌, ap, subst, arith, [], OnOk, IfErr, Result, Ok, Err}
use Rattle.std.specs.Option.{option_map, ForSome}
use Rattle.std.proofs.lemmas.List.{set-get_or, get_or_default}
use Rattle.std.proofs.lemmas.Option.{same_Some}
use Rattle.std.proofs.Math.ListN.{get_or-map}
use Rattle.tbl_kinds.specs.Check.{check16}
use Rattle.tbl_kinds.specs.Places.{bank_size}
use Rattle.tbl_kinds.specs.declared.block.Block.{Block}
use Rattle.tbl_kinds.specs.Blocks.{Stored, Store as Blocks}
use Rattle.tbl_kinds.specs.StoreCalls.{copy as copying}
use Rattle.tbl_kinds.specs.StoreSteps.{stored_at, changed, with_held, tried, copied, copy_broken, restored}
use Rattle.tbl_kinds.proofs.Tries.{sure_gives}
use Rattle.tbl_outside.specs.Bank.{Torn}
use Rattle.cds_layout.specs.Images.{place_at, head_len, spelled, hidden_in, held_in, stored_in, store_of}
use Rattle.cds_layout.specs.Restores.{TellsTorn, words}
use Rattle.cds_layout.proofs.Restored.{unheld}
use Rattle.cds_layout.specs.declared.blocks.RestoreFault.{RestoreFault}
use Rattle.cds_store.specs.Moments.{ShowsIn, LeavesIn, TearsPlace, TearsTurn, TearsBy, CopyTears, copied_bytes}
use Rattle.cds_store.specs.Sound.{slot_at, EntryIs, Matches, IsSound, IsOpenOf}
use Rattle.cds_store.specs.StoreBlocks.{StandsFor, AreHeld, kept, slot_of, after_words, after_fault, held_at, HasNone, ComesBack}
use Rattle.cds_store.specs.declared.fault.BankFault.{BankFault}
use Rattle.cds_store.specs.declared.slot.Slot.{Slot}
use Rattle.cds_store.proofs.Changes.{MatchesBlocks, stands_show}
use Rattle.cds_store.proofs.Closing.{some_there, blocks_in, stands_told, held_told, stands_for, set_alike, stored_for}
use Rattle.cds_store.proofs.Copying.{place_torn, turn_torn, copied_stands}
use Rattle.cds_store.proofs.Reading.{is_open, opened, store_at}
use Rattle.cds_store.proofs.Showing.{slot_is}
use Rattle.cds_store.proofs.Steps.{settled_to, within_slots}
use Rattle.cds_store.proofs.Together.{there_within}

-- the slots stay if what is known of a block changes
-- a copy that broke off before its turn byte changes nothing
unchanged_by : (blocks : Blocks) (n : ℕ) → changed (λ b. b) n blocks ≡ blocks
unchanged_by blocks n = ap (slice_set blocks n) (same (stored_at blocks n)) ∙ set-get_or blocks n None
  where
    same : (o : Option Stored) → option_map (λ (b : Stored). b) o ≡ o
    same None = refl
    same (Some b) = refl

tried_slot : (gate : Bool) (copy : List ℕ) (b : Stored) → slot_of (tried gate copy b) ≡ slot_of b
tried_slot true copy b = refl
tried_slot false copy b = refl

same_slots : (change : Stored → Stored) (slots : List (Option Slot)) (blocks : Blocks) (n : ℕ) → ((b : Stored) → slot_of (change b) ≡ slot_of b) → slots ≡ map (option_map slot_of) blocks → slots ≡ map (option_map slot_of) (changed change n blocks)
same_slots change slots blocks n keeps same = same ∙ unchanged blocks n
  where
    alike : (o : Option Stored) → option_map slot_of (option_map change o) ≡ option_map slot_of o
    alike None = refl
    alike (Some b) = ap (λ s. Some s) (keeps b)

    unchanged : (bs : Blocks) (k : ℕ) → map (option_map slot_of) bs ≡ map (option_map slot_of) (changed change k bs)
    unchanged bs k =
        sym (sym (set_alike (map (option_map slot_of) bs) bs k (option_map change (stored_at bs k)) refl)
        ∙ ap (slice_set (map (option_map slot_of) bs) k) (alike (stored_at bs k) ∙ sym (at bs k))
        ∙ set-get_or (map (option_map slot_of) bs) k None)
      where
        at : (xs : Blocks) (i : ℕ) → slice_index_or (map (option_map slot_of) xs) i None ≡ option_map slot_of (stored_at xs i)
        at xs i = get_or-map (option_map slot_of) xs i None

module _ {B : Type 0} (tells : Type 0) (size : B → ℕ) (now : B → List ℕ) (whole : (bank : B) → tells → length (now bank) ≡ size bank) (slots : List (Option Slot)) (bank : B) (sound : IsSound tells size now (kept slots bank)) (n : ℕ) (s : Slot) (taken : slot_at slots n ≡ Some s) where
  module _ (copy : List ℕ) (fits : length copy ≡ s.block.size) (check : check16 copy < 2 ^ 16) where
    abbrev written : List ℕ
    written = spelled s.block.size copy

    long : tells → bank_size ≤ length (now bank)
    long told = omega (arith, sound.room, whole bank told)

    -- broken off before the turn byte
    place_stands : (blocks : Blocks) → MatchesBlocks (now bank) slots blocks → (image : List ℕ) → TearsPlace n s.block (now bank) image → MatchesBlocks image slots blocks
    place_stands blocks stands image (inl same) = subst (λ (bytes : List ℕ). MatchesBlocks bytes slots blocks) (sym same) stands
    place_stands blocks stands image (inr torn) =
        let at_n = stored_for slots blocks n s stands.same taken in
        place_torn n slots blocks (now bank) at_n.stored stands at_n.there image
        (subst (λ (t : Slot). Torn (place_at t.block (hidden_in (now bank) n)) (head_len + t.block.size) (now bank) image) (sym at_n.is) torn)

    -- in it
    turn_stands : tells → (blocks : Blocks) → MatchesBlocks (now bank) slots blocks → (image : List ℕ) → TearsTurn n s.block written (now bank) image → MatchesBlocks image slots (copy_broken true n copy blocks)
    turn_stands told blocks stands image torn =
        let at_n = stored_for slots blocks n s stands.same taken in
        turn_torn n slots blocks (now bank) at_n.stored stands at_n.there copy (fits ∙ ap (λ (t : Slot). t.block.size) (sym at_n.is)) check (long told) image
        (subst (λ (t : Slot). TearsTurn n t.block (spelled t.block.size copy) (now bank) image) (sym at_n.is) torn)

    by_stands : (gate : Bool) → tells → (blocks : Blocks) → MatchesBlocks (now bank) slots blocks → (image : List ℕ) → TearsBy gate n s.block written (now bank) image → MatchesBlocks image slots (copy_broken gate n copy blocks)
    by_stands true told blocks stands image torn = turn_stands told blocks stands image torn
    by_stands false told blocks stands image torn =
        subst (MatchesBlocks image slots) (sym (unchanged_by blocks n)) (place_stands blocks stands image torn)

    pub copy_leaves : tells → (blocks : Blocks) → StandsFor tells now (kept slots bank) blocks → (image : List ℕ) → CopyTears n s.block written (now bank) image → LeavesIn (copying n copy) blocks image
    copy_leaves told blocks stands image (inl torn) = inl (stands_show image slots blocks (place_stands blocks (stands_told tells size now slots bank sound blocks stands told) image torn))
    copy_leaves told blocks stands image (inr torn) =
        inr (inr (true, false, refl, stands_show image slots (copy_broken true n copy blocks) (turn_stands told blocks (stands_told tells size now slots bank sound blocks stands told) image torn)))

    module _ (new : B) (room : bank_size ≤ size new) where
      pub broken_for : (gate : Bool) → (tells → TearsBy gate n s.block written (now bank) (now new)) → (blocks : Blocks) → StandsFor tells now (kept slots bank) blocks → StandsFor tells now (kept slots new) (copy_broken gate n copy blocks)
      broken_for gate torn blocks stands =
          stands_for tells now slots new (copy_broken gate n copy blocks) (same_slots (tried gate copy) slots blocks n (tried_slot gate copy) stands.slots)
          (λ told. by_stands gate told blocks (stands_told tells size now slots bank sound blocks stands told) (now new) (torn told))

      pub broken_sound : (gate : Bool) → (tells → TearsBy gate n s.block written (now bank) (now new)) → IsSound tells size now (kept slots new)
      broken_sound gate torn = record {
        together = sound.together;
        room = room;
        matches = λ booted told. (by_stands gate told (blocks_in (now bank) slots) (held_told tells size now slots bank sound told) (now new) (torn told)).matches;
      }

      module _ (done : tells → now new ≡ copied_bytes n s.block written (now bank)) where
        done_stands : tells → (blocks : Blocks) → MatchesBlocks (now bank) slots blocks → MatchesBlocks (now new) slots (copied n copy blocks)
        done_stands told blocks stands =
            let at_n = stored_for slots blocks n s stands.same taken in
            copied_stands n slots blocks (now bank) at_n.stored stands at_n.there copy (fits ∙ ap (λ (t : Slot). t.block.size) (sym at_n.is)) check (long told) (now new)
            (subst (λ (t : Slot). now new ≡ copied_bytes n t.block (spelled t.block.size copy) (now bank)) (sym at_n.is) (done told))

        pub copied_for : (blocks : Blocks) → StandsFor tells now (kept slots bank) blocks → StandsFor tells now (kept slots new) (copied n copy blocks)
        copied_for blocks stands =
            stands_for tells now slots new (copied n copy blocks) (same_slots (with_held (Some copy)) slots blocks n (λ b. refl) stands.slots)
            (λ told. done_stands told blocks (stands_told tells size now slots bank sound blocks stands told))

        pub copied_sound : IsSound tells size now (kept slots new)
        copied_sound = record {
          together = sound.together;
          room = room;
          matches = λ booted told. (done_stands told (blocks_in (now bank) slots) (held_told tells size now slots bank sound told)).matches;
        }

  -- ---- a restore

  pub shown_held : tells → s.doubtful ≡ false → held_at n (store_of (now bank)) ≡ held_in (now bank) n s.block
  shown_held told sure =
      let matches = sound.matches refl told in
      let entry = subst (EntryIs (now bank) n) taken (matches.entries n (within_slots slots n s sound.together taken)) in
      ap (option_and_then (λ (b : Stored). b.held))
      (store_at (now bank) slots sound.together matches n
      ∙ ap (λ o. option_map (stored_in (now bank) n) (opened (is_open (now bank) n) o)) taken
      ∙ ap (λ gate. option_map (stored_in (now bank) n) (opened gate (Some s))) (entry.1 sure))

  module _ (new : B) (room : bank_size ≤ size new) (same : tells → now new ≡ now bank) where
    pub unchanged_sound : IsSound tells size now (kept slots new)
    unchanged_sound = record {
      together = sound.together;
      room = room;
      matches = λ booted told. subst (λ (bytes : List ℕ). Matches bytes slots) (sym (same told)) (sound.matches booted told);
    }

    pub unchanged_for : (blocks : Blocks) → StandsFor tells now (kept slots bank) blocks → StandsFor tells now (kept slots new) blocks
    unchanged_for blocks stands = record {
      slots = stands.slots;
      shows = λ told. subst (ShowsIn blocks) (sym (same told)) (stands.shows told);
      holds = λ told. subst (λ (bytes : List ℕ). AreHeld bytes blocks) (sym (same told)) (stands.holds told);
    }

    pub restored_for : (given : Option (List ℕ)) → (tells → held_in (now bank) n s.block ≡ given) → (blocks : Blocks) → StandsFor tells now (kept slots bank) blocks → StandsFor tells now (kept slots new) (restored n given blocks)
    restored_for given holds blocks stands =
        let at_n = stored_for slots blocks n s stands.slots taken in
        stands_for tells now slots new (restored n given blocks) (same_slots (with_held given) slots blocks n (λ b. refl) stands.slots)
        (λ told. subst (λ (bytes : List ℕ). MatchesBlocks bytes slots (restored n given blocks)) (sym (same told))
        (settled_to n slots blocks (now bank) (now bank) at_n.stored (stands_told tells size now slots bank sound blocks stands told) at_n.there given refl
        (ap (λ (t : Slot). held_in (now bank) n t.block) at_n.is ∙ holds told)))

    pub fault_for : (fault : RestoreFault) → (tells → TellsTorn (now bank) n s.block fault) → (blocks : Blocks) → StandsFor tells now (kept slots bank) blocks → StandsFor tells now (kept slots new) (after_fault fault n blocks)
    fault_for fault torn blocks stands = by (words fault) refl
      where
        by : (w : Option ℕ) → words fault ≡ w → StandsFor tells now (kept slots new) (after_words w n blocks)
        by (Some told_words) is = restored_for None (λ told. (unheld (now bank) n s.block fault told_words is (torn told)).no_image) blocks stands
        by None is = unchanged_for blocks stands

pub open_there : (size : ℕ) (o : Option Slot) → IsOpenOf size o → IsSome o
open_there size None can = absurd can
open_there size (Some s) can = refl

-- the block that was found there
pub read_there : (size : ℕ) (slots : List (Option Slot)) (n : ℕ) (o : Option Slot) (s : Slot) → IsOpenOf size (slot_at slots n) → o ≡ slice_index_or slots n o → o ≡ Some s → slot_at slots n ≡ Some s
read_there size slots n o s can is found =
    let there = some_there (slot_at slots n) (open_there size (slot_at slots n) can) in
    get_or_default slots n None o (there_within slots n there.0 there.1) ∙ sym is ∙ found

pub open_parts : (size : ℕ) (slots : List (Option Slot)) (n : ℕ) (s : Slot) → IsOpenOf size (slot_at slots n) → slot_at slots n ≡ Some s → (s.doubtful ≡ false) × (s.block.size ≡ size)
open_parts size slots n s can there = subst (IsOpenOf size) there can

pub either_sound : {T S : Type 0} {D : Type 0} {E : BankFault → Type 0} (r : Result T BankFault) → (D → S) → ((fault : BankFault) → E fault → S) → OnOk r D → IfErr r E → S
either_sound (Ok x) done broke ok err = done ok
either_sound (Err fault) done broke ok err = broke fault err

comes_back_by : (bytes : List ℕ) (n : ℕ) (d : Block) (held : Option (List ℕ)) (into : List ℕ) (r : Result Unit RestoreFault) → held_in bytes n d ≡ held → OnOk r (held_in bytes n d ≡ Some into) → IfErr r (λ fault. TellsTorn bytes n d fault) → ComesBack r held into
comes_back_by bytes n d held into (Ok x) is whole torn = sym is ∙ whole
comes_back_by bytes n d held into (Err fault) is whole torn = by (words fault) refl
  where
    by : (w : Option ℕ) → words fault ≡ w → HasNone w held
    by (Some told) same = sym is ∙ (unheld bytes n d fault told same torn).no_image
    by None same = tt

told_ok : (P : Type 0) (tells : Type 0) (r : Result Unit RestoreFault) → tells → OnOk r (tells → P) → OnOk r P
told_ok P tells (Ok x) told p = p told
told_ok P tells (Err e) told p = tt

told_err : (P : RestoreFault → Type 0) (tells : Type 0) (r : Result Unit RestoreFault) → tells → IfErr r (λ fault. tells → P fault) → IfErr r P
told_err P tells (Ok x) told p = tt
told_err P tells (Err e) told p = p told

-- a block whose copies were all completed comes back
pub comes_back : {B : Type 0} (tells : Type 0) (now : B → List ℕ) (slots : List (Option Slot)) (bank : B) (n : ℕ) (s : Slot) → slot_at slots n ≡ Some s → (into : List ℕ) (r : Result Unit RestoreFault)
    → OnOk r (tells → held_in (now bank) n s.block ≡ Some into) → IfErr r (λ fault. tells → TellsTorn (now bank) n s.block fault)
    → tells → (blocks : Blocks) → StandsFor tells now (kept slots bank) blocks → ForSome (stored_at blocks n) (λ b. b.trying ≡ [] → ComesBack r b.held into)
comes_back tells now slots bank n s taken into r whole torn told blocks stands b there settled =
    let own : slot_of b ≡ s = same_Some (slot_of b) s (sym (ap (option_map slot_of) there) ∙ sym (slot_is [] slots blocks stands.slots n) ∙ taken) in
    let block_is : s.block ≡ b.block = ap (λ (t : Slot). t.block) (sym own) in
    comes_back_by (now bank) n s.block b.held into r
    (ap (held_in (now bank) n) block_is ∙ sure_gives b (held_in (now bank) n b.block) settled (stands.holds told n b there))
    (told_ok (held_in (now bank) n s.block ≡ Some into) tells r told whole)
    (told_err (TellsTorn (now bank) n s.block) tells r told torn)
