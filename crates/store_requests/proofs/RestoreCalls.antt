-- A restore of a block: what the bank shows of the block is what it gave.
use Rattle.std.proofs.Common.{◌≡◌, ℕ, List, [], ◌∷◌, length, false, Option, Some, None, refl, sym, ◌∙◌, ap, subst}
use Rattle.std.specs.Prelude.{slice_index_or, map, option_and_then}
use Rattle.std.specs.Option.{ForSome, option_map}
use Rattle.std.proofs.lemmas.Option.{same_Some}
use Rattle.tbl_kinds.specs.Blocks.{Stored, Store as Blocks}
use Rattle.tbl_kinds.specs.StoreCalls.{restore, after}
use Rattle.tbl_kinds.specs.StoreSteps.{stored_at, Shows, MayShow, MayGive}
use Rattle.tbl_kinds.specs.Buffers.{Buffer}
use Rattle.tbl_kinds.specs.Notes.{untouched, restored_image}
use Rattle.tbl_kinds.specs.declared.block.Block.{Block}
use Rattle.tbl_kinds.specs.declared.note.BankNote.{BankNote}
use Rattle.tbl_kinds.specs.declared.status.TheConstants.Status.{SUCCESS, ERR_CDS_TORN}
use Rattle.tbl_model.specs.State.{State}
use Rattle.tbl_model.specs.StoreNotes.{MayGo}
use Rattle.cds_layout.specs.Directory.{directory_of}
use Rattle.cds_layout.specs.Images.{held_in, stored_in, store_of}
use Rattle.cds_layout.specs.Restores.{TellsTorn, words}
use Rattle.cds_layout.specs.declared.blocks.RestoreFault.{RestoreFault}
use Rattle.cds_layout.proofs.Restored.{unheld}
use Rattle.cds_layout.proofs.Stored.{stored_there}
use Rattle.cds_store.specs.Sound.{slot_at}
use Rattle.cds_store.specs.StoreBlocks.{StoreParts, StandsFor, AreHeld, slot_of, held_at, after_words, after_fault}
use Rattle.cds_store.specs.declared.fault.BankFault.TheVariants.{Fault}
use Rattle.cds_store.specs.declared.slot.Slot.{Slot}
use Rattle.cds_store.proofs.Showing.{slot_is}
use Rattle.tbl_session.specs.Crashes.{DuringCalls}
use Rattle.tbl_session.specs.Restores.{GaveHeld}
use Rattle.tbl_outside.specs.declared.bank.Bank.{Ghosts}
use Rattle.request_effects.specs.Effects.{Effect}
use Rattle.store_requests.specs.BankCalls.{AsksIn}
use Rattle.store_requests.specs.Called.{Leaving, Calls, broken_note, done_note, torn_note, IsGiven, IsTold, IsUngiven}
use Rattle.store_requests.specs.OwnBlocks.{restoring}
use Rattle.store_requests.proofs.Calls.{told_with, by_note, calls_done, calls_broke}

-- what the bank shows of a block is what is in it
held_is : (bytes : List ℕ) (n : ℕ) (o : Option Block) (left : Stored) → option_map (stored_in bytes n) o ≡ Some left → left.held ≡ held_in bytes n left.block
held_is bytes n None left is = absurd (cc is)
held_is bytes n (Some b) left is = subst (λ (x : Stored). x.held ≡ held_in bytes n x.block) (same_Some (stored_in bytes n b) left is) refl

-- an image that came back is what the block of the slot held
pub held_image : (bytes : List ℕ) (blocks : Blocks) (slot : ℕ) (image : List ℕ) → Shows blocks (store_of bytes) → held_at slot (store_of bytes) ≡ Some image → ForSome (stored_at blocks slot) (λ b. held_in bytes slot b.block ≡ Some image)
held_image bytes blocks slot image shows held b there = by (stored_at (store_of bytes) slot) refl held (subst (λ o. MayShow o (stored_at (store_of bytes) slot)) there (shows.each slot)) where
  by : (o : Option Stored) → stored_at (store_of bytes) slot ≡ o → option_and_then (λ (b : Stored). b.held) (stored_at (store_of bytes) slot) ≡ Some image → MayShow (Some b) (stored_at (store_of bytes) slot) → held_in bytes slot b.block ≡ Some image
  by None is held shown = absurd (cc (ap (option_and_then (λ (b : Stored). b.held)) is, held))
  by (Some left) is held shown =
      let same : left.block ≡ b.block = ap (λ (x : Stored). x.block) (subst (MayShow (Some b)) is shown).0 in
      let whole : left.held ≡ Some image = sym (ap (option_and_then (λ (b : Stored). b.held)) is) ∙ held in
      sym (ap (held_in bytes slot) same) ∙ sym (held_is bytes slot (slice_index_or (directory_of bytes) slot None) left (sym (stored_there bytes slot) ∙ is)) ∙ whole

-- the block of a slot that represents blocks
pub block_there : (slots : List (Option Slot)) (blocks : Blocks) (slot : ℕ) (b : Stored) → slots ≡ map (option_map slot_of) blocks → stored_at blocks slot ≡ Some b → slot_at slots slot ≡ Some (slot_of b)
block_there slots blocks slot b same there = slot_is [] slots blocks same slot ∙ ap (option_map slot_of) there

-- what the bank shows of the block in a slot is what a restore of it may give
module _ (bytes : List ℕ) (blocks : Blocks) (slot : ℕ) where
  pub gives_image : (image : List ℕ) → Shows blocks (store_of bytes) → held_at slot (store_of bytes) ≡ Some image → ForSome (stored_at blocks slot) (λ b. MayGive b (Some image))
  gives_image image shows held b there = by (stored_at (store_of bytes) slot) refl held (subst (λ o. MayShow o (stored_at (store_of bytes) slot)) there (shows.each slot)) where
    by : (o : Option Stored) → stored_at (store_of bytes) slot ≡ o → option_and_then (λ (b : Stored). b.held) (stored_at (store_of bytes) slot) ≡ Some image → MayShow (Some b) (stored_at (store_of bytes) slot) → MayGive b (Some image)
    by None is held shown = absurd (cc (ap (option_and_then (λ (b : Stored). b.held)) is, held))
    by (Some left) is held shown = subst (MayGive b) (sym (ap (option_and_then (λ (b : Stored). b.held)) is) ∙ held) (subst (MayShow (Some b)) is shown).1

  pub gives_none : (slots : List (Option Slot)) → slots ≡ map (option_map slot_of) blocks → AreHeld bytes blocks
      → ForSome (slot_at slots slot) (λ t. held_in bytes slot t.block ≡ None) → ForSome (stored_at blocks slot) (λ b. MayGive b None)
  gives_none slots same held none b there =
      let at : slot_at slots slot ≡ Some (slot_of b) = slot_is [] slots blocks same slot ∙ ap (option_map slot_of) there in
      subst (MayGive b) (none (slot_of b) at) (held slot b there)

-- what it gave is what the block held
module _ (bytes : List ℕ) (blocks : Blocks) (slot : ℕ) where
  pub image_held : (image : List ℕ) (n : BankNote) → Shows blocks (store_of bytes) → held_at slot (store_of bytes) ≡ Some image → restored_image n ≡ Some image → ForSome (stored_at blocks slot) (λ b. GaveHeld bytes slot b.block n)
  image_held image n shows held gave b there = record {
    image = gave ∙ sym (held_image bytes blocks slot image shows held b there);
    words = λ none. absurd (cc (none, gave));
  }

  pub torn_held : (slots : List (Option Slot)) (broke : RestoreFault) (told_words : ℕ) (n : BankNote) → slots ≡ map (option_map slot_of) blocks → words broke ≡ Some told_words
      → ForSome (slot_at slots slot) (λ t. TellsTorn bytes slot t.block broke) → restored_image n ≡ None → n.torn ≡ told_words → ForSome (stored_at blocks slot) (λ b. GaveHeld bytes slot b.block n)
  torn_held slots broke told_words n same is none gave torn b there =
      let un = unheld bytes slot b.block broke told_words is (none (slot_of b) (block_there slots blocks slot b same there)) in record {
        image = gave ∙ sym un.no_image;
        words = λ _. torn ∙ un.words_are;
      }

module _ {B : Type 0} (g : Ghosts B) (first kept : StoreParts B) (s : State) (done : Effect) (slot : ℕ) (tells : g.tells) (stands : StandsFor g.tells g.now first s.store) (moments : Leaving g first kept (DuringCalls [] s.store)) (asked : AsksIn g first kept done.note.outcome (restore slot None ∷ [])) where
  abbrev Restores : Type 0
  Restores = Calls g first kept s done (restoring s slot)

  pub given_called : (image : List ℕ) → held_at slot (store_of (g.now first.bank)) ≡ Some image → ForSome (stored_at s.store slot) (λ b. length image ≡ b.block.size)
      → StandsFor g.tells g.now kept (after (restore slot (Some image)) s.store) → IsGiven done image → Restores
  given_called image held sized left given = by done.note.restored given.noted.gave (told_with refl given.noted.done given.told) where
    by : (gave : Option Buffer) → option_map (λ (b : Buffer). b.list) gave ≡ Some image → IsTold done SUCCESS 0 image (record (done_note untouched) { restored = gave }) → Restores
    by None is told = absurd (cc is)
    by (Some b) is told =
        let same : b.list ≡ image = same_Some b.list image is in
        by_note g first kept s done (restoring s slot) (record (done_note untouched) { restored = Some b }) told.note_is
        (calls_done g first kept s done (restore slot (Some b.list) ∷ []) SUCCESS 0 b.list (record untouched { restored = Some b }) moments asked (told_with (sym same) refl told)
        (subst (λ i. StandsFor g.tells g.now kept (after (restore slot (Some i)) s.store)) (sym same) left) (λ is. cc is) refl (refl, refl)
        (subst (λ (i : List ℕ). MayGo (restore slot (Some i)) s.store) (sym same) (λ b there. (gives_image (g.now first.bank) s.store slot image (stands.shows tells) held b there, sized b there)), tt)
        (λ n restored torn. (ap (option_map (λ (b : Buffer). b.list)) restored, λ given. torn))
        (λ n restored torn went. image_held (g.now first.bank) s.store slot image n (stands.shows tells) held (ap (option_map (λ (b : Buffer). b.list)) restored ∙ is)))

  pub ungiven_called : (broke : RestoreFault) → ForSome (slot_at first.slots slot) (λ t. TellsTorn (g.now first.bank) slot t.block broke)
      → ((blocks : Blocks) → StandsFor g.tells g.now first blocks → StandsFor g.tells g.now kept (after_fault broke slot blocks))
      → IsUngiven done (words broke) → Restores
  ungiven_called broke none left answer = by (words broke) refl (left s.store stands) answer where
    by : (w : Option ℕ) → words broke ≡ w → StandsFor g.tells g.now kept (after_words w slot s.store) → IsUngiven done w → Restores
    by (Some told_words) is there answer =
        let gives = gives_none (g.now first.bank) s.store slot first.slots stands.slots (stands.holds tells) (λ t at. (unheld (g.now first.bank) slot t.block broke told_words is (none t at)).no_image) in
        by_note g first kept s done (restoring s slot) (torn_note told_words) answer.note_is
        (calls_done g first kept s done (restore slot None ∷ []) ERR_CDS_TORN told_words [] (record untouched { torn = told_words }) moments asked answer there (λ is. cc is) refl (refl, refl) ((λ b there. (gives b there, tt)), tt)
        (λ n restored torn. (ap (option_map (λ (b : Buffer). b.list)) restored, λ given. absurd (cc given)))
        (λ n restored torn went. torn_held (g.now first.bank) s.store slot first.slots broke told_words n stands.slots is none (ap (option_map (λ (b : Buffer). b.list)) restored) torn))
    by None is there answer =
        by_note g first kept s done (restoring s slot) (broken_note (Fault false false) untouched) answer.note_is
        (calls_broke g first kept s done (restore slot None ∷ []) ERR_CDS_TORN 0 [] untouched moments asked (restore slot None) refl (Fault false false) answer there (refl, refl) (λ is. absurd (cc is)) tt (λ n restored torn. (restored, torn)))
