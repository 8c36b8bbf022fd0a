-- Requests about blocks of the store, by cases.
use Rattle.std.proofs.Common.{◌≡◌, ℕ, eqb, List, [], ◌∷◌, length, ap, true, false, not, Option, Some, None, unwrap_or, refl}
use Rattle.std.proofs.lemmas.Bool.{not-false, and_parts}
use Rattle.tbl_kinds.specs.Blocks.{Stored}
use Rattle.tbl_kinds.specs.StoreSteps.{same_kind, open_of, stored_at}
use Rattle.tbl_kinds.specs.StoreCalls.{StoreCall, copy, restore, delete}
use Rattle.tbl_kinds.specs.Notes.{restored_image}
use Rattle.tbl_model.specs.State.{State}
use Rattle.tbl_model.specs.Effects.{Effect, answered}
use Rattle.tbl_model.specs.Subjects.{name_of}
use Rattle.tbl_model.specs.Applications.{full_name}
use Rattle.tbl_model.specs.BankCounts.{tells_trouble}
use Rattle.tbl_model.specs.Boots.{boot, stopped}
use Rattle.tbl_model.specs.StoreUse.{left_by, with_calls, by_outcome, then_call}
use Rattle.tbl_model.specs.AppBlocks.{faulted, renewal, new_slot, block_effect, cds_register_effect, is_own, by_block, if_block, cds_copy_effect, restore_answer, cds_restore_effect, cds_delete_effect}
use Rattle.tbl_kinds.specs.declared.block.BlockKind.TheVariants.{App}
use Rattle.tbl_kinds.specs.declared.note.BankNote.{BankNote}
use Rattle.tbl_kinds.specs.declared.note.Outcome.{Outcome}
use Rattle.tbl_kinds.specs.declared.note.Outcome.TheVariants.{Untouched, Done, Failed, Stopped}
use Rattle.tbl_kinds.specs.declared.request.ResetKind.TheVariants.{Processor}
use Rattle.tbl_kinds.specs.declared.status.TheConstants.Status.{SUCCESS, ERR_INVALID_NAME, INFO_CDS_EXISTS, ERR_INVALID_SIZE, ERR_IMAGE_SIZE, ERR_CDS_NOT_FOUND, ERR_CDS_NO_ROOM, ERR_CDS_TORN}
use Rattle.tbl_laws.proofs.Cases.{CallsStore, HasRefusals, by_name, no, unless, unless_then}

module _ (s : State) (P : Effect → Type 0) (refusal : HasRefusals s P) where
  -- the calls that each request makes, if nothing refuses it
  pub makes_block : (app : ℕ) (short : List ℕ) (size : ℕ) (note : BankNote)
      → ((name : List ℕ) → P (then_call (renewal App name size (open_of App name s.store)) note faulted (answered s SUCCESS (new_slot App name (open_of App name s.store) s.store)))) → P (cds_register_effect s app short size note)
  unfolding cds_register_effect
  makes_block app short size note done = by_name s P refusal (name_of s app) _ (λ app_name. unless s P refusal _ ERR_INVALID_NAME 0 _ refl (unless s P refusal _ ERR_INVALID_SIZE 0 _ refl (of (full_name app_name short)))) where
    of : (name : List ℕ) → P (block_effect s name size note (open_of App name s.store))
    of name = unless s P refusal _ INFO_CDS_EXISTS (unwrap_or (open_of App name s.store) 0) _ refl (unless s P refusal _ ERR_CDS_NO_ROOM 0 _ refl (done name))

  by_own_block : (app slot : ℕ) (effect : Stored → Effect) → ((b : Stored) → stored_at s.store slot ≡ Some b → same_kind b.block.kind App ≡ true → P (effect b)) → P (if_block s app slot effect)
  by_own_block app slot effect done = by_name s P refusal (name_of s app) _ (λ app_name. found app_name (stored_at s.store slot) refl) where
    found : (app_name : List ℕ) (b : Option Stored) → stored_at s.store slot ≡ b → P (by_block s app_name b effect)
    found app_name None there = no s P refusal ERR_CDS_NOT_FOUND 0 refl
    found app_name (Some b) there = unless_then s P refusal (not (is_own app_name b)) ERR_CDS_NOT_FOUND 0 _ refl (λ own. done b there (and_parts (same_kind b.block.kind App) _ (and_parts _ _ (not-false (is_own app_name b) own)).0).0)

  pub copies_block : (app slot : ℕ) (image : List ℕ) (note : BankNote) → P (then_call (copy slot image ∷ []) note faulted (answered s SUCCESS 0)) → P (cds_copy_effect s app slot image note)
  unfolding cds_copy_effect
  copies_block app slot image note done = by_own_block app slot _ (λ b there own. unless s P refusal (not (eqb (length image) b.block.size)) ERR_IMAGE_SIZE 0 _ refl done)

  pub restores_block : (app slot : ℕ) (note : BankNote)
      → ((e : Effect) → e.next ≡ s → e.events ≡ [] → tells_trouble e.status ≡ false → P (then_call (restore slot (restored_image note) ∷ []) note faulted e)) → P (cds_restore_effect s app slot note)
  unfolding cds_restore_effect
  restores_block app slot note done = by_own_block app slot _ (λ b there own. given (restored_image note)) where
    given : (restored : Option (List ℕ)) → P (then_call (restore slot (restored_image note) ∷ []) note faulted (restore_answer s note.torn restored))
    given None = done (answered s ERR_CDS_TORN note.torn) refl refl refl
    given (Some image) = done (record (answered s SUCCESS 0) { bytes = image }) refl refl refl

  pub deletes_block : (app slot : ℕ) (note : BankNote)
      → ((b : Stored) → stored_at s.store slot ≡ Some b → same_kind b.block.kind App ≡ true → P (then_call (delete slot ∷ []) note faulted (answered s SUCCESS 0))) → P (cds_delete_effect s app slot note)
  unfolding cds_delete_effect
  deletes_block app slot note done = by_own_block app slot _ done

  -- what they make of the request
  module _ (note : BankNote) (calls_store : CallsStore s note P) where
    pub by_calls : (calls : List StoreCall) (e : Effect) → e.next ≡ s → e.events ≡ [] → tells_trouble e.status ≡ false → P (then_call calls note faulted e)
    by_calls calls e same no_events no_trouble = by note.outcome refl where
      next : (with_calls calls note e).next ≡ record s { store = left_by calls note e.next.store }
      next = ap (λ (t : State). record t { store = left_by calls note e.next.store }) same

      by : (outcome : Outcome) → note.outcome ≡ outcome → P (by_outcome outcome (with_calls calls note e) (faulted (with_calls calls note e)) (stopped note (with_calls calls note e)))
      by Untouched is = calls_store.answers (left_by calls note e.next.store) _ next no_events no_trouble
      by Done is = calls_store.answers (left_by calls note e.next.store) _ next no_events no_trouble
      by Failed is = calls_store.fails (left_by calls note e.next.store) _ is next no_events refl
      by Stopped is = calls_store.restarts (left_by calls note e.next.store) _ is (ap (boot Processor note) next) no_events refl

    pub by_cds_register : (app : ℕ) (short : List ℕ) (size : ℕ) → P (cds_register_effect s app short size note)
    by_cds_register app short size = makes_block app short size note (λ name. by_calls _ (answered s SUCCESS (new_slot App name (open_of App name s.store) s.store)) refl refl refl)

    pub by_cds_copy : (app slot : ℕ) (image : List ℕ) → P (cds_copy_effect s app slot image note)
    by_cds_copy app slot image = copies_block app slot image note (by_calls (copy slot image ∷ []) (answered s SUCCESS 0) refl refl refl)

    pub by_cds_restore : (app slot : ℕ) → P (cds_restore_effect s app slot note)
    by_cds_restore app slot = restores_block app slot note (by_calls (restore slot (restored_image note) ∷ []))

    pub by_delete : (slot : ℕ) → P (then_call (delete slot ∷ []) note faulted (answered s SUCCESS 0))
    by_delete slot = by_calls (delete slot ∷ []) (answered s SUCCESS 0) refl refl refl

    pub by_cds_delete : (app slot : ℕ) → P (cds_delete_effect s app slot note)
    by_cds_delete app slot = deletes_block app slot note (λ b there own. by_delete slot)
