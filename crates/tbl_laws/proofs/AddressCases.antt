-- Addresses, their release, and Reads, by cases.
use Rattle.std.proofs.Common.{◌≡◌, ◌≤◌, ℕ, ◌+◌, eqb, nat_lt, List, [], true, false, not, is_some, unwrap_or, Result, Ok, Err, refl, inl, inr}
use Rattle.std.proofs.lemmas.Bool.{ltb-false, not-false, cond_both}
use Rattle.tbl_kinds.specs.Numbers.{piece}
use Rattle.tbl_model.specs.State.{State}
use Rattle.tbl_model.specs.TableSteps.{Access, image_of}
use Rattle.tbl_model.specs.AddressSteps.{stays, pin_last, get_address_of, release_of, read_of}
use Rattle.tbl_model.specs.Effects.{Effect}
use Rattle.tbl_model.specs.Addresses.{stepped, get_effect, release_effect, read_answer, read_effect}
use Rattle.tbl_kinds.specs.declared.status.Status.{Status}
use Rattle.tbl_kinds.specs.declared.status.TheConstants.Status.{ERR_INVALID_HANDLE, ERR_ALREADY_PINNED, ERR_NEVER_LOADED, ERR_NOT_PINNED, ERR_OUT_OF_RANGE}
use Rattle.tbl_laws.proofs.Cases.{HasRefusals, Leads, by_access, is_some_or, no}

module _ (s : State) (P : Effect → Type 0) (refusal : HasRefusals s P) where
  pub by_get : (app m : ℕ) → ((a : Access) → Leads s.tables app m a → eqb a.table.count 0 ≡ false → P (stepped s (pin_last s.tables m a.handle a.table))) → P (get_effect s app m)
  unfolding get_effect
  by_get app m done = by_access s P refusal app m (λ a. get_address_of s.tables m a.handle a.table) (stays s.tables ERR_INVALID_HANDLE) (stepped s) (no s P refusal ERR_INVALID_HANDLE 0 refl) (λ a leads.
      cond_both (is_some a.handle.pin) _ _ (λ step. P (stepped s step)) (λ _. no s P refusal ERR_ALREADY_PINNED 0 refl) (λ _.
      cond_both (eqb a.table.count 0) _ _ (λ step. P (stepped s step)) (λ _. no s P refusal ERR_NEVER_LOADED 0 refl) (done a leads)))

  -- if a handle pins nothing, a release of it is refused
  pub by_release : (app m : ℕ) → ((a : Access) → Leads s.tables app m a → is_some a.handle.pin ≡ true → P (stepped s (release_of s.tables m a.handle a.row a.table))) → P (release_effect s app m)
  unfolding release_effect
  by_release app m done = by_access s P refusal app m (λ a. release_of s.tables m a.handle a.row a.table) (stays s.tables ERR_INVALID_HANDLE) (stepped s) (no s P refusal ERR_INVALID_HANDLE 0 refl) (λ a leads.
      elim (is_some_or a.handle.pin) [
        | inl pinned ↦ done a leads pinned
        | inr free ↦ rw free (no s P refusal ERR_NOT_PINNED 0 refl)
      ])

  pub by_read : (app m offset len : ℕ)
      → ((a : Access) → Leads s.tables app m a → is_some a.handle.pin ≡ true → offset + len ≤ a.table.size → P (read_answer s (Ok (piece offset len (unwrap_or (image_of a.table (unwrap_or a.handle.pin 0)) [])))))
      → P (read_effect s app m offset len)
  unfolding read_effect
  by_read app m offset len done = by_access s P refusal app m (λ a. read_of a.handle a.table offset len) (Err ERR_INVALID_HANDLE) (read_answer s) (no s P refusal ERR_INVALID_HANDLE 0 refl) (λ a leads.
      cond_both (not (is_some a.handle.pin)) _ _ (λ (r : Result (List ℕ) Status). P (read_answer s r)) (λ _. no s P refusal ERR_NOT_PINNED 0 refl) (λ pinned.
      cond_both (nat_lt a.table.size (offset + len)) _ _ (λ (r : Result (List ℕ) Status). P (read_answer s r)) (λ _. no s P refusal ERR_OUT_OF_RANGE 0 refl) (λ inside.
      done a leads (not-false (is_some a.handle.pin) pinned) (ltb-false a.table.size (offset + len) inside))))
