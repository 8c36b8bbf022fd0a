-- A boot: which doubtful blocks it finds, and what a Reset leaves.
use Rattle.std.proofs.Common.{◌≡◌, ◌∙◌, ⊎_elim, inl, inr, ℕ, zero, suc, List, [], ◌∷◌, map, ◌&&◌, Bool, false, not, Option, Some, None, is_some, replicate, refl, sym, ap, arith}
use Rattle.std.specs.List.{filter, range_with_len}
use Rattle.std.specs.Option.{option_map}
use Rattle.tbl_kinds.specs.Admitted.{all_admitted}
use Rattle.tbl_kinds.specs.Blocks.{Store as Blocks}
use Rattle.tbl_kinds.specs.StoreSteps.{stored_at}
use Rattle.tbl_kinds.specs.Notes.{untouched}
use Rattle.tbl_model.specs.State.{first_state, no_tables}
use Rattle.tbl_model.specs.Boots.{if_processor, blocks_after, boot, reset_status, reset_effect}
use Rattle.tbl_model.specs.StoreNotes.{is_doubtful_at, Finds, Boots}
use Rattle.tbl_laws.proofs.Causes.{caused}
use Rattle.tbl_laws.proofs.Ordinary.{fit_at_first}
use Rattle.cds_store.specs.Boots as store
use Rattle.cds_store.specs.StoreBlocks.{StoreParts, StandsFor as HasBlocks, slot_of}
use Rattle.cds_store.specs.declared.slot.Slot.{Slot}
use Rattle.tbl_kinds.specs.declared.note.BankNote.{BankNote}
use Rattle.tbl_kinds.specs.declared.request.ResetKind.{ResetKind}
use Rattle.tbl_kinds.specs.declared.request.ResetKind.TheVariants.{Processor, PowerOn}
use Rattle.tbl_kinds.specs.declared.request.Actor.TheVariants.{Ground}
use Rattle.tbl_kinds.specs.declared.request.Request.TheVariants as ask
use Rattle.tbl_kinds.specs.declared.entry.Answer.{Answer}
use Rattle.tbl_outside.specs.Bank.{LeavesOnly}
use Rattle.tbl_outside.specs.BankCalls.{Asks}
use Rattle.cds_layout.specs.Order.{boot_calls}
use Rattle.tbl_outside.proofs.Moments.{leaves_among}
use Rattle.tbl_laws.proofs.Crashes.{before_calls}
use Rattle.cds_layout.specs.Images.{store_of}
use Rattle.cds_store.specs.Moments.{BootLeaves}
use Rattle.store_requests.specs.Called.{Leaving, with_boot, Troubled, IsSilent}
use Rattle.tbl_core.specs.Service.{PartsView, state_of, step_of, EndsIn, Makes, Meets}
use Rattle.tbl_core.specs.Verdicts.{Judged}
use Rattle.request_effects.specs.Effects.{Effect}
use Rattle.tbl_core.proofs.Verdicts.{none_judged}
use Rattle.tbl_core.proofs.Pinning.{no_pins}
use Rattle.tbl_outside.specs.declared.bank.Bank.{Ghosts}
use Rattle.tbl_outside.specs.declared.validator.Validator.{Ghosts as ValidatorGhosts}

-- ---- doubtful blocks

-- the slot of a block in doubt is in doubt
same_doubt : (blocks : Blocks) (n : ℕ) → store.is_doubtful_at (map (option_map slot_of) blocks) n ≡ is_doubtful_at blocks n
same_doubt [] n = refl
same_doubt (None ∷ blocks) zero = refl
same_doubt (Some b ∷ blocks) zero = refl
same_doubt (x ∷ blocks) (suc n) = same_doubt blocks n

pub finds : (kind : ResetKind) (slots : List (Option Slot)) (blocks shown : Blocks) (found : List ℕ) → slots ≡ map (option_map slot_of) blocks → found ≡ store.found_by kind slots shown → Finds kind false blocks found
unfolding store.found_to
finds Processor slots blocks shown found are is = record {
  which = λ n. is_some (stored_at shown n);
  are = is ∙ (λ i. filter (λ n. same n i && is_some (stored_at shown n)) (range_with_len 0 128));
} where
  same : (n : ℕ) → store.is_doubtful_at slots n ≡ is_doubtful_at blocks n
  same n = ap (λ (l : List (Option Slot)). store.is_doubtful_at l n) are ∙ same_doubt blocks n
finds PowerOn slots blocks shown found are is = is

-- ---- a Reset

-- its boot leaves the blocks, or none
reset_leaves : {B : Type 0} (g : Ghosts B) (old new : StoreParts B) (kind : ResetKind) (blocks : Blocks)
    → (g.tells_moments → LeavesOnly g.clock g.left_since old.bank new.bank (BootLeaves kind blocks)) → Leaving g old new (EndsIn (ask.Reset kind) [] blocks)
reset_leaves g old new kind blocks moments told =
    leaves_among (moments told) (λ image left. ⊎_elim (λ shows. inl (before_calls [] blocks (store_of image) shows)) (λ power_on. inr (ap ask.Reset power_on.0, power_on.1)) left)

-- what it leaves
abbrev pub after_reset : {B C : Type 0} → ResetKind → BankNote → StoreParts B → PartsView B C → PartsView B C
after_reset kind note store held = record held {
  tables = no_tables;
  pending = [];
  store = store;
  drawer = if_processor kind held.drawer [];
  apps = if_processor kind held.apps (replicate 16 None);
  ended = note.ended;
}

module _ {B C : Type 0} (g : Ghosts B) (v : ValidatorGhosts C) (old new : PartsView B C) (kind : ResetKind) (done : Effect) (kept : StoreParts B) (ended stopped : Bool) (found : List ℕ)
    (held : new ≡ after_reset kind (with_boot ended stopped found untouched) kept old)
    (note : done.note ≡ with_boot ended stopped found untouched)
    (answer : done.answer ≡ record { status = reset_status (with_boot ended stopped found untouched); detail = 0 })
    (bytes : done.bytes ≡ [])
    (silent : IsSilent done) where
  judged : Judged v old.kit new.kit [] done.verdicts
  judged =
      let same : new.kit ≡ old.kit = ap (λ (h : PartsView B C). h.kit) held in
      rw (same, silent.verdicts) (none_judged v old.kit [] untouched (None ∷ None ∷ []) refl refl)

  pub reset_makes : kept.booted ≡ not ended → Troubled g old.store.bank kept.bank (with_boot ended stopped [] untouched) → Makes g v (ask.Reset kind) old new done
  reset_makes booted trouble = record {
    fit = λ n fits. fit_at_first (suc n) (state_of new) (ap (λ (h : PartsView B C). h.tables) held) (ap (λ (h : PartsView B C). h.pending) held);
    judged = ([], judged);
    two = rw silent.verdicts refl;
    within = record {
      events = rw silent.events (omega arith);
      notice = rw silent.notice tt;
      bytes = rw bytes (omega arith);
    };
    booted = ap (λ (h : PartsView B C). h.store.booted) held ∙ booted ∙ sym (ap not (ap (λ (h : PartsView B C). h.ended) held));
    ended = rw note (ap (λ (h : PartsView B C). h.ended) held);
    stopped = rw note (λ is. absurd (cc is));
    trouble = let same : new.store.bank ≡ kept.bank = ap (λ (h : PartsView B C). h.store.bank) held in rw same (record { fault_count = trouble.fault_count; stop_count = trouble.stop_count; fault = rw note trouble.fault; stop = rw note trouble.stop; no_fault = rw note trouble.no_fault; no_stop = rw note trouble.no_stop });
    cause = rw (answer, note) (caused (first_state [] [] all_admitted) (record { note = with_boot ended stopped found untouched; verdicts = [] }) Ground (ask.Reset kind));
    pins = λ has. no_pins old.tables new.tables (ask.Reset kind) done.answer.status (ap (λ (h : PartsView B C). h.tables) held) (λ n. refl);
  }

  pub reset_meets : (g.tells_moments → (blocks : Blocks) → HasBlocks g.tells g.now old.store blocks → LeavesOnly g.clock g.left_since old.store.bank kept.bank (BootLeaves kind blocks))
      → (g.tells → (blocks : Blocks) → HasBlocks g.tells g.now old.store blocks → Boots (Some kind) blocks (with_boot ended stopped found untouched))
      → (g.tells → (blocks : Blocks) → HasBlocks g.tells g.now old.store blocks → ended ≡ false → HasBlocks g.tells g.now kept (blocks_after kind (with_boot ended stopped found untouched) blocks))
      → old.ended ≡ false
      → (g.tells → Asks g.tells_calls g.calls old.store.bank kept.bank (not ended) (boot_calls kind (g.now old.store.bank)))
      → Meets g v (step_of old new (ask.Reset kind)) (λ s given. Some (reset_effect s kind given.note)) done
  reset_meets moments boots blocks live asked told s holds n follows =
      let same : n ≡ with_boot ended stopped found untouched = follows.same (rw note (λ is. cc is)) ∙ note in
      rw same (record {
        before = boot kind (with_boot ended stopped found untouched) s;
        holds = rw held (record {
          parts = record {
            tables = refl;
            pending = refl;
            store = refl;
            drawer = ap (λ drawer. if_processor kind drawer []) holds.parts.drawer;
            apps = ap (λ apps. if_processor kind apps (replicate 16 None)) holds.parts.apps;
            kit = holds.parts.kit;
            admit = holds.parts.admit;
            seconds = holds.parts.seconds;
            sub = holds.parts.sub;
            ended = refl;
          };
          blocks = λ goes. blocks told s.store (holds.blocks live) goes;
        });
        effect = record {
          status = sym (ap (λ (a : Answer). a.status) answer);
          detail = sym (ap (λ (a : Answer). a.detail) answer);
          bytes = sym bytes;
          table = sym silent.table;
          events = sym silent.events;
          shown = sym silent.shown;
          questions = refl;
          calls = refl;
          notice = sym silent.notice;
          next = refl;
        };
        judged = judged;
        gave = tt;
        left = λ stop. absurd (cc stop);
        writing = λ stop. absurd (cc stop);
        moments =
            let leaves : Leaving g old.store kept (EndsIn (ask.Reset kind) [] s.store) = reset_leaves g old.store kept kind s.store (λ m. moments m s.store (holds.blocks live)) in
            rw (ap (λ (h : PartsView B C). h.store) held) leaves;
        noted = λ _. record { ends = (refl, refl, (refl, refl)); gave = tt; tells = (refl, refl); boots = boots told s.store (holds.blocks live) };
        asked = record {
          called = old.store;
          asked = refl;
          blocks_left = holds.blocks live;
          booted = rw (ap (λ (h : PartsView B C). h.store) held) (asked told);
        };
      })
