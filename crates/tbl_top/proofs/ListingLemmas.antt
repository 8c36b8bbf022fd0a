-- A listing before anything of it was written.
use Rattle.std.proofs.Common.{◌≡◌, ◌≢◌, ℕ, List, refl, arith, ◌⊎◌, inl, inr}
use Rattle.cds_layout.specs.Images.{store_of}
use Rattle.cds_layout.specs.Texts.{text_of}
use Rattle.tbl_outside.specs.Bank.{LeavesOnly}
use Rattle.tbl_outside.specs.Counts.{Rose, Still}
use Rattle.tbl_outside.specs.declared.bank.Bank.{Ghosts}
use Rattle.tbl_stream.specs.Writing.{Taken}
use Rattle.tbl_top.specs.Listing.{ListsStore, ListsThrough, TellsText}

module _ {B : Type 0} (g : Ghosts B) (bank bank_then : B) (before : Taken) (kept : g.tells → g.now bank_then ≡ g.now bank)
    (moments : g.tells_moments → LeavesOnly g.clock g.left_since bank bank_then (λ image. image ≡ g.now bank)) where
  pub without_memory : Still g.faults g.stops bank bank_then → ListsStore g bank bank_then 1 before before
  without_memory still = record {
    known = inr (inl refl);
    text = text_of (store_of (g.now bank));
    shown = λ _. refl;
    told = record { whole = λ e. absurd (omega (arith, e)); broken = λ e. absurd (omega (arith, e)); silent = inr (inr refl); calm = λ _. refl };
    fault = λ e. absurd (omega (arith, e));
    still = λ _. still;
    kept = kept;
    moments = moments;
  }

  pub after_fault : Rose (g.faults bank) (g.faults bank_then) → ListsStore g bank bank_then 7 before before
  after_fault rose = record {
    known = inr (inr (inr refl));
    text = text_of (store_of (g.now bank));
    shown = λ _. refl;
    told = record { whole = λ e. absurd (omega (arith, e)); broken = λ e. absurd (omega (arith, e)); silent = inr (inr refl); calm = λ _. refl };
    fault = λ _. rose;
    still = λ other. absurd (other refl);
    kept = kept;
    moments = moments;
  }

  pub written : (text : List ℕ) (status : ℕ) (after : Taken) → (g.tells → text ≡ text_of (store_of (g.now bank))) → (status ≡ 0) ⊎ (status ≡ 4) → TellsText status text before after → Still g.faults g.stops bank bank_then
      → ListsStore g bank bank_then status before after
  written text status after shown ended told still = record {
    known = known ended;
    text = text;
    shown = shown;
    told = told;
    fault = λ seven. absurd (other ended seven);
    still = λ _. still;
    kept = kept;
    moments = moments;
  } where
    known : (status ≡ 0) ⊎ (status ≡ 4) → (status ≡ 0) ⊎ (status ≡ 1) ⊎ (status ≡ 4) ⊎ (status ≡ 7)
    known (inl zero) = inl zero
    known (inr four) = inr (inr (inl four))

    other : (status ≡ 0) ⊎ (status ≡ 4) → status ≡ 7 → ⊥
    other (inl zero) seven = omega (arith, zero, seven)
    other (inr four) seven = omega (arith, four, seven)

-- it is written, unless something failed
pub lists_through : {B : Type 0} (g : Ghosts B) (bank bank_then : B) (status : ℕ) (before after : Taken) → ListsStore g bank bank_then status before after → ListsThrough g bank bank_then status before.1 after.1
lists_through g bank bank_then status before after lists = by lists.known where
  by : (status ≡ 0) ⊎ (status ≡ 1) ⊎ (status ≡ 4) ⊎ (status ≡ 7) → ListsThrough g bank bank_then status before.1 after.1
  by (inl zero) = λ calm_sink calm_bank. inl zero
  by (inr (inl one)) = λ calm_sink calm_bank. inr one
  by (inr (inr (inl four))) = λ calm_sink calm_bank. absurd (calm_sink (lists.told.broken four).1)
  by (inr (inr (inr seven))) = λ calm_sink calm_bank. absurd (calm_bank (lists.fault seven))

pub lists_not_usage : {B : Type 0} (g : Ghosts B) (bank bank_then : B) (status : ℕ) (before after : Taken) → ListsStore g bank bank_then status before after → status ≢ 2
lists_not_usage g bank bank_then status before after lists = by lists.known where
  by : (status ≡ 0) ⊎ (status ≡ 1) ⊎ (status ≡ 4) ⊎ (status ≡ 7) → status ≢ 2
  by (inl zero) = λ two. omega (arith, zero, two)
  by (inr (inl one)) = λ two. omega (arith, one, two)
  by (inr (inr (inl four))) = λ two. omega (arith, four, two)
  by (inr (inr (inr seven))) = λ two. omega (arith, seven, two)
