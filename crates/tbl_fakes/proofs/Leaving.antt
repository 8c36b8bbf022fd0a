-- What a reset may leave of a bank in memory goes on with each call.
use Rattle.std.proofs.Common.{◌≡◌, ◌⊎◌, inl, inr, ⊎_elim, ℕ, ◌+◌, ◌≤◌, List, [], ◌∷◌, ◌++◌, length, take, drop, refl, sym, ◌∙◌, ap, subst, arith, length-append}
use Rattle.std.proofs.lemmas.List.{drop-append-le}
use Rattle.tbl_kinds.specs.Numbers.{patched}
use Rattle.tbl_outside.specs.Bank.{Torn, LeavesOnly}
use Rattle.tbl_outside.proofs.Pieces.{torn_same, torn_front}
use Rattle.tbl_fakes.specs.Banks.{Banking, written_over, IsFromInside, moment, MayHaveLeft, only_bytes}
use Rattle.tbl_fakes.specs.Past.{Passed}

kept : (past : List Passed) (write : Passed) (image : List ℕ) → IsFromInside past image → IsFromInside (past ++ write ∷ []) image
kept [] write image inside = absurd inside
kept (first ∷ past) write image (inl here) = inl here
kept (first ∷ past) write image (inr there) = inr (kept past write image there)

newest : (past : List Passed) (write : Passed) (image : List ℕ) → Torn write.span.at write.span.length write.before image → IsFromInside (past ++ write ∷ []) image
newest [] write image torn = inl torn
newest (first ∷ past) write image torn = inr (newest past write image torn)

no_other : (past : List Passed) (write : Passed) (image : List ℕ) → IsFromInside (past ++ write ∷ []) image → IsFromInside past image ⊎ Torn write.span.at write.span.length write.before image
no_other [] write image (inl torn) = inr torn
no_other [] write image (inr none) = absurd none
no_other (first ∷ past) write image (inl here) = inl (inl here)
no_other (first ∷ past) write image (inr there) = ⊎_elim (λ inside. inl (inr inside)) (λ torn. inr torn) (no_other past write image there)

-- one write more
module _ (old new : Banking) (write : Passed) (first : write.before ≡ old.bytes) (more : new.past ≡ old.past ++ write ∷ []) (torn : Torn write.span.at write.span.length old.bytes new.bytes) where
  since : (t : ℕ) → t ≤ moment old → drop t new.past ≡ drop t old.past ++ write ∷ []
  since t le = ap (drop t) more ∙ drop-append-le t old.past (write ∷ []) le

  adds_only : (t : ℕ) (image : List ℕ) → t ≤ moment old → MayHaveLeft new t image → MayHaveLeft old t image ⊎ Torn write.span.at write.span.length old.bytes image
  adds_only t image le (inl now) = inr (subst (Torn write.span.at write.span.length old.bytes) (sym now) torn)
  adds_only t image le (inr inside) =
      ⊎_elim (λ was. inl (inr was)) (λ is_torn. inr (subst (λ (l : List ℕ). Torn write.span.at write.span.length l image) first is_torn))
      (no_other (drop t old.past) write image (subst (λ (l : List Passed). IsFromInside l image) (since t le) inside))

  keeps : (t : ℕ) (image : List ℕ) → t ≤ moment old → MayHaveLeft old t image → MayHaveLeft new t image
  keeps t image le (inl now) =
      let unchanged : Torn write.span.at write.span.length write.before image =
      subst (λ (l : List ℕ). Torn write.span.at write.span.length l image) (now ∙ sym first) (torn_same write.span.at write.span.length image) in
      inr (subst (λ (l : List Passed). IsFromInside l image) (sym (since t le)) (newest (drop t old.past) write image unchanged))
  keeps t image le (inr inside) =
      inr (subst (λ (l : List Passed). IsFromInside l image) (sym (since t le)) (kept (drop t old.past) write image inside))

  leaves_write : LeavesOnly moment MayHaveLeft old new (Torn write.span.at write.span.length old.bytes)
  leaves_write = record {
    later = omega (arith, ap length more, length-append old.past (write ∷ []));
    each = λ image left.
        ⊎_elim
        (λ was. subst (Torn write.span.at write.span.length old.bytes) (sym (only_bytes old image was)) (torn_same write.span.at write.span.length old.bytes))
        (λ is_torn. is_torn)
        (adds_only (moment old) image (omega arith) left);
    adds_only = adds_only;
    keeps = keeps;
  }

-- a front of a piece was written
pub leaves_front : (old new : Banking) (at reach : ℕ) (others : List ℕ) → at + length others ≤ length old.bytes
    → new.bytes ≡ patched old.bytes at (take reach others)
    → new.past ≡ old.past ++ written_over old at (length others) ∷ []
    → LeavesOnly moment MayHaveLeft old new (Torn at (length others) old.bytes)
leaves_front old new at reach others fits bytes more =
    leaves_write old new (written_over old at (length others)) refl more
    (subst (Torn at (length others) old.bytes) (sym bytes) (torn_front old.bytes at reach others fits))

-- each image from inside a write may have been left
pub leaves_inside : (old : Banking) (past : List Passed) (at count : ℕ) (image : List ℕ) {bytes : List ℕ} → past ≡ old.past ++ written_over old at count ∷ []
    → Torn at count old.bytes image → (image ≡ bytes) ⊎ IsFromInside (drop (moment old) past) image
leaves_inside old past at count image more torn =
    let since : drop (moment old) past ≡ drop (moment old) old.past ++ written_over old at count ∷ [] =
    ap (drop (moment old)) more ∙ drop-append-le (moment old) old.past (written_over old at count ∷ []) (omega arith) in
    inr (subst (λ (l : List Passed). IsFromInside l image) (sym since) (newest (drop (moment old) old.past) (written_over old at count) image torn))
