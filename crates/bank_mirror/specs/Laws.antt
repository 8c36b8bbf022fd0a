-- Laws of two banks as one, which its impl of `Bank` cites.
use Rattle.std.proofs.Common.{◌≡◌, inl, inr, ℕ, zero, suc, ◌<◌, ◌≤◌, ◌==◌, List, [], ◌∷◌, length, drop, Bool, true, false, refl, sym, ◌∙◌, ap, subst, arith}
use Rattle.std.specs.Prelude.{slice_index}
use Rattle.std.proofs.lemmas.Bool.{cases_lt}
use Rattle.std.proofs.lemmas.List.{length-take}
use Rattle.tbl_outside.specs.declared.bank.Bank.{Ghosts}
use Rattle.bank_mirror.specs.Pairs.{Pair, stale, is_stale, pair_of}
use Rattle.bank_mirror.specs.Moments.{moment, From, MayLeave, LeftSince}

drop_all : {X : Type 0} (xs : List X) → drop (length xs) xs ≡ []
drop_all [] = refl
drop_all (x ∷ xs) = drop_all xs

-- since now, nothing is left but what may be left now
pub none_since : {A B : Type 0} (a : Ghosts A) (b : Ghosts B) (pair : Pair A B) (image : List ℕ) → LeftSince a b pair (moment pair) image → MayLeave a b pair image
none_since a b pair image (inl now) = now
none_since a b pair image (inr came) =
    absurd (subst (λ past. From a b past (pair.first, pair.second) image) (drop_all pair.past) came)

-- a byte after the end isn't the mark
past_end : (bytes : List ℕ) (place : ℕ) → length bytes ≤ place → slice_index bytes place ≡ 0
past_end [] place le = refl
past_end (x ∷ bytes) zero le = absurd (omega (arith, le))
past_end (x ∷ bytes) (suc place) le = past_end bytes place (omega (arith, le))

pub stale_within : (size : ℕ) (second : List ℕ) → is_stale size second ≡ true → size < length second
stale_within size second is = elim (cases_lt size (length second)) [
  | inl within ↦ within
  | inr past ↦ absurd (cc (sym is ∙ ap (λ n. n == stale) (past_end second size past)))
]

-- so the pair has as many bytes as the first
pub length-pair_of : (first second : List ℕ) → length (pair_of first second) ≡ length first
length-pair_of first second = by (is_stale (length first) second) refl where
  by : (s : Bool) → is_stale (length first) second ≡ s → length (pair_of first second) ≡ length first
  by false is = rw is refl
  by true is = rw is (simp length-take (let within = stale_within (length first) second is in omega (arith, within)))
