-- The validation functions that a service begins with.
use Rattle.std.proofs.Common.{◌≡◌, ◌∙◌, ◌<◌, ℕ, List, length, map, Some, None, sym, subst, inl, inr, arith}
use Rattle.std.specs.Prelude.{All, slice_index_or}
use Rattle.std.proofs.lemmas.Bool.{cases_lt}
use Rattle.std.proofs.lemmas.List.{get_or-map, get_or_past, length-map}
use Rattle.std.proofs.lemmas.Option.{same_Some}
use Rattle.tbl_outside.specs.declared.validator.KitEntry.{KitEntry}
use Rattle.tbl_core.specs.Service.{AskedBelow}

-- if each was asked fewer times than this, so was what has each number
pub seldom_asked : {C : Type 0} (asked : C → ℕ) (most : ℕ) (entries : List (KitEntry C)) → All (λ (e : KitEntry C). asked e.check < most) entries → AskedBelow asked most (map (λ entry. Some entry) entries)
seldom_asked asked most entries few number entry there = elim (cases_lt number (length entries)) [
  | inl is ↦
      let same : slice_index_or entries number entry ≡ entry = same_Some (slice_index_or entries number entry) entry (sym (get_or-map (λ (e : KitEntry _). Some e) entries number entry None is) ∙ there) in
      subst (λ (e : KitEntry _). asked e.check < most) same (few number entry is)
  | inr past ↦
      let none = get_or_past (map (λ (e : KitEntry _). Some e) entries) number None (omega (arith, past, length-map entries (λ (e : KitEntry _). Some e))) in
      absurd (cc (none, there))
]
