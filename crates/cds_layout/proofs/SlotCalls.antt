-- Bank calls that are made slot by slot.
use Rattle.std.proofs.Common.{◌≡◌, inl, inr, ℕ, zero, suc, ◌+◌, ◌<◌, ◌≤◌, List, [], ◌++◌, true, false, refl, sym, ◌∙◌, ap, subst, arith, append_assoc}
use Rattle.std.proofs.lemmas.Bool.{cases_lt}
use Rattle.std.proofs.lemmas.List.{append-nil}
use Rattle.tbl_outside.specs.BankCalls.{BankCall, Asks}
use Rattle.tbl_outside.proofs.BankCalls.{asks_then, asks_no_more}
use Rattle.cds_layout.specs.Order.{slot_calls}

none_first : (calls_at : ℕ → List BankCall) → slot_calls calls_at 0 ≡ []
unfolding slot_calls
none_first calls_at = refl

pub one_slot_more : (calls_at : ℕ → List BankCall) (n : ℕ) → slot_calls calls_at (suc n) ≡ slot_calls calls_at n ++ calls_at n
unfolding slot_calls
one_slot_more calls_at n = refl

next : (n : ℕ) → suc n ≡ n + 1
next n = omega arith

-- where the slots up to one have the same calls
pub slot_calls_alike : (some others : ℕ → List BankCall) (n : ℕ) → ((slot : ℕ) → slot < n → some slot ≡ others slot) → slot_calls some n ≡ slot_calls others n
slot_calls_alike some others zero alike = none_first some ∙ sym (none_first others)
slot_calls_alike some others (suc n) alike =
    let earlier = slot_calls_alike some others n (λ slot lt. alike slot (omega (arith, lt))) in
    one_slot_more some n ∙ (λ i. earlier i ++ alike n (omega arith) i) ∙ sym (one_slot_more others n)

-- those of more slots begin with those of fewer
split : (calls_at : ℕ → List BankCall) (k n : ℕ) → k ≤ n → (rest : List BankCall) × (slot_calls calls_at n ≡ slot_calls calls_at k ++ rest)
split calls_at k zero le =
    let none : k ≡ 0 = omega (arith, le) in
    ([], subst (λ i. slot_calls calls_at 0 ≡ slot_calls calls_at i ++ []) (sym none) (sym (append-nil (slot_calls calls_at 0))))
split calls_at k (suc n) le =
    elim (cases_lt k (suc n)) [
      | inl lt ↦
          let before = split calls_at k n (omega (arith, lt)) in (
            before.0 ++ calls_at n,
            one_slot_more calls_at n ∙ ap (λ (l : List BankCall). l ++ calls_at n) before.1 ∙ append_assoc (slot_calls calls_at k) before.0 (calls_at n),
          )
      | inr past ↦
          let same : k ≡ suc n = omega (arith, le, past) in
          ([], subst (λ i. slot_calls calls_at (suc n) ≡ slot_calls calls_at i ++ []) (sym same) (sym (append-nil (slot_calls calls_at (suc n)))))
    ]

module _ {B : Type 0} (tells_calls : B → Type 0) (calls_of : B → List BankCall) (calls_at : ℕ → List BankCall) where
  pub asks_no_slot : (bank : B) → Asks tells_calls calls_of bank bank true (slot_calls calls_at 0)
  asks_no_slot bank told = rw (none_first calls_at) (told, refl)

  pub asks_next_slot : (old mid new : B) (slot : ℕ) → Asks tells_calls calls_of old mid true (slot_calls calls_at slot) → Asks tells_calls calls_of mid new true (calls_at slot)
      → Asks tells_calls calls_of old new true (slot_calls calls_at (slot + 1))
  asks_next_slot old mid new slot so_far call =
      subst (Asks tells_calls calls_of old new true) (sym (one_slot_more calls_at slot) ∙ ap (slot_calls calls_at) (next slot))
      (asks_then tells_calls calls_of old mid new true (slot_calls calls_at slot) (calls_at slot) so_far call)

  -- the bank failed at a slot
  pub asks_to_slot : (old mid new : B) (slot count : ℕ) → slot < count → Asks tells_calls calls_of old mid true (slot_calls calls_at slot) → Asks tells_calls calls_of mid new false (calls_at slot)
      → Asks tells_calls calls_of old new false (slot_calls calls_at count)
  asks_to_slot old mid new slot count lt so_far call =
      let all = split calls_at (suc slot) count (omega (arith, lt)) in
      subst (Asks tells_calls calls_of old new false) (ap (λ (l : List BankCall). l ++ all.0) (sym (one_slot_more calls_at slot)) ∙ sym all.1)
      (asks_no_more tells_calls calls_of old new (slot_calls calls_at slot ++ calls_at slot) all.0
      (asks_then tells_calls calls_of old mid new false (slot_calls calls_at slot) (calls_at slot) so_far call))
