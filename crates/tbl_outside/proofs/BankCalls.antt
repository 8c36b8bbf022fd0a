-- The calls of a bank in several steps, one after the other.
use Rattle.std.proofs.Common.{◌≡◌, inl, inr, ◌+◌, ◌≤◌, length, arith, List, [], ◌∷◌, ◌++◌, Bool, true, false, refl, sym, ◌∙◌, ap, subst}
use Rattle.tbl_outside.specs.BankCalls.{BankCall, after_calls, BrokeOff, Makes, Asks}

pub after_calls-append : (calls more past : List BankCall) → after_calls (calls ++ more) past ≡ after_calls more (after_calls calls past)
after_calls-append [] more past = refl
after_calls-append (call ∷ calls) more past = after_calls-append calls more (call ∷ past)

-- what broke off among the first calls broke off among all of them
pub broke_before : (calls more past now : List BankCall) → BrokeOff calls past now → BrokeOff (calls ++ more) past now
broke_before [] more past now broke = absurd broke
broke_before (call ∷ calls) more past now (inl here) = inl here
broke_before (call ∷ calls) more past now (inr later) = inr (broke_before calls more (call ∷ past) now later)

-- and so did what broke off among the last ones, once the first were made
pub broke_behind : (calls more past now : List BankCall) → BrokeOff more (after_calls calls past) now → BrokeOff (calls ++ more) past now
broke_behind [] more past now broke = broke
broke_behind (call ∷ calls) more past now broke = inr (broke_behind calls more (call ∷ past) now broke)

-- calls that were made, and then others
makes_then : (done : Bool) (calls more past mid now : List BankCall) → mid ≡ after_calls calls past → Makes done more mid now → Makes done (calls ++ more) past now
makes_then true calls more past mid now first made = made ∙ ap (after_calls more) first ∙ sym (after_calls-append calls more past)
makes_then false calls more past mid now first made = broke_behind calls more past now (subst (λ (l : List BankCall). BrokeOff more l now) first made)

pub asks_then : {B : Type 0} (tells_calls : B → Type 0) (calls_of : B → List BankCall) (old mid new : B) (done : Bool) (calls more : List BankCall)
    → Asks tells_calls calls_of old mid true calls → Asks tells_calls calls_of mid new done more
    → Asks tells_calls calls_of old new done (calls ++ more)
asks_then tells_calls calls_of old mid new done calls more first then told =
    let second = then told in
    let before = first second.0 in
    (before.0, makes_then done calls more (calls_of old) (calls_of mid) (calls_of new) before.1 second.1)

-- calls that broke off, others after which weren't made
pub asks_no_more : {B : Type 0} (tells_calls : B → Type 0) (calls_of : B → List BankCall) (old new : B) (calls more : List BankCall)
    → Asks tells_calls calls_of old new false calls → Asks tells_calls calls_of old new false (calls ++ more)
asks_no_more tells_calls calls_of old new calls more broke told =
    let made = broke told in
    (made.0, broke_before calls more (calls_of old) (calls_of new) made.1)

-- no more than these calls were made
length-after_calls : (calls past : List BankCall) → length (after_calls calls past) ≡ length past + length calls
length-after_calls [] past = omega arith
length-after_calls (call ∷ calls) past = omega (arith, length-after_calls calls (call ∷ past))

broke_within : (calls past now : List BankCall) → BrokeOff calls past now → length now ≤ length past + length calls
broke_within [] past now broke = absurd broke
broke_within (call ∷ calls) past now (inl here) = omega (arith, ap length here)
broke_within (call ∷ calls) past now (inr later) = omega (arith, broke_within calls (call ∷ past) now later)

pub no_more_made : (done : Bool) (calls past now : List BankCall) → Makes done calls past now → length now ≤ length past + length calls
no_more_made true calls past now made = omega (arith, ap length made, length-after_calls calls past)
no_more_made false calls past now made = broke_within calls past now made
