-- The calls of an actor in a history that grows.
use Rattle.std.proofs.Common.{◌≡◌, ◌≢◌, ℕ, zero, suc, ◌+◌, ◌<◌, ◌≤◌, ◌==◌, ne_eqb, eq-eqb, Bool, true, false, List, [], ◌∷◌, ◌++◌, length, drop, refl, ap, ◌∙◌, arith}
use Rattle.std.specs.Prelude.{if◌then◌else◌}
use Rattle.std.specs.List.{AllByRecursion}
use Rattle.std.proofs.lemmas.List.{append-nil, drop-append-le, length-drop}
use Rattle.tbl_kinds.specs.Records.{actor_number}
use Rattle.tbl_kinds.specs.declared.entry.Entry.{Entry}
use Rattle.tbl_live.specs.Calls.{Call, call_of, own_from, own}

either_push : (b : Bool) (c : Call) (xs ys zs : List Call) → ys ≡ xs ++ zs → (if b then c ∷ ys else ys) ≡ (if b then c ∷ xs else xs) ++ zs
either_push true c xs ys zs e = ap (λ (l : List Call). c ∷ l) e
either_push false c xs ys zs e = e

own_from_push : (place actor : ℕ) (es : List Entry) (e : Entry) → own_from place actor (es ++ e ∷ []) ≡ own_from place actor es ++ own_from (place + length es) actor (e ∷ [])
own_from_push place actor [] e = let p : place ≡ place + zero = omega arith in ap (λ (n : ℕ). own_from n actor (e ∷ [])) p
own_from_push place actor (x ∷ es) e =
    let p : suc place + length es ≡ place + suc (length es) = omega arith in
    either_push (actor_number x.actor == actor) (call_of place x) (own_from (suc place) actor es) (own_from (suc place) actor (es ++ e ∷ [])) (own_from (place + suc (length es)) actor (e ∷ []))
    (own_from_push (suc place) actor es e ∙ ap (λ (n : ℕ). own_from (suc place) actor es ++ own_from n actor (e ∷ [])) p)

own_push : (base actor : ℕ) (es : List Entry) (e : Entry) → base ≤ length es → own base actor (es ++ e ∷ []) ≡ own base actor es ++ own_from (length es) actor (e ∷ [])
own_push base actor es e le =
    let p : base + length (drop base es) ≡ length es = omega (arith, length-drop base es, le) in
    ap (own_from base actor) (drop-append-le base es (e ∷ []) le) ∙ own_from_push base actor (drop base es) e ∙ ap (λ (n : ℕ). own base actor es ++ own_from n actor (e ∷ [])) p

-- an entry of another actor adds none
pub own_other : (base actor : ℕ) (es : List Entry) (e : Entry) → base ≤ length es → actor_number e.actor ≢ actor → own base actor (es ++ e ∷ []) ≡ own base actor es
own_other base actor es e le ne =
    let p : own_from (length es) actor (e ∷ []) ≡ [] = ap (λ (b : Bool). if b then call_of (length es) e ∷ [] else []) (ne_eqb (actor_number e.actor) actor ne) in
    own_push base actor es e le ∙ ap (λ (l : List Call). own base actor es ++ l) p ∙ append-nil (own base actor es)

-- one of the actor adds its call
pub own_mine : (base actor : ℕ) (es : List Entry) (e : Entry) → base ≤ length es → actor_number e.actor ≡ actor → own base actor (es ++ e ∷ []) ≡ own base actor es ++ call_of (length es) e ∷ []
own_mine base actor es e le is =
    let p : own_from (length es) actor (e ∷ []) ≡ call_of (length es) e ∷ [] = ap (λ (b : Bool). if b then call_of (length es) e ∷ [] else []) (eq-eqb (actor_number e.actor) actor is) in
    own_push base actor es e le ∙ ap (λ (l : List Call). own base actor es ++ l) p

below_from : (place actor n : ℕ) (es : List Entry) → place + length es ≤ n → AllByRecursion (λ (c : Call). c.place < n) (own_from place actor es)
below_from place actor n [] le = tt
below_from place actor n (x ∷ es) le = below_by (actor_number x.actor == actor) (below_from (suc place) actor n es (omega (arith, le)))
  where
    below_by : (b : Bool) → AllByRecursion (λ (c : Call). c.place < n) (own_from (suc place) actor es) → AllByRecursion (λ (c : Call). c.place < n) (if b then call_of place x ∷ own_from (suc place) actor es else own_from (suc place) actor es)
    below_by true rest = (omega (arith, le), rest)
    below_by false rest = rest

-- each call's place lies in the history
pub below : (base actor : ℕ) (es : List Entry) → base ≤ length es → AllByRecursion (λ (c : Call). c.place < length es) (own base actor es)
below base actor es le = below_from base actor (length es) (drop base es) (omega (arith, length-drop base es, le))

-- after the end there is none
pub own_none : (base actor : ℕ) (es : List Entry) → base ≡ length es → own base actor es ≡ []
own_none base actor es is = ap (own_from base actor) (past base es is)
  where
    past : (n : ℕ) (xs : List Entry) → n ≡ length xs → drop n xs ≡ []
    past zero [] e = refl
    past zero (x ∷ xs) e = absurd (omega (arith, e))
    past (suc n) [] e = refl
    past (suc n) (x ∷ xs) e = past n xs (omega (arith, e))
