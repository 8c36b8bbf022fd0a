-- The beginning and the end of a lock, and what its calls need of a step.
use Rattle.std.proofs.Common.{◌≡◌, ◌≢◌, ℕ, zero, suc, ◌+◌, ◌<◌, ◌==◌, List, [], ◌∷◌, map, length, Option, Some, refl, sym, ap, ◌∙◌, subst, inl, ⊎_elim, arith}
use Rattle.std.proofs.lemmas.List.{length-replicate}
use mathlib.Core.Option.{Option as Maybe, some, none, some-injective, some-ne-none}
use prog.Atomic.{either}
use lib.ListN.{get_elem?}
use Rattle.atomic_table.specs.Table.{Me, step, Allows, Final, Seen, opening}
use Rattle.turn_lock.proofs.Lists.{inj_Some, off, in_replicate}
use Rattle.turn_lock.proofs.Paths.{leads_same}
use Rattle.turn_lock.specs.declared.rule.View.{View}
use Rattle.turn_lock.specs.Turns.{Since, Knows, Kept, Fits, Takes, Gives, Idle, seat_view, all_seats, taking}
use Rattle.turn_lock.proofs.Steps.{AtHome, Away, takes_turn, gives_back}

module _ {T : Type 0} (moves : T → ℕ → T → Type 0) (actors : ℕ) (k : T) where
  only : (v : View T) → (id : ℕ) (u : View T) → get_elem? (v ∷ []) id ≡ some u → (id ≡ 0) × (v ≡ u)
  only v zero u e = (refl, some-injective v u e)
  only v (suc id) u e = absurd (some-ne-none u (sym e))

  pub begins : (words : List ℕ) (slots : List (Option T)) (value : T) → words ≡ 0 ∷ [] → slots ≡ Some value ∷ [] → k ≡ value → Kept moves actors k (opening words slots (all_seats actors k))
  begins words slots value free is same = record {
    last = value;
    holder = 0;
    follows = leads_same moves (λ _. Unit {0}) k value same;
    home = inl (free, ap (λ (l : List (Option T)). map some l) is);
    views = λ id v e. let p = only (all_seats actors k) id v e in subst (Fits moves actors value 0 words id) p.1
        (record {
          range = omega (arith, length-replicate actors k);
          knows = λ i x e'. leads_same moves (λ other. other ≢ (0 + i)) x value (sym (in_replicate actors k i x e') ∙ same);
          taken = tt;
        });
    apart = λ i j v w e e' ne. absurd (ne ((only (all_seats actors k) i v e).0 ∙ sym (only (all_seats actors k) j w e').0));
  }

  -- the seat that has all actors knows that the value is at home
  pub closes : (id : ℕ) (v : View T) (seen : List T) → v ≡ seat_view 0 seen → length seen ≡ actors → (ws : List ℕ) (xs : List (Option T)) → Final (Seen (Kept moves actors k) id v) ws xs
      → (c : T) × (get_elem? xs 0 ≡ some (Some c)) × Since moves k c × Knows moves 0 seen c
  closes id v seen is all ws xs f =
      let s = f.0 in
      let h = f.1.0 in
      let here = f.1.1 in
      let from : v.from ≡ 0 = ap (λ (z : View T). z.from) is in
      let long : length v.seen ≡ actors = ap (λ (z : View T). length z.seen) is ∙ all in
      ⊎_elim
      (λ (x : AtHome h.last s.words s.homes). (h.last, f.4 0 (Some h.last) (ap (λ (hs : List (Maybe (Option T))). get_elem? hs 0) x.1), h.follows, subst (λ (z : View T). Knows moves z.from z.seen h.last) is (h.views id v here).knows))
      (λ (x : Away h.last h.holder s.views s.words s.homes).
      let d : id ≢ h.holder = λ e. off v.taken h.last (ap (λ (z : View T). z.taken) is) (subst (λ (z : View T). z.taken ≡ Some h.last) (some-injective x.0 v (sym x.3 ∙ (ap (get_elem? s.views) (sym e) ∙ here))) x.4) in
      let u = x.0 in
      let r = (h.views h.holder u x.3).range in
      absurd (h.apart id h.holder v u here x.3 d u.from (omega (arith, from), omega (arith, from, long, r, x.5)) (omega arith, omega (arith, x.5))))
      h.home

  -- ---- what the calls need

  abbrev Seat' : Type 0
  Seat' = Me (Option T) (View T)

  pub takes_at : (slots id : ℕ) (m : Seat') (from : ℕ) (seen : List T) → Idle m from seen → 0 < length seen → Allows (Kept moves actors k) slots id m 0 (λ n. either (n == 0) 1 n) (Takes moves (step slots 0 0 1 none) m)
  takes_at slots id m from seen is some_actor = subst (λ (m' : Seat'). Allows (Kept moves actors k) slots id m' 0 (λ n. either (n == 0) 1 n) (Takes moves (step slots 0 0 1 none) m')) (sym is) (takes_turn moves actors k slots id (seat_view from seen) refl some_actor)

  pub gives_at : (slots id : ℕ) (m : Seat') (from : ℕ) (seen : List T) (x y : T) → m ≡ (taking (seat_view from seen) x, (0, Some y) ∷ []) → length seen ≡ 1 → moves x from y → Allows (Kept moves actors k) slots id m 0 (λ _. 0) (λ _. Gives (step slots 0 0 0 none) m 0)
  gives_at slots id m from seen x y is one turn = subst (λ (m' : Seat'). Allows (Kept moves actors k) slots id m' 0 (λ _. 0) (λ _. Gives (step slots 0 0 0 none) m' 0)) (sym is) (gives_back moves actors k slots id (taking (seat_view from seen) x) x y one refl turn)

  pub took : (slots : ℕ) (m m' : Seat') (found from : ℕ) (seen : List T) → found ≡ 0 → Idle m from seen → Takes moves (step slots 0 0 1 none) m found m' → (c : T) × (m' ≡ (taking (seat_view from seen) c, (0, Some c) ∷ [])) × Knows moves from seen c
  took slots m m' found from seen is idle t =
      let t' : Takes moves (step slots 0 0 1 none) m 0 m' = subst (λ (n : ℕ). Takes moves (step slots 0 0 1 none) m n m') is t in
      subst (λ (z : Seat'). (c : T) × (m' ≡ (taking z.0 c, (0, Some c) ∷ [])) × Knows moves z.0.from z.0.seen c) idle t'

  -- what was at home comes out
  pub same_value : (xs : List (Option T)) (c value : T) (o : Option T) → get_elem? xs 0 ≡ some (Some c) → get_elem? xs 0 ≡ some o → o ≡ Some value → c ≡ value
  same_value xs c value o e d w = inj_Some c value (some-injective (Some c) o (sym e ∙ d) ∙ w)

  pub some_value : (xs : List (Option T)) (c : T) (o : Option T) → get_elem? xs 0 ≡ some (Some c) → get_elem? xs 0 ≡ some o → o ≡ Some c
  some_value xs c o e d = sym (some-injective (Some c) o (sym e ∙ d))
