-- The five kinds of step keep the rule.
use Rattle.std.proofs.Common.{◌≡◌, ◌≢◌, ◌⊎◌, ℕ, suc, ◌+◌, ◌<◌, ◌≤◌, ◌==◌, List, [], ◌∷◌, ◌++◌, length, set, Option, Some, None, refl, sym, ap, ◌∙◌, subst, inl, inr, ⊎_elim, lt_of_not-le, arith}
use Rattle.std.specs.Prelude.{slice_index, slice_set, MatchOption}
use Rattle.std.proofs.lemmas.List.{length-append, length-take-le, length-drop}
use mathlib.Core.Option.{Option as Maybe, some, none, some-injective, some-ne-none}
use mathlib.Core.Logic.{dite}
use native.Mathlib.Decide.{dec_le}
use prog.Atomic.{either}
use lib.ListN.{get_elem?}
use Rattle.atomic_table.specs.Table.{Me, Act, keeps, takes, gives, step, Valid, homes_after, carried_after, Allows, Splits, Joins}
use Rattle.atomic_table.proofs.Lists.{at_set, at_longer, set_again, set_here, set_else}
use Rattle.turn_lock.proofs.Lists.{inj_Some, off, there, snoc_at, in_take, in_drop, in_append, in_one}
use Rattle.turn_lock.proofs.Paths.{leads_more, leads_same}
use Rattle.turn_lock.specs.declared.rule.View.{View}
use Rattle.turn_lock.specs.Turns.{Since, Beside, Kept, Home, Fits, Has, Apart, Takes, Gives, seat_view, lower, upper, joined, spent, taking}

-- ---- the rule

module _ {T : Type 0} where
  -- the value is at home, or away with the holder of this view
  abbrev pub AtHome : T → List ℕ → List (Maybe (Option T)) → Type 0
  AtHome last ws hs = (ws ≡ 0 ∷ []) × (hs ≡ some (Some last) ∷ [])

  abbrev pub Away : T → ℕ → List (View T) → List ℕ → List (Maybe (Option T)) → Type 0
  Away last holder vs ws hs = (u : View T) × (ws ≡ 1 ∷ []) × (hs ≡ none ∷ []) × (get_elem? vs holder ≡ some u) × (u.taken ≡ Some last) × (0 < length u.seen)

module _ {T : Type 0} (moves : T → ℕ → T → Type 0) (actors : ℕ) (k : T) where
  abbrev W : Type 0
  W = View T

  abbrev Views : T → ℕ → List ℕ → List W → Type 0
  Views last holder words vs = (id : ℕ) (v : W) → get_elem? vs id ≡ some v → Fits moves actors last holder words id v

  abbrev Aparts : List W → Type 0
  Aparts vs = (i j : ℕ) (v w : W) → get_elem? vs i ≡ some v → get_elem? vs j ≡ some w → i ≢ j → Apart v w

  abbrev Within : W → W → Type 0
  Within w v = (actor : ℕ) → Has w actor → Has v actor

  -- a view is replaced by one with no other actor
  aparts_set : (vs : List W) (id : ℕ) (v w : W) → get_elem? vs id ≡ some v → Within w v → Aparts vs → Aparts (set vs id w)
  aparts_set vs id v w here i h a b x y ax by ne actor hx hy = ⊎_elim
      (λ (p : (a ≡ id) × (w ≡ x)). ⊎_elim
      (λ (q : (b ≡ id) × (w ≡ y)). ne (p.0 ∙ sym q.0))
      (λ (q : (b ≢ id) × (get_elem? vs b ≡ some y)). h id b v y here q.1 (λ e. q.0 (sym e)) actor (i actor (subst (λ (z : W). Has z actor) (sym p.1) hx)) hy)
      (at_set vs id b w y by))
      (λ (p : (a ≢ id) × (get_elem? vs a ≡ some x)). ⊎_elim
      (λ (q : (b ≡ id) × (w ≡ y)). h a id x v p.1 here p.0 actor hx (i actor (subst (λ (z : W). Has z actor) (sym q.1) hy)))
      (λ (q : (b ≢ id) × (get_elem? vs b ≡ some y)). h a b x y p.1 q.1 ne actor hx hy)
      (at_set vs id b w y by))
      (at_set vs id a w x ax)

  home_set : (last : T) (holder : ℕ) (vs : List W) (ws : List ℕ) (hs : List (Maybe (Option T))) (id : ℕ) (v w : W) → get_elem? vs id ≡ some v → v.taken ≡ None → Home last holder vs ws hs → Home last holder (set vs id w) ws hs
  home_set last holder vs ws hs id v w here idle h = ⊎_elim (λ (x : AtHome last ws hs). inl x)
      (λ (x : Away last holder vs ws hs).
      inr (x.0, x.1, x.2, set_else vs id holder w (λ e. off v.taken last idle (subst (λ (z : W). z.taken ≡ Some last) (some-injective x.0 v (sym x.3 ∙ (ap (get_elem? vs) e ∙ here))) x.4)) ∙ x.3, x.4, x.5))
      h

  home_more : (last : T) (holder : ℕ) (vs : List W) (ws : List ℕ) (hs : List (Maybe (Option T))) (w : W) → Home last holder vs ws hs → Home last holder (vs ++ w ∷ []) ws hs
  home_more last holder vs ws hs w h = ⊎_elim (λ (x : AtHome last ws hs). inl x)
      (λ (x : Away last holder vs ws hs). inr (x.0, x.1, x.2, at_longer vs (w ∷ []) holder x.0 x.3, x.4, x.5))
      h

  views_set : (last : T) (holder : ℕ) (ws : List ℕ) (vs : List W) (id : ℕ) (w : W) → Fits moves actors last holder ws id w → Views last holder ws vs → Views last holder ws (set vs id w)
  views_set last holder ws vs id w fit h j u e = ⊎_elim
      (λ (x : (j ≡ id) × (w ≡ u)). subst (λ (p : ℕ × W). Fits moves actors last holder ws p.0 p.1) (λ i. (sym x.0 i, x.1 i)) fit)
      (λ (x : (j ≢ id) × (get_elem? vs j ≡ some u)). h j u x.1)
      (at_set vs id j w u e)

  -- ---- split

  module _ (id : ℕ) (v : W) (n : ℕ) (le : n ≤ length v.seen) where
    low_within : Within (lower n v) v
    low_within a p = (p.0, omega (arith, p.1, length-take-le n v.seen le, le))

    up_within : Within (upper n v) v
    up_within a p = (omega (arith, p.0), omega (arith, p.1, length-drop n v.seen, le))

    halves_apart : Apart (lower n v) (upper n v)
    halves_apart a p q = absurd (omega (arith, p.1, q.0, length-take-le n v.seen le))

    -- the upper part is apart from each view after the cut
    beside_up : (vs : List W) → Aparts vs → get_elem? vs id ≡ some v → (x : W) (a : ℕ) → get_elem? (set vs id (lower n v)) a ≡ some x → Apart x (upper n v)
    beside_up vs h here x a e actor hx hu = ⊎_elim
        (λ (p : (a ≡ id) × (lower n v ≡ x)). halves_apart actor (subst (λ (z : W). Has z actor) (sym p.1) hx) hu)
        (λ (p : (a ≢ id) × (get_elem? vs a ≡ some x)). h a id x v p.1 here p.0 actor hx (up_within actor hu))
        (at_set vs id a (lower n v) x e)

    pub splits : v.taken ≡ None → Splits (Kept moves actors k) id v (lower n v) (upper n v)
    splits idle s h here =
        let m = h.views id v here in
        let vs : List W = set s.views id (lower n v) in
        let long = length-take-le n v.seen le in
        let left = length-drop n v.seen in
        record {
          last = h.last;
          holder = h.holder;
          follows = h.follows;
          home = home_more h.last h.holder vs s.words s.homes (upper n v) (home_set h.last h.holder s.views s.words s.homes id v (lower n v) here idle h.home);
          views = λ j u e. ⊎_elim
              (λ (x : get_elem? vs j ≡ some u). views_set h.last h.holder s.words s.views id (lower n v)
              (record { range = omega (arith, m.range, long, le); knows = λ i x e'. m.knows i x (in_take n v.seen i x e'); taken = tt }) h.views j u x)
              (λ (x : (j ≡ length vs) × (upper n v ≡ u)). subst (Fits moves actors h.last h.holder s.words j) x.1
              (record {
                range = omega (arith, m.range, left, le);
                knows = λ i x' e'. let p : v.from + (n + i) ≡ (v.from + n) + i = omega arith in subst (λ (a : ℕ). Beside moves a x' h.last) p (m.knows (n + i) x' (in_drop n v.seen i x' e'));
                taken = tt;
              }))
              (snoc_at vs (upper n v) u j e);
          apart = λ a b x y ax by ne actor hx hy. ⊎_elim
              (λ (p : get_elem? vs a ≡ some x). ⊎_elim
              (λ (q : get_elem? vs b ≡ some y). aparts_set s.views id v (lower n v) here low_within h.apart a b x y p q ne actor hx hy)
              (λ (q : (b ≡ length vs) × (upper n v ≡ y)). beside_up s.views h.apart here x a p actor hx (subst (λ (z : W). Has z actor) (sym q.1) hy))
              (snoc_at vs (upper n v) y b by))
              (λ (p : (a ≡ length vs) × (upper n v ≡ x)). ⊎_elim
              (λ (q : get_elem? vs b ≡ some y). beside_up s.views h.apart here y b q actor hy (subst (λ (z : W). Has z actor) (sym p.1) hx))
              (λ (q : (b ≡ length vs) × (upper n v ≡ y)). ne (p.0 ∙ sym q.0))
              (snoc_at vs (upper n v) y b by))
              (snoc_at vs (upper n v) x a ax);
        }

  -- ---- take and put back

  moved : (o : Option T) (P Q : T → Type 0) → ((x : T) → P x → Q x) → MatchOption o (Unit {0}) P → MatchOption o (Unit {0}) Q
  moved None P Q f p = tt
  moved (Some x) P Q f p = f x p

  zero_one : (ws : List ℕ) → ws ≡ 0 ∷ [] → ws ≡ 1 ∷ [] → ⊥
  zero_one ws d e' = let e = sym d ∙ e' in let zero' : ℕ = 0 in let p : zero' ≡ 1 = ap (λ (ws : List ℕ). slice_index ws 0) e in absurd (omega arith)

  module _ (slots id : ℕ) (v : W) where
    abbrev Goes : List (ℕ × Option T) → (ℕ → ℕ) → (ℕ → Me (Option T) W → Type 0) → List W → List ℕ → List (Maybe (Option T)) → Type 0
    Goes held f then vs ws hs = (w : W) × (a : Act (Option T)) × Valid hs held a × Kept moves actors k (record { words = slice_set ws 0 (f (slice_index ws 0)); homes = homes_after hs held a; views = slice_set vs id w }) × then (slice_index ws 0) (w, carried_after held a)

    at_home : (held : List (ℕ × Option T)) (f : ℕ → ℕ) (then : ℕ → Me (Option T) W → Type 0) (vs : List W) (ws ws' : List ℕ) (hs hs' : List (Maybe (Option T))) → ws ≡ ws' → hs ≡ hs' → Goes held f then vs ws' hs' → Goes held f then vs ws hs
    at_home held f then vs ws ws' hs hs' e d = subst (λ (p : List ℕ × List (Maybe (Option T))). Goes held f then vs p.0 p.1) (λ i. (sym e i, sym d i))

    free_case : (vs : List W) (last : T) (holder : ℕ) → 0 < length v.seen → Since moves k last → Views last holder (0 ∷ []) vs → Aparts vs → get_elem? vs id ≡ some v
        → Goes [] (λ n. either (n == 0) 1 n) (Takes moves (step slots 0 0 1 none) (v, [])) vs (0 ∷ []) (some (Some last) ∷ [])
    free_case vs last holder some_actor follows views apart here =
        let m = views id v here in
        let one : List ℕ = 1 ∷ [] in (
          taking v last,
          takes 0 (Some last),
          refl,
          record {
            last = last;
            holder = id;
            follows = follows;
            home = inr (taking v last, refl, refl, set_here vs id (taking v last) (there vs id v here), refl, some_actor);
            views = λ j u e. ⊎_elim
                (λ (x : (j ≡ id) × (taking v last ≡ u)). subst (λ (p : ℕ × W). Fits moves actors last id (1 ∷ []) p.0 p.1) (λ i. (sym x.0 i, x.1 i))
                (record { range = m.range; knows = m.knows; taken = (refl, refl, refl) }))
                (λ (x : (j ≢ id) × (get_elem? vs j ≡ some u)). let o = views j u x.1 in record {
                  range = o.range;
                  knows = o.knows;
                  taken = moved u.taken _ (λ y. (y ≡ last) × (one ≡ 1 ∷ []) × (j ≡ id)) (λ y p. absurd (zero_one (0 ∷ []) refl p.1)) o.taken;
                })
                (at_set vs id j (taking v last) u e);
            apart = aparts_set vs id v (taking v last) here (λ a p. p) apart;
          },
          (last, refl, m.knows),
        )

    pub takes_turn : v.taken ≡ None → 0 < length v.seen → Allows (Kept moves actors k) slots id (v, []) 0 (λ n. either (n == 0) 1 n) (Takes moves (step slots 0 0 1 none) (v, []))
    takes_turn idle some_actor s h len here fits = ⊎_elim
        (λ (x : AtHome h.last s.words s.homes). at_home [] (λ n. either (n == 0) 1 n) (Takes moves (step slots 0 0 1 none) (v, [])) s.views s.words (0 ∷ []) s.homes (some (Some h.last) ∷ []) x.0 x.1
        (free_case s.views h.last h.holder some_actor h.follows (subst (λ ws. Views h.last h.holder ws s.views) x.0 h.views) h.apart here))
        (λ (x : Away h.last h.holder s.views s.words s.homes).
        at_home [] (λ n. either (n == 0) 1 n) (Takes moves (step slots 0 0 1 none) (v, [])) s.views s.words (1 ∷ []) s.homes (none ∷ []) x.1 x.2 (
          v,
          keeps,
          tt,
          record {
            last = h.last;
            holder = h.holder;
            follows = h.follows;
            home = home_set h.last h.holder s.views (1 ∷ []) (none ∷ []) id v v here idle (inr (x.0, refl, refl, x.3, x.4, x.5));
            views = subst (λ vs. Views h.last h.holder (1 ∷ []) vs) (sym (set_again s.views id v here)) (subst (λ ws. Views h.last h.holder ws s.views) x.1 h.views);
            apart = subst Aparts (sym (set_again s.views id v here)) h.apart;
          },
          refl,
        ))
        h.home

    -- the holder puts y back after a turn from x
    pub gives_back : (x y : T) → length v.seen ≡ 1 → v.taken ≡ Some x → moves x v.from y → Allows (Kept moves actors k) slots id (v, (0, Some y) ∷ []) 0 (λ _. 0) (λ _. Gives (step slots 0 0 0 none) (v, (0, Some y) ∷ []) 0)
    gives_back x y one out turn s h len here fits =
        let m = h.views id v here in
        let t : (x ≡ h.last) × (s.words ≡ 1 ∷ []) × (id ≡ h.holder) = subst (λ (o : Option T). MatchOption o (Unit {0}) (λ z. (z ≡ h.last) × (s.words ≡ 1 ∷ []) × (id ≡ h.holder))) out m.taken in
        let turn' : moves h.last v.from y = subst (λ (z : T). moves z v.from y) t.0 turn in
        let none_out : List ℕ = 0 ∷ [] in
        let w : W = seat_view v.from (y ∷ []) in
        let held : List (ℕ × Option T) = (0, Some y) ∷ [] in
        let then : ℕ → Me (Option T) W → Type 0 = λ _. Gives (step slots 0 0 0 none) (v, held) 0 in
        let next : Kept moves actors k (record { words = 0 ∷ []; homes = some (Some y) ∷ []; views = set s.views id w }) = record {
          last = y;
          holder = id;
          follows = leads_more moves (λ _. Unit {0}) k h.last v.from y h.follows tt turn';
          home = inl (refl, refl);
          views = λ j u e. ⊎_elim
              (λ (z : (j ≡ id) × (w ≡ u)). subst (λ (p : ℕ × W). Fits moves actors y id (0 ∷ []) p.0 p.1) (λ i. (sym z.0 i, z.1 i))
              (record {
                range = omega (arith, m.range, one);
                knows = λ i x' e'. leads_same moves (λ other. other ≢ (v.from + i)) x' y (sym (in_one y i x' e'));
                taken = tt;
              }))
              (λ (z : (j ≢ id) × (get_elem? s.views j ≡ some u)). let o = h.views j u z.1 in record {
                range = o.range;
                knows = λ i x' e'. leads_more moves (λ other. other ≢ (u.from + i)) x' h.last v.from y (o.knows i x' e')
                    (λ same. h.apart id j v u here z.1 (λ q. z.0 (sym q)) v.from (omega arith, omega (arith, one)) (let r = there u.seen i x' e' in (omega (arith, same), omega (arith, same, r)))) turn';
                taken = moved u.taken _ (λ c. (c ≡ y) × (none_out ≡ 1 ∷ []) × (j ≡ id)) (λ c p. absurd (z.0 (p.2 ∙ sym t.2))) o.taken;
              })
              (at_set s.views id j w u e);
          apart = aparts_set s.views id v w here (λ a p. (p.0, omega (arith, p.1, one))) h.apart;
        } in
        let told : Gives (step slots 0 0 0 none) (v, held) 0 (w, []) = λ value e. ap {B = Me (Option T) W} (λ (c : T). (seat_view v.from (c ∷ []), [])) (inj_Some y value (ap (λ (l : List (ℕ × Option T)). head_or (Some y) l) e)) in
        ⊎_elim
        (λ (z : AtHome h.last s.words s.homes). at_home held (λ _. 0) then s.views s.words (0 ∷ []) s.homes (some (Some h.last) ∷ []) z.0 z.1 (w, gives, tt, next, told))
        (λ (z : Away h.last h.holder s.views s.words s.homes). at_home held (λ _. 0) then s.views s.words (1 ∷ []) s.homes (none ∷ []) z.1 z.2 (w, gives, tt, next, told))
        h.home
      where
        head_or : Option T → List (ℕ × Option T) → Option T
        head_or d [] = d
        head_or d (c ∷ cs) = c.1

  -- ---- join

  module _ (id other : ℕ) (v w : W) (meet : w.from ≡ v.from + length v.seen) where
    -- whose actor it was before
    Owned : List W → ℕ → ℕ → Type 0
    Owned vs a actor = (o : ℕ) × (z : W) × (get_elem? vs o ≡ some z) × Has z actor × ((o ≡ a) ⊎ ((a ≡ id) × (o ≡ other))) × (a ≢ other)

    of_joined : (vs : List W) → get_elem? vs id ≡ some v → get_elem? vs other ≡ some w → id ≢ other → (actor : ℕ) → Has (joined v w) actor → Owned vs id actor
    unfolding Owned
    of_joined vs here at ne actor p = dite (dec_le (suc actor) (v.from + length v.seen))
        (λ lt. (id, v, here, (p.0, lt), inl refl, ne))
        (λ nlt. let ge = lt_of_not-le nlt in (other, w, at, (omega (arith, meet, ge), omega (arith, meet, p.1, length-append v.seen w.seen)), inr (refl, refl), ne))

    owned : (vs : List W) → get_elem? vs id ≡ some v → get_elem? vs other ≡ some w → id ≢ other → (a : ℕ) (x : W) → get_elem? (set (set vs id (joined v w)) other spent) a ≡ some x → (actor : ℕ) → Has x actor → Owned vs a actor
    unfolding Owned
    owned vs here at ne a x e actor hx = ⊎_elim
        (λ (p : (a ≡ other) × (spent ≡ x)). let q = subst (λ (z : W). Has z actor) (sym p.1) hx in absurd (omega (arith, q.1)))
        (λ (p : (a ≢ other) × (get_elem? (set vs id (joined v w)) a ≡ some x)). ⊎_elim
        (λ (q : (a ≡ id) × (joined v w ≡ x)). subst (λ (c : ℕ). Owned vs c actor) (sym q.0) (of_joined vs here at ne actor (subst (λ (z : W). Has z actor) (sym q.1) hx)))
        (λ (q : (a ≢ id) × (get_elem? vs a ≡ some x)). (a, x, q.1, hx, inl refl, p.0))
        (at_set vs id a (joined v w) x p.1))
        (at_set (set vs id (joined v w)) other a spent x e)

    -- two of them are of two
    differ : (a b o o' : ℕ) → a ≢ b → a ≢ other → b ≢ other → (o ≡ a) ⊎ ((a ≡ id) × (o ≡ other)) → (o' ≡ b) ⊎ ((b ≡ id) × (o' ≡ other)) → o ≢ o'
    differ a b o o' ne na nb c c' same = ⊎_elim
        (λ (p : o ≡ a). ⊎_elim
        (λ (q : o' ≡ b). ne (sym p ∙ same ∙ q))
        (λ (q : (b ≡ id) × (o' ≡ other)). na (sym p ∙ same ∙ q.1)) c')
        (λ (p : (a ≡ id) × (o ≡ other)). ⊎_elim
        (λ (q : o' ≡ b). nb (sym q ∙ sym same ∙ p.1))
        (λ (q : (b ≡ id) × (o' ≡ other)). ne (p.0 ∙ sym q.0)) c')
        c

    pub joins : v.taken ≡ None → w.taken ≡ None → Joins (Kept moves actors k) id v other w (joined v w) spent
    unfolding Owned
    joins idle idle' s h here ne there' =
        let at : get_elem? s.views other ≡ some w = sym (set_else s.views id other (joined v w) ne) ∙ there' in
        let ne' : id ≢ other = λ e. ne (sym e) in
        let m = h.views id v here in
        let m' = h.views other w at in
        record {
          last = h.last;
          holder = h.holder;
          follows = h.follows;
          home = home_set h.last h.holder (set s.views id (joined v w)) s.words s.homes other w spent there' idle' (home_set h.last h.holder s.views s.words s.homes id v (joined v w) here idle h.home);
          views = views_set h.last h.holder s.words (set s.views id (joined v w)) other spent
              (record { range = omega arith; knows = λ i x e. absurd (some-ne-none x (sym e)); taken = tt })
              (views_set h.last h.holder s.words s.views id (joined v w)
              (record {
                range = omega (arith, m'.range, meet, length-append v.seen w.seen);
                knows = λ i x e. ⊎_elim (λ (p : get_elem? v.seen i ≡ some x). m.knows i x p)
                    (λ (p : (j : ℕ) × (i ≡ length v.seen + j) × (get_elem? w.seen j ≡ some x)). let q : w.from + p.0 ≡ v.from + i = omega (arith, meet, p.1) in subst (λ (a : ℕ). Beside moves a x h.last) q (m'.knows p.0 x p.2))
                    (in_append v.seen w.seen i x e);
                taken = tt;
              }) h.views);
          apart = λ a b x y ax by d actor hx hy.
              let p = owned s.views here at ne' a x ax actor hx in
              let q = owned s.views here at ne' b y by actor hy in
              h.apart p.0 q.0 p.1 q.1 p.2 q.2 (differ a b p.0 q.0 d p.5 q.5 p.4 q.4) actor p.3 q.3;
        }
