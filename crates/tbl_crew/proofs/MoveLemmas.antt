-- Turns under the lock: what they lead on to, and what a thread keeps knowing of its own actors.
use Rattle.std.proofs.Common.{◌≡◌, ◌≢◌, ℕ, zero, suc, ◌+◌, ◌-◌, ◌/◌, ◌<◌, ◌≤◌, List, [], ◌∷◌, ◌++◌, length, take, drop, Option, refl, sym, ap, ◌∙◌, subst, ⊎_elim, arith, ℤ}
use Rattle.std.specs.Prelude.{slice_index, replicate}
use Rattle.std.proofs.lemmas.List.{length-append, length-replicate, length-take-le, length-drop}
use mathlib.Core.Option.{some, some-ne-none}
use lib.ListN.{get_elem?}
use Rattle.tbl_outside.specs.declared.bank.Bank.{Ghosts}
use Rattle.atomic_table.specs.Table.{Me}
use Rattle.turn_lock.specs.Turns.{Since, Beside, Knows, Idle, IsSeat, seat_view}
use Rattle.turn_lock.specs.declared.rule.View.{View}
use Rattle.turn_lock.proofs.Lists.{there, in_take, in_drop, in_append, in_replicate, in_one}
use Rattle.turn_lock.proofs.Paths.{carried}
use Rattle.tbl_crew.specs.CrewView.{CrewView}
use Rattle.tbl_crew.specs.Leading.{LeadsOn}
use Rattle.tbl_crew.specs.Moves.{Moves, HasEnded, HaveEnded, HaveLeft}
use Rattle.tbl_crew.specs.Scripts.{script_of}
use Rattle.tbl_crew.specs.Seats.{Place, ArePlayed}

module _ {B C : Type 0} (g : Ghosts B) (verdict : C → List ℕ → ℤ) where
  abbrev Moved : CrewView B C → ℕ → CrewView B C → Type 0
  Moved old actor new = Moves g verdict old actor new

  -- all turns together lead on
  pub since_leads : (first last : CrewView B C) → Since Moved first last → LeadsOn g verdict first last
  since_leads first last since = carried Moved (λ _. Unit {0}) (LeadsOn g verdict first) (λ y z a _ led m o scripts was. m.leads o scripts (led o scripts was)) first last since (λ o scripts was. was)

  -- turns of others leave an actor's script
  pub own_stays : (actor : ℕ) (seen now : CrewView B C) → Beside Moved actor seen now → script_of now.left actor ≡ script_of seen.left actor
  own_stays actor seen now beside = carried Moved (λ other. other ≢ actor) (λ (h : CrewView B C). script_of h.left actor ≡ script_of seen.left actor)
      (λ y z a apart same m. m.others actor (λ e. apart (sym e)) ∙ same) seen now beside refl

  -- and that it has ended
  pub stays_ended : (actor : ℕ) (seen now : CrewView B C) → Beside Moved actor seen now → HasEnded seen actor → HasEnded now actor
  stays_ended actor seen now beside ended = carried Moved (λ other. other ≢ actor) (λ (h : CrewView B C). HasEnded h actor)
      (λ y z a apart had m goes. m.others actor (λ e. apart (sym e)) ∙ had (m.went goes)) seen now beside ended

  -- so what the seats of all actors saw holds of the value that comes out
  pub all_ended : (seen : List (CrewView B C)) (now : CrewView B C) (count : ℕ) → length seen ≡ count → Knows Moved 0 seen now → HaveEnded 0 seen → (actor : ℕ) → actor < count → HasEnded now actor
  all_ended seen now count long knows ended actor within = let at = there_is seen actor (omega (arith, long, within)) in
      let same : 0 + actor ≡ actor = omega arith in
      stays_ended actor at.0 now (subst (λ (n : ℕ). Beside Moved n at.0 now) same (knows actor at.0 at.1)) (subst (λ (n : ℕ). HasEnded at.0 n) same (ended actor at.0 at.1))
    where
      there_is : (l : List (CrewView B C)) (i : ℕ) → i < length l → (h : CrewView B C) × (get_elem? l i ≡ some h)
      there_is [] i lt = absurd (omega (arith, lt))
      there_is (h ∷ l) zero lt = (h, refl)
      there_is (h ∷ l) (suc i) lt = there_is l i (omega (arith, lt))

-- ---- seats that are split and joined

module _ {B C : Type 0} where
  pub left_low : (count : ℕ → ℕ) (from n : ℕ) (seen : List (CrewView B C)) → HaveLeft count from seen → HaveLeft count from (take n seen)
  left_low count from n seen left i h at = left i h (in_take n seen i h at)

  pub left_high : (count : ℕ → ℕ) (from n : ℕ) (seen : List (CrewView B C)) → HaveLeft count from seen → HaveLeft count (from + n) (drop n seen)
  left_high count from n seen left i h at =
      let same : from + (n + i) ≡ (from + n) + i = omega arith in
      subst (λ (actor : ℕ). length (script_of h.left actor) ≡ count actor) same (left (n + i) h (in_drop n seen i h at))

  -- of one actor, by its number
  pub one_left : (counts : List ℕ) (from number : ℕ) (seen : List (CrewView B C)) → length seen ≡ 1 → number ≡ from → HaveLeft (slice_index counts) from seen → HaveLeft (λ _. slice_index counts number) from seen
  one_left counts from number seen one is left zero h at = let same : from + 0 ≡ number = omega (arith, is) in left zero h at ∙ ap (slice_index counts) same
  one_left counts from number seen one is left (suc i) h at = absurd (omega (arith, one, there seen (suc i) h at))

  pub ended_both : (from middle : ℕ) (low high : List (CrewView B C)) → middle ≡ from + length low → HaveEnded from low → HaveEnded middle high → HaveEnded from (low ++ high)
  ended_both from middle low high meet ended more i h at = ⊎_elim
      (λ (x : get_elem? low i ≡ some h). ended i h x)
      (λ (x : (j : ℕ) × (i ≡ length low + j) × (get_elem? high j ≡ some h)). let same : middle + x.0 ≡ from + i = omega (arith, meet, x.1) in subst (λ (actor : ℕ). HasEnded h actor) same (more x.0 h x.2))
      (in_append low high i h at)

  pub one_ended : (actor : ℕ) (h : CrewView B C) → HasEnded h actor → HaveEnded actor (h ∷ [])
  one_ended actor h ended zero x at = let same : actor ≡ actor + 0 = omega arith in subst (λ (n : ℕ). HasEnded x n) same (subst (λ (y : CrewView B C). HasEnded y actor) (in_one h 0 x at) ended)
  one_ended actor h ended (suc i) x at = absurd (some-ne-none x (sym at))

  -- at first each actor has its whole script
  pub all_left : (first : CrewView B C) (actors : ℕ) (counts : List ℕ) → ((actor : ℕ) → actor < actors → length (script_of first.left actor) ≡ slice_index counts actor) → HaveLeft (slice_index counts) 0 (replicate actors first)
  all_left first actors counts left i h at =
      let within : i < actors = omega (arith, there (replicate actors first) i h at, length-replicate actors first) in
      let same : i ≡ 0 + i = omega arith in
      subst (λ (actor : ℕ). length (script_of h.left actor) ≡ slice_index counts actor) same
      (subst (λ (x : CrewView B C). length (script_of x.left i) ≡ slice_index counts i) (in_replicate actors first i h at) (left i within))

  -- the halves of a seat, by what a split of it ensures
  module _ (m m' : Me (Option (CrewView B C)) (View (CrewView B C))) (from : ℕ) where
    pub low_seat : (count : ℕ) → IsSeat m from count → Idle m' m.0.from (take (length m.0.seen / 2) m.0.seen) → IsSeat m' from (count / 2)
    low_seat count is split =
        let at = ap (λ (x : Me (Option (CrewView B C)) (View (CrewView B C))). x.0.from) is.0 in
        let half : length m.0.seen / 2 ≤ length m.0.seen = omega arith in
        let seen = ap (λ (x : Me (Option (CrewView B C)) (View (CrewView B C))). x.0.seen) split in
        let long : length m'.0.seen ≡ count / 2 = ap length seen ∙ length-take-le (length m.0.seen / 2) m.0.seen half ∙ ap (λ n. n / 2) is.1 in
        (split ∙ (λ i. (seat_view (at i) (sym seen i), [])), long)

    pub high_seat : (count : ℕ) → IsSeat m from count → Idle m' (m.0.from + length m.0.seen / 2) (drop (length m.0.seen / 2) m.0.seen) → IsSeat m' (from + count / 2) (count - count / 2)
    high_seat count is split =
        let at = ap (λ (x : Me (Option (CrewView B C)) (View (CrewView B C))). x.0.from) is.0 in
        let seen = ap (λ (x : Me (Option (CrewView B C)) (View (CrewView B C))). x.0.seen) split in
        let place : m.0.from + length m.0.seen / 2 ≡ from + count / 2 = λ i. at i + is.1 i / 2 in
        let long : length m'.0.seen ≡ count - count / 2 = ap length seen ∙ length-drop (length m.0.seen / 2) m.0.seen ∙ ap (λ n. n - n / 2) is.1 in
        (split ∙ (λ i. (seat_view (place i) (sym seen i), [])), long)

    pub low_left : (count : ℕ → ℕ) → Idle m' m.0.from (take (length m.0.seen / 2) m.0.seen) → HaveLeft count from m.0.seen → HaveLeft count from m'.0.seen
    low_left count split left = subst (λ (l : List (CrewView B C)). HaveLeft count from l) (sym (ap (λ (x : Me (Option (CrewView B C)) (View (CrewView B C))). x.0.seen) split)) (left_low count from (length m.0.seen / 2) m.0.seen left)

    pub high_left : (count : ℕ → ℕ) (number : ℕ) → IsSeat m from number → Idle m' (m.0.from + length m.0.seen / 2) (drop (length m.0.seen / 2) m.0.seen) → HaveLeft count from m.0.seen → HaveLeft count (from + number / 2) m'.0.seen
    high_left count number is split left =
        subst (λ (n : ℕ). HaveLeft count (from + n / 2) m'.0.seen) is.1
        (subst (λ (l : List (CrewView B C)). HaveLeft count (from + length m.0.seen / 2) l) (sym (ap (λ (x : Me (Option (CrewView B C)) (View (CrewView B C))). x.0.seen) split)) (left_high count from (length m.0.seen / 2) m.0.seen left))

-- both halves have played, and are one again
pub played_both : {B C : Type 0} (first low high both : Place B C) (from a b count : ℕ) → low.table_id ≡ first.table_id → IsSeat low.me from a → IsSeat high.me (from + a) b → HaveEnded from low.me.0.seen → HaveEnded (from + a) high.me.0.seen
    → both.table_id ≡ low.table_id → Idle both.me low.me.0.from (low.me.0.seen ++ high.me.0.seen) → a + b ≡ count → ArePlayed first both from count
played_both {B} {C} first low high both from a b count own is is' ended more same joined all =
    let at = ap (λ (x : Me (Option (CrewView B C)) (View (CrewView B C))). x.0.from) is.0 in
    let seen = ap (λ (x : Me (Option (CrewView B C)) (View (CrewView B C))). x.0.seen) joined in
    let long : length both.me.0.seen ≡ count = ap length seen ∙ omega (arith, length-append low.me.0.seen high.me.0.seen, is.1, is'.1, all) in
    let meet : from + a ≡ from + length low.me.0.seen = omega (arith, is.1) in
    record {
      own = same ∙ own;
      seat = (joined ∙ (λ i. (seat_view (at i) (sym seen i), [])), long);
      ended = subst (λ (l : List (CrewView B C)). HaveEnded from l) (sym seen) (ended_both from (from + a) low.me.0.seen high.me.0.seen meet ended more);
    }
