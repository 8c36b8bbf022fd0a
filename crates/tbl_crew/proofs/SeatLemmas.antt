-- The seats of the watcher and of the others.
use Rattle.std.proofs.Common.{◌≡◌, ℕ, ◌+◌, ◌<◌, List, [], ◌++◌, length, take, drop, replicate, ◌-◌, ◌≤◌, Option, Result, Ok, Err, sym, ap, ◌∙◌, subst, arith, ℤ}
use Rattle.std.specs.Prelude.{OnOk}
use Rattle.turn_lock.specs.Turns.{Idle, IsSeat, seat_view}
use Rattle.tbl_outside.specs.declared.bank.Bank.{Ghosts}
use Rattle.tbl_session.specs.Actors.{actor_count}
use Rattle.table_watch.specs.Watching.{watcher}
use Rattle.table_watch.specs.declared.watch.Look.{Look}
use Rattle.tbl_crew.specs.CrewView.{CrewView}
use Rattle.tbl_crew.specs.Moves.{HaveEnded, HaveLeft}
use Rattle.tbl_crew.specs.Watching.{HaveWatched, HaveLooked}
use Rattle.tbl_crew.proofs.MoveLemmas.{left_low, left_high, all_left, ended_both}
use Rattle.atomic_table.specs.Table.{Me}
use Rattle.std.proofs.Math.Seq.{take-append_seam, drop-append_seam}
use Rattle.std.proofs.lemmas.List.{length-take-le, length-drop, length-replicate}
use Rattle.std.specs.Prelude.{slice_index}
use Rattle.tbl_crew.specs.Scripts.{script_of}
use Rattle.turn_lock.specs.declared.rule.View.{View}

abbrev Seat' : Type 0 → Type 0 → Type 0
Seat' B C = Me (Option (CrewView B C)) (View (CrewView B C))

module _ {B C : Type 0} where
  module _ (m m' : Seat' B C) (is : IsSeat m 0 actor_count) where
    seen_is : (from : ℕ) (seen : List (CrewView B C)) → Idle m' from seen → m'.0.seen ≡ seen
    seen_is from seen idle = ap (λ (x : Seat' B C). x.0.seen) idle

    fewer : length m.0.seen - 1 ≡ watcher
    fewer = ap (λ (n : ℕ). n - 1) is.1

    from_is : m.0.from ≡ 0
    from_is = ap (λ (x : Seat' B C). x.0.from) is.0

    pub others_seat : Idle m' m.0.from (take (length m.0.seen - 1) m.0.seen) → IsSeat m' 0 watcher
    others_seat split =
        let seen = seen_is m.0.from _ split in
        let within : watcher ≤ length m.0.seen = omega (arith, is.1) in
        let long : length m'.0.seen ≡ watcher = ap length seen ∙ ap (λ (n : ℕ). length (take n m.0.seen)) fewer ∙ length-take-le watcher m.0.seen within in
        (split ∙ (λ i. (seat_view (from_is i) (sym seen i), [])), long)

    pub others_left : (count : ℕ → ℕ) → Idle m' m.0.from (take (length m.0.seen - 1) m.0.seen) → HaveLeft count 0 m.0.seen → HaveLeft count 0 m'.0.seen
    others_left count split left = subst (λ (l : List (CrewView B C)). HaveLeft count 0 l) (sym (seen_is m.0.from _ split)) (left_low count 0 (length m.0.seen - 1) m.0.seen left)

    pub watcher_seen : Idle m' (m.0.from + (length m.0.seen - 1)) (drop (length m.0.seen - 1) m.0.seen) → m'.0.seen ≡ drop watcher m.0.seen
    watcher_seen split = seen_is _ _ split ∙ ap (λ (n : ℕ). drop n m.0.seen) fewer

    pub watcher_seat : Idle m' (m.0.from + (length m.0.seen - 1)) (drop (length m.0.seen - 1) m.0.seen) → IsSeat m' watcher 1
    watcher_seat split =
        let seen = seen_is _ _ split in
        let from : m.0.from + (length m.0.seen - 1) ≡ watcher = λ i. from_is i + fewer i in
        let dropped : length (drop watcher m.0.seen) ≡ length m.0.seen - watcher = length-drop watcher m.0.seen in
        let long : length m'.0.seen ≡ 1 = ap length (watcher_seen split) ∙ omega (arith, dropped, is.1) in
        (split ∙ (λ i. (seat_view (from i) (sym seen i), [])), long)

    pub watcher_left : (count : ℕ → ℕ) → Idle m' (m.0.from + (length m.0.seen - 1)) (drop (length m.0.seen - 1) m.0.seen) → HaveLeft count 0 m.0.seen → HaveLeft count watcher m'.0.seen
    watcher_left count split left = subst (λ (l : List (CrewView B C)). HaveLeft count watcher l) (sym (watcher_seen split)) (left_high count 0 watcher m.0.seen left)

    pub watcher_watched : (g : Ghosts B) (verdict : C → List ℕ → ℤ) (first : CrewView B C) (looks : List Look) → Idle m' (m.0.from + (length m.0.seen - 1)) (drop (length m.0.seen - 1) m.0.seen)
        → HaveWatched g verdict first looks (drop watcher m.0.seen) → HaveWatched g verdict first looks m'.0.seen
    watcher_watched g verdict first looks split had = subst (HaveWatched g verdict first looks) (sym (watcher_seen split)) had

  -- the first seat
  pub first_seat : (m : Seat' B C) (first : CrewView B C) → Idle m 0 (replicate actor_count first) → IsSeat m 0 actor_count
  first_seat m first idle =
      let seen = ap (λ (x : Seat' B C). x.0.seen) idle in
      (idle ∙ (λ i. (seat_view 0 (sym seen i), [])), ap length seen ∙ length-replicate actor_count first)

  pub first_left : (m : Seat' B C) (first : CrewView B C) → Idle m 0 (replicate actor_count first) → (counts : List ℕ) → ((actor : ℕ) → actor < actor_count → length (script_of first.left actor) ≡ slice_index counts actor) → HaveLeft (slice_index counts) 0 m.0.seen
  first_left m first idle counts left = subst (λ (l : List (CrewView B C)). HaveLeft (slice_index counts) 0 l) (sym (ap (λ (x : Seat' B C). x.0.seen) idle)) (all_left first actor_count counts left)

  -- both again
  pub all_seen : (low last m : Seat' B C) → IsSeat low 0 watcher → Idle m low.0.from (low.0.seen ++ last.0.seen) → drop watcher m.0.seen ≡ last.0.seen
  all_seen low last m is joined =
      ap (λ (x : Seat' B C). drop watcher x.0.seen) joined ∙ ap (λ (n : ℕ). drop n (low.0.seen ++ last.0.seen)) (sym is.1) ∙ drop-append_seam low.0.seen last.0.seen

  pub both_ended : {T E : Type 0} (result : Result T E) (low last m : Seat' B C) → IsSeat low 0 watcher → Idle m low.0.from (low.0.seen ++ last.0.seen) → HaveEnded 0 low.0.seen → OnOk result (HaveEnded watcher last.0.seen) → OnOk result (HaveEnded 0 m.0.seen)
  both_ended (Err e) low last m is joined ended more = tt
  both_ended (Ok x) low last m is joined ended more =
      let meet : watcher ≡ 0 + length low.0.seen = omega (arith, is.1) in
      subst (λ (l : List (CrewView B C)). HaveEnded 0 l) (sym (ap (λ (x : Seat' B C). x.0.seen) joined)) (ended_both 0 watcher low.0.seen last.0.seen meet ended more)

  pub last_looked : {M : Type 0} (g : Ghosts B) (verdict : C → List ℕ → ℤ) (first : CrewView B C) (looks : List Look) (result : Result Unit M) (low last m : Seat' B C) → IsSeat low 0 watcher → Idle m low.0.from (low.0.seen ++ last.0.seen)
      → HaveLooked g verdict first result looks last.0.seen → HaveLooked g verdict first result looks (drop watcher m.0.seen)
  last_looked g verdict first looks result low last m is joined had = subst (HaveLooked g verdict first result looks) (sym (all_seen low last m is joined)) had

  pub others_ended : (low last m : Seat' B C) → IsSeat low 0 watcher → Idle m low.0.from (low.0.seen ++ last.0.seen) → HaveEnded 0 low.0.seen → HaveEnded 0 (take watcher m.0.seen)
  others_ended low last m is joined ended =
      let all : take watcher m.0.seen ≡ take watcher (low.0.seen ++ last.0.seen) = ap (λ (x : Seat' B C). take watcher x.0.seen) joined in
      let same : take watcher m.0.seen ≡ low.0.seen = all ∙ ap (λ (n : ℕ). take n (low.0.seen ++ last.0.seen)) (sym is.1) ∙ take-append_seam low.0.seen last.0.seen in
      subst (HaveEnded 0) (sym same) ended
