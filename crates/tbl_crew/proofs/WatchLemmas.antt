-- What the watcher has seen, from turn to turn.
use Rattle.std.proofs.Common.{◌≡◌, ◌≢◌, ℕ, ◌+◌, List, [], ◌∷◌, ◌++◌, length, length-append, append_assoc, drop, replicate, ◌⊎◌, true, false, Option, Some, None, Result, Ok, Err, refl, sym, ap, ◌∙◌, subst, inl, inr, arith, ℤ}
use Rattle.std.specs.Prelude.{OnOk, OnErr, IsErr}
use Rattle.std.specs.Option.{unwrap_or}
use Rattle.std.proofs.lemmas.List.{append-nil, map-append}
use Rattle.std.proofs.lemmas.List.Elements.{All-nil, All-push}
use lib.ListN.{get_elem?}
use Rattle.turn_lock.specs.Turns.{Beside, Knows}
use Rattle.turn_lock.proofs.Lists.{in_drop}
use Rattle.turn_lock.proofs.Paths.{carried}
use Rattle.tbl_kinds.specs.Check.{check16}
use Rattle.tbl_kinds.specs.declared.entry.Entry.{Entry}
use Rattle.tbl_kinds.specs.declared.request.Request.{Request}
use Rattle.tbl_model.specs.State.{Tables}
use Rattle.tbl_model.specs.Whole.{is_by}
use Rattle.tbl_outside.specs.declared.bank.Bank.{Ghosts}
use Rattle.tbl_registry.specs.Lending.{pinned_image, name_by}
use Rattle.tbl_session.specs.Actors.{actor_count}
use Rattle.tbl_session.specs.Openings.{Opening}
use Rattle.table_watch.specs.Looks.{looked, next_look}
use Rattle.table_watch.specs.Watching.{watcher, handle_watched, look_by, watched_by, place_by, places_from, AreLooksOf}
use Rattle.table_watch.specs.declared.watch.Look.{Look}
use Rattle.tbl_crew.specs.CrewView.{CrewView}
use Rattle.tbl_crew.specs.Leading.{LeadsFrom}
use Rattle.tbl_crew.specs.Moves.{Grows, Moves, HasTurned, HaveTurned}
use Rattle.tbl_crew.specs.Reads.{last_got}
use Rattle.tbl_crew.specs.Turns.{PlaysNext, Turns}
use Rattle.tbl_crew.specs.Watching.{looks_after, AreLooks, LacksLook, HasWatched, HasMissed, HasLooked, HaveWatched, HaveMissed, HaveLooked}
use Rattle.tbl_crew.proofs.LendingLemmas.{last_of}
use Rattle.std.specs.Result.{is_err}
use Rattle.tbl_core.specs.declared.service.StepFault.{StepFault}
use Rattle.tbl_registry.specs.declared.pin.Pin.{Pin}
use Rattle.tbl_crew.specs.declared.held.Turn.{Turn}
use Rattle.tbl_crew.specs.declared.held.Turn.TheVariants.{Played, Pinned, PinMemory, Ended, Done}
use Rattle.tbl_crew.proofs.LookLemmas.{tables_after, watched_push, places_push, other_actor, by_other, by_watcher, none_got, same_looks, no_looks}

-- ---- the looks of a turn without one

module _ {B C : Type 0} (g : Ghosts B) (o : Opening B C) (looks : List Look) where
  all_looks : (fault : Option StepFault) (entries : List Entry) → AreLooksOf g.tells o.state entries looks → AreLooks g o fault looks entries
  all_looks None entries are = are
  all_looks (Some cause) entries are = (entries, [], sym (append-nil entries), omega arith, are)

  looks_on : (was now : Option StepFault) (actor : ℕ) (old new : List Entry) → (now ≡ None → was ≡ None) → ((cause : StepFault) → was ≡ Some cause → new ≡ old) → Grows old actor new
      → (now ≡ None → AreLooksOf g.tells o.state old looks → AreLooksOf g.tells o.state new looks) → AreLooks g o was looks old → AreLooks g o now looks new
  looks_on None None actor old new went stops grows same had = same refl had
  looks_on None (Some cause) actor old new went stops (inl is) same had = (old, [], is ∙ sym (append-nil old), omega arith, had)
  looks_on None (Some cause) actor old new went stops (inr more) same had = (old, more.0 ∷ [], more.1, omega arith, had)
  looks_on (Some before) None actor old new went stops grows same had = absurd (let none = went refl in cc none)
  looks_on (Some before) (Some cause) actor old new went stops grows same had = (had.0, had.1, stops before refl ∙ had.2, had.3, had.4)

  -- an entry of another actor after the call whose look is missing
  lacks_on : (actor : ℕ) (old new : List Entry) → actor ≢ watcher → Grows old actor new → LacksLook g o looks old → LacksLook g o looks new
  lacks_on actor old new apart (inl same) had = subst (LacksLook g o looks) (sym same) had
  lacks_on actor old new apart (inr more) had = record {
    before = had.before;
    call = had.call;
    after = had.after ++ more.0 ∷ [];
    handle = had.handle;
    parts = more.1 ∙ ap (λ (es : List Entry). es ++ more.0 ∷ []) had.parts ∙ append_assoc had.before (had.call ∷ had.after) (more.0 ∷ []);
    got = had.got;
    last = All-push (λ (e : Entry). is_by watcher e.actor ≡ false) had.after more.0 had.last (ap (is_by watcher) more.2 ∙ other_actor actor apart);
    seen = had.seen;
  }

module _ {B C : Type 0} (g : Ghosts B) (verdict : C → List ℕ → ℤ) (first : CrewView B C) (looks : List Look) where
  abbrev Has : CrewView B C → Type 0
  Has h = HasWatched g verdict first looks h

  abbrev Misses : CrewView B C → Type 0
  Misses h = HasMissed g verdict first looks h

  without : (y z : CrewView B C) (actor : ℕ) → Moves g verdict y actor z → (o : Opening B C) → (z.fault ≡ None → AreLooksOf g.tells o.state y.core.entries looks → AreLooksOf g.tells o.state z.core.entries looks)
      → AreLooks g o y.fault looks y.core.entries → AreLooks g o z.fault looks z.core.entries
  without y z actor m o same had = looks_on g o looks y.fault z.fault actor y.core.entries z.core.entries m.went (λ cause is. ap (λ (h : CrewView B C). h.core.entries) (m.stops cause is)) m.grows same had

  -- ---- a turn of another actor

  pub watched_other : (y z : CrewView B C) (actor : ℕ) → actor ≢ watcher → Has y → Moves g verdict y actor z → Has z
  watched_other y z actor apart had m o scripts from =
      let was = had o scripts from in
      (m.leads o scripts was.0, without y z actor m o (λ _. same m.grows) was.1)
    where
      same : Grows y.core.entries actor z.core.entries → AreLooksOf g.tells o.state y.core.entries looks → AreLooksOf g.tells o.state z.core.entries looks
      same (inl is) was = subst (λ (entries : List Entry). AreLooksOf g.tells o.state entries looks) (sym is) was
      same (inr more) was = same_looks g.tells o.state looks y.core.entries z.core.entries more.0 more.1 (by_other actor more.0 apart more.2) was

  missed_other : (y z : CrewView B C) (actor : ℕ) → actor ≢ watcher → Misses y → Moves g verdict y actor z → Misses z
  missed_other y z actor apart had m o scripts from = lacks_on g o looks actor y.core.entries z.core.entries apart m.grows (had o scripts from)

  missed_beside : (seen now : CrewView B C) → Beside (Moves g verdict) watcher seen now → Misses seen → Misses now
  missed_beside seen now beside had = carried (Moves g verdict) (λ other. other ≢ watcher) Misses (λ y z a apart was m. missed_other y z a apart was m) seen now beside had

  pub watched_beside : (seen now : CrewView B C) → Beside (Moves g verdict) watcher seen now → Has seen → Has now
  watched_beside seen now beside had = carried (Moves g verdict) (λ other. other ≢ watcher) Has (λ y z a apart was m. watched_other y z a apart was m) seen now beside had

  -- ---- a turn of the watcher

  pinned_looks : (y z : CrewView B C) (pin : Pin) → PlaysNext g y z watcher (Pinned pin) → (o : Opening B C) (scripts : List (List Request)) → LeadsFrom g verdict o scripts z
      → AreLooksOf g.tells o.state y.core.entries looks → AreLooksOf g.tells o.state z.core.entries (looked looks pin.place pin.name (check16 pin.bytes))
  pinned_looks y z pin turned o scripts leads were =
      let e = turned.adds.entry in
      let added = turned.adds.added in
      let lent = turned.lends in
      let got : handle_watched e ≡ Some pin.handle = by_watcher e turned.adds.actor_is ∙ sym (last_of y.core.entries z.core.entries e added) ∙ lent.handle in
      let long : length z.core.entries ≡ length y.core.entries + 1 = ap length added ∙ omega (arith, length-append y.core.entries (e ∷ [])) in
      let place : pin.place ≡ length y.core.entries = omega (arith, long, lent.place) in
      let here : pin.place ≡ 0 + length y.core.entries = omega (arith, long, lent.place) in
      let after : List Entry = y.core.entries ++ e ∷ [] in
      let tables : g.tells → tables_after o.state after ≡ z.core.state.tables = λ tells. ap (tables_after o.state) (sym added) ∙ (leads.serves.vouches.stands.shows tells).state.parts.tables in
      let name : g.tells → pin.name ≡ name_by pin.handle (tables_after o.state after) = λ tells. sym (ap (name_by pin.handle) (tables tells) ∙ lent.name) in
      let bytes : g.tells → pin.bytes ≡ unwrap_or (pinned_image pin.handle (tables_after o.state after)) [] = λ tells.
      sym (ap (λ (t : Tables). unwrap_or (pinned_image pin.handle t) []) (tables tells) ∙ ap (λ (image : Option (List ℕ)). unwrap_or image []) lent.image) in
      record {
        places = map-append (λ (look : Look). look.place) looks (next_look looks pin.place pin.name (check16 pin.bytes) ∷ [])
            ∙ (λ i. were.places i ++ here i ∷ [])
            ∙ sym (ap (places_from 0) added ∙ places_push 0 y.core.entries e ∙ ap (λ (handle : Option ℕ). places_from 0 y.core.entries ++ place_by (0 + length y.core.entries) handle) got);
        seen = λ tells. (λ i. looked (were.seen tells i) (place i) (name tells i) (check16 (bytes tells i)))
            ∙ sym (ap (watched_by o.state) added ∙ watched_push o.state y.core.entries e ∙ ap (look_by (tables_after o.state after) (length y.core.entries) (watched_by o.state y.core.entries)) got);
      }

  -- before a turn that played a request, no step had answered a fault
  looks_before : (y z : CrewView B C) (turn : Turn) → PlaysNext g y z watcher turn → (o : Opening B C) → AreLooks g o y.fault looks y.core.entries → AreLooksOf g.tells o.state y.core.entries looks
  looks_before y z turn turned o had = subst (λ (f : Option StepFault). AreLooks g o f looks y.core.entries) turned.went had

  watched_own : (y z : CrewView B C) (turn : Turn) → turn ≢ PinMemory → Has y → Turns g y z watcher turn → Moves g verdict y watcher z → HasWatched g verdict first (looks_after looks turn) z
  watched_own y z Played ne had turned m o scripts from =
      let was = had o scripts from in
      let none = sym (last_of y.core.entries z.core.entries turned.adds.entry turned.adds.added) ∙ turned.lends in
      let same = same_looks g.tells o.state looks y.core.entries z.core.entries turned.adds.entry turned.adds.added (none_got turned.adds.entry none) in
      (m.leads o scripts was.0, without y z watcher m o (λ _. same) was.1)
  watched_own y z (Pinned pin) ne had turned m o scripts from =
      let was = had o scripts from in
      let leads = m.leads o scripts was.0 in
      let now = pinned_looks y z pin turned o scripts leads (looks_before y z (Pinned pin) turned o was.1) in
      (leads, all_looks g o (looks_after looks (Pinned pin)) z.fault z.core.entries now)
  watched_own y z PinMemory ne had turned m o scripts from = absurd (ne refl)
  watched_own y z Ended ne had (inl now) m o scripts from =
      let was = had o scripts from in
      (m.leads o scripts was.0, without y z watcher m o (λ goes. absurd (let is = now.keeps in cc (is, goes))) was.1)
  watched_own y z Ended ne had (inr before) m o scripts from =
      let was = had o scripts from in
      (m.leads o scripts was.0, without y z watcher m o (λ goes. subst (λ (h : CrewView B C). AreLooksOf g.tells o.state h.core.entries looks) (sym before.same)) was.1)
  watched_own y z Done ne had turned m o scripts from =
      let was = had o scripts from in
      (m.leads o scripts was.0, without y z watcher m o (λ goes. subst (λ (h : CrewView B C). AreLooksOf g.tells o.state h.core.entries looks) (sym turned.same)) was.1)

  -- a turn that got an address, without a look
  missed_own : (y z : CrewView B C) (turn : Turn) (handle : ℕ) → last_got z.core.entries ≡ Some handle → PlaysNext g y z watcher turn → Has y → Misses z
  missed_own y z turn handle got turned had o scripts from =
      let e = turned.adds.entry in
      let added = turned.adds.added in
      record {
        before = y.core.entries;
        call = e;
        after = [];
        handle = handle;
        parts = added;
        got = by_watcher e turned.adds.actor_is ∙ sym (last_of y.core.entries z.core.entries e added) ∙ got;
        last = All-nil (λ (x : Entry). is_by watcher x.actor ≡ false);
        seen = looks_before y z turn turned o (had o scripts from).1;
      }

  -- by what it saw last
  watched_turned : (turn : Turn) (olds news : List (CrewView B C)) → turn ≢ PinMemory → HaveWatched g verdict first looks olds → HaveTurned g verdict watcher turn olds news → HaveWatched g verdict first (looks_after looks turn) news
  watched_turned turn [] news ne had t = absurd had
  watched_turned turn (x ∷ xs) [] ne had t = absurd t
  watched_turned turn (x ∷ xs) (z ∷ zs) ne had t = watched_own t.taken z turn ne (watched_beside x t.taken t.beside had) t.turns t.moves

  module _ (turn : Turn) (olds news : List (CrewView B C)) (had : HaveWatched g verdict first looks olds) (turned : HaveTurned g verdict watcher turn olds news) where
    -- if the turn got no address, the looks are as they were
    pub watched_played : turn ≡ Played → HaveWatched g verdict first looks news
    watched_played is = subst (λ (t : Turn). HaveWatched g verdict first (looks_after looks t) news) is (watched_turned turn olds news (λ e. cc (is, e)) had turned)

    -- if it got one, there is one look more
    pub watched_pinned : (pin : Pin) (after : List Look) → turn ≡ Pinned pin → after ≡ looked looks pin.place pin.name (check16 pin.bytes) → HaveWatched g verdict first after news
    watched_pinned pin after is more =
        let now : HaveWatched g verdict first (looked looks pin.place pin.name (check16 pin.bytes)) news = subst (λ (t : Turn). HaveWatched g verdict first (looks_after looks t) news) is (watched_turned turn olds news (λ e. cc (is, e)) had turned) in
        subst (λ (l : List Look). HaveWatched g verdict first l news) (sym more) now

    -- or the look is missing
    missed_by : (x z : CrewView B C) → Has x → HasTurned g verdict watcher turn x z → ((pin : Pin) × (turn ≡ Pinned pin)) ⊎ (turn ≡ PinMemory) → Misses z
    missed_by x z has t (inl pinned) =
        let turns : PlaysNext g t.taken z watcher (Pinned pinned.0) = subst (λ (u : Turn). Turns g t.taken z watcher u) pinned.1 t.turns in
        missed_own t.taken z (Pinned pinned.0) pinned.0.handle turns.lends.handle turns (watched_beside x t.taken t.beside has)
    missed_by x z has t (inr is) =
        let turns : PlaysNext g t.taken z watcher PinMemory = subst (λ (u : Turn). Turns g t.taken z watcher u) is t.turns in
        missed_own t.taken z PinMemory turns.lends.0 turns.lends.1 turns (watched_beside x t.taken t.beside has)

    pub missed_turned : ((pin : Pin) × (turn ≡ Pinned pin)) ⊎ (turn ≡ PinMemory) → HaveMissed g verdict first looks news
    missed_turned got = by olds news had turned where
      by : (xs zs : List (CrewView B C)) → HaveWatched g verdict first looks xs → HaveTurned g verdict watcher turn xs zs → HaveMissed g verdict first looks zs
      by [] zs has t = absurd has
      by (x ∷ xs) [] has t = absurd t
      by (x ∷ xs) (z ∷ zs) has t = missed_by x z has t got

    -- and if nothing was played
    pub watched_over : (turn ≡ Ended) ⊎ (turn ≡ Done) → HaveWatched g verdict first looks news
    watched_over (inl is) = subst (λ (t : Turn). HaveWatched g verdict first (looks_after looks t) news) is (watched_turned turn olds news (λ e. cc (is, e)) had turned)
    watched_over (inr is) = subst (λ (t : Turn). HaveWatched g verdict first (looks_after looks t) news) is (watched_turned turn olds news (λ e. cc (is, e)) had turned)

  -- ---- the beginning and the end

  pub watched_first : looks ≡ [] → first.core.entries ≡ [] → Has first
  watched_first nothing empty o scripts from =
      let none : AreLooksOf g.tells o.state first.core.entries looks = no_looks g.tells o.state looks first.core.entries nothing empty in
      (from, all_looks g o looks first.fault first.core.entries none)

  pub watched_begin : looks ≡ [] → first.core.entries ≡ [] → (seen : List (CrewView B C)) → seen ≡ replicate actor_count first → HaveWatched g verdict first looks (drop watcher seen)
  watched_begin nothing empty seen is = subst (λ (l : List (CrewView B C)). HaveWatched g verdict first looks (drop watcher l)) (sym is) (watched_first nothing empty)

  pub looked_close : {M : Type 0} (result : Result Unit M) (seen : List (CrewView B C)) (now : CrewView B C) → HaveLooked g verdict first result looks (drop watcher seen) → Knows (Moves g verdict) 0 seen now
      → HasLooked g verdict first result looks now
  looked_close result seen now had knows = by (drop watcher seen) refl result had where
    seen_last : (x : CrewView B C) (xs : List (CrewView B C)) → drop watcher seen ≡ x ∷ xs → Beside (Moves g verdict) watcher x now
    seen_last x xs at = knows watcher x (in_drop watcher seen 0 x (ap (λ (l : List (CrewView B C)). get_elem? l 0) at))

    by : {M : Type 0} (l : List (CrewView B C)) → drop watcher seen ≡ l → (r : Result Unit M) → HaveLooked g verdict first r looks l → HasLooked g verdict first r looks now
    by [] at (Ok done) has = absurd has
    by [] at (Err memory) has = absurd has
    by (x ∷ xs) at (Ok done) has = watched_beside x now (seen_last x xs at) has
    by (x ∷ xs) at (Err memory) has = missed_beside x now (seen_last x xs at) has

-- without the lock
pub own_turn : {B C : Type 0} (g : Ghosts B) (verdict : C → List ℕ → ℤ) (y z : CrewView B C) (turn : Turn) → Turns g y z watcher turn → Moves g verdict y watcher z → HasTurned g verdict watcher turn y z
own_turn g verdict y z turn turned moves = record { taken = y; beside = ([], refl); turns = turned; moves = moves }

-- if memory ran out for a look, its answer is handed on
pub handed_on : {B C M : Type 0} (g : Ghosts B) (verdict : C → List ℕ → ℤ) (first : CrewView B C) (r : Result Unit M) (looks : List Look) (h : CrewView B C) → IsErr r → HasMissed g verdict first looks h → HasLooked g verdict first r looks h
handed_on g verdict first (Ok done) looks h is missed = absurd (cc is)
handed_on g verdict first (Err memory) looks h is missed = missed

-- a look for which memory ran out
pub was_err : {T E : Type 0} {P : Type 0} (r : Result T E) → is_err r ≡ true → OnErr r P → P
was_err (Ok x) is p = absurd (cc is)
was_err (Err e) is p = p

-- a look for which it didn't
pub was_ok : {T E : Type 0} {P : Type 0} (r : Result T E) → is_err r ≡ false → OnOk r P → P
was_ok (Ok x) is p = p
was_ok (Err e) is p = absurd (cc is)
