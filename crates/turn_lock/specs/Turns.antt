-- What the lock keeps: one turn word, one slot, and seats, each with actors of its own and with what these saw last.
use Rattle.std.specs.Prelude.{◌≡◌, ◌≢◌, ℕ, ◌+◌, ◌<◌, ◌≤◌, ◌==◌, MatchBool, MatchOption, List, [], ◌∷◌, ◌++◌, ◌⊎◌, length, take, drop, replicate, Option, Some, None}
use mathlib.Core.Option.{Option as Maybe, some, none}
use lib.ListN.{get_elem?}
use Rattle.atomic_table.specs.Table.{State, Step, Me}
use Rattle.turn_lock.specs.declared.rule.View.{View}

module _ {T : Type 0} where
  -- ---- views

  -- nobody has the turn by this seat, which has these actors from one on, and what each saw last
  abbrev pub seat_view : ℕ → List T → View T
  seat_view from seen = record { taken = None; from = from; seen = seen }

  -- the first seat has all actors, and each has seen the first value
  abbrev pub all_seats : ℕ → T → View T
  all_seats actors first = seat_view 0 (replicate actors first)

  abbrev pub lower : ℕ → View T → View T
  lower n v = seat_view v.from (take n v.seen)

  abbrev pub upper : ℕ → View T → View T
  upper n v = seat_view (v.from + n) (drop n v.seen)

  abbrev pub joined : View T → View T → View T
  joined v w = seat_view v.from (v.seen ++ w.seen)

  abbrev pub spent : View T
  spent = seat_view 0 []

  abbrev pub taking : View T → T → View T
  taking v value = record { taken = Some value; from = v.from; seen = v.seen }

  -- this actor is one of the seat's
  abbrev pub Has : View T → ℕ → Type 0
  Has v actor = (v.from ≤ actor) × (actor < v.from + length v.seen)

  -- no actor is of two seats
  abbrev pub Apart : View T → View T → Type 0
  Apart v w = (actor : ℕ) → Has v actor → Has w actor → ⊥

  -- ---- seats

  abbrev pub Idle : Me (Option T) (View T) → ℕ → List T → Type 0
  Idle m from seen = m ≡ (seat_view from seen, [])

  -- it has so many actors, from one on
  abbrev pub IsSeat : Me (Option T) (View T) → ℕ → ℕ → Type 0
  IsSeat m from count = Idle m from m.0.seen × (length m.0.seen ≡ count)

  -- the turn is its, with this value, which is out of the slot
  abbrev pub Holds : Me (Option T) (View T) → ℕ → List T → T → Type 0
  Holds m from seen value = m ≡ (taking (seat_view from seen) value, (0, None) ∷ [])

  -- ---- the table

  -- the value is at home while nobody has the turn; else a seat has it
  abbrev pub Home : T → ℕ → List (View T) → List ℕ → List (Maybe (Option T)) → Type 0
  Home last holder views words homes =
      ((words ≡ 0 ∷ []) × (homes ≡ some (Some last) ∷ []))
      ⊎ ((v : View T) × (words ≡ 1 ∷ []) × (homes ≡ none ∷ []) × (get_elem? views holder ≡ some v) × (v.taken ≡ Some last) × (0 < length v.seen))

  -- a store tells what was put back
  abbrev pub Gives : Step (Option T) → Me (Option T) (View T) → ℕ → Me (Option T) (View T) → Type 0
  Gives s m found m' = (value : T) → m.1 ≡ (0, Some value) ∷ [] → m' ≡ (seat_view m.0.from (value ∷ []), [])

module _ {T : Type 0} (moves : T → ℕ → T → Type 0) where
  -- these turns, each of such an actor, lead from the one to the other
  abbrev pub Path : (ℕ → Type 0) → T → List (ℕ × T) → T → Type 0
  Path by x [] y = x ≡ y
  Path by x (t ∷ ts) y = by t.0 × moves x t.0 t.1 × Path by t.1 ts y

  abbrev pub Leads : (ℕ → Type 0) → T → T → Type 0
  Leads by x y = (turns : List (ℕ × T)) × Path by x turns y

  -- turns of whomever
  abbrev pub Since : T → T → Type 0
  Since x y = Leads (λ _. Unit {0}) x y

  -- turns of others alone
  abbrev pub Beside : ℕ → T → T → Type 0
  Beside actor x y = Leads (λ other. other ≢ actor) x y

  -- since an actor of the seat saw the value, others had turns
  abbrev pub Knows : ℕ → List T → T → Type 0
  Knows from seen value = (i : ℕ) (x : T) → get_elem? seen i ≡ some x → Beside (from + i) x value

  -- what the rule says of one view
  pub record Fits (actors : ℕ) (last : T) (holder : ℕ) (words : List ℕ) (id : ℕ) (v : View T) : Type 0 where
    pub range : v.from + length v.seen ≤ actors
    pub knows : Knows v.from v.seen last
    pub taken : MatchOption v.taken (Unit {0}) (λ x. (x ≡ last) × (words ≡ 1 ∷ []) × (id ≡ holder))

  pub record Kept (actors : ℕ) (first : T) (s : State (Option T) (View T)) : Type 0 where
    pub last : T
    pub holder : ℕ
    pub follows : Since first last
    pub home : Home last holder s.views s.words s.homes
    pub views : (id : ℕ) (v : View T) → get_elem? s.views id ≡ some v → Fits actors last holder s.words id v
    pub apart : (i j : ℕ) (v w : View T) → get_elem? s.views i ≡ some v → get_elem? s.views j ≡ some w → i ≢ j → Apart v w

  -- a try that found the word 0 has the value
  abbrev pub Takes : Step (Option T) → Me (Option T) (View T) → ℕ → Me (Option T) (View T) → Type 0
  Takes s m found m' = MatchBool (found == 0) ((value : T) × (m' ≡ (taking m.0 value, (0, Some value) ∷ [])) × Knows m.0.from m.0.seen value) (m' ≡ m)
