-- What a worker knows of its actor's pins and of its next request, and keeps knowing over turns of others.
use Rattle.std.proofs.Common.{◌≡◌, ◌≢◌, ◌⊎◌, ℕ, zero, suc, ◌+◌, List, [], ◌∷◌, length, Option, Some, None, refl, sym, ap, ◌∙◌, subst, inl, inr, arith, ℤ}
use Rattle.std.specs.Prelude.{All, position, option_and_then, slice_get, slice_index_or}
use Rattle.std.proofs.lemmas.Bool.{eqb-true}
use Rattle.std.proofs.lemmas.List.Quantifiers.{position-Some}
use Rattle.std.proofs.lemmas.Option.{slice_get_within, get_or_from_slice_get}
use Rattle.std.proofs.lemmas.List.{nil_from_length}
use Rattle.std.proofs.lemmas.List.Elements.{All-push, All-set}
use mathlib.Core.Option.{some, some-ne-none}
use lib.ListN.{get_elem?}
use Rattle.atomic_table.specs.Table.{Me}
use Rattle.turn_lock.specs.Turns.{Beside, Knows, Idle, IsSeat, Holds}
use Rattle.turn_lock.specs.declared.rule.View.{View}
use Rattle.turn_lock.proofs.Lists.{in_one}
use Rattle.turn_lock.proofs.Paths.{carried}
use Rattle.tbl_kinds.specs.Numbers.{piece}
use Rattle.tbl_kinds.specs.declared.request.Request.{Request}
use Rattle.tbl_kinds.specs.declared.request.Request.TheVariants as ask
use Rattle.tbl_outside.specs.declared.bank.Bank.{Ghosts}
use Rattle.tbl_registry.specs.declared.pin.Pin.{Pin}
use Rattle.tbl_core.specs.Pins.{IsSliceOf}
use Rattle.tbl_core.specs.Service.{IsOfPin}
use Rattle.tbl_crew.specs.CrewView.{CrewView}
use Rattle.tbl_crew.specs.Moves.{Moves, HasEnded, HaveEnded, HaveLeft, HaveTurned, LentRead, HaveReadLent, IsKnown, AreKnown, IsTurned, AreTurned}
use Rattle.tbl_crew.specs.Reads.{plan_by, plan_of, is_of, lent_by, IsNextSlice, Keeps}
use Rattle.tbl_crew.specs.Scripts.{script_of}
use Rattle.tbl_crew.specs.Turns.{Turns, ReadsLent}
use Rattle.tbl_core.specs.Lent.{StillPins}
use Rattle.tbl_crew.proofs.MoveLemmas.{own_stays, one_ended}
use Rattle.tbl_crew.proofs.RestLemmas.{is_turned}
use Rattle.tbl_crew.specs.declared.held.ReadPlan.{ReadPlan}
use Rattle.tbl_crew.specs.declared.held.Turn.{Turn}
use Rattle.tbl_crew.specs.declared.held.Turn.TheVariants.{Played, Pinned, PinMemory, Ended, Done}

-- the bytes of the planned read are those that the next request asks for
pub next_slice : (pin : Pin) (read : ReadPlan) (script : List Request) (slice : List ℕ) → plan_of script ≡ Some read → read.handle ≡ pin.handle → slice ≡ piece read.offset read.len pin.bytes → IsNextSlice pin script slice
next_slice pin read [] slice plan handle is = absurd (cc plan)
next_slice pin read (request ∷ script) slice plan handle is = by request plan where
  by : (request : Request) → plan_by request ≡ Some read → IsSliceOf pin request slice
  by (ask.Read m offset len) same = (
    ap (λ (o : Option ReadPlan). handle_in o) same ∙ handle,
    is ∙ (λ i. piece (offset_in (sym same i)) (len_in (sym same i)) pin.bytes),
  ) where
    handle_in : Option ReadPlan → ℕ
    handle_in None = 0
    handle_in (Some p) = p.handle

    offset_in : Option ReadPlan → ℕ
    offset_in None = 0
    offset_in (Some p) = p.offset

    len_in : Option ReadPlan → ℕ
    len_in None = 0
    len_in (Some p) = p.len
  by request same = absurd (cc same)

-- ---- the image that was lent by a handle

module _ (pins : List Pin) (handle : ℕ) (pin : Pin) where
  found_at : lent_by pins handle ≡ Some pin → (n : ℕ) × (position (is_of handle) pins ≡ Some n) × (slice_get pins n ≡ Some pin)
  found_at = by (position (is_of handle) pins) refl where
    by : (found : Option ℕ) → position (is_of handle) pins ≡ found → option_and_then (slice_get pins) found ≡ Some pin → (n : ℕ) × (position (is_of handle) pins ≡ Some n) × (slice_get pins n ≡ Some pin)
    by None at is = absurd (cc is)
    by (Some n) at is = (n, at, is)

  pub lent_handle : lent_by pins handle ≡ Some pin → handle ≡ pin.handle
  lent_handle lent =
      let found = found_at lent in
      let is : slice_index_or pins found.0 pin ≡ pin = get_or_from_slice_get pins found.0 pin pin found.2 in
      sym (eqb-true pin.handle handle (ap (is_of handle) (sym is) ∙ (position-Some (is_of handle) pins found.0 pin found.1).1))

-- it has what each of them has
pub lent_has : (P : Pin → Type 0) (pins : List Pin) (handle : ℕ) (pin : Pin) → All P pins → lent_by pins handle ≡ Some pin → P pin
lent_has P pins handle pin each lent =
    let found = found_at pins handle pin lent in
    subst P (get_or_from_slice_get pins found.0 pin pin found.2) (each found.0 pin (slice_get_within pins found.0 pin found.2))

-- ---- from turn to turn

module _ {B C : Type 0} (g : Ghosts B) (verdict : C → List ℕ → ℤ) where
  abbrev Moved : CrewView B C → ℕ → CrewView B C → Type 0
  Moved old actor new = Moves g verdict old actor new

  -- over turns of others
  known_on : (pins : List Pin) (plan : Option ReadPlan) (actor : ℕ) (x y : CrewView B C) → Beside Moved actor x y → IsKnown pins plan actor x → IsKnown pins plan actor y
  known_on pins plan actor x y beside known = carried Moved (λ other. other ≢ actor) (IsKnown pins plan actor)
      (λ y' z' other apart had m. record {
        each = λ i d lt. m.pins _ (had.each i d lt);
        next = λ read is. ap plan_of (m.others actor (λ same. apart (sym same))) ∙ had.next read is;
      }) x y beside known

  module _ (me taken : Me (Option (CrewView B C)) (View (CrewView B C))) (actor : ℕ) (pins : List Pin) (plan : Option ReadPlan) (y : CrewView B C) (seat : IsSeat me actor 1) (known : AreKnown pins plan actor me.0.seen)
      (knows : Knows Moved me.0.from me.0.seen y) (holds : Holds taken me.0.from me.0.seen y) where
    at : me.0.from ≡ actor
    at = ap (λ (m : Me (Option (CrewView B C)) (View (CrewView B C))). m.0.from) seat.0

    beside_by : (seen : List (CrewView B C)) → Knows Moved actor seen y → (h : CrewView B C) → get_elem? seen 0 ≡ some h → Beside Moved actor h y
    beside_by seen l h there = let same : actor + 0 ≡ actor = omega arith in subst (λ (n : ℕ). Beside Moved n h y) same (l 0 h there)

    known_by : (seen : List (CrewView B C)) → AreKnown pins plan actor seen → Knows Moved actor seen y → IsKnown pins plan actor y
    known_by [] k l = absurd k
    known_by (x ∷ xs) k l = known_on pins plan actor x y (beside_by (x ∷ xs) l x refl) k

    -- what the worker knew holds of the value that it takes
    pub known_taken : IsKnown pins plan actor y
    known_taken = known_by me.0.seen known (subst (λ (n : ℕ). Knows Moved n me.0.seen y) at knows)

    had_by : (seen : List (CrewView B C)) → AreKnown pins plan actor seen → Knows Moved actor seen y → (z : CrewView B C) (turn : Turn) → Turns g y z actor turn → Moved y actor z → HaveTurned g verdict actor turn seen (z ∷ [])
    had_by [] k l z turn turned moves = absurd k
    had_by (x ∷ xs) k l z turn turned moves = record { taken = y; beside = beside_by (x ∷ xs) l x refl; turns = turned; moves = moves }

    read_by : (seen : List (CrewView B C)) → AreKnown pins plan actor seen → Knows Moved actor seen y → (z : CrewView B C) (read : LentRead) → (StillPins read.pin y.core.gets → ReadsLent y.core z.core read.slice read.turn) → HaveReadLent g verdict actor read seen (z ∷ [])
    read_by [] k l z read lent = absurd k
    read_by (x ∷ xs) k l z read lent = record { taken = y; beside = beside_by (x ∷ xs) l x refl; lent = lent }

    module _ (z : CrewView B C) (back : Me (Option (CrewView B C)) (View (CrewView B C))) (moves : Moved y actor z) (idle : Idle back taken.0.from (z ∷ [])) where
      from_is : taken.0.from ≡ actor
      from_is = ap (λ (m : Me (Option (CrewView B C)) (View (CrewView B C))). m.0.from) holds ∙ at

      back_seen : back.0.seen ≡ z ∷ []
      back_seen = ap (λ (m : Me (Option (CrewView B C)) (View (CrewView B C))). m.0.seen) idle

      pub known_back : (plan' : Option ReadPlan) → plan' ≡ plan_of (script_of z.left actor) → AreKnown pins plan' actor back.0.seen
      known_back plan' is = rw back_seen (record { each = λ i d lt. moves.pins _ (known_taken.each i d lt); next = λ read e. sym is ∙ e })

      pub turned_back : (turn : Turn) → Turns g y z actor turn → HaveTurned g verdict actor turn me.0.seen back.0.seen
      turned_back turn turned = rw back_seen (had_by me.0.seen known (subst (λ (n : ℕ). Knows Moved n me.0.seen y) at knows) z turn turned moves)

      pub lent_back : (read : LentRead) → (StillPins read.pin y.core.gets → ReadsLent y.core z.core read.slice read.turn) → HaveReadLent g verdict actor read me.0.seen back.0.seen
      lent_back read lent = rw back_seen (read_by me.0.seen known (subst (λ (n : ℕ). Knows Moved n me.0.seen y) at knows) z read lent)

  -- how many requests are left after a turn
  pub turned_of : (actor count : ℕ) (turn : Turn) (olds news : List (CrewView B C)) → HaveTurned g verdict actor turn olds news → HaveLeft (λ _. count) actor olds → AreTurned count actor turn news
  turned_of actor count turn [] news had left = absurd had
  turned_of actor count turn (x ∷ xs) [] had left = absurd had
  turned_of actor count turn (x ∷ xs) (z ∷ zs) had left =
      let same : actor + 0 ≡ actor = omega arith in
      is_turned g had.taken z actor count turn had.turns (ap length (own_stays g verdict actor x had.taken had.beside) ∙ subst (λ (n : ℕ). length (script_of x.left n) ≡ count) same (left 0 x refl))

-- ---- the loop

-- one pin more is kept
pub known_kept : {B C : Type 0} (old new : List Pin) (pin : Pin) (plan : Option ReadPlan) (actor count : ℕ) (seen : List (CrewView B C)) → Keeps old new pin → AreKnown old plan actor seen → AreTurned count actor (Pinned pin) seen → AreKnown new plan actor seen
known_kept old new pin plan actor count [] is k t = absurd k
known_kept {B} {C} old new pin plan actor count (h ∷ hs) is k t = record { each = by is; next = k.next } where
  by : Keeps old new pin → All (λ (p : Pin). IsOfPin p h.core) new
  by (inl same) = subst (All (λ (p : Pin). IsOfPin p h.core)) (sym same) k.each
  by (inr (inl more)) = subst (All (λ (p : Pin). IsOfPin p h.core)) (sym more) (All-push (λ (p : Pin). IsOfPin p h.core) old pin k.each t.1)
  by (inr (inr (n, set))) = subst (All (λ (p : Pin). IsOfPin p h.core)) (sym set) (All-set (λ (p : Pin). IsOfPin p h.core) old n pin t.1 k.each)

-- at first it knows of none
pub known_first : {B C : Type 0} (pins : List Pin) (actor : ℕ) (seen : List (CrewView B C)) → pins ≡ [] → length seen ≡ 1 → AreKnown pins None actor seen
known_first pins actor [] none one = absurd (omega (arith, one))
known_first pins actor (h ∷ hs) none one = rw none (record { each = λ i d lt. absurd (omega (arith, lt)); next = λ read is. absurd (cc is) })

-- and whatever it knows, its pins alone
pub known_less : {B C : Type 0} (pins : List Pin) (plan : Option ReadPlan) (actor : ℕ) (seen : List (CrewView B C)) → AreKnown pins plan actor seen → AreKnown pins None actor seen
known_less pins plan actor [] known = absurd known
known_less pins plan actor (h ∷ hs) known = record { each = known.each; next = λ read is. absurd (cc is) }

-- how many requests are left after a turn that played one
pub left_after : {B C : Type 0} (actor count : ℕ) (turn : Turn) (seen : List (CrewView B C)) → length seen ≡ 1 → AreTurned (count + 1) actor turn seen → (turn ≡ Ended → ⊥) → (turn ≡ Done → ⊥) → HaveLeft (λ _. count) actor seen
left_after actor count turn [] one t not_ended not_done i x at = absurd t
left_after actor count turn (h ∷ k ∷ hs) one t not_ended not_done i x at = absurd (omega (arith, one))
left_after {B} {C} actor count turn (h ∷ []) one t not_ended not_done (suc i) x at = absurd (some-ne-none x (sym at))
left_after {B} {C} actor count turn (h ∷ []) one t not_ended not_done zero x at =
    let same : actor ≡ actor + 0 = omega arith in
    subst (λ (n : ℕ). length (script_of x.left n) ≡ count) same (subst (λ (y : CrewView B C). length (script_of y.left actor) ≡ count) (in_one h 0 x at) (by turn t not_ended not_done))
  where
    by : (turn : Turn) → IsTurned (count + 1) actor turn h → (turn ≡ Ended → ⊥) → (turn ≡ Done → ⊥) → length (script_of h.left actor) ≡ count
    by Played is a b = omega (arith, is)
    by (Pinned pin) is a b = let less = is.0 in omega (arith, less)
    by PinMemory is a b = omega (arith, is)
    by Ended is a b = absurd (a refl)
    by Done is a b = absurd (b refl)

-- and one that played none
pub ended_after : {B C : Type 0} (actor count : ℕ) (turn : Turn) (seen : List (CrewView B C)) → length seen ≡ 1 → AreTurned count actor turn seen → (turn ≡ Ended) ⊎ (turn ≡ Done) → HaveEnded actor seen
ended_after actor count turn [] one t is = absurd t
ended_after actor count turn (h ∷ k ∷ hs) one t is = absurd (omega (arith, one))
ended_after actor count turn (h ∷ []) one t is = one_ended actor h (by turn t is) where
  by : (turn : Turn) → IsTurned count actor turn h → (turn ≡ Ended) ⊎ (turn ≡ Done) → HasEnded h actor
  by Ended t is = t
  by Done t is = t
  by Played t is = absurd (elim is [ inl same ↦ cc same | inr same ↦ cc same ])
  by (Pinned pin) t is = absurd (elim is [ inl same ↦ cc same | inr same ↦ cc same ])
  by PinMemory t is = absurd (elim is [ inl same ↦ cc same | inr same ↦ cc same ])

-- if none is left it has ended
pub ended_none : {B C : Type 0} (actor : ℕ) (seen : List (CrewView B C)) → HaveLeft (λ _. 0) actor seen → HaveEnded actor seen
ended_none actor seen left i h at goes = nil_from_length (script_of h.left (actor + i)) (left i h at)

-- of so many requests as the seat begins with
pub left_first : {B C : Type 0} (actor all : ℕ) (seen : List (CrewView B C)) → HaveLeft (λ _. all) actor seen → (count : ℕ) → count + 0 ≡ all → HaveLeft (λ _. count) actor seen
left_first actor all seen left count is i h at = let same : all ≡ count = omega (arith, is) in left i h at ∙ same
