-- The seats of a service, dealt and gathered.
use Rattle.std.proofs.Common.{◌≡◌, ℕ, zero, suc, ◌+◌, ◌-◌, ◌/◌, ◌<◌, ◌≤◌, List, [], ◌∷◌, ◌++◌, length, length-append, take, drop, Option, None, refl, sym, ap, ◌∙◌, subst, ⊎_elim, arith}
use Rattle.std.specs.Prelude.{All, replicate, slice_index_or, remove}
use Rattle.std.proofs.lemmas.List.{append_assoc, length-replicate}
use mathlib.Core.Option.{some, some-injective, some-ne-none}
use lib.ListN.{get_elem?}
use Rattle.atomic_table.specs.Seated.{TableId}
use Rattle.atomic_table.specs.Table.{Me}
use Rattle.turn_lock.specs.Turns.{Idle, seat_view}
use Rattle.turn_lock.specs.declared.rule.View.{View}
use Rattle.turn_lock.proofs.Lists.{snoc_at}
use Rattle.tbl_kinds.specs.Records.{actor_number}
use Rattle.tbl_kinds.specs.Requests.{IsFromGround, HasNoValidator255, Fits}
use Rattle.tbl_kinds.specs.declared.request.Actor.{Actor}
use Rattle.tbl_kinds.specs.declared.request.Actor.TheVariants.{Ground, App}
use Rattle.tbl_kinds.specs.declared.request.Request.{Request}
use Rattle.tbl_session.specs.Actors.{actor_count, actor_of}
use Rattle.tbl_live.specs.Seats.{SeatView, IsAppOf, IsOf, IsLeft, AreOf, IsSeat, AreSeats, AreFresh, AreDealt, IsOfActor, IsFresh, IsSame, calls_in, seat_of}
use Rattle.tbl_live.specs.Places.{Place, MayJoin, IsJoined}
use Rattle.tbl_live.specs.ServedView.{ServedView}
use Rattle.tbl_live.proofs.OwnLemmas.{own_none}

number_of : (n : ℕ) → actor_number (actor_of n) ≡ n
number_of zero = refl
number_of (suc n) = refl

with_seen : {T : Type 0} (m : Me (Option T) (View T)) (from : ℕ) (seen : List T) → Idle m from seen → Idle m from m.0.seen
with_seen {T} m from seen is = is ∙ ap {B = Me (Option T) (View T)} (λ (s : List T). (seat_view from s, [])) (sym (ap (λ (x : Me (Option T) (View T)). x.0.seen) is))

as_it_is : {T : Type 0} (m : Me (Option T) (View T)) (from : ℕ) (seen : List T) → Idle m from seen → Idle m m.0.from m.0.seen
as_it_is {T} m from seen is = subst (λ (x : Me (Option T) (View T)). Idle x x.0.from x.0.seen) (sym is) refl

-- ---- gathered

module _ {B C : Type 0} where
  at_place : (seats front more : List (SeatView B C)) (seat : SeatView B C) → seats ≡ front ++ seat ∷ more → get_elem? seats (length front) ≡ some seat
  at_place seats front more seat is = subst (λ (l : List (SeatView B C)). get_elem? l (length front) ≡ some seat) (sym is) (here front)
    where
      here : (front : List (SeatView B C)) → get_elem? (front ++ seat ∷ more) (length front) ≡ some seat
      here [] = refl
      here (x ∷ front) = here front

  -- the seat before these
  lower_of : (i : ℕ) (last : ServedView B C) (seen : List (ServedView B C)) (seats front more : List (SeatView B C)) (seat : SeatView B C) → seats ≡ front ++ seat ∷ more → i ≡ length front → IsOf i last seat → AreOf (i + 1) seen seats
      → AreOf i (last ∷ seen) seats
  lower_of i last seen seats front more seat is at one rest zero x s e e' =
      let p : i + zero ≡ length front = omega (arith, at) in
      let q : get_elem? seats (i + zero) ≡ some seat = subst (λ (n : ℕ). get_elem? seats n ≡ some seat) (sym p) (at_place seats front more seat is) in
      let same : seat ≡ s = some-injective seat s (sym q ∙ e') in
      let n : i ≡ i + zero = omega arith in
      subst (λ (p : ℕ × ServedView B C × SeatView B C). IsOf p.0 p.1 p.2) (λ j. (n j, some-injective last x e j, same j)) one
  lower_of i last seen seats front more seat is at one rest (suc j) x s e e' =
      let p : (i + 1) + j ≡ i + suc j = omega arith in
      subst (λ (n : ℕ). IsOf n x s) p (rest j x s e (subst (λ (n : ℕ). get_elem? seats n ≡ some s) (sym p) e'))

  -- none is after the last
  none_of : (i : ℕ) (seats : List (SeatView B C)) → AreOf i [] seats
  none_of i seats j x s e e' = absurd (some-ne-none x (sym e))

-- the seats after the first so many are one, of whose actors each saw its last value
pub record Gathered {B C : Type 0} (of : TableId) (place : Place (ServedView B C)) (front seats : List (SeatView B C)) : Type 0 where
  pub own : place.table_id ≡ of
  pub idle : Idle place.me (length front) place.me.0.seen
  pub many : length place.me.0.seen + length front ≡ actor_count
  pub rest : (more : List (SeatView B C)) × (seats ≡ front ++ more)
  pub each : AreOf (length front) place.me.0.seen seats

module _ {B C : Type 0} (of : TableId) (seats : List (SeatView B C)) (are : AreSeats of seats) (seat : SeatView B C) (front : List (SeatView B C)) (lower : Place (ServedView B C)) (left : IsLeft seat.of (actor_number seat.actor) seat lower) where
  -- what is left of a seat after those in front
  left_at : (more : List (SeatView B C)) → seats ≡ front ++ seat ∷ more → IsLeft of (length front) seat lower
  left_at more whole =
      let one = are.each (length front) seat (at_place seats front more seat whole) in
      subst (λ (p : TableId × ℕ). IsLeft p.0 p.1 seat lower) (λ i. (one.of_it i, (ap actor_number one.actor_is ∙ number_of (length front)) i)) left

  -- the last seat alone
  pub gathered_last : seats ≡ front ++ seat ∷ [] → Gathered of lower front seats
  gathered_last whole =
      let low = left_at [] whole in
      let seen : lower.me.0.seen ≡ low.last ∷ [] = ap (λ (x : Me (Option (ServedView B C)) (View (ServedView B C))). x.0.seen) low.idle in
      let count = are.count in
      record {
        own = low.own;
        idle = with_seen lower.me (length front) (low.last ∷ []) low.idle;
        many = omega (arith, ap length seen, ap length whole, length-append front (seat ∷ []), count);
        rest = (seat ∷ [], whole);
        each = subst (λ (xs : List (ServedView B C)). AreOf (length front) xs seats) (sym seen) (lower_of (length front) low.last [] seats front [] seat whole refl low.one (none_of (length front + 1) seats));
      }

  -- one more, the last of those before
  module _ (place : Place (ServedView B C)) (all : List (SeatView B C)) (was : Gathered of place all seats) (is : all ≡ front ++ seat ∷ []) where
    whole : seats ≡ front ++ seat ∷ was.rest.0
    whole = was.rest.1 ∙ ap (λ (l : List (SeatView B C)). l ++ was.rest.0) is ∙ append_assoc front (seat ∷ []) was.rest.0

    low : IsLeft of (length front) seat lower
    low = left_at was.rest.0 whole

    one_more : length all ≡ length front + 1
    one_more = ap length is ∙ length-append front (seat ∷ [])

    pub may_join : MayJoin of lower place
    may_join =
        let a : place.me.0.from ≡ length all = ap (λ (m : Me (Option (ServedView B C)) (View (ServedView B C))). m.0.from) was.idle in
        let b : lower.me.0.from ≡ length front = ap (λ (m : Me (Option (ServedView B C)) (View (ServedView B C))). m.0.from) low.idle in
        let d : length lower.me.0.seen ≡ 1 = ap (λ (m : Me (Option (ServedView B C)) (View (ServedView B C))). length m.0.seen) low.idle in
        record { own = (low.own, was.own); idle = (as_it_is lower.me (length front) (low.last ∷ []) low.idle, as_it_is place.me (length all) place.me.0.seen was.idle); meet = omega (arith, a, b, d, one_more) }

    pub gathered_more : (new : Place (ServedView B C)) → IsJoined lower place new → Gathered of new front seats
    gathered_more new joined =
        let idle : Idle new.me (length front) (low.last ∷ place.me.0.seen) = joined.idle ∙ ap {B = Me (Option (ServedView B C)) (View (ServedView B C))} (λ (m : Me (Option (ServedView B C)) (View (ServedView B C))). (seat_view m.0.from (m.0.seen ++ place.me.0.seen), [])) low.idle in
        let seen : new.me.0.seen ≡ low.last ∷ place.me.0.seen = ap (λ (m : Me (Option (ServedView B C)) (View (ServedView B C))). m.0.seen) idle in
        let many = was.many in
        record {
          own = joined.own ∙ low.own;
          idle = with_seen new.me (length front) (low.last ∷ place.me.0.seen) idle;
          many = omega (arith, ap length seen, many, one_more);
          rest = (seat ∷ was.rest.0, whole);
          each = subst (λ (xs : List (ServedView B C)). AreOf (length front) xs seats) (sym seen)
              (lower_of (length front) low.last place.me.0.seen seats front was.rest.0 seat whole refl low.one (subst (λ (n : ℕ). AreOf n place.me.0.seen seats) one_more was.each));
        }

-- the ground's seat, once all others are gathered
pub alone : {A : Type 0} (x : A) (others : List A) → length others ≡ 0 → x ∷ others ≡ [] ++ x ∷ []
alone x [] none = refl
alone x (y ∷ others) none = absurd (omega (arith, none))

-- ---- dealt

-- of copies of one value
take_replicate : {A : Type 0} (k n : ℕ) (a : A) → k ≤ n → take k (replicate n a) ≡ replicate k a
take_replicate {A} zero n a le = refl
take_replicate {A} (suc k) zero a le = absurd (omega (arith, le))
take_replicate {A} (suc k) (suc n) a le = ap (λ (l : List A). a ∷ l) (take_replicate k n a (omega (arith, le)))

drop_replicate : {A : Type 0} (k n : ℕ) (a : A) → k ≤ n → drop k (replicate n a) ≡ replicate (n - k) a
drop_replicate {A} zero n a le = let e : n ≡ n - zero = omega arith in ap (λ (m : ℕ). replicate m a) e
drop_replicate {A} (suc k) zero a le = absurd (omega (arith, le))
drop_replicate {A} (suc k) (suc n) a le = let e : n - k ≡ suc n - suc k = omega arith in drop_replicate k n a (omega (arith, le)) ∙ ap (λ (m : ℕ). replicate m a) e

module _ {T : Type 0} (m left right : Me (Option T) (View T)) (from n : ℕ) (first : T) (all : Idle m from (replicate n first)) where
  seen_is : m.0.seen ≡ replicate n first
  seen_is = ap (λ (x : Me (Option T) (View T)). x.0.seen) all

  from_is : m.0.from ≡ from
  from_is = ap (λ (x : Me (Option T) (View T)). x.0.from) all

  half_is : length m.0.seen / 2 ≡ n / 2
  half_is = ap (λ (k : ℕ). k / 2) (ap length seen_is ∙ length-replicate n first)

  pub low_dealt : Idle left m.0.from (take (length m.0.seen / 2) m.0.seen) → Idle left from (replicate (n / 2) first)
  low_dealt split =
      let half : n / 2 ≤ n = omega arith in
      let kept : take (length m.0.seen / 2) m.0.seen ≡ replicate (n / 2) first = (λ i. take (half_is i) (seen_is i)) ∙ take_replicate (n / 2) n first half in
      split ∙ (λ i. (seat_view (from_is i) (kept i), []))

  pub high_dealt : Idle right (m.0.from + length m.0.seen / 2) (drop (length m.0.seen / 2) m.0.seen) → Idle right (from + n / 2) (replicate (n - n / 2) first)
  high_dealt split =
      let half : n / 2 ≤ n = omega arith in
      let kept : drop (length m.0.seen / 2) m.0.seen ≡ replicate (n - n / 2) first = (λ i. drop (half_is i) (seen_is i)) ∙ drop_replicate (n / 2) n first half in
      split ∙ (λ i. (seat_view (from_is i + half_is i) (kept i), []))

-- a seat before its first call
module _ {B C : Type 0} (first : ServedView B C) (base : first.base ≡ length first.core.entries) (calm : first.fault ≡ None) (of : TableId) (me : Me (Option (ServedView B C)) (View (ServedView B C))) (number : ℕ) (one : Idle me number (first ∷ [])) where
  pub fresh_seat : IsSeat me (actor_of number) 0 None
  fresh_seat = record {
    last = first;
    idle = one ∙ ap {B = Me (Option (ServedView B C)) (View (ServedView B C))} (λ (n : ℕ). (seat_view n (first ∷ []), [])) (sym (number_of number));
    past = omega (arith, base);
    tells = record { saw_at_most = omega arith; met_is = sym calm };
  }

  calls_none : calls_in (actor_number (actor_of number)) me.0.seen ≡ []
  calls_none = ap (λ (m : Me (Option (ServedView B C)) (View (ServedView B C))). calls_in (actor_number (actor_of number)) m.0.seen) one ∙ own_none first.base (actor_number (actor_of number)) first.core.entries base

  pub fresh_is : (seat : SeatView B C) → seat ≡ seat_of of (actor_of number) me.0.seen 0 None → IsOfActor of number seat × IsFresh seat
  fresh_is seat is = subst (λ (s : SeatView B C). IsOfActor of number s × IsFresh s) (sym is) (record { of_it = refl; actor_is = refl }, record { calls = calls_none; saw = refl; met = refl })

-- one seat more
pub dealt_push : {B C : Type 0} (of : TableId) (n : ℕ) (seats : List (SeatView B C)) (seat : SeatView B C) → AreDealt of n seats → IsOfActor of n seat × IsFresh seat → AreDealt of (n + 1) (seats ++ seat ∷ [])
dealt_push {B} {C} of n seats seat was one = record {
  count = omega (arith, length-append seats (seat ∷ []), was.count);
  each = λ number s at. ⊎_elim
      (λ (p : get_elem? seats number ≡ some s). was.each number s p)
      (λ (p : (number ≡ length seats) × (seat ≡ s)). subst (λ (q : ℕ × SeatView B C). IsOfActor of q.0 q.1 × IsFresh q.1) (λ j. (sym (p.0 ∙ was.count) j, p.1 j)) one)
      (snoc_at seats seat s number at);
}

-- the first of them, and the others
pub parted : {A : Type 0} (l rest : List A) (x : A) → 0 < length l → x ≡ slice_index_or l 0 x → rest ≡ remove l 0 → l ≡ x ∷ rest
parted [] rest x some_one at is = absurd (omega (arith, some_one))
parted (y ∷ l) rest x some_one at is = λ i. sym at i ∷ sym is i

module _ {B C : Type 0} (of : TableId) (seats : List (SeatView B C)) (dealt : AreDealt of actor_count seats) where
  pub are_seats : AreSeats of seats
  are_seats = record { count = dealt.count; each = λ number seat at. (dealt.each number seat at).0 }

  pub are_fresh : AreFresh seats
  are_fresh number seat at = (dealt.each number seat at).1

-- ---- elements by their places

at_index : {A : Type 0} (l : List A) (i : ℕ) (x d : A) → get_elem? l i ≡ some x → slice_index_or l i d ≡ x
at_index [] i x d at = absurd (some-ne-none x (sym at))
at_index (y ∷ l) zero x d at = some-injective y x at
at_index (y ∷ l) (suc i) x d at = at_index l i x d at

there_at : {A : Type 0} (l : List A) (i : ℕ) (d : A) → i < length l → get_elem? l i ≡ some (slice_index_or l i d)
there_at [] i d lt = absurd (omega (arith, lt))
there_at (y ∷ l) zero d lt = refl
there_at (y ∷ l) (suc i) d lt = there_at l i d (omega (arith, lt))

below : {A : Type 0} (l : List A) (i : ℕ) (x : A) → get_elem? l i ≡ some x → i < length l
below [] i x at = absurd (some-ne-none x (sym at))
below (y ∷ l) zero x at = omega arith
below (y ∷ l) (suc i) x at = let lt = below l i x at in omega (arith, lt)

-- ---- between calls

-- seats of the same services and actors
pub same_seats : {B C : Type 0} (of : TableId) (old new : List (SeatView B C)) → AreSeats of old → length new ≡ length old
    → ((number : ℕ) (a b : SeatView B C) → get_elem? old number ≡ some a → get_elem? new number ≡ some b → IsSame a b) → AreSeats of new
same_seats of old new are long same = record {
  count = long ∙ are.count;
  each = λ number b at.
      let lt = below new number b at in
      let there = there_at old number b (omega (arith, long, lt)) in
      let was = are.each number (slice_index_or old number b) there in
      let is = same number (slice_index_or old number b) b there at in
      record { of_it = is.of_it ∙ was.of_it; actor_is = is.actor_is ∙ was.actor_is };
}

-- over two calls
pub same_then : {B C : Type 0} (first second third : SeatView B C) → IsSame first second → IsSame second third → IsSame first third
same_then first second third a b = record { of_it = b.of_it ∙ a.of_it; actor_is = b.actor_is ∙ a.actor_is }

-- it is still the seat of an application
pub still_app : {B C : Type 0} (of : TableId) (old new : SeatView B C) → IsAppOf of old → IsSame old new → IsAppOf of new
still_app of old new app same = record {
  of_it = same.of_it ∙ app.of_it;
  least = subst (λ (actor : Actor). 1 ≤ actor_number actor) (sym same.actor_is) app.least;
  most = subst (λ (actor : Actor). actor_number actor ≤ 16) (sym same.actor_is) app.most;
}

module _ {B C : Type 0} (of : TableId) (ground : SeatView B C) (apps : List (SeatView B C)) (are : AreSeats of (ground ∷ apps)) where
  pub ground_of : IsOfActor of 0 ground
  ground_of = are.each 0 ground refl

  -- those of the applications
  pub are_apps : All (IsAppOf of) apps
  are_apps k d within =
      let is = are.each (suc k) (slice_index_or apps k d) (there_at apps k d within) in
      let number : actor_number (slice_index_or apps k d).actor ≡ suc k = ap actor_number is.actor_is in
      let count = are.count in
      record { of_it = is.of_it; least = omega (arith, number); most = omega (arith, number, count, within) }

  -- all seats, after calls by some of them
  pub still_seats : (ground' : SeatView B C) (apps' : List (SeatView B C)) → IsSame ground ground' → length apps' ≡ length apps
      → ((i : ℕ) (d : SeatView B C) → i < length apps → IsSame (slice_index_or apps i d) (slice_index_or apps' i d)) → AreSeats of (ground' ∷ apps')
  still_seats ground' apps' first long others = same_seats of (ground ∷ apps) (ground' ∷ apps') are (omega (arith, long)) each
    where
      each : (number : ℕ) (a b : SeatView B C) → get_elem? (ground ∷ apps) number ≡ some a → get_elem? (ground' ∷ apps') number ≡ some b → IsSame a b
      each zero a b at at' = subst (λ (p : SeatView B C × SeatView B C). IsSame p.0 p.1) (λ i. (some-injective ground a at i, some-injective ground' b at' i)) first
      each (suc i) a b at at' = subst (λ (p : SeatView B C × SeatView B C). IsSame p.0 p.1) (λ j. (at_index apps i a a at j, at_index apps' i b a at' j)) (others i a (below apps i a at))

-- ---- requests of applications

-- what isn't the ground's may come from the seat of an application
pub fits_actor : (actor : Actor) (request : Request) → 1 ≤ actor_number actor → actor_number actor ≤ 16 → ¬ IsFromGround request → HasNoValidator255 request → Fits actor request
fits_actor Ground request least most not_grounds has = absurd (omega (arith, least))
fits_actor (App number) request least most not_grounds has = (least, most, not_grounds, has)
