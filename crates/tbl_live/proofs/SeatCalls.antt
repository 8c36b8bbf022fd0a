-- The seats of a service, after calls by some of them.
use Rattle.std.proofs.Common.{◌≡◌, ℕ, zero, suc, ◌<◌, List, [], ◌∷◌, ◌++◌, length, take, refl, ap, ◌∙◌, arith}
use Rattle.std.specs.Prelude.{slice_index_or, slice_set}
use Rattle.std.proofs.Math.Seq.{take-append_seam}
use Rattle.std.proofs.lemmas.List.{length-set}
use Rattle.atomic_table.specs.Seated.{TableId}
use Rattle.tbl_live.specs.Seats.{SeatView, AreSeats, IsSame}
use Rattle.tbl_live.proofs.SeatLemmas.{still_seats}

-- what was lent and came back
pub written : {A : Type 0} (n : ℕ) (ys rest : List A) → n ≡ length ys → take n (ys ++ rest) ≡ ys
written n ys rest is = ap (λ (m : ℕ). take m (ys ++ rest)) is ∙ take-append_seam ys rest

same_self : {B C : Type 0} (seat : SeatView B C) → IsSame seat seat
same_self seat = record { of_it = refl; actor_is = refl }

-- one of them alone has changed
still_at : {B C : Type 0} (apps : List (SeatView B C)) (k : ℕ) (seat other : SeatView B C) → IsSame (slice_index_or apps k other) seat → (i : ℕ) (d : SeatView B C) → i < length apps → IsSame (slice_index_or apps i d) (slice_index_or (slice_set apps k seat) i d)
still_at [] k seat other same i d lt = absurd (omega (arith, lt))
still_at (a ∷ apps) zero seat other same zero d lt = same
still_at (a ∷ apps) zero seat other same (suc i) d lt = same_self (slice_index_or apps i d)
still_at (a ∷ apps) (suc k) seat other same zero d lt = same_self a
still_at (a ∷ apps) (suc k) seat other same (suc i) d lt = still_at apps k seat other same i d (omega (arith, lt))

module _ {B C : Type 0} (of : TableId) (ground : SeatView B C) (apps : List (SeatView B C)) (are : AreSeats of (ground ∷ apps)) where
  -- after calls of the ground
  pub still_ground : (ground' : SeatView B C) → IsSame ground ground' → AreSeats of (ground' ∷ apps)
  still_ground ground' same = still_seats of ground apps are ground' apps same refl (λ i d within. same_self (slice_index_or apps i d))

  -- after calls of applications
  pub still_apps : (apps' : List (SeatView B C)) → length apps' ≡ length apps → ((i : ℕ) (d : SeatView B C) → i < length apps → IsSame (slice_index_or apps i d) (slice_index_or apps' i d)) → AreSeats of (ground ∷ apps')
  still_apps apps' long each = still_seats of ground apps are ground apps' (same_self ground) long each

  -- of one of them
  pub still_one : (k : ℕ) (seat other : SeatView B C) → IsSame (slice_index_or apps k other) seat → AreSeats of (ground ∷ slice_set apps k seat)
  still_one k seat other same = still_apps (slice_set apps k seat) (length-set apps k seat) (still_at apps k seat other same)
