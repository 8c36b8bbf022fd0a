-- Who requests: the ground and sixteen applications, and what each requested in a history.
use Rattle.std.specs.Prelude.{◌≡◌, ℕ, zero, suc, ◌==◌, List, [], ◌∷◌, if◌then◌else◌}
use Rattle.std.specs.List.{AllByRecursion}
use Rattle.tbl_kinds.specs.Records.{Pair, actor_number}
use Rattle.tbl_kinds.specs.declared.request.Actor.{Actor}
use Rattle.tbl_kinds.specs.declared.request.Actor.TheVariants.{Ground, App}
use Rattle.tbl_kinds.specs.declared.request.Request.{Request}

-- the ground, and the applications from 1 to 16
abbrev pub actor_count : ℕ
actor_count = 17

-- whose number this is
abbrev pub actor_of : ℕ → Actor
actor_of zero = Ground
actor_of (suc n) = App (suc n)

-- the requests of this actor among these, in order
abbrev pub part : ℕ → List Pair → List Request
part actor [] = []
part actor (p ∷ pairs) = if actor_number p.actor == actor then p.request ∷ part actor pairs else part actor pairs

-- each of them is of the ground, or of an application whose number isn't 0
abbrev pub HaveActors : List Pair → Type 0
HaveActors pairs = AllByRecursion (λ (p : Pair). p.actor ≡ actor_of (actor_number p.actor)) pairs
