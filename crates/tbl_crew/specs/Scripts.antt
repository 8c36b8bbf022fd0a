-- What each actor asks, in order: the scripts that a crew is given.
use Rattle.std.specs.Prelude.{◌≡◌, ℕ, ◌<◌, List, [], ◌∷◌, ◌++◌, length, Option, Some, None, sum_by, All, slice_index, slice_index_or, slice_set}
use Rattle.tbl_kinds.specs.Records.{Pair, actor_number}
use Rattle.tbl_kinds.specs.Requests.{Fits}
use Rattle.tbl_session.specs.Actors.{actor_count, actor_of}
use Rattle.tbl_kinds.specs.declared.request.Request.{Request}

-- what this actor asks
abbrev pub script_of : List (List Request) → ℕ → List Request
script_of scripts actor = slice_index_or scripts actor []

-- what it asks first
abbrev pub first_of : List Request → Option Request
first_of [] = None
first_of (request ∷ requests) = Some request

-- the same scripts except this actor's
abbrev pub with_script : List (List Request) → ℕ → List Request → List (List Request)
with_script scripts actor script = slice_set scripts actor script

-- one request more, after those of its actor
abbrev pub pushed : List (List Request) → Pair → List (List Request)
pushed scripts p = with_script scripts (actor_number p.actor) (script_of scripts (actor_number p.actor) ++ p.request ∷ [])

-- how many requests they are in all
abbrev pub request_count : List (List Request) → ℕ
request_count scripts = sum_by length scripts

-- this holds of each request with its actor
abbrev pub OfEach : (Pair → Type 0) → List (List Request) → Type 0
OfEach P scripts = (actor : ℕ) → All (λ (request : Request). P (record { actor = actor_of actor; request = request })) (script_of scripts actor)

-- each of them may come from its actor
abbrev pub AllFit : List (List Request) → Type 0
AllFit scripts = (actor : ℕ) → All (Fits (actor_of actor)) (script_of scripts actor)

-- these are the numbers of requests of all actors
abbrev pub AreCounted : List ℕ → List (List Request) → Type 0
AreCounted counts scripts = (actor : ℕ) → actor < actor_count → length (script_of scripts actor) ≡ slice_index counts actor
