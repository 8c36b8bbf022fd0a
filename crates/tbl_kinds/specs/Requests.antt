-- Who may make which request.
use Rattle.std.specs.Prelude.{◌≢◌, ◌≤◌, Some}
use Rattle.tbl_kinds.specs.declared.request.Actor.{Actor}
use Rattle.tbl_kinds.specs.declared.request.Actor.TheVariants.{Ground, App}
use Rattle.tbl_kinds.specs.declared.request.Request.{Request}
use Rattle.tbl_kinds.specs.declared.request.Request.TheVariants as ask

-- the requests of the ground
abbrev pub IsFromGround : Request → Type 0
IsFromGround (ask.Command bytes) = Unit {0}
IsFromGround (ask.File file) = Unit {0}
IsFromGround (ask.Time seconds sub) = Unit {0}
IsFromGround (ask.Reset kind) = Unit {0}
IsFromGround _ = ⊥

-- no validator has the number 255, which spells "none"
abbrev pub HasNoValidator255 : Request → Type 0
HasNoValidator255 (ask.Register name size flags validator) = validator ≢ Some 255
HasNoValidator255 _ = Unit {0}

-- the ground's requests come from the ground, the others from an application from 1 to 16
abbrev pub Fits : Actor → Request → Type 0
Fits Ground request = IsFromGround request
Fits (App number) request = (1 ≤ number) × (number ≤ 16) × ¬ IsFromGround request × HasNoValidator255 request
