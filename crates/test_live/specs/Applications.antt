-- What applications request.
use Rattle.tbl_kinds.specs.Requests.{IsFromGround, HasNoValidator255}
use Rattle.tbl_kinds.specs.declared.request.Request.{Request}

-- it may come from any application
abbrev pub IsFromApps : Request → Type 0
IsFromApps request = (¬ IsFromGround request) × HasNoValidator255 request
