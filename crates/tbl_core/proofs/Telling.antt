-- Which requests are no Reset, and get no address.
use Rattle.std.proofs.Common.{◌≡◌, ℕ, true, false, Option, Some, None, IsSome, refl, sym, subst}
use Rattle.tbl_model.specs.Counts.{is_reset}
use Rattle.tbl_model.specs.Commands.{read_command_in}
use Rattle.tbl_model.specs.Whole.{asks_address}
use Rattle.tbl_kinds.specs.Requests.{Fits}
use Rattle.tbl_kinds.specs.declared.request.Actor.TheVariants.{App}
use Rattle.tbl_kinds.specs.declared.request.Request.{Request}
use Rattle.tbl_kinds.specs.declared.request.Request.TheVariants as ask
use Rattle.request_effects.specs.Requests.{asks_store}
use Rattle.tbl_core.specs.Requests.{told_handle, activates}

-- such a call is no Reset
pub owner_resets : (request : Request) (handle : ℕ) → told_handle request ≡ Some handle → is_reset request ≡ false
owner_resets (ask.Reset kind) handle is = absurd (cc is)
owner_resets request handle is = refl

-- what doesn't reach the store is no Reset
pub no_reset : (request : Request) → asks_store request None ≡ false → is_reset request ≡ false
no_reset (ask.Reset kind) reaches = absurd (cc reaches)
no_reset request reaches = refl

-- nor is one by which an image can go active, and it gets no address
pub activates_no_reset : (request : Request) → activates request ≡ true → is_reset request ≡ false
activates_no_reset (ask.Reset kind) can = absurd (cc can)
activates_no_reset request can = refl

pub activates_no_get : (request : Request) → activates request ≡ true → (n : ℕ) → asks_address n request ≡ false
activates_no_get (ask.Get handle) can n = absurd (cc can)
activates_no_get request can n = refl

-- nor does a call of the store
pub store_no_get : (request : Request) → asks_store request None ≡ true → (n : ℕ) → asks_address n request ≡ false
store_no_get (ask.Get handle) asks n = absurd (cc asks)
store_no_get request asks n = refl

-- nor is a call that packets report, which is no command either
pub told_no_reset : (request : Request) → IsSome (told_handle request) → is_reset request ≡ false
told_no_reset (ask.Reset kind) some = absurd (cc some)
told_no_reset request some = refl

-- nor is what an application requests
pub app_no_reset : (app : ℕ) (request : Request) → Fits (App app) request → is_reset request ≡ false
app_no_reset app (ask.Reset kind) fits = absurd (fits.2 tt)
app_no_reset app request fits = refl

pub told_some : (request : Request) (handle : ℕ) → told_handle request ≡ Some handle → IsSome (told_handle request)
told_some request handle is = subst (λ (o : Option ℕ). IsSome o) (sym is) refl

pub told_no_command : (request : Request) → IsSome (told_handle request) → read_command_in request ≡ None
told_no_command (ask.Command packet) some = absurd (cc some)
told_no_command request some = refl

pub store_no_command : (request : Request) → asks_store request None ≡ true → read_command_in request ≡ None
store_no_command (ask.Command packet) asks = absurd (cc asks)
store_no_command request asks = refl
