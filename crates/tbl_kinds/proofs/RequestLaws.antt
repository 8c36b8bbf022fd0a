-- A spelling is of one request.
use Rattle.std.proofs.Common.{◌≡◌, ◌≢◌, ℕ, ◌<◌, ◌^◌, List, [], ◌∷◌, ◌++◌, length, take, drop, Option, Some, None, refl, sym, ap, ◌∙◌, append_assoc, arith}
use Rattle.std.specs.Prelude.{◌==◌, if◌then◌else◌}
use Rattle.std.proofs.lemmas.List.{take_at, drop_at}
use Rattle.std.proofs.lemmas.Bool.Decides.{nat_tests}
use Rattle.std.proofs.lemmas.Nat.{from_be_bytes-to_be_bytes_2, from_be_bytes-to_be_bytes_4}
use Rattle.tbl_kinds.specs.Names.{name_in, name_field}
use Rattle.tbl_kinds.specs.Numbers.{two, four, byte_at, two_at, four_at, piece}
use Rattle.tbl_kinds.specs.Records.{Pair, FitsField, IsSized, IsRecord, kind_of, actor_number, validator_number, body_of, spelling, without_room}
use Rattle.tbl_kinds.specs.Requests.{HasNoValidator255, Fits}
use Rattle.tbl_kinds.specs.Heads.{head_len, stated_len}
use Rattle.tbl_kinds.proofs.NameFields.{length-name_field, name_in-name_field}
use Rattle.tbl_kinds.specs.declared.request.Actor.{Actor}
use Rattle.tbl_kinds.specs.declared.request.Actor.TheVariants.{Ground, App}
use Rattle.tbl_kinds.specs.declared.request.ResetKind.TheVariants.{Processor, PowerOn}
use Rattle.tbl_kinds.specs.declared.request.Request.{Request}
use Rattle.tbl_kinds.specs.declared.request.Request.TheVariants as ask
use Rattle.tbl_kinds.proofs.RecordLaws.{front}

validator_in : ℕ → Option ℕ
validator_in number = if number == 255 then None else Some number

validator_again : (validator : Option ℕ) → validator ≢ Some 255 → validator_in (validator_number validator) ≡ validator
unfolding validator_in
validator_again None none = refl
validator_again (Some number) none =
    let other : number ≢ 255 = λ e. none (ap (λ (n : ℕ). Some n) e) in
    grind (arith, nat_tests)

register_in : List ℕ → List ℕ → Request
register_in field rest = ask.Register (name_in field) (four_at 0 rest) (two_at 4 rest) (validator_in (byte_at 6 rest))

-- the request of a kind with a handle or a slot alone
handle_request : ℕ → ℕ → Request
handle_request kind handle =
    if kind == 0x13 then ask.Unregister handle else
    (if kind == 0x16 then ask.Update handle else
    (if kind == 0x17 then ask.Validate handle else
    (if kind == 0x18 then ask.Manage handle else
    (if kind == 0x19 then ask.DumpToBuffer handle else
    (if kind == 0x1B then ask.Get handle else
    (if kind == 0x1D then ask.Release handle else
    (if kind == 0x1E then ask.GetStatus handle else
    (if kind == 0x32 then ask.CdsRestore handle else ask.CdsDelete handle))))))))

-- the request that a body of a kind spells
request_in : ℕ → List ℕ → Request
request_in kind body =
    if kind == 0x01 then ask.Command (record { list = body; spare = 0 }) else
    (if kind == 0x02 then ask.File (record { name = name_in (take 64 body); bytes = drop 64 body }) else
    (if kind == 0x03 then ask.Time (four_at 0 body) (two_at 4 body) else
    (if kind == 0x04 then ask.Reset (if byte_at 0 body == 1 then Processor else PowerOn) else
    (if kind == 0x10 then ask.Start (name_in body) else
    (if kind == 0x11 then register_in (take 16 body) (drop 16 body) else
    (if kind == 0x12 then ask.Share (name_in body) else
    (if kind == 0x14 then ask.LoadImage (two_at 0 body) (record { list = drop 2 body; spare = 0 }) else
    (if kind == 0x15 then ask.LoadFile (two_at 0 body) (name_in (drop 2 body)) else
    (if kind == 0x1A then ask.Edit (two_at 0 body) (four_at 2 body) (record { list = drop 6 body; spare = 0 }) else
    (if kind == 0x1C then ask.Read (two_at 0 body) (four_at 2 body) (four_at 6 body) else
    (if kind == 0x1F then ask.GetInfo (name_in body) else
    (if kind == 0x20 then ask.Notify (two_at 0 body) (two_at 2 body) (two_at 4 body) (four_at 6 body) else
    (if kind == 0x21 then ask.Exit else
    (if kind == 0x30 then ask.CdsRegister (name_in (take 16 body)) (four_at 0 (drop 16 body)) else
    (if kind == 0x31 then ask.CdsCopy (two_at 0 body) (record { list = drop 2 body; spare = 0 }) else handle_request kind (two_at 0 body))))))))))))))))

register_again : (name : List ℕ) (size flags : ℕ) (validator : Option ℕ) → FitsField 16 name → size < 2 ^ 32 → flags < 2 ^ 16 → validator ≢ Some 255
    → register_in (name_field 16 name) (four size ++ two flags ++ validator_number validator ∷ []) ≡ ask.Register name size flags validator
unfolding register_in
register_again name size flags validator fits s f v =
    rw (name_in-name_field 16 name fits, from_be_bytes-to_be_bytes_4 size s, from_be_bytes-to_be_bytes_2 flags f, validator_again validator v) refl

request_again : (request : Request) → IsSized request → HasNoValidator255 request → request_in (kind_of request) (body_of request) ≡ without_room request
unfolding request_in handle_request
request_again (ask.Command bytes) sized v = refl
request_again (ask.File file) sized v =
    let len = length-name_field 64 file.name sized in
    rw (take_at (name_field 64 file.name) file.bytes 64 len, drop_at (name_field 64 file.name) file.bytes 64 len, name_in-name_field 64 file.name sized) refl
request_again (ask.Time seconds sub) sized v = rw (from_be_bytes-to_be_bytes_4 seconds sized.0, from_be_bytes-to_be_bytes_2 sub sized.1) refl
request_again (ask.Reset Processor) sized v = refl
request_again (ask.Reset PowerOn) sized v = refl
request_again (ask.Start name) sized v = rw (name_in-name_field 20 name sized) refl
request_again (ask.Register name size flags validator) sized v =
    let field = name_field 16 name in
    let rest = four size ++ two flags ++ validator_number validator ∷ [] in
    let body : body_of (ask.Register name size flags validator) ≡ field ++ rest = simp append_assoc in
    let len = length-name_field 16 name sized.0 in
    let front : take 16 (body_of (ask.Register name size flags validator)) ≡ field = ap (take 16) body ∙ take_at field rest 16 len in
    let back : drop 16 (body_of (ask.Register name size flags validator)) ≡ rest = ap (drop 16) body ∙ drop_at field rest 16 len in
    rw (front, back) (register_again name size flags validator sized.0 sized.1 sized.2 v)
request_again (ask.Share name) sized v = rw (name_in-name_field 40 name sized) refl
request_again (ask.Unregister handle) sized v = rw (from_be_bytes-to_be_bytes_2 handle sized) refl
request_again (ask.LoadImage handle image) sized v = rw (from_be_bytes-to_be_bytes_2 handle sized) refl
request_again (ask.LoadFile handle name) sized v = rw (from_be_bytes-to_be_bytes_2 handle sized.0, name_in-name_field 64 name sized.1) refl
request_again (ask.Update handle) sized v = rw (from_be_bytes-to_be_bytes_2 handle sized) refl
request_again (ask.Validate handle) sized v = rw (from_be_bytes-to_be_bytes_2 handle sized) refl
request_again (ask.Manage handle) sized v = rw (from_be_bytes-to_be_bytes_2 handle sized) refl
request_again (ask.DumpToBuffer handle) sized v = rw (from_be_bytes-to_be_bytes_2 handle sized) refl
request_again (ask.Edit handle offset bytes) sized v = rw (from_be_bytes-to_be_bytes_2 handle sized.0, from_be_bytes-to_be_bytes_4 offset sized.1) refl
request_again (ask.Get handle) sized v = rw (from_be_bytes-to_be_bytes_2 handle sized) refl
request_again (ask.Read handle offset len) sized v =
    rw (from_be_bytes-to_be_bytes_2 handle sized.0, from_be_bytes-to_be_bytes_4 offset sized.1, from_be_bytes-to_be_bytes_4 len sized.2) refl
request_again (ask.Release handle) sized v = rw (from_be_bytes-to_be_bytes_2 handle sized) refl
request_again (ask.GetStatus handle) sized v = rw (from_be_bytes-to_be_bytes_2 handle sized) refl
request_again (ask.GetInfo name) sized v = rw (name_in-name_field 40 name sized) refl
request_again (ask.Notify handle msg code parameter) sized v =
    rw (from_be_bytes-to_be_bytes_2 handle sized.0, from_be_bytes-to_be_bytes_2 msg sized.1, from_be_bytes-to_be_bytes_2 code sized.2, from_be_bytes-to_be_bytes_4 parameter sized.3) refl
request_again ask.Exit sized v = refl
request_again (ask.CdsRegister name size) sized v =
    let len = length-name_field 16 name sized.0 in
    rw (take_at (name_field 16 name) (four size) 16 len, drop_at (name_field 16 name) (four size) 16 len, name_in-name_field 16 name sized.0, from_be_bytes-to_be_bytes_4 size sized.1) refl
request_again (ask.CdsCopy slot image) sized v = rw (from_be_bytes-to_be_bytes_2 slot sized) refl
request_again (ask.CdsRestore slot) sized v = rw (from_be_bytes-to_be_bytes_2 slot sized) refl
request_again (ask.CdsDelete slot) sized v = rw (from_be_bytes-to_be_bytes_2 slot sized) refl

no_validator_255 : (actor : Actor) (request : Request) → Fits actor request → HasNoValidator255 request
no_validator_255 Ground (ask.Register name size flags validator) fits = absurd fits
no_validator_255 Ground request fits = tt
no_validator_255 (App number) request fits = fits.3

same_actor : (actor other : Actor) (request second : Request) → Fits actor request → Fits other second → actor_number actor ≡ actor_number other → actor ≡ other
same_actor Ground Ground request second fits second-fits e = refl
same_actor Ground (App number) request second fits second-fits e = absurd (omega (arith, second-fits.0, e))
same_actor (App number) Ground request second fits second-fits e = absurd (omega (arith, fits.0, e))
same_actor (App number) (App other) request second fits second-fits e = ap App e

-- a spelling is of one request of one actor
pub one_request : (p q : Pair) → IsRecord p → IsRecord q → spelling p ≡ spelling q → (p.actor ≡ q.actor) × (without_room p.request ≡ without_room q.request)
one_request p q p-is q-is e =
    let same = ap (λ (s : List ℕ). s ++ []) e in
    let f = front p [] p-is in
    let g = front q [] q-is in
    let kind : kind_of p.request ≡ kind_of q.request = sym f.kind ∙ ap (byte_at 0) same ∙ g.kind in
    let number : actor_number p.actor ≡ actor_number q.actor = sym f.actor ∙ ap (byte_at 1) same ∙ g.actor in
    let len : length (body_of p.request) ≡ length (body_of q.request) = sym f.stated ∙ ap stated_len same ∙ g.stated in
    let body : body_of p.request ≡ body_of q.request = sym f.body ∙ ap (piece head_len (length (body_of p.request))) same ∙ ap (λ n. piece head_len n (spelling q ++ [])) len ∙ g.body in
    let p-again = request_again p.request p-is.sized (no_validator_255 p.actor p.request p-is.fits) in
    let q-again = request_again q.request q-is.sized (no_validator_255 q.actor q.request q-is.fits) in
    (same_actor p.actor q.actor p.request q.request p-is.fits q-is.fits number, sym p-again ∙ ap (λ k. request_in k (body_of p.request)) kind ∙ ap (request_in (kind_of q.request)) body ∙ q-again)
