-- Session records: one request of one actor, as bytes, and the list of records that an input holds.
use Rattle.std.specs.Prelude.{◌≡◌, ℕ, ◌^◌, ◌<◌, ◌≤◌, List, [], ◌∷◌, ◌++◌, length, Option, Some, None}
use Rattle.std.specs.List.{flat_map, AllByRecursion}
use Rattle.tbl_kinds.specs.Names.{name_field, HasNoZero}
use Rattle.tbl_kinds.specs.Numbers.{two, four}
use Rattle.tbl_kinds.specs.Requests.{Fits}
use Rattle.tbl_kinds.specs.declared.request.Actor.{Actor}
use Rattle.tbl_kinds.specs.declared.request.Actor.TheVariants.{Ground, App}
use Rattle.tbl_kinds.specs.declared.request.ResetKind.{ResetKind}
use Rattle.tbl_kinds.specs.declared.request.ResetKind.TheVariants.{Processor, PowerOn}
use Rattle.tbl_kinds.specs.declared.request.Request.{Request}
use Rattle.tbl_kinds.specs.declared.request.Request.TheVariants as ask

-- an actor and its request
pub record Pair : Type 0 where
  pub actor : Actor
  pub request : Request

-- ---- the spelling of a record: kind, actor, length of the body, body

abbrev pub kind_of : Request → ℕ
kind_of (ask.Command bytes) = 0x01
kind_of (ask.File file) = 0x02
kind_of (ask.Time seconds sub) = 0x03
kind_of (ask.Reset kind) = 0x04
kind_of (ask.Start name) = 0x10
kind_of (ask.Register name size flags validator) = 0x11
kind_of (ask.Share name) = 0x12
kind_of (ask.Unregister handle) = 0x13
kind_of (ask.LoadImage handle image) = 0x14
kind_of (ask.LoadFile handle name) = 0x15
kind_of (ask.Update handle) = 0x16
kind_of (ask.Validate handle) = 0x17
kind_of (ask.Manage handle) = 0x18
kind_of (ask.DumpToBuffer handle) = 0x19
kind_of (ask.Edit handle offset bytes) = 0x1A
kind_of (ask.Get handle) = 0x1B
kind_of (ask.Read handle offset len) = 0x1C
kind_of (ask.Release handle) = 0x1D
kind_of (ask.GetStatus handle) = 0x1E
kind_of (ask.GetInfo name) = 0x1F
kind_of (ask.Notify handle msg code parameter) = 0x20
kind_of ask.Exit = 0x21
kind_of (ask.CdsRegister name size) = 0x30
kind_of (ask.CdsCopy slot image) = 0x31
kind_of (ask.CdsRestore slot) = 0x32
kind_of (ask.CdsDelete slot) = 0x33

abbrev pub actor_number : Actor → ℕ
actor_number Ground = 0
actor_number (App number) = number

abbrev pub reset_number : ResetKind → ℕ
reset_number Processor = 1
reset_number PowerOn = 2

-- 255 spells that there is no validator
abbrev pub validator_number : Option ℕ → ℕ
validator_number None = 255
validator_number (Some number) = number

abbrev pub body_of : Request → List ℕ
body_of (ask.Command bytes) = bytes.list
body_of (ask.File file) = name_field 64 file.name ++ file.bytes
body_of (ask.Time seconds sub) = four seconds ++ two sub
body_of (ask.Reset kind) = reset_number kind ∷ []
body_of (ask.Start name) = name_field 20 name
body_of (ask.Register name size flags validator) = name_field 16 name ++ four size ++ two flags ++ validator_number validator ∷ []
body_of (ask.Share name) = name_field 40 name
body_of (ask.Unregister handle) = two handle
body_of (ask.LoadImage handle image) = two handle ++ image.list
body_of (ask.LoadFile handle name) = two handle ++ name_field 64 name
body_of (ask.Update handle) = two handle
body_of (ask.Validate handle) = two handle
body_of (ask.Manage handle) = two handle
body_of (ask.DumpToBuffer handle) = two handle
body_of (ask.Edit handle offset bytes) = two handle ++ four offset ++ bytes.list
body_of (ask.Get handle) = two handle
body_of (ask.Read handle offset len) = two handle ++ four offset ++ four len
body_of (ask.Release handle) = two handle
body_of (ask.GetStatus handle) = two handle
body_of (ask.GetInfo name) = name_field 40 name
body_of (ask.Notify handle msg code parameter) = two handle ++ two msg ++ two code ++ four parameter
body_of ask.Exit = []
body_of (ask.CdsRegister name size) = name_field 16 name ++ four size
body_of (ask.CdsCopy slot image) = two slot ++ image.list
body_of (ask.CdsRestore slot) = two slot
body_of (ask.CdsDelete slot) = two slot

-- the longest body
abbrev pub body_limit : ℕ
body_limit = 32832

abbrev pub head_of : Pair → List ℕ
head_of p = kind_of p.request ∷ actor_number p.actor ∷ two (length (body_of p.request))

unfoldable pub spelling : Pair → List ℕ
spelling p = head_of p ++ body_of p.request

-- the request, whatever room is reserved after its bytes
abbrev pub without_room : Request → Request
without_room (ask.Command bytes) = ask.Command (record { list = bytes.list; spare = 0 })
without_room (ask.LoadImage handle image) = ask.LoadImage handle (record { list = image.list; spare = 0 })
without_room (ask.Edit handle offset bytes) = ask.Edit handle offset (record { list = bytes.list; spare = 0 })
without_room (ask.CdsCopy slot image) = ask.CdsCopy slot (record { list = image.list; spare = 0 })
without_room request = request

-- the name is no longer than its field, and has no zero byte
pub record FitsField (width : ℕ) (name : List ℕ) : Type 0 where
  pub within : length name ≤ width
  pub no_zero : HasNoZero name

-- each name and each number fits its field in the body
abbrev pub IsSized : Request → Type 0
IsSized (ask.Command bytes) = Unit {0}
IsSized (ask.File file) = FitsField 64 file.name
IsSized (ask.Time seconds sub) = (seconds < 2 ^ 32) × (sub < 2 ^ 16)
IsSized (ask.Reset kind) = Unit {0}
IsSized (ask.Start name) = FitsField 20 name
IsSized (ask.Register name size flags validator) = FitsField 16 name × (size < 2 ^ 32) × (flags < 2 ^ 16) × (validator_number validator < 2 ^ 8)
IsSized (ask.Share name) = FitsField 40 name
IsSized (ask.Unregister handle) = handle < 2 ^ 16
IsSized (ask.LoadImage handle image) = handle < 2 ^ 16
IsSized (ask.LoadFile handle name) = (handle < 2 ^ 16) × FitsField 64 name
IsSized (ask.Update handle) = handle < 2 ^ 16
IsSized (ask.Validate handle) = handle < 2 ^ 16
IsSized (ask.Manage handle) = handle < 2 ^ 16
IsSized (ask.DumpToBuffer handle) = handle < 2 ^ 16
IsSized (ask.Edit handle offset bytes) = (handle < 2 ^ 16) × (offset < 2 ^ 32)
IsSized (ask.Get handle) = handle < 2 ^ 16
IsSized (ask.Read handle offset len) = (handle < 2 ^ 16) × (offset < 2 ^ 32) × (len < 2 ^ 32)
IsSized (ask.Release handle) = handle < 2 ^ 16
IsSized (ask.GetStatus handle) = handle < 2 ^ 16
IsSized (ask.GetInfo name) = FitsField 40 name
IsSized (ask.Notify handle msg code parameter) = (handle < 2 ^ 16) × (msg < 2 ^ 16) × (code < 2 ^ 16) × (parameter < 2 ^ 32)
IsSized ask.Exit = Unit {0}
IsSized (ask.CdsRegister name size) = FitsField 16 name × (size < 2 ^ 32)
IsSized (ask.CdsCopy slot image) = slot < 2 ^ 16
IsSized (ask.CdsRestore slot) = slot < 2 ^ 16
IsSized (ask.CdsDelete slot) = slot < 2 ^ 16

-- what has a spelling: a request that its actor may make, whose names and numbers fit, with a body within the limit
pub record IsRecord (p : Pair) : Type 0 where
  pub fits : Fits p.actor p.request
  pub sized : IsSized p.request
  pub within : length (body_of p.request) ≤ body_limit

-- ---- the records of an input

-- the spellings, one after another
abbrev pub joined : List Pair → List ℕ
joined pairs = flat_map spelling pairs

-- the most records of a session
abbrev pub record_limit : ℕ
record_limit = 32768

-- the input begins with the spellings of these records
pub record BeginsWith (input : List ℕ) (pairs : List Pair) : Type 0 where
  pub few : length pairs ≤ record_limit
  pub each : AllByRecursion IsRecord pairs
  pub rest : List ℕ
  pub parts : input ≡ joined pairs ++ rest

-- the longest such list
pub record AreRecords (input : List ℕ) (pairs : List Pair) : Type 0 where
  pub begins : BeginsWith input pairs
  pub longest : (others : List Pair) → BeginsWith input others → length others ≤ length pairs
