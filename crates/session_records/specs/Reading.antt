-- What is read at the front of an input.
use Rattle.std.specs.Prelude.{◌≡◌, ◌≢◌, ◌↔◌, ℕ, ◌+◌, ◌^◌, ◌<◌, ◌≤◌, ◌==◌, true, false, List, [], ◌∷◌, length, take, Bool, IsTrue, IfOk, if◌then◌else◌, Option, Some, Result, Ok, Err}
use Rattle.std.specs.List.{list_any}
use Rattle.tbl_kinds.specs.Numbers.{byte_at}
use Rattle.tbl_kinds.specs.Requests.{HasNoValidator255}
use Rattle.tbl_kinds.specs.Records.{Pair, IsRecord, IsSized, kind_of, body_of, spelling, validator_number}
use Rattle.tbl_kinds.specs.Heads.{IsShort, IsBad, is_good_head, is_right_body, stated_len}
use Rattle.tbl_kinds.specs.declared.request.Actor.{Actor}
use Rattle.tbl_kinds.specs.declared.request.Actor.TheVariants.{Ground, App}
use Rattle.tbl_kinds.specs.declared.request.Request.{Request}
use Rattle.session_records.specs.declared.reading.Next.{Next}
use Rattle.session_records.specs.declared.reading.Next.TheVariants.{Item, Short, Bad, End}
use Rattle.session_records.specs.declared.head.Head.{Head}

-- who has this number in a head
abbrev pub actor_at : ℕ → Actor
actor_at number = if number == 0 then Ground else App number

-- what a head says is in the first four bytes
pub record IsHeadOf (bytes : List ℕ) (head : Head) : Type 0 where
  pub kind : head.kind ≡ byte_at 0 bytes
  pub actor : head.actor ≡ byte_at 1 bytes
  pub len : head.len ≡ stated_len bytes

-- the kinds whose body begins with a name, is numbers, or is a handle or a slot alone; and those whose requests keep bytes of the body, or
-- a long name
abbrev pub named_kinds : List ℕ
named_kinds = 0x10 ∷ 0x11 ∷ 0x12 ∷ 0x1F ∷ 0x30 ∷ []

abbrev pub number_kinds : List ℕ
number_kinds = 0x03 ∷ 0x04 ∷ 0x1C ∷ 0x20 ∷ 0x21 ∷ []

abbrev pub handle_kinds : List ℕ
handle_kinds = 0x13 ∷ 0x16 ∷ 0x17 ∷ 0x18 ∷ 0x19 ∷ 0x1B ∷ 0x1D ∷ 0x1E ∷ 0x32 ∷ 0x33 ∷ []

abbrev pub bytes_kinds : List ℕ
bytes_kinds = 0x01 ∷ 0x02 ∷ 0x14 ∷ 0x15 ∷ 0x1A ∷ 0x31 ∷ []

-- a good head of one of these kinds, and as many bytes as it may state
pub record HasBody (kinds : List ℕ) (head : Head) (body : List ℕ) : Type 0 where
  pub kind : IsTrue (list_any (λ kind. head.kind == kind) kinds)
  pub good : IsTrue (is_good_head head.kind head.actor (length body))

-- the request's record has this kind and this body
pub record IsSpelledBy (kind : ℕ) (body : List ℕ) (request : Request) : Type 0 where
  pub sized : IsSized request
  pub no_validator_255 : HasNoValidator255 request
  pub kind_is : kind_of request ≡ kind
  pub body_is : body_of request ≡ body

-- whether the body is of the kind's right form; then this is the request whose record has both
abbrev pub IsReadAs : ℕ → List ℕ → Request → Bool → Type 0
IsReadAs kind body request true = IsSpelledBy kind body request × (is_right_body kind body ≡ true)
IsReadAs kind body request false = is_right_body kind body ≡ false

-- so it was read; or the body is of the right form, and memory ran out for the request
abbrev pub IsReadOr : {E : Type 0} → ℕ → List ℕ → Request → Result Bool E → Type 0
IsReadOr kind body request (Ok is_right) = IsReadAs kind body request is_right
IsReadOr kind body request (Err e) = is_right_body kind body ≡ true

-- where a record is read, this holds of it, with the request that was put in its place, and of the number of its bytes
abbrev pub IfItem : Request → Next → (Pair → ℕ → Type 0) → Type 0
IfItem request (Item actor used) P = P (record { actor = actor; request = request }) used
IfItem request _ P = Unit {0}

-- what stands at the front of these bytes is told, and of a record the request is put in its place; or memory ran out
pub record Reads {E : Type 0} (bytes : List ℕ) (request : Request) (result : Result Next E) : Type 0 where
  pub end : (result ≡ Ok End) ↔ (bytes ≡ [])
  pub short : (result ≡ Ok Short) ↔ IsShort bytes
  pub bad : (result ≡ Ok Bad) ↔ IsBad bytes
  pub is_record : IfOk result (λ next. IfItem request next (λ pair used. IsRecord pair))
  pub spelled : IfOk result (λ next. IfItem request next (λ pair used. take used bytes ≡ spelling pair))
  pub used : IfOk result (λ next. IfItem request next (λ pair used. used ≡ length (spelling pair)))

-- so many bytes are missing up to the end of a record's head, and once that is there up to the end of its body
pub record IsLacking (bytes : List ℕ) (count : ℕ) : Type 0 where
  pub some : 0 < count
  pub head : length bytes < 4 → length bytes + count ≡ 4
  pub body : 4 ≤ length bytes → length bytes + count ≡ 4 + stated_len bytes

-- the byte that spells a validator's number or that there is none
pub record IsValidator (spelled : List ℕ) (validator : Option ℕ) : Type 0 where
  pub byte : spelled ≡ validator_number validator ∷ []
  pub number : validator_number validator < 2 ^ 8
  pub none_255 : validator ≢ Some 255
