-- The heads of session records, and how far the bytes at the front of an input make a record.
use Rattle.std.specs.Prelude.{◌≡◌, ◌≢◌, ℕ, ◌+◌, ◌==◌, List, [], ◌∷◌, ◌++◌, length, drop, Bool, true, false, not, ◌&&◌, ◌||◌, nat_lt, nat_le, IsTrue, ◌⊎◌}
use Rattle.std.specs.List.{list_all, list_any}
use Rattle.tbl_kinds.specs.Names.{is_zero, name_in}
use Rattle.tbl_kinds.specs.Numbers.{piece, byte_at, two_at}
use Rattle.tbl_kinds.specs.Records.{Pair, IsRecord, spelling, body_limit, record_limit}

-- a kind of record: its number, who sends it, the fewest and the most bytes of its body, and which bodies are right
pub record Kind : Type 0 where
  pub number : ℕ
  pub from_ground : Bool
  pub least : ℕ
  pub most : ℕ
  pub is_right : List ℕ → Bool

abbrev pub any_body : List ℕ → Bool
any_body body = true

-- after the field's first zero byte all bytes are zero
abbrev pub is_name_field : List ℕ → Bool
is_name_field field = list_all is_zero (drop (length (name_in field)) field)

-- a body with such a field of so many bytes at a place
abbrev pub has_name : ℕ → ℕ → List ℕ → Bool
has_name place width body = is_name_field (piece place width body)

-- a body that is such a field after a handle
abbrev pub has_name_last : List ℕ → Bool
has_name_last body = is_name_field (drop 2 body)

-- a reset is of one of two kinds
abbrev pub is_reset_body : List ℕ → Bool
is_reset_body body = byte_at 0 body == 1 || byte_at 0 body == 2

-- an application's kind with a body of a handle alone, or of the slot of a block
abbrev pub handle_kind : ℕ → Kind
handle_kind number = record { number = number; from_ground = false; least = 2; most = 2; is_right = any_body }

-- all kinds
abbrev pub kinds : List Kind
kinds =
    record { number = 0x01; from_ground = true; least = 0; most = body_limit; is_right = any_body }
    ∷ record { number = 0x02; from_ground = true; least = 64; most = body_limit; is_right = has_name 0 64 }
    ∷ record { number = 0x03; from_ground = true; least = 6; most = 6; is_right = any_body }
    ∷ record { number = 0x04; from_ground = true; least = 1; most = 1; is_right = is_reset_body }
    ∷ record { number = 0x10; from_ground = false; least = 20; most = 20; is_right = is_name_field }
    ∷ record { number = 0x11; from_ground = false; least = 23; most = 23; is_right = has_name 0 16 }
    ∷ record { number = 0x12; from_ground = false; least = 40; most = 40; is_right = is_name_field }
    ∷ handle_kind 0x13
    ∷ record { number = 0x14; from_ground = false; least = 2; most = body_limit; is_right = any_body }
    ∷ record { number = 0x15; from_ground = false; least = 66; most = 66; is_right = has_name_last }
    ∷ handle_kind 0x16
    ∷ handle_kind 0x17
    ∷ handle_kind 0x18
    ∷ handle_kind 0x19
    ∷ record { number = 0x1A; from_ground = false; least = 6; most = body_limit; is_right = any_body }
    ∷ handle_kind 0x1B
    ∷ record { number = 0x1C; from_ground = false; least = 10; most = 10; is_right = any_body }
    ∷ handle_kind 0x1D
    ∷ handle_kind 0x1E
    ∷ record { number = 0x1F; from_ground = false; least = 40; most = 40; is_right = is_name_field }
    ∷ record { number = 0x20; from_ground = false; least = 10; most = 10; is_right = any_body }
    ∷ record { number = 0x21; from_ground = false; least = 0; most = 0; is_right = any_body }
    ∷ record { number = 0x30; from_ground = false; least = 20; most = 20; is_right = has_name 0 16 }
    ∷ record { number = 0x31; from_ground = false; least = 2; most = body_limit; is_right = any_body }
    ∷ handle_kind 0x32
    ∷ handle_kind 0x33
    ∷ []

-- the ground has the number 0, the applications have 1 to 16
abbrev pub is_sender : Bool → ℕ → Bool
is_sender true actor = actor == 0
is_sender false actor = nat_le 1 actor && nat_le actor 16

abbrev pub allows : ℕ → ℕ → ℕ → Kind → Bool
allows number actor len kind = number == kind.number && is_sender kind.from_ground actor && nat_le kind.least len && nat_le len kind.most

-- the kind is known, the actor fits it, and the length is one that it allows
unfoldable pub is_good_head : ℕ → ℕ → ℕ → Bool
is_good_head number actor len = list_any (allows number actor len) kinds

unfoldable pub is_right_body : ℕ → List ℕ → Bool
is_right_body number body = list_any (λ kind. number == kind.number && kind.is_right body) kinds

-- ---- the bytes at the front of an input

-- kind, actor and length of the body
abbrev pub head_len : ℕ
head_len = 4

abbrev pub stated_len : List ℕ → ℕ
stated_len bytes = two_at 2 bytes

abbrev pub has_good_head : List ℕ → Bool
has_good_head bytes = is_good_head (byte_at 0 bytes) (byte_at 1 bytes) (stated_len bytes)

abbrev pub has_right_body : List ℕ → Bool
has_right_body bytes = is_right_body (byte_at 0 bytes) (piece head_len (stated_len bytes) bytes)

-- as many bytes as the head states
abbrev pub is_whole : List ℕ → Bool
is_whole bytes = nat_le (head_len + stated_len bytes) (length bytes)

-- a part of a head, or a good head with a part of its body
unfoldable pub is_short : List ℕ → Bool
is_short bytes = nat_lt 0 (length bytes) && (nat_lt (length bytes) head_len || (has_good_head bytes && not (is_whole bytes)))

-- a bad head, or a whole body that isn't right
unfoldable pub is_bad : List ℕ → Bool
is_bad bytes = nat_le head_len (length bytes) && (not (has_good_head bytes) || (is_whole bytes && not (has_right_body bytes)))

abbrev pub IsShort : List ℕ → Type 0
IsShort bytes = IsTrue (is_short bytes)

abbrev pub IsBad : List ℕ → Type 0
IsBad bytes = IsTrue (is_bad bytes)

-- no record's spelling stands at the front
abbrev pub BeginsNone : List ℕ → Type 0
BeginsNone bytes = (p : Pair) (more : List ℕ) → IsRecord p → bytes ≢ spelling p ++ more

-- the records of an input end before such a rest: nothing is left, or a short or a bad front, or a session has no more
abbrev pub EndsBefore : List Pair → List ℕ → Type 0
EndsBefore pairs rest = (rest ≡ []) ⊎ IsShort rest ⊎ IsBad rest ⊎ (length pairs ≡ record_limit)
