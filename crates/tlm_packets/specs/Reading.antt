-- What readers test, and what they take from which place.
use Rattle.std.specs.Prelude.{◌≡◌, ℕ, ◌+◌, ◌==◌, List, length, drop, Bool, ◌&&◌, nat_le, Option, Some, IfSome, is_some}
use Rattle.std.specs.Int.{w32, cast_signed}
use Rattle.tbl_kinds.specs.Numbers.{piece, byte_at, two_at, four_at}
use Rattle.tbl_kinds.specs.Names.{name_in}
use Rattle.tbl_kinds.specs.Heads.{has_name}
use Rattle.tbl_kinds.specs.declared.telemetry.Event.{Event}
use Rattle.tbl_kinds.specs.declared.telemetry.Housekeeping.{Housekeeping}
use Rattle.tbl_kinds.specs.declared.telemetry.RegistryRow.{RegistryRow}

-- the primary header and the time
abbrev pub head_len : ℕ
head_len = 12

-- so many bytes after the headers, this message id, sequence flags 3, and the length field of such a packet
abbrev pub has_head : ℕ → ℕ → List ℕ → Bool
has_head id len bytes =
    length bytes == head_len + len && two_at 0 bytes == id && nat_le 0xC000 (two_at 2 bytes) && two_at 4 bytes + 7 == length bytes

abbrev pub body_in : List ℕ → List ℕ
body_in bytes = drop head_len bytes

-- what the name field of this width at a place reads as
abbrev pub name_at : ℕ → ℕ → List ℕ → List ℕ
name_at place width body = name_in (piece place width body)

abbrev pub event_in : List ℕ → Event
event_in body = record { number = two_at 0 body; status = record { 0 = four_at 2 body }; row = two_at 6 body; detail = four_at 8 body }

-- the reserved bytes are zero, and so is what stands after names
abbrev pub is_housekeeping : List ℕ → Bool
is_housekeeping body =
    byte_at 21 body == 0 && byte_at 22 body == 0 && byte_at 23 body == 0
    && has_name 30 40 body && has_name 70 40 body && has_name 110 64 body && has_name 174 64 body && has_name 238 40 body

abbrev pub housekeeping_in : List ℕ → Housekeeping
housekeeping_in body = record {
  accepted = byte_at 0 body;
  refused = byte_at 1 body;
  tables = two_at 2 body;
  loads = two_at 4 body;
  finished = two_at 6 body;
  check = four_at 8 body;
  verdict = cast_signed w32 (four_at 12 body);
  active = byte_at 16 body;
  good = byte_at 17 body;
  bad = byte_at 18 body;
  requests = byte_at 19 body;
  free = byte_at 20 body;
  seconds = four_at 24 body;
  sub = two_at 28 body;
  validated = name_at 30 40 body;
  updated = name_at 70 40 body;
  loaded_file = name_at 110 64 body;
  dumped_file = name_at 174 64 body;
  loaded = name_at 238 40 body;
}

-- zeros alone stand after names
abbrev pub is_row : List ℕ → Bool
is_row body = has_name 20 40 body && has_name 60 20 body && has_name 80 64 body

abbrev pub row_in : List ℕ → RegistryRow
row_in body = record {
  size = four_at 0 body;
  check = four_at 4 body;
  count = four_at 8 body;
  seconds = four_at 12 body;
  sub = two_at 16 body;
  bits = byte_at 18 body;
  validator = byte_at 19 body;
  name = name_at 20 40 body;
  owner = name_at 60 20 body;
  file = name_at 80 64 body;
}

-- ---- what readers answer

-- this value where the test holds, and else none
pub record GivesIf {V : Type 0} (test : Bool) (read : V) (result : Option V) : Type 0 where
  pub is : is_some result ≡ test
  pub value : IfSome result (λ v. v ≡ read)

-- the value that the bytes spell, and none where they spell none
pub record ReadsExactly {V : Type 0} (Spells : V → Type 0) (result : Option V) : Type 0 where
  pub spelled : IfSome result Spells
  pub again : (v : V) → Spells v → result ≡ Some v
