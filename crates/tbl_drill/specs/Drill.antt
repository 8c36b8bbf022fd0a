-- The session of a drill: nine records that start two applications with three tables, and then a record a round, which the
-- generator's numbers decide.
use Rattle.std.specs.Prelude.{ℕ, ◌+◌, ◌*◌, ◌%◌, ◌==◌, List, [], ◌∷◌, ◌++◌, map, replicate, codes, nat_lt, if◌then◌else◌, None}
use Rattle.std.specs.List.{range_with_len}
use Rattle.tbl_kinds.specs.Buffers.{Buffer}
use Rattle.tbl_kinds.specs.Names.{name_field}
use Rattle.tbl_kinds.specs.Records.{Pair, without_room}
use Rattle.tbl_kinds.specs.Headers.{Header}
use Rattle.tbl_kinds.specs.TableFiles.{table_file, table_subtype}
use Rattle.tbl_kinds.specs.GroundCommands.{GroundCommand, load, validate, activate, command_bytes}
use Rattle.tbl_kinds.specs.declared.request.Actor.TheVariants.{Ground, App}
use Rattle.tbl_kinds.specs.declared.request.ResetKind.TheVariants.{PowerOn}
use Rattle.tbl_kinds.specs.declared.request.Request.{Request}
use Rattle.tbl_kinds.specs.declared.request.Request.TheVariants as ask
use Rattle.tbl_drill.specs.Generator.{after, drawn, number}

-- the same record, whatever room is reserved after its bytes
abbrev pub roomless : Pair → Pair
roomless p = record { actor = p.actor; request = without_room p.request }

abbrev pub just : List ℕ → Buffer
just bytes = record { list = bytes; spare = 0 }

abbrev pub ground : Request → Pair
ground request = record { actor = Ground; request = request }

abbrev pub app : ℕ → Request → Pair
app number request = record { actor = App number; request = request }

-- ---- the first nine records

-- each table has this many bytes
abbrev pub size : ℕ
size = 64

-- application 1 registers a table with one buffer, one with two, and a critical one, and application 2 shares them
abbrev pub opening : List Pair
opening =
    ground (ask.Reset PowerOn)
    ∷ app 1 (ask.Start (codes "D1"))
    ∷ app 2 (ask.Start (codes "D2"))
    ∷ app 1 (ask.Register (codes "S") size 0x0000 None)
    ∷ app 1 (ask.Register (codes "D") size 0x0001 None)
    ∷ app 1 (ask.Register (codes "C") size 0x0008 None)
    ∷ app 2 (ask.Share (codes "D1.S"))
    ∷ app 2 (ask.Share (codes "D1.D"))
    ∷ app 2 (ask.Share (codes "D1.C"))
    ∷ []

-- ---- a round

-- the tables by application 1's handles 0 to 2. Application 2 has the handles 3 to 5 for them
abbrev pub table_name : ℕ → List ℕ
table_name h = if h == 0 then codes "D1.S" else (if h == 1 then codes "D1.D" else codes "D1.C")

abbrev pub file_name : List ℕ
file_name = codes "/d"

-- the header of a table file of time 0
abbrev pub header : Header
header = record {
  subtype = table_subtype;
  length = 64;
  spacecraft = 66;
  processor = 1;
  application = 0;
  seconds = 0;
  sub = 0;
  description = name_field 32 (codes "Table image");
}

-- half a table, full of this byte, for a place that the byte gives
unfoldable pub file_for : ℕ → ℕ → List ℕ
file_for h b = table_file header (record { offset = b % 32; name = table_name h; image = replicate 32 b })

unfoldable pub command : GroundCommand → Request
command c = ask.Command (just (command_bytes 0 c))

-- what is requested in a round: one of eight requests, for one of three tables, with a byte
abbrev pub requested : ℕ → ℕ → ℕ → Pair
requested k h b =
    if k == 0 then app 1 (ask.LoadImage h (just (replicate size b)))
    else (if k == 1 then ground (ask.File (record { name = file_name; bytes = file_for h b }))
    else (if k == 2 then ground (command (load file_name))
    else (if k == 3 then ground (command (validate 0 (table_name h)))
    else (if k == 4 then ground (command (activate (table_name h)))
    else (if k == 5 then app 1 (ask.Manage h)
    else (if k == 6 then app 2 (if nat_lt b 128 then ask.Get (h + 3) else ask.Release (h + 3))
    else app 2 (ask.Read (h + 3) 0 size)))))))

-- the round that begins with the generator at this number: three draws decide it
unfoldable pub round_from : ℕ → Pair
round_from x = requested (drawn (after x) 8) (drawn (after (after x)) 3) (drawn (after (after (after x))) 256)

-- ---- the whole

-- the rounds from 0 on: each draws three times
abbrev pub rounds_of : ℕ → ℕ → List Pair
rounds_of seed rounds = map (λ r. round_from (number seed (3 * r))) (range_with_len 0 rounds)

abbrev pub session : ℕ → ℕ → List Pair
session seed rounds = opening ++ rounds_of seed rounds
