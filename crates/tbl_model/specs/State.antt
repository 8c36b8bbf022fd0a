-- The state of the service.
use Rattle.std.specs.Prelude.{ℕ, List, [], replicate, Bool, false, Option, None}
use Rattle.tbl_kinds.specs.Admitted.{Admitted}
use Rattle.tbl_kinds.specs.Blocks.{Store}
use Rattle.tbl_model.specs.declared.telemetry.Notice.{Notice}

-- ---- tables and handles

-- an open load: the image that is being put together, and whether it was validated since its last change
pub record Load : Type 0 where
  pub image : List ℕ
  pub checked : Bool

-- a dump of a dump-only table: none, requested under a file name, or filled with an image under it
pub data Dump : Type 0 where
  quiet : Dump
  requested : List ℕ → Dump
  filled : List ℕ → List ℕ → Dump  -- the file's name, and the image

pub record Table : Type 0 where
  pub name : List ℕ
  pub owner : ℕ
  pub handle : ℕ  -- the one that its registration gave
  pub size : ℕ
  pub options : ℕ
  pub validator : Option ℕ
  pub count : ℕ  -- how many images it has had since registration
  pub last : Option (List ℕ)  -- the newest image, none where the count is 0
  pub before : Option (List ℕ)  -- the one before it, exactly while a handle pins it
  pub load : Option Load
  pub activation : Bool  -- the activation of the load is requested
  pub dump : Dump
  pub notice : Option Notice
  pub seconds : ℕ  -- the time of the last update
  pub sub : ℕ
  pub file : List ℕ  -- the file of the last load from a file

pub record Handle : Type 0 where
  pub app : ℕ
  pub row : Option ℕ  -- its table's row, none where the table is gone
  pub told : ℕ  -- how many images it was told of
  pub pin : Option ℕ  -- the number of the image that it pins

-- 128 rows and 256 places for handles
pub record Tables : Type 0 where
  pub rows : List (Option Table)
  pub handles : List (Option Handle)

-- ---- the whole

pub record State : Type 0 where
  pub tables : Tables
  pub pending : List (ℕ × Bool)  -- pending validations: the row, and whether of the active image
  pub store : Store  -- by directory slot
  pub drawer : List (List ℕ × List ℕ)  -- uplinked files, in order of their first uplink
  pub apps : List (Option (List ℕ))  -- the name of application a stands at place a - 1
  pub kit : List (Option ℕ)  -- whose validator stands under each number
  pub admit : Admitted  -- which spacecraft and processors files may come from
  pub seconds : ℕ
  pub sub : ℕ
  pub ended : Bool  -- a boot failed or was stopped

abbrev pub no_tables : Tables
no_tables = record { rows = replicate 128 None; handles = replicate 256 None }

-- how a session begins: time 0, nothing running, an empty drawer, over this store, with this kit and these lists
abbrev pub first_state : Store → List (Option ℕ) → Admitted → State
first_state store kit admit = record {
  tables = no_tables;
  pending = [];
  store = store;
  drawer = [];
  apps = replicate 16 None;
  kit = kit;
  admit = admit;
  seconds = 0;
  sub = 0;
  ended = false;
}
