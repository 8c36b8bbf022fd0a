-- The files of dumps, and how long they are.
use Rattle.std.specs.Prelude.{◌≡◌, ℕ, ◌+◌, ◌≤◌, ◌++◌, List, [], length, Option, Some, None, is_some, IfSome, IfNone, option_and_then}
use Rattle.tbl_kinds.specs.Buffers.{Buffer}
use Rattle.std.specs.Option.{option_map, option_map_or}
use Rattle.tbl_kinds.specs.TableFiles.{image_place}
use Rattle.tbl_model.specs.State.{State, Table, Dump, quiet, requested, filled}
use Rattle.tbl_model.specs.Dumps.{dump_file, is_filled}
use Rattle.tbl_registry.specs.Views.{filled_image}
use Rattle.request_effects.specs.declared.clock.Clock.{Clock}

-- a file of so many bytes that is written at this time was appended
pub record AppendsFile (old new : Buffer) (clock : Clock) (file : State → List ℕ) (count : ℕ) : Type 0 where
  pub bytes : (s : State) → s.seconds ≡ clock.seconds → s.sub ≡ clock.sub → new.list ≡ old.list ++ file s
  pub room : old.spare ≤ new.spare + count
  pub len : length new.list ≡ length old.list + count

-- ---- filled dumps of the table of a row, if there is one

abbrev pub name_of_filled : Dump → Option (List ℕ)
name_of_filled quiet = None
name_of_filled (requested file) = None
name_of_filled (filled file image) = Some file

-- under which name it is written
abbrev pub filled_name : Option Table → Option (List ℕ)
filled_name found = option_and_then (λ (t : Table). name_of_filled t.dump) found

-- the bytes of its file, none if there is no filled dump
abbrev pub filled_file : State → Option Table → List ℕ
filled_file s found = option_map_or (λ (t : Table). option_map_or (dump_file s t.name) (filled_image t.dump) []) found []

-- how many these are
abbrev pub filled_file_len : Option Table → Option ℕ
filled_file_len found = option_map (λ (image : List ℕ). image_place + length image) (option_and_then (λ (t : Table). filled_image t.dump) found)

-- its file was appended, which is written at this time and has this name; or there is none, and nothing was appended
pub record AppendsFilled (old new : Buffer) (clock : Clock) (found : Option Table) (file : Option (List ℕ)) : Type 0 where
  pub name : file ≡ filled_name found
  pub filled : is_some file ≡ is_filled found
  pub bytes : (s : State) → s.seconds ≡ clock.seconds → s.sub ≡ clock.sub → new.list ≡ old.list ++ filled_file s found
  pub len : IfSome (filled_file_len found) (λ len. length new.list ≡ length old.list + len)
  pub none : IfNone file (new ≡ old)

-- ---- the registry's file

-- the record of a table
abbrev pub record_len : ℕ
record_len = 144
