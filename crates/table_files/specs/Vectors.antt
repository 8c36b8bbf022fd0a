-- A table file byte by byte, as the definitions write it.
use Rattle.std.specs.Prelude.{◌≡◌, [], ◌∷◌, ◌++◌, replicate, codes, refl}
use Rattle.tbl_kinds.specs.Headers.{file_header}
use Rattle.tbl_kinds.specs.TableFiles.{TableFile, file_with, table_file}
use Rattle.cfe_headers.specs.Vectors.{dump_header}

-- the whole image 01020304 of the table A.T
abbrev pub dump : TableFile
dump = record { offset = 0; name = codes "A.T"; image = 1 ∷ 2 ∷ 3 ∷ 4 ∷ [] }

-- the header of a dump file of time 5, four zeros, 00000000 00000004, the name and 37 zeros, and the image
pub dump_is_written :
    table_file dump_header dump
    ≡ 0x63 ∷ 0x46 ∷ 0x45 ∷ 0x31 ∷ 0 ∷ 0 ∷ 0 ∷ 8 ∷ 0 ∷ 0 ∷ 0 ∷ 0x40 ∷ 0 ∷ 0 ∷ 0 ∷ 0x42 ∷ []
    ++ 0 ∷ 0 ∷ 0 ∷ 1 ∷ 0 ∷ 0 ∷ 0 ∷ 0 ∷ 0 ∷ 0 ∷ 0 ∷ 5 ∷ 0 ∷ 0 ∷ 0 ∷ 0 ∷ []
    ++ codes "Table image" ++ replicate 21 0
    ++ 0 ∷ 0 ∷ 0 ∷ 0 ∷ 0 ∷ 0 ∷ 0 ∷ 0 ∷ 0 ∷ 0 ∷ 0 ∷ 4 ∷ []
    ++ codes "A.T" ++ replicate 37 0 ++ 1 ∷ 2 ∷ 3 ∷ 4 ∷ []
unfolding file_header file_with
dump_is_written = refl
