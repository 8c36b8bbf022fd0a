-- A description, its text and its file, written out.
use Rattle.std.specs.Prelude.{◌≡◌, [], ◌∷◌, ◌++◌, replicate, codes, refl, pos, negsuc}
use Rattle.std.specs.Fmt.{digits}
use Rattle.tbl_kinds.specs.Headers.{file_header}
use Rattle.tbl_kinds.specs.TableFiles.{file_with}
use Rattle.tbl_maker.specs.Values.{number, hex}
use Rattle.tbl_maker.specs.Fields.{Field}
use Rattle.tbl_maker.specs.Shapes.{shape_word}
use Rattle.tbl_maker.specs.Descriptions.{Description, text_of, shape_of, file_of}
use Rattle.tbl_maker.specs.declared.field_type.Sign.TheVariants.{Unsigned, Signed}
use Rattle.tbl_maker.specs.declared.field_type.Width.TheVariants.{Two, Four}

-- the limit 300, and the gain -5
abbrev pub limit : Field
limit = record { name = codes "limit"; value = number Unsigned Two (pos 300) }

abbrev pub gain : Field
gain = record { name = codes "gain"; value = number Signed Two (negsuc 4) }

abbrev pub worked : Description
worked = record { name = codes "A.T"; offset = 0; fields = limit ∷ gain ∷ [] }

pub worked_text : text_of worked ≡ codes "table A.T\noffset 0\nu16 limit 300\ni16 gain -5\n"
unfolding digits
worked_text = refl

pub worked_shape : shape_word (shape_of worked) ≡ codes "u16:limit,i16:gain"
worked_shape = refl

pub worked_file :
    file_of worked
    ≡ 0x63 ∷ 0x46 ∷ 0x45 ∷ 0x31 ∷ 0 ∷ 0 ∷ 0 ∷ 8 ∷ 0 ∷ 0 ∷ 0 ∷ 0x40 ∷ 0 ∷ 0 ∷ 0 ∷ 0x42 ∷ []
    ++ 0 ∷ 0 ∷ 0 ∷ 1 ∷ 0 ∷ 0 ∷ 0 ∷ 0 ∷ 0 ∷ 0 ∷ 0 ∷ 0 ∷ 0 ∷ 0 ∷ 0 ∷ 0 ∷ []
    ++ codes "Table image" ++ replicate 21 0
    ++ 0 ∷ 0 ∷ 0 ∷ 0 ∷ 0 ∷ 0 ∷ 0 ∷ 0 ∷ 0 ∷ 0 ∷ 0 ∷ 4 ∷ []
    ++ codes "A.T" ++ replicate 37 0 ++ 0x01 ∷ 0x2C ∷ 0xFF ∷ 0xFB ∷ []
unfolding file_of file_header file_with
worked_file = refl

-- two bytes and a large negative number, as part of a table
abbrev pub part : Description
part = record { name = codes "CS_APP.Limits"; offset = 8; fields = record { name = codes "key"; value = hex (0x0A ∷ 0xFF ∷ []) } ∷ record { name = codes "least"; value = number Signed Four (negsuc 2147483647) } ∷ [] }

pub part_text : text_of part ≡ codes "table CS_APP.Limits\noffset 8\nhex key 0AFF\ni32 least -2147483648\n"
unfolding digits
part_text = refl

pub part_shape : shape_word (shape_of part) ≡ codes "hex2:key,i32:least"
unfolding digits
part_shape = refl
