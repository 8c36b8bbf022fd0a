-- Laws of descriptions: their texts, shapes and files, and the way back.
use Rattle.std.specs.Prelude.{◌≡◌, ℕ, List, None, true}
use Rattle.tbl_kinds.specs.Admitted.{all_admitted}
use Rattle.tbl_kinds.specs.TableFiles.{file_flaw, table_file_in}
use Rattle.tbl_maker.specs.Descriptions.{Description, IsDescription, text_of, shape_of, contents_of, file_of}
use Rattle.tbl_maker.specs.Making.{IsMadeOf}
use Rattle.tbl_maker.specs.Describing.{describe_fault, IsDescribedBy}
use Rattle.tbl_maker.specs.Shapes.{is_shape, shape_word}
use Rattle.tbl_maker.specs.declared.form.Form.{Form}

abbrev pub TextsHaveOneDescription : Type 0
TextsHaveOneDescription = (d e : Description) → IsDescription d → IsDescription e → text_of d ≡ text_of e → d ≡ e

abbrev pub WordsHaveOneShape : Type 0
WordsHaveOneShape = (shape other : List Form) → is_shape shape ≡ true → is_shape other ≡ true → shape_word shape ≡ shape_word other → shape ≡ other

-- no two descriptions have one shape and tell the same name, offset and image
abbrev pub ShapesAndFilesHaveOneDescription : Type 0
ShapesAndFilesHaveOneDescription = (d e : Description) → IsDescription d → IsDescription e → shape_of d ≡ shape_of e → contents_of d ≡ contents_of e → d ≡ e

-- what is made of a description gives the description back by its shape, and no other text
pub record MadeFilesAreDescribed : Type 0 where
  pub none : (d : Description) → IsDescription d → describe_fault (shape_of d) (file_of d) ≡ None
  pub again : (d : Description) → IsDescription d → IsDescribedBy (shape_of d) (file_of d) (text_of d)
  pub only : (d : Description) (text : List ℕ) → IsDescription d → IsDescribedBy (shape_of d) (file_of d) text → text ≡ text_of d

-- what is made of a text that a file was described by is a table file, and tells what that file tells
pub record DescribedFilesAreMadeAgain : Type 0 where
  pub table_file : (shape : List Form) (bytes text made : List ℕ) → IsDescribedBy shape bytes text → IsMadeOf text made → file_flaw all_admitted made ≡ None
  pub contents : (shape : List Form) (bytes text made : List ℕ) → IsDescribedBy shape bytes text → IsMadeOf text made → table_file_in made ≡ table_file_in bytes
