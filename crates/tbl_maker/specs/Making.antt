-- What making a file of a text answers.
use Rattle.std.specs.Prelude.{◌≡◌, ℕ, ◌<◌, List, ◌++◌, length, Result, Ok, Err, IfOk, IfErr}
use Rattle.std.specs.List.{flat_map}
use Rattle.tbl_kinds.specs.Buffers.{Buffer}
use Rattle.tbl_maker.specs.Descriptions.{Description, IsDescription, lines_of, ended, text_of, file_of}
use Rattle.tbl_maker.specs.declared.making.MakeFault.{MakeFault}
use Rattle.tbl_maker.specs.declared.making.MakeFault.TheVariants.{Line, Memory}

-- the text is a description's, and the file is that description's
pub record IsMadeOf (text file : List ℕ) : Type 0 where
  pub description : Description
  pub is_description : IsDescription description
  pub text_is : text ≡ text_of description
  pub file_is : file ≡ file_of description

-- the text is no description's
abbrev pub IsNoDescription : List ℕ → Type 0
IsNoDescription text = (d : Description) → IsDescription d → text ≡ text_of d → ⊥

-- the text begins with the first so many lines of some description. Bytes that no newline ends are no line
pub record BeginsOne (text : List ℕ) (count : ℕ) : Type 0 where
  pub description : Description
  pub is_description : IsDescription description
  pub first : List (List ℕ)
  pub others : List (List ℕ)
  pub lines : lines_of description ≡ first ++ others
  pub count_is : length first ≡ count
  pub rest : List ℕ
  pub text_is : text ≡ flat_map ended first ++ rest

-- the least number such that the text doesn't begin with so many lines of a description
pub record IsLeastBadLine (text : List ℕ) (number : ℕ) : Type 0 where
  pub no_description : IsNoDescription text
  pub bad : BeginsOne text number → ⊥
  pub least : (count : ℕ) → count < number → BeginsOne text count

-- which line is bad, where memory didn't run out
abbrev pub TellsLine : List ℕ → MakeFault → Type 0
TellsLine text (Line number) = IsLeastBadLine text number
TellsLine text Memory = Unit {0}

-- this file, where memory didn't run out
abbrev pub Makes : Result Buffer MakeFault → List ℕ → Type 0
Makes (Ok made) file = made.list ≡ file
Makes (Err (Line number)) file = ⊥
Makes (Err Memory) file = Unit {0}

-- the file of a description is made of its text, of each description's, and of no other text
pub record MakesOfText (text : List ℕ) (result : Result Buffer MakeFault) : Type 0 where
  pub made : IfOk result (λ file. IsMadeOf text file.list)
  pub descriptions : (d : Description) → IsDescription d → text ≡ text_of d → Makes result (file_of d)
  pub line : IfErr result (λ fault. TellsLine text fault)
