-- How lists of admitted identifiers are spelled as words of a command line.
use Rattle.std.specs.Prelude.{◌≡◌, ℕ, ◌<◌, ◌^◌, ◌==◌, List, [], ◌∷◌, ◌++◌, Bool, codes}
use Rattle.std.specs.Fmt.{decimal}
use Rattle.tbl_kinds.specs.Admitted.{Admitted}

abbrev pub comma : ℕ
comma = 0x2C

abbrev pub is_comma : ℕ → Bool
is_comma byte = byte == comma

-- an identifier, in decimal digits
pub record SpellsId (text : List ℕ) (id : ℕ) : Type 0 where
  pub digits : text ≡ decimal id
  pub fits : id < 2 ^ 32

-- two of them with a comma between
pub record SpellsPair (text : List ℕ) (first second : ℕ) : Type 0 where
  pub parts : text ≡ decimal first ++ comma ∷ decimal second
  pub first_fits : first < 2 ^ 32
  pub second_fits : second < 2 ^ 32

-- `any` is the empty list, which admits all
abbrev pub SpellsList : List ℕ → List ℕ → Type 0
SpellsList text [] = text ≡ codes "any"
SpellsList text (id ∷ []) = SpellsId text id
SpellsList text (first ∷ second ∷ []) = SpellsPair text first second
SpellsList text (first ∷ second ∷ third ∷ others) = ⊥

-- both lists, that of spacecraft first
pub record SpellsAdmit (first second : List ℕ) (admit : Admitted) : Type 0 where
  pub spacecraft : SpellsList first admit.spacecraft
  pub processor : SpellsList second admit.processor
