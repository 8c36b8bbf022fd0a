-- Which spacecraft and processors table files may come from (cFE's lists of valid identifiers in cfe_platform_cfg.h).
use Rattle.std.specs.Prelude.{◌≡◌, ℕ, ◌==◌, List, [], ◌∷◌, Bool, true}
use Rattle.std.specs.List.{list_any}
use Rattle.tbl_kinds.specs.Headers.{Header}

-- the identifiers that are listed, of spacecraft and of processors
pub record Admitted : Type 0 where
  pub spacecraft : List ℕ
  pub processor : List ℕ

-- an empty list admits all, and any other what is in it
abbrev pub is_admitted : List ℕ → ℕ → Bool
is_admitted [] id = true
is_admitted (first ∷ others) id = list_any (λ listed. listed == id) (first ∷ others)

-- both identifiers of a file's header are admitted
pub record Admits (admit : Admitted) (header : Header) : Type 0 where
  pub spacecraft : is_admitted admit.spacecraft header.spacecraft ≡ true
  pub processor : is_admitted admit.processor header.processor ≡ true

-- without lists every file's are
abbrev pub all_admitted : Admitted
all_admitted = record { spacecraft = []; processor = [] }
