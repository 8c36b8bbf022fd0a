-- What a bank in memory keeps of its writes, and the contents that it had.
use Rattle.std.specs.Prelude.{◌≡◌, ℕ, ◌-◌, Bool, ◌&&◌, nat_lt, nat_le, List, [], ◌∷◌, ◌++◌, length, take, drop, sum_by}
use Rattle.tbl_kinds.specs.Numbers.{patched}
use Rattle.tbl_fakes.specs.declared.past.Span.{Span}

-- the ranges written, oldest first, the bytes that were in each before, and the room that is left
pub record PastParts : Type 0 where
  pub spans : List Span
  pub olds : List ℕ
  pub writes : ℕ
  pub room : ℕ

-- no write yet, and room for so many with so many bytes in all
abbrev pub nothing_passed : ℕ → ℕ → PastParts
nothing_passed writes room = record { spans = []; olds = []; writes = writes; room = room }

-- as many bytes are kept as the ranges have
abbrev pub OldsKept : List Span → List ℕ → Type 0
OldsKept spans olds = length olds ≡ sum_by (λ span. span.length) spans

-- there is room for one more write, and for so many bytes
abbrev pub fits : PastParts → ℕ → Bool
fits kept count = nat_lt 0 kept.writes && nat_le count kept.room

-- one write more is kept, with the bytes that were in its range
abbrev pub with_write : ℕ → List ℕ → PastParts → PastParts
with_write at old kept = record {
  spans = kept.spans ++ record { at = at; length = length old } ∷ [];
  olds = kept.olds ++ old;
  writes = kept.writes - 1;
  room = kept.room - length old;
}

-- a write: the bytes as they were before it, and its range
pub record Passed : Type 0 where
  pub before : List ℕ
  pub span : Span

-- the bytes as they were before the first of these writes, if these are the bytes after the last
abbrev pub undone : List Span → List ℕ → List ℕ → List ℕ
undone [] olds bytes = bytes
undone (span ∷ spans) olds bytes =
    patched (undone spans (drop span.length olds) bytes) span.at (take span.length olds)

-- each of these writes with the bytes before it
abbrev pub passed : List Span → List ℕ → List ℕ → List Passed
passed [] olds bytes = []
passed (span ∷ spans) olds bytes =
    record { before = undone (span ∷ spans) olds bytes; span = span } ∷ passed spans (drop span.length olds) bytes
