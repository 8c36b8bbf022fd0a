-- What writes do to the bytes of a file.
use Rattle.std.specs.Prelude.{◌≡◌, ℕ, zero, suc, ◌+◌, ◌-◌, List, [], ◌∷◌, ◌++◌, length, drop, replicate, refl}
use Rattle.std.proofs.Common.{ap}

-- the first so many bytes, with zeros after them where there are fewer
abbrev pub padded : ℕ → List ℕ → List ℕ
padded zero bytes = []
padded (suc count) [] = 0 ∷ padded count []
padded (suc count) (byte ∷ bytes) = byte ∷ padded count bytes

-- the bytes of a file after others were written from a place on. Where the file ended before that place zeros stand there
-- now, and where nothing was written it is as it was
abbrev pub written : List ℕ → ℕ → List ℕ → List ℕ
written bytes at [] = bytes
written bytes at (other ∷ others) = padded at bytes ++ (other ∷ others) ++ drop (at + length (other ∷ others)) bytes

-- what a write of so many bytes that failed leaves: outside its range all is as it was
pub record Spoiled (at count : ℕ) (old new : List ℕ) : Type 0 where
  pub before : padded at new ≡ padded at old
  pub behind : drop (at + count) new ≡ drop (at + count) old

-- the bytes of a file that was made longer with zeros, where it had fewer than so many
abbrev pub lengthened : ℕ → List ℕ → List ℕ
lengthened size bytes = bytes ++ replicate (size - length bytes) 0

pub length-padded : (size : ℕ) (bytes : List ℕ) → length (padded size bytes) ≡ size
length-padded zero bytes = refl
length-padded (suc count) [] = ap suc (length-padded count [])
length-padded (suc count) (byte ∷ bytes) = ap suc (length-padded count bytes)
