-- What a validation function answers during one request.
use Rattle.std.specs.Prelude.{ℕ, ℤ, negsuc, List, Bool, false, if◌then◌else◌, Option, Some, None}
use Rattle.std.specs.Option.{option_map, option_map_or}
use Rattle.std.specs.Str.{bytes_eq}
use Rattle.tbl_kinds.specs.Buffers.{Buffer}

-- the image that is asked about first, where two are; its verdict, the verdict on any other image, and how often it was asked
pub record Spoken : Type 0 where
  pub first : Option (List ℕ)
  pub verdict : ℤ
  pub other : ℤ
  pub asked : ℕ

abbrev pub first_of : Option Buffer → Option (List ℕ)
first_of first = option_map (λ (image : Buffer). image.list) first

abbrev pub is_first : Option (List ℕ) → List ℕ → Bool
is_first first image = option_map_or (λ it. bytes_eq it image) first false

abbrev pub answer_of : Spoken → List ℕ → ℤ
answer_of it image = if is_first it.first image then it.verdict else it.other

-- the same verdict on whatever image
abbrev pub one_verdict : ℤ → Spoken
one_verdict verdict = record { first = None; verdict = verdict; other = verdict; asked = 0 }

-- one on this image, and one on any other
abbrev pub two_verdicts : List ℕ → ℤ → ℤ → Spoken
two_verdicts first verdict other = record { first = Some first; verdict = verdict; other = other; asked = 0 }

-- no verdict was handed in: -2147483648 on whatever image, which refuses it
abbrev pub mute : Spoken
mute = one_verdict (negsuc 2147483647)
