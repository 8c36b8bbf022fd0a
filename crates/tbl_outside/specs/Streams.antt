-- What a write that failed did to the bytes that a sink had taken, and how far a source was read.
use Rattle.std.specs.Prelude.{◌≡◌, ◌≢◌, ℕ, Option, List, take, ◌==◌, if◌then◌else◌}
use Rattle.std.specs.Io.KnownBytes.{append_known}
use Rattle.tbl_outside.specs.declared.stream.HowFar.{HowFar}
use Rattle.tbl_outside.specs.declared.stream.HowFar.TheVariants.{Going, Ended, Overrun}

-- where they are told, the bytes taken grew by some front of these
pub record TakesFront (old new : Option (List ℕ)) (bytes : List ℕ) : Type 0 where
  pub count : ℕ
  pub grown : new ≡ append_known old (take count bytes)

-- after one read more, which gave so many bytes
abbrev pub after_read : ℕ → HowFar → HowFar
after_read count Going = if count == 0 then Ended else Going
after_read count Ended = Overrun
after_read count Overrun = Overrun

-- each read gave a byte
abbrev pub ReadsOn : HowFar → HowFar → Type 0
ReadsOn before after = before ≡ Going → after ≡ Going

-- nothing was read after the end of the input, nor after a read that failed
abbrev pub ReadsToEnd : HowFar → HowFar → Type 0
ReadsToEnd before after = before ≡ Going → after ≢ Overrun
