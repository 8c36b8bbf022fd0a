-- What holds of some of the standings.
use Rattle.std.proofs.Common.{◌≡◌, ℕ, ◌+◌, ◌<◌, Bool, true, false, zero, suc, List, Option, Some, None, refl, ap, ◌∙◌, arith}
use Rattle.std.proofs.lemmas.Bool.{eqb-true}
use Rattle.tbl_stream.specs.Limits.{and_more, is_spent}
use Rattle.tbl_stream.specs.Standing.{IsEnding, IsQuiet, IsStop, first_of}
use Rattle.tbl_stream.specs.Writing.{Taken, Wrote}
use Rattle.tbl_stream.specs.declared.standing.Standing.{Standing}
use Rattle.tbl_stream.specs.declared.standing.Standing.TheVariants.{Open, Bad, TooMany, Full, BootFault, BootStopped, SinkFailed, Memory, Unwritten}

-- of those after which nothing was played
pub by_quiet : (P : Standing → Type 0) (standing : Standing) → IsQuiet standing → P Open → P Bad → P TooMany → P Full → P Memory → P standing
by_quiet P Open is a b c d e = a
by_quiet P Bad is a b c d e = b
by_quiet P TooMany is a b c d e = c
by_quiet P Full is a b c d e = d
by_quiet P BootFault is a b c d e = absurd is
by_quiet P BootStopped is a b c d e = absurd is
by_quiet P SinkFailed is a b c d e = absurd is
by_quiet P Memory is a b c d e = e
by_quiet P Unwritten is a b c d e = absurd is

-- of those with which a record was played
pub by_stop : (P : Option Standing → Type 0) (stop : Option Standing) → IsStop stop → P None → P (Some BootFault) → P (Some BootStopped) → P (Some SinkFailed) → P (Some Unwritten) → P stop
by_stop P None is a b c d e = a
by_stop P (Some Open) is a b c d e = absurd is
by_stop P (Some Bad) is a b c d e = absurd is
by_stop P (Some TooMany) is a b c d e = absurd is
by_stop P (Some Full) is a b c d e = absurd is
by_stop P (Some BootFault) is a b c d e = b
by_stop P (Some BootStopped) is a b c d e = c
by_stop P (Some SinkFailed) is a b c d e = d
by_stop P (Some Memory) is a b c d e = absurd is
by_stop P (Some Unwritten) is a b c d e = e

-- of what a record leaves to be reported, after a write of its entry
pub by_write : (P : Option Standing → Type 0) (stop ending : Option Standing) (piece : List ℕ) (before after : Taken) → IsEnding ending → Wrote stop piece before after
    → (Wrote None piece before after → P None × P (Some BootFault) × P (Some BootStopped)) → (Wrote (Some SinkFailed) piece before after → P (Some SinkFailed)) → (Wrote (Some Unwritten) piece before after → P (Some Unwritten))
    → P (first_of stop ending)
by_write P None None piece before after is w a b c = (a w).0
by_write P None (Some BootFault) piece before after is w a b c = (a w).1
by_write P None (Some BootStopped) piece before after is w a b c = (a w).2
by_write P None (Some Open) piece before after is w a b c = absurd is
by_write P None (Some Bad) piece before after is w a b c = absurd is
by_write P None (Some TooMany) piece before after is w a b c = absurd is
by_write P None (Some Full) piece before after is w a b c = absurd is
by_write P None (Some SinkFailed) piece before after is w a b c = absurd is
by_write P None (Some Memory) piece before after is w a b c = absurd is
by_write P None (Some Unwritten) piece before after is w a b c = absurd is
by_write P (Some Open) ending piece before after is w a b c = absurd w
by_write P (Some Bad) ending piece before after is w a b c = absurd w
by_write P (Some TooMany) ending piece before after is w a b c = absurd w
by_write P (Some Full) ending piece before after is w a b c = absurd w
by_write P (Some BootFault) ending piece before after is w a b c = absurd w
by_write P (Some BootStopped) ending piece before after is w a b c = absurd w
by_write P (Some SinkFailed) ending piece before after is w a b c = b w
by_write P (Some Memory) ending piece before after is w a b c = absurd w
by_write P (Some Unwritten) ending piece before after is w a b c = c w

-- ---- how many records may follow

-- none more
pub and_none : (left : Option ℕ) → left ≡ and_more 0 left
and_none None = refl
and_none (Some n) = ap Some (omega arith)

-- some more, and others after them
pub and_on : (m n : ℕ) (a b c : Option ℕ) → a ≡ and_more m b → b ≡ and_more n c → a ≡ and_more (m + n) c
and_on m n a b None p q = p ∙ ap (and_more m) q
and_on m n a b (Some k) p q = p ∙ ap (and_more m) q ∙ ap Some (omega arith)

-- of a limit so many are left
pub left_of : (limit n : ℕ) (left : Option ℕ) → Some limit ≡ and_more n left → (m : ℕ) × (left ≡ Some m) × (limit ≡ m + n)
left_of limit n None e = absurd cc
left_of limit n (Some m) e = (m, refl, cc)

-- one, if it isn't spent
pub unspent : (m : ℕ) → is_spent (Some m) ≡ false → 0 < m
unspent zero e = absurd cc
unspent (suc m) e = omega arith

pub spent : (m : ℕ) → is_spent (Some m) ≡ true → m ≡ 0
spent m e = eqb-true m 0 e
