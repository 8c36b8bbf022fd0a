use Rattle.std.proofs.Common.{◌≡◌, ℕ, ◌-◌, ◌≤◌, List, ◌++◌, length, replicate, ap, ◌∙◌, arith, append-nil}
use Rattle.std.proofs.lemmas.List.{take-replicate}
use borrow.Rule.Slice.PartMut.{put_mid, Post-is}
use Rattle.check_word.proofs.filled.Goals as goal

placed : (bytes copy : List ℕ) → length bytes ≤ 256 → copy ≡ bytes →
    let before = 256 - length bytes in
    put_mid before (256 - before) (replicate 256 0) copy ≡ replicate before 0 ++ bytes
placed bytes copy h same =
    let before = 256 - length bytes in
    let none_after = Post-is before 256 (replicate 256 0) (omega arith) in
    (λ i. take-replicate before 256 0 (omega arith) i ++ (same i ++ none_after i))
    ∙ ap (λ (l : List ℕ). replicate before 0 ++ l) (append-nil bytes)

pub returns : goal.returns
returns c = placed c.args.bytes.now c.copy_from_slice.new.self c.requires c.copy_from_slice.ensures.after
