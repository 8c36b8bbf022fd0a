-- One call more joins those that are kept.
use Rattle.std.proofs.Common.{◌≡◌, ℕ, ◌≤◌, List, [], ◌∷◌, ◌++◌, length, drop, refl, ◌∙◌, ap, arith}
use Rattle.std.proofs.lemmas.List.{take-append-le, drop-append-le, length-drop, nil_from_length}
use Rattle.std.proofs.lemmas.List.Sums.{sum_by-cons}
use Rattle.tbl_outside.specs.BankCalls.{BankCall, write}
use Rattle.tbl_fakes.specs.Notes.{AllKept, kept_of, call_of, told}
use Rattle.tbl_fakes.specs.declared.notes.NotedCall.{NotedCall}
use Rattle.tbl_fakes.specs.declared.notes.NotedCall.TheVariants.{Read, Write}

-- what is kept after a call's own bytes isn't shown by it
call_of-append : (call : NotedCall) (bytes more : List ℕ) → kept_of call ≤ length bytes → call_of call (bytes ++ more) ≡ call_of call bytes
call_of-append (Read at count) bytes more le = refl
call_of-append (Write at count) bytes more le = ap (write at) (take-append-le count bytes more le)

pub told-push : (calls : List NotedCall) (one : NotedCall) (bytes more : List ℕ) (past : List BankCall) → AllKept calls bytes
    → told (calls ++ one ∷ []) (bytes ++ more) past ≡ call_of one more ∷ told calls bytes past
told-push [] one bytes more past kept = ap (λ (l : List ℕ). call_of one (l ++ more) ∷ past) (nil_from_length bytes kept)
told-push (call ∷ calls) one bytes more past kept =
    let within : kept_of call ≤ length bytes = omega (arith, kept, sum_by-cons kept_of call calls) in
    let rest : AllKept calls (drop (kept_of call) bytes) = omega (arith, kept, length-drop (kept_of call) bytes, sum_by-cons kept_of call calls) in
    ap (λ (l : List ℕ). told (calls ++ one ∷ []) l (call_of call (bytes ++ more) ∷ past)) (drop-append-le (kept_of call) bytes more within)
    ∙ ap (λ (c : BankCall). told (calls ++ one ∷ []) (drop (kept_of call) bytes ++ more) (c ∷ past)) (call_of-append call bytes more within)
    ∙ told-push calls one (drop (kept_of call) bytes) more (call_of call bytes ∷ past) rest
