use Rattle.std.proofs.Common.{◌≡◌, ℕ, ◌+◌, length, refl, ap, ◌∙◌, arith}
use Rattle.tbl_kinds.specs.Numbers.{four_at}
use Rattle.transcript.proofs.Fields.{tells, read_at, entry_again, entry_found}
use Rattle.transcript.proofs.reading.read_entry.Goals as goal

pub returns-then-bytes-lt17-clause-only : goal.returns-then-bytes-lt17-clause-only
returns-then-bytes-lt17-clause-only c = λ f more is e. let t = tells c.args.bytes.now f more is e in absurd (omega (arith, t.len))

pub returns-then-bytes-packets_at-clause-only : goal.returns-then-bytes-packets_at-clause-only
returns-then-bytes-packets_at-clause-only c = λ f more is e.
    let t = tells c.args.bytes.now f more is e in
    let n : c.u32_at-bytes_len.result ≡ length f.bytes = c.u32_at-bytes_len.ensures ∙ t.bytes_len in
    absurd (omega (arith, t.len, n))

pub returns-then-bytes-packets_at-2-clause-only : goal.returns-then-bytes-packets_at-2-clause-only
returns-then-bytes-packets_at-2-clause-only c = λ f more is e.
    let t = tells c.args.bytes.now f more is e in
    let n : c.u32_at-bytes_len.result ≡ length f.bytes = c.u32_at-bytes_len.ensures ∙ t.bytes_len in
    let m : c.u32_at-packets_len.result ≡ length f.packets = c.u32_at-packets_len.ensures ∙ ap (λ (k : ℕ). four_at (17 + k) c.args.bytes.now) n ∙ t.packets_len in
    absurd (omega (arith, t.len, n, m))

pub returns-then-place-clause-only : goal.returns-then-place-clause-only
returns-then-place-clause-only c = λ f more is e.
    let t = tells c.args.bytes.now f more is e in
    let p : c.u32_at-place.result ≡ f.place = c.u32_at-place.ensures ∙ t.place in
    absurd (omega (arith, is.place, p))

pub returns-then-actor-gt16-clause-only : goal.returns-then-actor-gt16-clause-only
returns-then-actor-gt16-clause-only c = λ f more is e. let t = tells c.args.bytes.now f more is e in absurd (omega (arith, is.actor, t.actor))

pub returns-clause-found : goal.returns-clause-found
returns-clause-found c =
    entry_found c.args.bytes.now _ (λ i. omega (arith, c.type_inv.bytes i))
    (read_at c.u32_at-place.ensures refl c.u32_at.ensures c.u32_at-2.ensures c.u32_at-bytes_len.ensures c.u32_at-packets_len.ensures)
    (omega arith) (omega arith) (omega arith)

pub returns-clause-only : goal.returns-clause-only
returns-clause-only c = λ f more is e.
    entry_again c.args.bytes.now f more _ (tells c.args.bytes.now f more is e)
    (read_at c.u32_at-place.ensures refl c.u32_at.ensures c.u32_at-2.ensures c.u32_at-bytes_len.ensures c.u32_at-packets_len.ensures)
