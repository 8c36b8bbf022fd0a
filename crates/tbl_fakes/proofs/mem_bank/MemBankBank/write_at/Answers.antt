-- A write that had room joins the record.
use Rattle.std.proofs.Common.{◌≡◌, ◌+◌, ◌-◌, ◌≤◌, ◌++◌, ◌∷◌, [], ℕ, List, length, take, drop, arith, rules, ap, ◌∙◌}
use Rattle.std.specs.Prelude.{Option}
use Rattle.std.proofs.lemmas.Grind.{common_steps}
use Rattle.tbl_kinds.specs.Numbers.{piece, patched}
use Rattle.tbl_outside.specs.BankCalls.{write}
use Rattle.tbl_fakes.specs.Notes.{noted}
use Rattle.tbl_fakes.specs.Troubles.{next_break, reach_of, front_of, one_write, one_end}
use Rattle.tbl_fakes.specs.declared.troubles.Break.{Break}
use Rattle.tbl_outside.proofs.Pieces.{length-piece}
use Rattle.tbl_fakes.specs.Banks.{Banking, written_over}
use Rattle.tbl_fakes.specs.Past.{PastParts, passed}
use Rattle.tbl_fakes.proofs.Pasts.{kept_and_written}
use Rattle.tbl_fakes.proofs.Leaving.{leaves_front, leaves_inside}
use Rattle.tbl_fakes.proofs.mem_bank.MemBankBank.write_at.Goals as goal

-- the bytes with a front of the piece
front : (c : goal.After-end_write) → c.write_over.new.bytes.items ≡ patched c.args.self.now.bytes c.args.at (take c.reach-reach.result c.args.bytes.now)
front c = rw (← c.self.view_is) c.write_over.ensures

-- what is kept is what was in the range
fits : (c : goal.After-end_write) → c.args.at + length c.args.bytes.now ≤ length c.self.inside.bytes.items
fits c = omega (arith, c.requires, ap (λ (bank : Banking). length bank.bytes) c.self.view_is)

kept : (c : goal.After-end_write) → take (c.args.at + length c.args.bytes.now - c.args.at) (drop c.args.at c.as_slice.result.now) ≡ piece c.args.at (length c.args.bytes.now) c.self.inside.bytes.items
kept c =
    let at = c.args.at in
    let size : at + length c.args.bytes.now - at ≡ length c.args.bytes.now = omega arith in
    ap (λ (l : List ℕ). take (at + length c.args.bytes.now - at) (drop at l)) c.as_slice.ensures.value ∙ ap (λ n. take n (drop at c.self.inside.bytes.items)) size

-- the record with one write more
more : (c : goal.After-end_write) → passed c.keep.new.self.spans c.keep.new.self.olds c.write_over.new.bytes.items ≡ c.args.self.now.past ++ written_over c.args.self.now c.args.at (length c.args.bytes.now) ∷ []
more c =
    let b = c.self.inside in
    rw (← c.self.view_is) (kept_and_written b.past.spans _ b.past.olds _ b.bytes.items _ _ c.args.bytes.now c.args.at c.reach-reach.result c.keep.ensures.whole (fits c) (kept c) (ap (λ (p : PastParts). p.spans) c.keep.ensures.kept) (ap (λ (p : PastParts). p.olds) c.keep.ensures.kept) c.write_over.ensures)

pub returns : goal.returns
returns c =
    let at = c.args.at in
    let bytes = c.args.bytes.now in
    let old = c.args.self.now in
    let planned : c.next_write-planned.result ≡ next_break old.trouble = c.next_write-planned.ensures.answer ∙ ap (λ (b : Banking). next_break b.trouble) c.self.view_is in
    let reach : c.reach-reach.result ≡ reach_of (next_break old.trouble) (length bytes) = c.reach-reach.ensures.exact ∙ ap (λ (p : Option Break). reach_of p (length bytes)) planned in
    let stands : c.write_over.new.bytes.items ≡ patched old.bytes at (front_of (next_break old.trouble) bytes) = front c ∙ ap (λ n. patched old.bytes at (take n bytes)) reach in
    let past = more c in
    let writes : c.keep.new.self.writes ≡ old.writes_left - 1 = ap (λ (p : PastParts). p.writes) c.keep.ensures.kept ∙ ap (λ (b : Banking). b.writes_left - 1) c.self.view_is in
    let left : c.keep.new.self.room ≡ old.room - length bytes =
    ap (λ (p : PastParts). p.room) c.keep.ensures.kept
    ∙ ap (λ n. c.self.inside.past.room - n) (ap length (kept c) ∙ length-piece c.self.inside.bytes.items at (length bytes) (fits c))
    ∙ ap (λ (b : Banking). b.room - length bytes) c.self.view_is in
    let notes : c.note_write.new.self ≡ noted (write at bytes) old.notes = c.note_write.ensures ∙ ap (λ (b : Banking). noted (write at bytes) b.notes) c.self.view_is in
    let trouble : c.end_write.new.self ≡ one_end (next_break old.trouble) (one_write old.trouble) =
    c.end_write.ensures.counted
    ∙ (λ i. one_end (planned i) (c.next_write-planned.ensures.counted i))
    ∙ ap (λ (b : Banking). one_end (next_break old.trouble) (one_write b.trouble)) c.self.view_is in
    record {
      moments = leaves_front c.args.self.now _ c.args.at c.reach-reach.result c.args.bytes.now c.requires (front c) (more c);
      counted = search rules;
      keeps = record { size = grind (arith, common_steps); fault_count = search rules; stop_count = search rules; told = search rules; bank_calls = search rules };
      ends = search rules;
      written = λ room. λ i. record { bytes = stands i; past = past i; writes_left = writes i; room = left i; notes = notes i; trouble = trouble i };
      inside = λ room image torn. leaves_inside c.args.self.now (passed c.keep.new.self.spans c.keep.new.self.olds c.write_over.new.bytes.items) c.args.at (length c.args.bytes.now) image (more c) torn;
      full = search rules;
      unwritten = search rules;
    }
