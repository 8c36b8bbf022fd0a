use Rattle.std.proofs.Common.{rules, ◌≡◌, ◌+◌, ◌*◌, length, List, ℕ, drop, slice_index_or, sym, ◌∙◌, ap, arith, subst}
use Rattle.std.proofs.lemmas.List.{get_or-take, get_or-drop}
use Rattle.std.proofs.lemmas.Result.{on_ok_weaker}
use Rattle.cds_layout.specs.Entries.{block_in, turn_place, entry_tail}
use Rattle.cds_layout.specs.Turns.{turn_of, shown_by}
use Rattle.cds_layout.specs.declared.turns.Place.TheVariants.{First, Second}
use Rattle.tbl_kinds.specs.Numbers.{piece}
use Rattle.cds_layout.proofs.EntryLaws.{block_in-written, entry_tail-zeros}
use Rattle.cds_store.proofs.Bytes.{read_again, front}
use Rattle.cds_store.proofs.Names.{fits_field}
use Rattle.cds_store.proofs.writes.write_entry.Goals as goal

pub returns-clause-done : goal.returns-clause-done
returns-clause-done g c =
    let b = c.args.block.now in
    let new = g.B.Bank.now c.write.new.bank in
    let size : length c.entry_bytes.result ≡ 63 = search rules in
    on_ok_weaker c.write.result
    (λ done told.
    let there : piece (17 + 64 * c.args.slot) 63 new ≡ entry_tail b =
    read_again (g.B.Bank.now c.args.bank.now) new (17 + 64 * c.args.slot) 63 _ size (omega (arith, c.requires.within, c.requires.room, g.met.B.Bank.whole c.args.bank.now told)) (search rules) ∙ c.entry_bytes.ensures in
    ap block_in (front new (entry_tail b) (17 + 64 * c.args.slot) 63 51 there (omega arith))
    ∙ block_in-written b c.requires.right (fits_field b c.requires.right (subst (λ (l : List ℕ). length l ≡ 63) c.entry_bytes.ensures size)))
    c.write.ensures.writes.done

pub returns-clause-none : goal.returns-clause-none
returns-clause-none g c =
    let b = c.args.block.now in
    let new = g.B.Bank.now c.write.new.bank in
    let slot = c.args.slot in
    let size : length c.entry_bytes.result ≡ 63 = search rules in
    on_ok_weaker c.write.result
    (λ done told.
    let there : piece (17 + 64 * slot) 63 new ≡ entry_tail b =
    read_again (g.B.Bank.now c.args.bank.now) new (17 + 64 * slot) 63 _ size (omega (arith, c.requires.within, c.requires.room, g.met.B.Bank.whole c.args.bank.now told)) (search rules) ∙ c.entry_bytes.ensures in
    let fits = fits_field b c.requires.right (subst (λ (l : List ℕ). length l ≡ 63) c.entry_bytes.ensures size) in
    let zero_ : slice_index_or new (17 + 64 * slot + 51) 0 ≡ 0 =
    sym (get_or-drop (17 + 64 * slot) new 51 0) ∙ sym (get_or-take 63 (drop (17 + 64 * slot) new) 51 0 (omega arith)) ∙ ap (λ (l : List ℕ). slice_index_or l 51 0) there ∙ entry_tail-zeros b fits 0 in
    let one : slice_index_or new (17 + 64 * slot + 52) 0 ≡ 0 =
    sym (get_or-drop (17 + 64 * slot) new 52 0) ∙ sym (get_or-take 63 (drop (17 + 64 * slot) new) 52 0 (omega arith)) ∙ ap (λ (l : List ℕ). slice_index_or l 52 0) there ∙ entry_tail-zeros b fits 1 in
    let first_place : turn_place slot First ≡ 17 + 64 * slot + 51 = omega arith in
    let second_place : turn_place slot Second ≡ 17 + 64 * slot + 52 = omega arith in
    let first = ap (λ at. turn_of (slice_index_or new at 0)) first_place ∙ ap turn_of zero_ in
    let second = ap (λ at. turn_of (slice_index_or new at 0)) second_place ∙ ap turn_of one in
    λ i. shown_by (first i) (second i))
    c.write.ensures.writes.done
