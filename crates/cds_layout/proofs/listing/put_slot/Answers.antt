use Rattle.std.proofs.Common.{rules, ◌≡◌, ◌<◌, ◌++◌, List, ℕ, Option, None, Some, true, false, refl, sym, ap, subst, ◌∙◌, slice_index_or}
use Rattle.std.proofs.lemmas.List.{append-nil}
use Rattle.tbl_kinds.specs.declared.block.Block.{Block}
use Rattle.tbl_outside.specs.declared.bank.Bank.{Ghosts}
use Rattle.cds_layout.specs.Entries.{slot_count}
use Rattle.cds_layout.specs.Fronts.{WasRead}
use Rattle.cds_layout.specs.Images.{shown_in}
use Rattle.cds_layout.specs.declared.listing.Front.{Front}
use Rattle.cds_layout.specs.declared.turns.Place.{Place}
use Rattle.cds_layout.specs.Lines.{IsRightAt}
use Rattle.cds_layout.specs.Looks.{Ending, AllRead, BankFailed, Looks}
use Rattle.cds_layout.specs.Order.{look_at, place_calls}
use Rattle.cds_layout.proofs.DirectoryLaws.{shown-front}
use Rattle.cds_layout.proofs.LookLemmas.{looks_same, no_look}
use Rattle.cds_layout.proofs.Texts.{line-there}
use Rattle.cds_layout.proofs.Turned.{line-told}
use Rattle.cds_layout.proofs.listing.put_slot.Goals as goal

-- the calls for the place that shows are those for the slot
looked : {B : Type 0} (g : Ghosts B) (old new : B) (slot : ℕ) (front : Front) (b : Block) (shown : Option Place) (ending : Ending) → WasRead g old front.bytes.items front.directory → slot < slot_count
    → shown ≡ shown_in front.bytes.items slot → slice_index_or front.directory slot None ≡ Some b → Looks g old new (place_calls b shown) ending → Looks g old new (look_at (g.now old) slot (slice_index_or front.directory slot None)) ending
looked g old new slot front b shown ending was within is there =
    looks_same g old new (place_calls b shown) _ ending
    (λ told. ap (place_calls b) (is ∙ ap (λ (l : List ℕ). shown_in l slot) (was.is told).read ∙ shown-front (g.now old) slot within) ∙ ap (look_at (g.now old) slot) (sym there))

pub is_whole-requires-clause-right : goal.is_whole-requires-clause-right
is_whole-requires-clause-right g c =
    let there : slice_index_or c.args.front.now.directory c.args.slot None ≡ Some c.in-Some.block.now = search rules in
    subst IsRightAt there (c.requires.front.together.right c.args.slot)

pub returns-in-None-clause-text : goal.returns-in-None-clause-text
returns-in-None-clause-text g c told =
    let there : slice_index_or c.args.front.now.directory c.args.slot None ≡ None = search rules in
    let line = line-there (g.B.Bank.now c.args.bank.now) c.args.slot c.args.front.now.directory None (c.requires.front.is told).told there in
    sym (append-nil c.args.out.now.list) ∙ ap (λ (l : List ℕ). c.args.out.now.list ++ l) (sym line)

pub returns-in-None-clause-looks : goal.returns-in-None-clause-looks
returns-in-None-clause-looks g c =
    let b = g.B.Bank in
    let bank = c.args.bank.now in
    let there : slice_index_or c.args.front.now.directory c.args.slot None ≡ None = search rules in
    record {
      reads = no_look b bank AllRead (λ e. absurd cc) (λ image m left. g.met.B.Bank.leaves_only_now bank image m (g.met.B.Bank.only_now bank image m left));
      bank_calls = λ told. rw there (λ told_calls. (told_calls, refl));
    }

pub returns-in_ok-put_line-in-Some-clause-text : goal.returns-in_ok-put_line-in-Some-clause-text
returns-in_ok-put_line-in-Some-clause-text g c told =
    let bytes = g.B.Bank.now c.args.bank.now in
    let slot = c.args.slot in
    let front = c.requires.front.is told in
    let there : slice_index_or c.args.front.now.directory slot None ≡ Some c.in-Some.block.now = search rules in
    let shown : c.shown_place.result ≡ shown_in bytes slot = c.shown_place.ensures ∙ ap (λ (l : List ℕ). shown_in l slot) (c.deref.ensures.value ∙ front.read) ∙ shown-front bytes slot c.requires.within in
    c.in_ok-put_line-in-Some.ensures
    ∙ ap (λ (l : List ℕ). c.args.out.now.list ++ l)
    (line-told bytes slot c.in-Some.block.now c.shown_place.result c.in_ok-whole-in-Some.whole shown (c.in_ok-whole-in-Some.ensures.whole told)
    ∙ sym (line-there bytes slot c.args.front.now.directory (Some c.in-Some.block.now) front.told there))

pub returns-in_ok-put_line-in-Some-clause-looks : goal.returns-in_ok-put_line-in-Some-clause-looks
returns-in_ok-put_line-in-Some-clause-looks g c = looked g.B.Bank c.args.bank.now c.is_whole.new.bank c.args.slot c.args.front.now c.in-Some.block.now c.shown_place.result _ c.requires.front c.requires.within (c.shown_place.ensures ∙ ap (λ (l : List ℕ). shown_in l c.args.slot) c.deref.ensures.value) (search rules) c.in_ok-whole-in-Some.ensures.looks

pub returns-in_err-whole-in-Some-clause-looks : goal.returns-in_err-whole-in-Some-clause-looks
returns-in_err-whole-in-Some-clause-looks g c =
    let broke : Looks g.B.Bank c.args.bank.now c.is_whole.new.bank (look_at (g.B.Bank.now c.args.bank.now) c.args.slot (slice_index_or c.args.front.now.directory c.args.slot None)) BankFailed =
    looked g.B.Bank c.args.bank.now c.is_whole.new.bank c.args.slot c.args.front.now c.in-Some.block.now c.shown_place.result _ c.requires.front c.requires.within (c.shown_place.ensures ∙ ap (λ (l : List ℕ). shown_in l c.args.slot) c.deref.ensures.value) (search rules) c.in_err-whole-in-Some.ensures.looks in
    search rules
