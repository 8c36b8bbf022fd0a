use Rattle.std.proofs.Common.{refl, ◌≡◌, ◌∙◌, Bool, Some, true, cond, sym, ap, subst, rules}
use Rattle.std.specs.Prelude.{option_and_then, false}
use Rattle.tbl_kinds.specs.Notes.{untouched}
use Rattle.tbl_model.specs.State.{Table}
use Rattle.tbl_model.specs.Tables.{table_at, is_critical, is_critical_in}
use Rattle.tbl_model.specs.Copies.{block_of, copied_to, then_copy}
use Rattle.store_requests.specs.Copying.{KeepsRoom, told_in}
use Rattle.store_requests.proofs.CopyEnds.{same_copies, uncopied, keeps_room}
use Rattle.store_requests.proofs.WhichCopied.{none_active, none_critical, none_there, none_named, named_there, one_there, went_as}
use Rattle.store_requests.proofs.copies.then_copy.Goals as goal

-- no image went active
pub returns-then-not-went_active : goal.returns-then-not-went_active
returns-then-not-went_active g c =
    let before = told_in c.args.reply.now c.args.report.now untouched in record {
      copied = uncopied g.B.Bank g.met.B.Bank.leaves_only_now g.met.B.Bank.only_now c.args.store.now before c.untouched.result c.requires.booted refl c.untouched.ensures _ (λ e n. then_copy c.args.row n e)
          (λ e same stands events n. none_active c.args.row n e c.args.tables.now same (went_as e c.args.report.now.events false events (search rules)));
      room = keeps_room _ before c.untouched.result;
      packets = refl;
      same = refl;
    }

-- the table isn't critical
pub returns-then-not-is_critical : goal.returns-then-not-is_critical
returns-then-not-is_critical g c =
    let before = told_in c.args.reply.now c.args.report.now untouched in record {
      copied = uncopied g.B.Bank g.met.B.Bank.leaves_only_now g.met.B.Bank.only_now c.args.store.now before c.untouched-then-not-is_critical.result c.requires.booted refl c.untouched-then-not-is_critical.ensures _ (λ e n. then_copy c.args.row n e)
          (λ e same stands events n. none_critical c.args.row n e c.args.tables.now same (search rules));
      room = keeps_room _ before c.untouched-then-not-is_critical.result;
      packets = refl;
      same = refl;
    }

-- there is no table
pub returns-in_default : goal.returns-in_default
returns-in_default g c =
    let before = told_in c.args.reply.now c.args.report.now untouched in record {
      copied = uncopied g.B.Bank g.met.B.Bank.leaves_only_now g.met.B.Bank.only_now c.args.store.now before c.untouched-in_default.result c.requires.booted refl c.untouched-in_default.ensures _ (λ e n. then_copy c.args.row n e)
          (λ e same stands events n. none_named c.args.row n e c.args.tables.now same (search rules));
      room = keeps_room _ before c.untouched-in_default.result;
      packets = refl;
      same = search rules;
    }

-- it has no image
pub returns-in_default-last_checked : goal.returns-in_default-last_checked
returns-in_default-last_checked g c =
    let before = told_in c.args.reply.now c.args.report.now untouched in record {
      copied = uncopied g.B.Bank g.met.B.Bank.leaves_only_now g.met.B.Bank.only_now c.args.store.now before c.untouched-in_default-last_checked.result c.requires.booted refl c.untouched-in_default-last_checked.ensures _ (λ e n. then_copy c.args.row n e)
          (λ e same stands events n. none_there c.args.row n e c.args.tables.now same (search rules));
      room = keeps_room _ before c.untouched-in_default-last_checked.result;
      packets = refl;
      same = search rules;
    }

pub returns : goal.returns
returns g c =
    let b = g.B.Bank in
    let row = c.args.row in
    let tables = c.args.tables.now in
    let before = told_in c.args.reply.now c.args.report.now untouched in
    let done = told_in c.copy_image.new.reply c.copy_image.new.report c.copy_image.result in
    let image = c.in-Some-last_checked.image in
    let t = named_there (table_at tables row) c.in-Some.name.now (search rules) in
    let last : Some image ≡ t.0.last = (search rules) ∙ ap (option_and_then (λ (t : Table). t.last)) t.1 in
    let marked : is_critical_in (table_at tables row) ≡ true = search rules in
    let critical : true ≡ is_critical t.0 = sym marked ∙ ap is_critical_in t.1 in
    let copied = c.copy_image.ensures.copied t.0 in record {
      copied = record {
        effect = λ tells e is same stands.
            same_copies b c.args.store.now c.copy_image.new.store e before is done (λ n. copied_to row n e (block_of t.0 e.next.store) (Some image)) (λ n. then_copy row n e)
            (λ n. one_there row n e tables same t.0 image (went_as e c.args.report.now.events true is.events (search rules)) t.1 critical last)
            (copied.effect tells e is (t.2, search rules) stands);
        call = copied.call;
      };
      room = subst (λ (b : Bool). KeepsRoom (cond b 24 0) before done) (sym marked) c.copy_image.ensures.room;
      packets = c.copy_image.ensures.packets;
      same = search rules;
    }
