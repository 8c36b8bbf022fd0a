use Rattle.std.proofs.Common.{◌≡◌, take, drop, true, sym, ap, ◌∙◌, arith, rules}
use Rattle.tbl_kinds.specs.Heads.{is_short, is_bad}
use Rattle.session_records.specs.Reading.{IsReadAs}
use Rattle.session_records.proofs.Spelled.{item}
use Rattle.session_records.proofs.reading.next_record.Goals as goal

pub returns : goal.returns
unfolding is_short is_bad
returns c =
    let body : c.split_at-2.result.0.now ≡ take c.of-head.result.len (drop 4 c.args.bytes.now) = c.split_at-2.ensures.front ∙ ap (take c.of-head.result.len) c.split_at.ensures.back in
    let good : c.is_good.result ≡ true = cc in
    let read : IsReadAs c.of-head.result.kind c.split_at-2.result.0.now c.request_of.new.request true = rw c.if-not-branch.false at c.in_ok-request_of.ensures in
    let it = item c.of-head.result c.args.bytes.now c.split_at-2.result.0.now c.actor_of.result c.request_of.new.request (λ i. omega (arith, c.type_inv.bytes i)) (omega arith) c.of-head.ensures
    body c.split_at-2.ensures.front_len (sym c.is_good.ensures ∙ good) c.actor_of.ensures read.0 in
    record { end = search rules; short = search rules; bad = search rules; is_record = it.is_record; spelled = it.spelled; used = it.count }
