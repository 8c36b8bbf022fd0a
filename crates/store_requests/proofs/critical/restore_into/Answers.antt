use Rattle.std.proofs.Common.{◌≡◌, ℕ, List, length, take, drop, ◌++◌, sym, subst, rules}
use Rattle.std.specs.Arc.{arc_value}
use Rattle.store_requests.proofs.critical.restore_into.Goals as goal
use Rattle.cds_store.specs.Promises.{Restores}
use Rattle.store_requests.proofs.EntryCalls.{refilled}

pub returns-clause-restores : goal.returns-clause-restores
returns-clause-restores g c =
    let b = g.B.Bank in
    let into = c.restore.new.into in
    let whole : take c.in_ok-bytes.bytes.now.len (into ++ drop (length into) c.in_ok-bytes.bytes.now.items) ≡ into = refilled c.in_ok-bytes.bytes.now.len into c.in_ok-bytes.bytes.now.items (search rules) in
    let size : length c.as_mut_slice.result.now ≡ length (arc_value c.args.room.now).items = search rules in
    subst (λ (image : List ℕ). Restores b c.args.store.now c.restore.new.self c.args.slot (length (arc_value c.args.room.now).items) image c.restore.result) (sym whole)
    (subst (λ (n : ℕ). Restores b c.args.store.now c.restore.new.self c.args.slot n into c.restore.result) size c.restore.ensures.restores)
