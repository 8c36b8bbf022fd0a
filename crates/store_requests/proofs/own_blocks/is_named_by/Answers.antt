use Rattle.std.proofs.Common.{◌≡◌, ◌∙◌, ap, sym, ℕ, length, true, false, Some, rules}
use Rattle.std.specs.Prelude.{◌==◌, ◌&&◌, slice_get}
use Rattle.std.specs.List.{starts_with}
use Rattle.store_requests.proofs.OwnBlocks.{is_dot, got, named_by}
use Rattle.store_requests.proofs.own_blocks.is_named_by.Goals as goal

pub returns-then-not-starts_with : goal.returns-then-not-starts_with
returns-then-not-starts_with c =
    let app = c.args.app_name.now in
    let name = c.args.name.now in
    let starts : starts_with (λ a b. a == b) name app ≡ false = search rules in
    sym (named_by app name ∙ ap (λ b. b && is_dot (slice_get name (length app))) starts)

pub returns-in-Some : goal.returns-in-Some
returns-in-Some c =
    let app = c.args.app_name.now in
    let name = c.args.name.now in
    let starts : starts_with (λ a b. a == b) name app ≡ true = search rules in
    let there = c.in-Some.ensures.lookup in
    let found : slice_get c.bytes-bytes.result.now (length c.bytes-app.result.now) ≡ Some c.in-Some.next.now = got c.bytes-bytes.result.now (length c.bytes-app.result.now) 0 there.3.0 ∙ ap (λ (x : ℕ). Some x) (sym (there.3.1 0)) in
    let next : slice_get name (length app) ≡ Some c.in-Some.next.now = (λ i. slice_get (sym c.bytes-bytes.ensures.bytes i) (length (sym c.bytes-app.ensures.bytes i))) ∙ found in
    sym (named_by app name ∙ ap (λ b. b && is_dot (slice_get name (length app))) starts ∙ ap is_dot next)
