use Rattle.std.proofs.Common.{◌≡◌, ℕ, ◌<◌, List, ◌∷◌, length, drop, sym, subst, rules}
use Rattle.std.specs.Prelude.{slice_index_or}
use Rattle.tbl_fakes.specs.declared.calm_bank.CalmBank.{CalmBank}
use Rattle.shipped_kit.specs.declared.validators.FirstByte.{FirstByte}
use Rattle.tbl_live.specs.Seats.{SeatView, AreSeats, IsSame}
use Rattle.tbl_live.proofs.SeatLemmas.{are_apps}
use Rattle.tbl_live.proofs.SeatCalls.{written, still_apps}
use Rattle.test_live.proofs.callers.call_beside.Goals as goal

pub call_each-requires : goal.call_each-requires
call_each-requires g c = (search rules, rw c.as_mut_slice.ensures.value (are_apps _ _ _ c.requires.seats))

pub returns : goal.returns
returns g c =
    let of = c.args.service.now.of in
    let ground = c.args.seats.now.ground in
    let old = c.args.seats.now.apps.items in
    let new = c.call_each.new.apps in
    let long : length new ≡ length old = search rules in
    let many : c.args.seats.now.apps.len ≡ length new = search rules in
    let each = subst (λ (xs : List (SeatView CalmBank FirstByte)). (i : ℕ) (d : SeatView CalmBank FirstByte) → i < length xs → IsSame (slice_index_or xs i d) (slice_index_or new i d)) c.as_mut_slice.ensures.value c.call_each.ensures.same in
    record { seats = subst (λ (l : List (SeatView CalmBank FirstByte)). AreSeats of (ground ∷ l)) (sym (written c.args.seats.now.apps.len new (drop (length new) old) many)) (still_apps of ground old c.requires.seats new long each) }
