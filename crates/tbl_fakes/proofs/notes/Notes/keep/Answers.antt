-- The call is on top of those before it.
use Rattle.std.proofs.Common.{rules, ◌≡◌, ◌-◌, ◌++◌, ◌∷◌, [], ℕ, List, length, ap, ◌∙◌}
use Rattle.tbl_outside.specs.BankCalls.{BankCall}
use Rattle.tbl_fakes.specs.Notes.{Noting, call_of, told, with_call}
use Rattle.tbl_fakes.proofs.Noted.{told-push}
use Rattle.tbl_fakes.proofs.notes.Notes.keep.Goals as goal

pub returns : goal.returns
returns c =
    let n = c.self.inside in
    let items : c.push.new.self.items ≡ n.calls.items ++ c.args.call ∷ [] = search rules in
    let calls : told c.push.new.self.items c.append.new.self.list [] ≡ call_of c.args.call c.args.bytes.now ∷ told n.calls.items n.bytes.list [] =
    ap (λ l. told l c.append.new.self.list []) items
    ∙ ap (λ (l : List ℕ). told (n.calls.items ++ c.args.call ∷ []) l []) c.append.ensures.bytes
    ∙ told-push n.calls.items c.args.call n.bytes.list c.args.bytes.now [] c.self.invariant.2 in
    ap (λ (l : List BankCall). let notes : Noting = record { calls = l; left = n.left - 1; room = n.room - length c.args.bytes.now; missed = n.missed } in notes) calls
    ∙ ap (with_call (call_of c.args.call c.args.bytes.now) (length c.args.bytes.now)) c.self.view_is
