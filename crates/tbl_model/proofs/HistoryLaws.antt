-- A legal history with one more entry that is answered rightly is legal.
use Rattle.std.proofs.Common.{◌≡◌, List, [], ◌∷◌, ◌++◌}
use Rattle.std.proofs.lemmas.List.Sums.{fold_push}
use Rattle.tbl_model.specs.History.{Run, onward, run_from, IsAnswered, AreAnswered}
use Rattle.tbl_kinds.specs.declared.entry.Entry.{Entry}

pub run_push : (r : Run) (entries : List Entry) (e : Entry) → run_from r (entries ++ e ∷ []) ≡ onward (run_from r entries) e
run_push r entries e = fold_push onward r entries e

pub answered_push : (r : Run) (entries : List Entry) (e : Entry) → AreAnswered r entries → IsAnswered (run_from r entries) e → AreAnswered r (entries ++ e ∷ [])
answered_push r [] e answered one = (one, tt)
answered_push r (first ∷ entries) e answered one = (answered.0, answered_push (onward r first) entries e answered.1 one)
