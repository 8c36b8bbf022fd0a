-- What a reset left at a place of a history is the same if further entries follow.
use Rattle.std.proofs.Common.{◌≡◌, ℕ, ◌≤◌, zero, suc, List, [], ◌∷◌, ◌++◌, length, Some, sym, subst, inl, inr}
use Rattle.std.specs.Prelude.{slice_get}
use Rattle.std.proofs.lemmas.List.{take-append-le}
use Rattle.tbl_kinds.specs.Blocks.{Store}
use Rattle.tbl_kinds.specs.StoreSteps.{Shows}
use Rattle.tbl_model.specs.State.{State}
use Rattle.tbl_model.specs.History.{begins_at, run_from}
use Rattle.tbl_session.specs.Crashes.{UnderWay, AfterCrash}
use Rattle.tbl_kinds.specs.declared.entry.Entry.{Entry}

-- what is at a place is still there
pub stays_at : {X : Type 0} (xs more : List X) (k : ℕ) (x : X) → slice_get xs k ≡ Some x → slice_get (xs ++ more) k ≡ Some x
stays_at [] more k x at = absurd (cc at)
stays_at (first ∷ xs) more zero x at = at
stays_at (first ∷ xs) more (suc k) x at = stays_at xs more k x at

pub crash_onward : (opening : State) (entries more : List Entry) (place : ℕ) (left : Store) → place ≤ length entries → AfterCrash opening entries place left → AfterCrash opening (entries ++ more) place left
crash_onward opening entries more place left within crash =
    let same = sym (take-append-le place entries more within) in
    elim crash [
      | inl shows ↦ inl (subst (λ (es : List Entry). Shows (run_from (begins_at opening) es).state.store left) same shows)
      | inr next ↦ inr (next.0, stays_at entries more place next.0 next.1, subst (λ (es : List Entry). UnderWay (run_from (begins_at opening) es) next.0 left) same next.2)
    ]
