-- After every legal history critical tables are backed by their blocks.
use Rattle.std.proofs.Common.{◌≡◌, List, [], ◌∷◌, Option, sym, refl, subst}
use Rattle.tbl_model.specs.State.{State, no_tables}
use Rattle.tbl_model.specs.Effects.{Effect}
use Rattle.tbl_model.specs.History.{Run, begins_at, onward, onward_by, run_from, IsAnswered, AreAnswered, IsLegal}
use Rattle.tbl_kinds.specs.declared.entry.Entry.{Entry}
use Rattle.tbl_session.specs.Backed.{AreSingle, AreBacked}
use Rattle.tbl_laws.proofs.Backing.{unbacked}
use Rattle.tbl_laws.proofs.BackedRequests.{stays_backed}

-- after one entry
backed_onward : (r : Run) (e : Entry) → AreBacked r.state → IsAnswered r e → AreBacked (onward r e).state
backed_onward r e backed is = subst (λ (found : Option Effect). AreBacked (onward_by r e found).state) (sym is.effect_is) (stays_backed r.state e.actor e.request e.given e.given.note is.effect backed is.effect_is refl is.given.note)

-- and after several
backed_from : (r : Run) (entries : List Entry) → AreBacked r.state → AreAnswered r entries → AreBacked (run_from r entries).state
backed_from r [] backed are = backed
backed_from r (e ∷ entries) backed are = backed_from (onward r e) entries (backed_onward r e backed are.0) are.1

-- from a state without tables on, over blocks that all differ in kind or name
pub backed : (opening : State) (entries : List Entry) (after : State) → opening.tables ≡ no_tables → AreSingle opening.store → IsLegal opening entries after → AreBacked after
backed opening entries after none single legal = subst AreBacked legal.leads (backed_from (begins_at opening) entries (unbacked opening none single) legal.answered)
