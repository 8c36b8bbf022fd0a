-- Legal histories: what the sequential service may have answered.
use Rattle.std.specs.Prelude.{◌≡◌, ℕ, ◌==◌, List, [], ◌∷◌, ◌++◌, false, filter, Option, Some, None}
use Rattle.std.specs.List.{fold}
use Rattle.tbl_model.specs.State.{State}
use Rattle.tbl_kinds.specs.Requests.{Fits}
use Rattle.tbl_kinds.specs.Records.{Pair, actor_number}
use Rattle.tbl_model.specs.Effects.{Effect}
use Rattle.tbl_model.specs.Given.{MayBeGiven}
use Rattle.tbl_model.specs.Dispatch.{effect_of}
use Rattle.tbl_model.specs.Counts.{Told}
use Rattle.tbl_model.specs.Replies.{packets_of}
use Rattle.tbl_kinds.specs.declared.entry.Entry.{Entry}
use Rattle.tbl_kinds.specs.declared.request.Actor.{Actor}
use Rattle.tbl_kinds.specs.declared.request.Request.{Request}

-- a history so far: the state that stands, and what was told
pub record Run : Type 0 where
  pub state : State
  pub past : List Told

abbrev pub begins_at : State → Run
begins_at opening = record { state = opening; past = [] }

-- a request that had this effect, as it is told from this state
abbrev pub told : State → Actor → Request → Effect → Told
told s actor request effect = record { actor = actor; request = request; before = s; effect = effect }

-- what the sequential service does in an entry's request
abbrev pub effect_in : Run → Entry → Option Effect
effect_in r e = effect_of r.state e.actor e.request e.given

abbrev pub onward_by : Run → Entry → Option Effect → Run
onward_by r e None = r
onward_by r e (Some effect) = record { state = effect.next; past = r.past ++ told r.state e.actor e.request effect ∷ [] }

abbrev pub onward : Run → Entry → Run
onward r e = onward_by r e (effect_in r e)

abbrev pub run_from : Run → List Entry → Run
run_from r entries = fold onward r entries

-- the entry is answered as the sequential service answers: status, detail, bytes and packets
pub record IsAnswered (r : Run) (e : Entry) : Type 0 where
  pub live : r.state.ended ≡ false
  pub fits : Fits e.actor e.request
  pub effect : Effect
  pub effect_is : effect_in r e ≡ Some effect
  pub given : MayBeGiven r.state e.request effect e.given
  pub status : e.reply.status ≡ effect.status
  pub detail : e.reply.detail ≡ effect.detail
  pub bytes : e.reply.bytes.list ≡ effect.bytes
  pub packets : e.reply.packets.list ≡ packets_of r.past (told r.state e.actor e.request effect)

abbrev pub AreAnswered : Run → List Entry → Type 0
AreAnswered r [] = Unit {0}
AreAnswered r (e ∷ es) = IsAnswered r e × AreAnswered (onward r e) es

-- from the opening state on each entry is answered so, and they lead to this state
pub record IsLegal (opening : State) (entries : List Entry) (after : State) : Type 0 where
  pub answered : AreAnswered (begins_at opening) entries
  pub leads : (run_from (begins_at opening) entries).state ≡ after

-- the requests of one actor, in order
abbrev pub part_of : ℕ → List Pair → List Pair
part_of actor pairs = filter (λ p. actor_number p.actor == actor) pairs
