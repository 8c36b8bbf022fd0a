use Rattle.std.proofs.Common.{◌∙◌, refl}
use Rattle.update_requests.proofs.Asking.{manage_asks}
use Rattle.update_requests.proofs.questions.manage_asks.Goals as goal

pub returns-in-Some : goal.returns-in-Some
returns-in-Some g c = record {
  asks = λ rest given t there.
      manage_asks rest given c.args.row t c.args.desk.now there ∙ rw (← c.in_ok-last.ensures.asks t there, ← c.in_ok-load.ensures.asks t there, c.in-Some.is) refl;
}
