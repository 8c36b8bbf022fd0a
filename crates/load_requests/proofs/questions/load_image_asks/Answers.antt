use Rattle.std.proofs.Common.{◌∙◌, ℕ, List, [], ◌∷◌, Option, sym, ap}
use Rattle.validation.specs.Asked.{asks}
use Rattle.desk.specs.Desk.{state_at}
use Rattle.load_requests.proofs.Asking.{image_asks}
use Rattle.load_requests.proofs.questions.load_image_asks.Goals as goal

pub returns-in_default : goal.returns-in_default
returns-in_default g c = record {
  asks = λ rest given t there.
      image_asks (state_at rest c.args.desk.now) given c.args.row t c.image_refusal-refusal.result c.judge_of.result (c.judge_of.ensures t there) c.args.image.now (c.image_refusal-refusal.ensures t there)
      ∙ ap (λ (number : Option ℕ). asks number c.args.image.now) c.in_default.is ∙ sym c.none.ensures;
}

pub returns : goal.returns
returns g c = record {
  asks = λ rest given t there.
      image_asks (state_at rest c.args.desk.now) given c.args.row t c.image_refusal-refusal.result c.judge_of.result (c.judge_of.ensures t there) c.args.image.now (c.image_refusal-refusal.ensures t there)
      ∙ ap (λ (number : Option ℕ). asks number c.args.image.now) c.in-Some.is
      ∙ ap (λ (image : List ℕ). record { number = c.in-Some.number; image = image } ∷ []) (sym c.in_ok-image.ensures) ∙ sym c.only.ensures;
}
