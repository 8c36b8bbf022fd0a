-- Questions in order.
use Rattle.std.proofs.Common.{◌≡◌, Option, Some, None, refl}
use Rattle.desk.specs.Questions.{asked, asked_in_order}
use Rattle.desk.specs.declared.questions.Question.{Question}

pub one_asked : (first : Option Question) → asked_in_order first None ≡ asked first
one_asked None = refl
one_asked (Some q) = refl
