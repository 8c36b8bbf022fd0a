-- What a request asks of validation functions.
use Rattle.std.specs.Prelude.{List, [], ◌∷◌, Option, Some, None}
use Rattle.std.specs.Option.{option_map_or}
use Rattle.tbl_model.specs.Telemetry.{Question}
use Rattle.desk.specs.declared.questions.Question.{Question as Held}
use Rattle.desk.specs.declared.questions.Questions.{Questions}

abbrev pub question_of : Held → Question
question_of q = record { number = q.number; image = q.image.list }

-- a question, if there is one
abbrev pub asked : Option Held → List Question
asked it = option_map_or (λ (q : Held). question_of q ∷ []) it []

-- the first, if there is one, and after it the second
abbrev pub asked_in_order : Option Held → Option Held → List Question
asked_in_order None second = []
asked_in_order (Some first) second = question_of first ∷ asked second

abbrev pub all_asked : Questions → List Question
all_asked it = asked_in_order it.first it.second
