use Rattle.tbl_top.specs.declared.words.Word.TheVariants.{Crew, Watch}
use Rattle.tbl_top.proofs.words.threads_of.Goals as goal

pub returns-clause-crew : goal.returns-clause-crew
returns-clause-crew c = λ admit. (
  λ is. (c.session_word.ensures Crew admit tt).0 ((c.telling_of.ensures.crew admit).0 is),
  λ asks. (c.telling_of.ensures.crew admit).1 ((c.session_word.ensures Crew admit tt).1 asks),
)

pub returns-clause-watch : goal.returns-clause-watch
returns-clause-watch c = λ admit. (
  λ is. (c.session_word.ensures Watch admit tt).0 ((c.telling_of.ensures.watch admit).0 is),
  λ asks. (c.telling_of.ensures.watch admit).1 ((c.session_word.ensures Watch admit tt).1 asks),
)
