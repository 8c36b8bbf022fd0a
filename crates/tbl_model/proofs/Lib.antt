pub mod RefusalLaws
pub mod RefusalAnswers
pub mod CountsLaws
pub mod HistoryLaws
pub mod NoteLaws
