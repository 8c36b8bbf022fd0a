-- A packet that was read as no command.
use Rattle.std.proofs.Common.{◌≡◌, [], ◌∷◌, Some, None, Result, Err, refl, ap}
use Rattle.tbl_kinds.specs.Buffers.{Buffer}
use Rattle.tbl_kinds.specs.Notes.{untouched}
use Rattle.tbl_kinds.specs.GroundCommands.{GroundCommand, command_in}
use Rattle.tbl_kinds.specs.declared.entry.Answer.{Answer}
use Rattle.tbl_kinds.specs.declared.request.Actor.TheVariants.{Ground}
use Rattle.tbl_kinds.specs.declared.request.Request.TheVariants as ask
use Rattle.tbl_model.specs.Commands.{effect_by}
use Rattle.tbl_model.specs.Dispatch.{effect_of}
use Rattle.request_effects.specs.Effects.{quiet_effect}
use Rattle.tbl_core.specs.Service.{PartsView, Does}
use Rattle.tbl_core.proofs.Doing.{answered as does_answer}
use Rattle.tbl_core.proofs.Verdicts.{none_judged}
use Rattle.tbl_outside.specs.declared.validator.Validator.{Ghosts as ValidatorGhosts}

-- a packet that was read as none is refused
pub refused_does : {B C : Type 0} (v : ValidatorGhosts C) (old : PartsView B C) (packet : Buffer) (answer : Answer) → command_in packet.list ≡ Err answer
    → Does v 0 old old (λ s given. effect_of s Ground (ask.Command packet) given) (quiet_effect answer [])
refused_does v old packet answer is = does_answer v old old (λ s given. effect_of s Ground (ask.Command packet) given) answer (λ s. s)
    (λ s stood. ap (λ (r : Result GroundCommand Answer). Some (effect_by s r untouched)) is) (λ s stood. stood) (none_judged v old.kit [] untouched (None ∷ None ∷ []) refl refl) refl
