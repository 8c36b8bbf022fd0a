use Rattle.std.proofs.Common.{◌∙◌, refl, rules, sym, subst}
use Rattle.tbl_kinds.specs.declared.request.Actor.TheVariants.{App}
use Rattle.request_effects.specs.Effects.{Effect}
use Rattle.tbl_core.specs.Answers.{WasMade}
use Rattle.tbl_core.specs.Service.{parts_view, step_of}
use Rattle.tbl_core.proofs.Telling.{app_no_reset, store_no_command}
use Rattle.tbl_core.proofs.parts.Parts.store_call.Goals as goal

pub end_call-requires : goal.end_call-requires
end_call-requires g c =
    let request = c.args.entry.now.request in
    let step = step_of (parts_view c.args.self.now) (parts_view c.app_store_request.new.self) request in
    let was = subst (λ (e : Effect). WasMade g.B.Bank g.C.Validator step (App c.args.app) e) (sym c.put-note.ensures.told) c.in_ok-effect.ensures.made in
    rw c.requires.stands.nothing (record {
      no_command = store_no_command request c.requires.calls;
      no_reset = app_no_reset c.args.app request (rw c.requires.actor at c.requires.stands.fits);
      nothing_given_yet = c.requires.stands.begun.nothing;
      fresh = λ stop. (was.makes.stopped stop).1;
      live = λ stop. was.makes.ended ∙ (was.makes.stopped stop).1.ended;
      within = was.makes.within;
      room = search rules;
    })

pub returns : goal.returns
returns g c =
    let old = parts_view c.args.self.now in
    let step = step_of old (parts_view c.app_store_request.new.self) c.args.entry.now.request in
    let a = c.end_call.ensures old refl refl (rw (c.requires.stands.nothing, c.requires.actor) (subst (λ (e : Effect). WasMade g.B.Bank g.C.Validator step (App c.args.app) e) (sym c.put-note.ensures.told) c.in_ok-effect.ensures.made)) in
    record { actor_is = a.actor_is; request_is = a.request_is; made = a.made; told = a.told; small = a.small }
