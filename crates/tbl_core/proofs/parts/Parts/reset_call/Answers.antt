use Rattle.std.proofs.Common.{◌≡◌, [], Some, sym, subst, refl, arith}
use Rattle.tbl_kinds.specs.declared.request.Actor.TheVariants.{Ground}
use Rattle.tbl_kinds.specs.declared.request.Request.TheVariants as ask
use Rattle.tbl_kinds.specs.declared.note.Outcome.TheVariants.{Untouched}
use Rattle.tbl_model.specs.Boots.{reset_effect}
use Rattle.tbl_model.specs.Counts.{is_stopped}
use Rattle.request_effects.specs.Effects.{Effect, told_at}
use Rattle.request_effects.specs.Reports.{nothing_reported}
use Rattle.store_requests.specs.Copying.{told_in}
use Rattle.tbl_core.specs.Answers.{WasMade}
use Rattle.tbl_core.specs.Service.{parts_view, step_of}
use Rattle.tbl_core.proofs.Answering.{made_plainly}
use Rattle.tbl_core.proofs.Nothing.{either}
use Rattle.tbl_core.proofs.parts.Parts.reset_call.Goals as goal

pub returns : goal.returns
returns g c =
    let b = g.B.Bank in
    let v = g.C.Validator in
    let kind = c.in-Reset.kind in
    let old = parts_view c.args.self.now in
    let new = parts_view c.reset.new.self in
    let done = told_in c.put.new.reply nothing_reported c.put.result in
    let same = sym c.put.ensures.told in
    let was = subst (λ (e : Effect). WasMade b v (step_of old new (ask.Reset kind)) Ground e) same c.in_ok-effect.ensures.tries.made in
    let t = told_at c.args.self.now.desk.clock.seconds c.args.self.now.desk.clock.sub c.reset.new.self.desk.tables (ask.Reset kind) done in
    rw (c.of.ensures, c.put.ensures.packets, c.requires.stands.nothing, c.requires.actor, c.in-Reset.is, c.requires.stands.begun.reply.no_packets) (record {
      actor_is = refl;
      request_is = refl;
      made = made_plainly b v old new (ask.Reset kind) (λ s given. Some (reset_effect s kind given.note)) done was.makes was.meets (subst (λ (e : Effect). e.note.outcome ≡ Untouched) same c.in_ok-effect.ensures.no_call);
      told = record { counts = c.begin_anew.ensures t refl; packets = sym (either (is_stopped t.effect) []) };
      small = record { bytes = was.makes.within.bytes; packets = omega arith };
    })
