use Rattle.std.proofs.Common.{◌≡◌, false, sym, subst, rules}
use Rattle.tbl_kinds.specs.declared.request.Actor.{Actor}
use Rattle.tbl_kinds.specs.declared.request.Request.{Request}
use Rattle.tbl_core.specs.Ended.{OnPlayed}
use Rattle.tbl_core.specs.Service.{AddsOne, core_of}
use Rattle.tbl_live.specs.Lasting.{core_in}
use Rattle.tbl_history.proofs.Laws.{Laws}
use Rattle.tbl_live.proofs.GivingLemmas.{engine_given}
use Rattle.tbl_live.proofs.LastingLemmas.{firsts, one_more, keeps_on, lasting_continues, lasting_adds, lasting_pins}
use Rattle.tbl_live.proofs.lasting.LastingServiceCore.play.Goals as goal

pub invariant_of-self-2 : goal.invariant_of-self-2
invariant_of-self-2 g c =
    let entry = c.play_on-played.new.entry in
    let items = c.self.inside.past.items in
    rw c.keep.ensures.last
    (keeps_on g.B.Bank g.C.Validator (firsts items) c.self.inside.engine c.play_on-played.new.engine c.in-Ok.entry.actor c.in-Ok.entry.request entry (firsts c.keep.new.past.items) c.play_on-played.result (one_more items c.keep.new.past.items entry c.keep.ensures.past)
    c.play_on-played.ensures.steps (λ none. absurd (cc (c.if-ran_out.false, c.ran_out.ensures.1 none))) c.self.invariant.after)

pub returns : goal.returns
returns g c =
    let laws : Laws g.B.Bank = record { tells_both = g.met.B.Bank.tells_both; leaves_now = g.met.B.Bank.leaves_now; leaves_only_now = g.met.B.Bank.leaves_only_now; counts_now = g.met.B.Bank.counts_now } in
    let entry = c.play_on-played.new.entry in
    let items = c.self.inside.past.items in
    let plays = c.play_on-played.ensures in
    let more = one_more items c.keep.new.past.items entry c.keep.ensures.past in
    let live = subst (λ it. (core_in it).state.ended ≡ false) (sym c.self.view_is) c.requires.live in
    rw (← c.self.view_is) (record {
      lent = engine_given c.args.taken (firsts items) (firsts c.keep.new.past.items) c.self.inside.engine c.play_on-played.new.engine entry c.play_on-played.result more plays.lent;
      adds = subst (λ (p : Actor × Request). OnPlayed c.play_on-played.result (AddsOne g.B.Bank (core_of (firsts items) c.self.inside.engine) (core_of (firsts c.keep.new.past.items) c.play_on-played.new.engine) p.0 p.1 c.play_on-played.result))
          (λ i. (c.in-Ok.ensures.actor i, c.in-Ok.ensures.request i))
          (lasting_adds g.B.Bank g.C.Validator (firsts items) c.self.inside.engine c.play_on-played.new.engine c.in-Ok.entry.actor c.in-Ok.entry.request entry (firsts c.keep.new.past.items) c.play_on-played.result more plays.steps);
      continues = lasting_continues g.B.Bank g.C.Validator (firsts items) c.self.inside.engine c.play_on-played.new.engine c.in-Ok.entry.actor c.in-Ok.entry.request entry (firsts c.keep.new.past.items) c.play_on-played.result more plays.steps laws live;
      pins = lasting_pins g.B.Bank g.C.Validator (firsts items) c.self.inside.engine c.play_on-played.new.engine c.in-Ok.entry.actor c.in-Ok.entry.request entry (firsts c.keep.new.past.items) c.play_on-played.result more plays.steps c.self.invariant.after;
      live = search rules;
      err = λ none. absurd (cc (c.if-ran_out.false, c.ran_out.ensures.1 none));
    })
