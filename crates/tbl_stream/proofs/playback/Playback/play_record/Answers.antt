use Rattle.std.proofs.Common.{sym, ap, ◌∙◌, ◌+◌}
use Rattle.std.proofs.Math.Nat.{mod-eq_of_lt}
use Rattle.std.specs.Prelude.{◌^◌, ◌%◌}
use Rattle.tbl_stream.proofs.RecordLemmas.{is_stop, plays_one, used_bound, as_pair}
use Rattle.tbl_stream.proofs.playback.Playback.play_record.Goals as goal

pub next_offset-self-inside-requires : goal.next_offset-self-inside-requires
next_offset-self-inside-requires g c = used_bound (record { actor = c.args.actor; request = c.args.request }) c.args.used c.requires.is_record c.requires.used

pub returns : goal.returns
returns g c =
    let done = c.in_ok-entry in
    let e = done.entry in
    let answers = done.ensures.answers in
    let pair = as_pair e c.args.actor c.args.request answers.entry in
    let wrote = c.write-stop.ensures.wrote in
    rw (← c.self.view_is, c.first_stop.ensures) (
      is_stop c.write-stop.result done.ending _ _ _ wrote answers.ending,
      (
        e,
        pair,
        plays_one g.B.Bank g.C.Validator.verdict c.write-stop.result done.ending _ _ e (record { actor = c.args.actor; request = c.args.request }) pair c.requires.is_record answers.goes
            (sym (mod-eq_of_lt c.self.invariant.0)) c.next_place-self-inside.ensures (c.next_offset-self-inside.ensures ∙ ap (λ n. (c.self.inside.offset + n) % 2 ^ 32) c.requires.used) c.one_less-self-inside.ensures
            wrote c.write-stop.ensures.count answers.ending answers.boot,
      ),
    )
