use Rattle.std.proofs.Common.{refl, ap, sym, rules}
use Rattle.tbl_stream.specs.Places.{place_of}
use Rattle.tbl_stream.proofs.opening.begin.Goals as goal

pub returns-in-Ok-clause-fresh : goal.returns-in-Ok-clause-fresh
returns-in-Ok-clause-fresh g c =
    let begins = c.in_ok-start.ensures.ok in
    rw c.in-Ok.ensures.ok (record {
      is_open = refl;
      rest = refl;
      place = ap place_of (sym begins.after.played);
      offset = refl;
      left = refl;
      live = begins.live;
      after = begins.after;
    })

pub returns-in-Ok-clause-serves : goal.returns-in-Ok-clause-serves
returns-in-Ok-clause-serves g c = rw c.in-Ok.ensures.ok c.in_ok-start.ensures.ok.serves

-- out of memory for the stream, a reset leaves what it could after the start
pub returns-in-Err-clause-err : goal.returns-in-Err-clause-err
returns-in-Err-clause-err g c =
    let begins = c.in_ok-start.ensures.ok in
    record {
      crash = λ told. rw (c.end.ensures.bank, c.in-Err.ensures.err) (begins.crash told);
      counted = rw (c.end.ensures.bank, c.in-Err.ensures.err) begins.counts;
      room = search rules;
    }
