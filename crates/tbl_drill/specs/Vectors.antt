-- The drill of seed 0, as far as its first round.
use Rattle.std.specs.Prelude.{◌≡◌, refl}
use Rattle.tbl_drill.specs.Generator.{after, drawn}
use Rattle.tbl_drill.specs.Drill.{round_from, app}
use Rattle.tbl_kinds.specs.declared.request.Request.TheVariants as ask

pub first_number : after 0 ≡ 1442695040888963407
unfolding after
first_number = refl

-- 7 is drawn of eight: the first round is a Read
pub first_draw : drawn (after 0) 8 ≡ 7
unfolding after drawn
first_draw = refl

-- handle 3, of the table D1.S
pub first_round : round_from 0 ≡ app 2 (ask.Read 3 0 64)
unfolding after drawn round_from
first_round = refl

-- the second round draws 4: an ACTIVATE
pub fourth_draw : drawn (after (after (after (after 0)))) 8 ≡ 4
unfolding after drawn
fourth_draw = refl
