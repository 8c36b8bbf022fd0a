use Rattle.std.proofs.Common.{◌≡◌, ◌≤◌, ◌++◌, length}
use Rattle.std.specs.List.{AllByRecursion, flat_map}
use Rattle.tbl_maker.specs.Values.{hex_pair, IsByte}
use Rattle.tbl_maker.proofs.value.hex_bytes.Given as goal

-- the text is the digits of the bytes so far, and the rest
abbrev pub invariant-loop-rest : goal.invariant-loop-rest
invariant-loop-rest l = record {
  text : l.text ≡ flat_map hex_pair l.bytes.items ++ l.rest;
  few : length l.bytes.items ≤ 64;
  are_bytes : AllByRecursion IsByte l.bytes.items;
}

abbrev pub decreases-loop-rest : goal.decreases-loop-rest
decreases-loop-rest l = length l.rest
