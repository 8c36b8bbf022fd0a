use Rattle.std.proofs.Common.{◌≡◌, ◌==◌, ◌∙◌, sym, refl}
use Rattle.std.specs.Prelude.{bit_and}
use Rattle.tbl_registry.proofs.Changes.{other_option}
use Rattle.tbl_registry.proofs.row.Row.not_critical.Goals as goal

pub invariant_of-self : goal.invariant_of-self
invariant_of-self c =
    let bits : c.remove.new.self.0 ≡ bit_and c.self.inside.flags.0 0xFFF7 = c.remove.ensures tt in
    let same : (bit_and c.remove.new.self.0 0x0001 == 0x0001) ≡ (bit_and c.self.inside.flags.0 0x0001 == 0x0001) = rw bits (other_option c.self.inside.flags.0 0x0001 refl) in
    let same_only : (bit_and c.remove.new.self.0 0x0002 == 0x0002) ≡ (bit_and c.self.inside.flags.0 0x0002 == 0x0002) = rw bits (other_option c.self.inside.flags.0 0x0002 refl) in
    let t = c.self.invariant.table in record {
      table = record { some_bytes = t.some_bytes; within = t.within; loaded = t.loaded; last = t.last; before = t.before; load = t.load; single = λ single. t.single (sym same ∙ single); one = λ only. same ∙ t.one (sym same_only ∙ only); closed = λ only. t.closed (sym same_only ∙ only); filled = t.filled };
      buffers = c.self.invariant.buffers ∙ sym same;
      kept = c.self.invariant.kept;
    }

pub returns : goal.returns
returns c =
    let bits : c.remove.new.self.0 ≡ bit_and c.self.inside.flags.0 0xFFF7 = c.remove.ensures tt in
    rw (← c.self.view_is, bits) refl
