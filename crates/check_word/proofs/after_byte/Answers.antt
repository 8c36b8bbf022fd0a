use Rattle.std.proofs.Common.{◌/◌, bit_xor, ap, ◌∙◌}
use Rattle.check_word.proofs.Steps.{after_byte_is}
use Rattle.check_word.proofs.after_byte.Goals as goal

pub returns : goal.returns
returns c = ap (λ low. bit_xor low (bit_xor c.args.word c.args.byte / 256)) c.added.ensures ∙ after_byte_is c.args.word c.args.byte
