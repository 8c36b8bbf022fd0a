-- The parts of a line, appended one after the other.
use Rattle.std.proofs.Common.{◌≡◌, ℕ, List, [], ◌++◌, refl, append_assoc}

module _ (a b c d e f : List ℕ) where
  pub all_parts : (one two three four five six : List ℕ) → one ≡ [] ++ a → two ≡ one ++ b → three ≡ two ++ c → four ≡ three ++ d → five ≡ four ++ e → six ≡ five ++ f → six ≡ a ++ b ++ c ++ d ++ e ++ f
  all_parts one two three four five six at_a at_b at_c at_d at_e at_f = rw (at_f, at_e, at_d, at_c, at_b, at_a, append_assoc a b c, append_assoc a (b ++ c) d, append_assoc b c d) refl
