-- Turns one after the other, and what each of them keeps.
use Rattle.std.proofs.Common.{◌≡◌, ℕ, List, [], ◌∷◌, ◌++◌, refl, sym, subst}
use Rattle.turn_lock.specs.Turns.{Path, Leads}

module _ {T : Type 0} (moves : T → ℕ → T → Type 0) where
  path_more : (by : ℕ → Type 0) (x : T) (ts : List (ℕ × T)) (y : T) (a : ℕ) (z : T) → Path moves by x ts y → by a → moves y a z → Path moves by x (ts ++ (a, z) ∷ []) z
  path_more by x [] y a z p ok m = (ok, subst (λ (w : T). moves w a z) (sym p) m, refl)
  path_more by x (t ∷ ts) y a z p ok m = (p.0, p.1, path_more by t.1 ts y a z p.2 ok m)

  pub leads_more : (by : ℕ → Type 0) (x y : T) (a : ℕ) (z : T) → Leads moves by x y → by a → moves y a z → Leads moves by x z
  leads_more by x y a z l ok m = (l.0 ++ (a, z) ∷ [], path_more by x l.0 y a z l.1 ok m)

  pub leads_same : (by : ℕ → Type 0) (x y : T) → x ≡ y → Leads moves by x y
  leads_same by x y e = ([], e)

  carried_on : (by : ℕ → Type 0) (P : T → Type 0) → ((y z : T) (a : ℕ) → by a → P y → moves y a z → P z) → (x : T) (ts : List (ℕ × T)) (y : T) → Path moves by x ts y → P x → P y
  carried_on by P keep x [] y p had = subst P p had
  carried_on by P keep x (t ∷ ts) y p had = carried_on by P keep t.1 ts y p.2 (keep x t.1 t.0 p.0 had p.1)

  -- what each such turn keeps holds still
  pub carried : (by : ℕ → Type 0) (P : T → Type 0) → ((y z : T) (a : ℕ) → by a → P y → moves y a z → P z) → (x y : T) → Leads moves by x y → P x → P y
  carried by P keep x y l had = carried_on by P keep x l.0 y l.1 had
