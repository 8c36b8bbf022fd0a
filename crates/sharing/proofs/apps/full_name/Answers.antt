use Rattle.std.proofs.Common.{◌≡◌, true, [], ◌∷◌, ◌++◌, refl, sym, subst, arith, length-append, ℕ, List}
use Rattle.tbl_kinds.specs.Names.{is_name}
use Rattle.sharing.proofs.Names.{full_is, full_named}
use Rattle.sharing.proofs.apps.full_name.Goals as goal

pub returns-clause-name : goal.returns-clause-name
returns-clause-name c =
    let field : c.as_slice-2.result.now ≡ (c.bytes.result.now ++ 46 ∷ []) ++ c.bytes-2.result.now =
    rw (c.as_slice-2.ensures.value, c.append-3.ensures.items, c.append-2.ensures.items, c.append.ensures.items, c.as_slice.ensures, c.new-bytes.ensures) refl in
    rw (c.of.ensures, ← c.bytes.ensures.bytes, ← c.bytes-2.ensures.bytes)
    (full_is c.bytes.result.now c.bytes-2.result.now c.as_slice-2.result.now c.bytes.ensures.no_zero c.bytes-2.ensures.no_zero field)

pub returns-clause-within : goal.returns-clause-within
returns-clause-within c = rw (returns-clause-name c, ← c.bytes.ensures.bytes, ← c.bytes-2.ensures.bytes)
    (omega (arith, length-append c.bytes.result.now (46 ∷ c.bytes-2.result.now), c.bytes.ensures.within, c.bytes-2.ensures.within))

pub returns-clause-named : goal.returns-clause-named
returns-clause-named c a b = subst (λ (l : List ℕ). is_name l ≡ true) (sym (returns-clause-name c)) (full_named c.args.app.now c.args.short.now a b)
