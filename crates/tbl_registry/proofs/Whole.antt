-- Bytes for the whole of an image.
use Rattle.std.proofs.Common.{◌≡◌, ◌≤◌, ◌+◌, ℕ, List, [], length, drop, sym, arith}
use Rattle.std.specs.Prelude.{Option, Some, None, IfSome, unwrap_or, replicate}
use Rattle.std.specs.Option.{option_map_or}
use Rattle.std.proofs.lemmas.List.{append-nil, length-replicate}
use Rattle.std.proofs.Math.Seq.{drop-length}
use Rattle.tbl_kinds.specs.Numbers.{patched}
use Rattle.tbl_model.specs.State.{Load, Table}
use Rattle.tbl_model.specs.TableSteps.{base}
use Rattle.tbl_registry.specs.Rows.{IsTable}

-- over as many bytes they are the image
whole_over : (base : List ℕ) (offset : ℕ) (bytes : List ℕ) → offset + length bytes ≤ length base → length bytes ≡ length base → bytes ≡ patched base offset bytes
whole_over base offset bytes within whole =
    let begins : offset ≡ 0 = omega (arith, within, whole) in
    let none : drop (0 + length bytes) base ≡ [] =
    let end : 0 + length bytes ≡ length base = omega (arith, whole) in
    rw end (drop-length base) in
    rw (begins, none) (sym (append-nil bytes))

sized : (size : ℕ) (load : Option Load) (last : Option (List ℕ)) → IfSome load (λ load. length load.image ≡ size) → IfSome last (λ image. length image ≡ size)
    → length (option_map_or (λ (load : Load). load.image) load (unwrap_or last (replicate size 0))) ≡ size
sized size (Some load) last of_load of_last = of_load
sized size None (Some image) of_load of_last = of_last
sized size None None of_load of_last = length-replicate size 0

-- what a load begins with has the size of the table, so they are the image over it too
pub whole_over_base : (t : Table) (offset : ℕ) (bytes : List ℕ) → IsTable t → offset + length bytes ≤ t.size → length bytes ≡ t.size → bytes ≡ patched (base t) offset bytes
whole_over_base t offset bytes is within whole =
    let size : length (base t) ≡ t.size = sized t.size t.load t.last is.load is.last in
    whole_over (base t) offset bytes (rw size within) (rw size whole)
