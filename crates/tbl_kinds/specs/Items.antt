-- Where bytes stand.
use Rattle.std.specs.Prelude.{◌-◌, vec_capacity, vec_len}
use Rattle.std.specs.Arc.{arc_value}
use Rattle.tbl_kinds.specs.Buffers.{Buffer}
use Rattle.tbl_kinds.specs.declared.bytes.Items.{Items}
use Rattle.tbl_kinds.specs.declared.bytes.Items.TheVariants.{Inline, Allocated, Shared}

abbrev pub buffer_of : Items → Buffer
buffer_of (Inline inline) = inline
buffer_of (Allocated allocated) = record { list = allocated.items; spare = vec_capacity allocated - vec_len allocated }
buffer_of (Shared shared) = record { list = (arc_value shared).items; spare = 0 }
