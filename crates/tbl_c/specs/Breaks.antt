-- Writes of preserved memory that break off.
use Rattle.std.specs.Prelude.{◌≡◌, ◌⊎◌, ℕ, List, [], Option, Some, None}
use Rattle.tbl_fakes.specs.Breaking.{Breaking}
use Rattle.tbl_fakes.specs.Troubles.{none_yet}
use Rattle.tbl_fakes.specs.declared.past.Span.{Span}
use Rattle.tbl_fakes.specs.declared.troubles.Break.{Break}
use Rattle.tbl_core.specs.Banks.{HasBank}
use Rattle.tbl_c.specs.Serving.{Serving, memory}
use Rattle.tbl_c.specs.declared.told.Writes.{Writes}

-- preserved memory of these bytes, of which these writes are to break off, before its first write
abbrev pub breaking : List Break → List ℕ → Breaking
breaking breaks bytes = record { bytes = bytes; trouble = none_yet breaks []; broken = None }

-- these writes break off from now on, and nothing else is changed; or memory ran out, and nothing is
abbrev pub IsToBreak : List Break → Serving → Serving → ℕ → Type 0
IsToBreak breaks old new status = ((status ≡ 0) × HasBank memory (breaking breaks old.state.store.bank.bytes) old new) ⊎ ((status ≡ 1) × (new ≡ old))

-- the range of a write, and zeros for none
abbrev pub span_or_none : Option Span → Span
span_or_none None = record { at = 0; length = 0 }
span_or_none (Some span) = span

-- what is told of the writes of this bank
abbrev pub writes_of : Breaking → Writes
writes_of bank = record {
  made = bank.trouble.writes;
  faults = bank.trouble.faults;
  stops = bank.trouble.stops;
  at = (span_or_none bank.broken).at;
  length = (span_or_none bank.broken).length;
}
