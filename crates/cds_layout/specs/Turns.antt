-- Which of a block's two places shows, by their turn bytes.
use Rattle.std.specs.Prelude.{ℕ, ◌==◌, Bool, true, false, if◌then◌else◌, Option, Some, None}
use Rattle.cds_layout.specs.declared.turns.Turn.{Turn}
use Rattle.cds_layout.specs.declared.turns.Turn.TheVariants.{Zero, One, Two}
use Rattle.cds_layout.specs.declared.turns.Place.{Place}
use Rattle.cds_layout.specs.declared.turns.Place.TheVariants.{First, Second}

-- the turn after another
abbrev pub next : Turn → Turn
next Zero = One
next One = Two
next Two = Zero

-- the byte of an open place with this turn
abbrev pub byte_of : Turn → ℕ
byte_of Zero = 0xA0
byte_of One = 0xA1
byte_of Two = 0xA2

-- the turn that a byte tells. A place with any other byte is closed
abbrev pub turn_of : ℕ → Option Turn
turn_of byte = if byte == 0xA0 then Some Zero else (if byte == 0xA1 then Some One else (if byte == 0xA2 then Some Two else None))

abbrev pub is_same : Turn → Turn → Bool
is_same Zero Zero = true
is_same One One = true
is_same Two Two = true
is_same _ _ = false

-- of two open places the one whose turn comes after the other's, and the first where they have the same
abbrev pub later : Turn → Turn → Place
later first second = if is_same second (next first) then Second else First

-- the place that shows
abbrev pub shown_by : Option Turn → Option Turn → Option Place
shown_by None None = None
shown_by (Some first) None = Some First
shown_by None (Some second) = Some Second
shown_by (Some first) (Some second) = Some (later first second)

-- the place that doesn't show, and the first where none does
abbrev pub other : Option Place → Place
other None = First
other (Some First) = Second
other (Some Second) = First

-- the turn with which a copy opens it
abbrev pub after_place : Place → Turn → Turn → Turn
after_place First first second = next first
after_place Second first second = next second

abbrev pub opened_by : Option Turn → Option Turn → Turn
opened_by None None = Zero
opened_by (Some first) None = next first
opened_by None (Some second) = next second
opened_by (Some first) (Some second) = after_place (later first second) first second

-- the places by their numbers
abbrev pub number_of : Place → ℕ
number_of First = 0
number_of Second = 1
