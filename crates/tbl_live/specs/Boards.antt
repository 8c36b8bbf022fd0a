-- A board, and the tickets of its receipts.
use Rattle.boxcar.specs.Table.{Shelves, Where, Shows}
use Rattle.tbl_live.specs.declared.receipts.Receipt.{Receipt}

-- what a board is seen as: the places of its receipts
abbrev pub BoardView : Type 0
BoardView = Shelves

-- what a ticket is seen as: the receipt that was published with it, as `value`, and its place
abbrev pub TicketView : Type 0
TicketView = Where Receipt

-- the ticket is of this board
abbrev pub IsOfBoard : BoardView → TicketView → Type 0
IsOfBoard board ticket = Shows board ticket
