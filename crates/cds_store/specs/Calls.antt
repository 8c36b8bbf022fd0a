-- What holds of the bank after each call, and what a call that broke off counted.
use Rattle.std.specs.Prelude.{◌≡◌, ℕ, ◌≤◌, Bool, true, false, Result, Ok, Err}
use Rattle.tbl_outside.specs.Counts.{Still, RoseAlone}
use Rattle.cds_store.specs.declared.fault.ReserveFault.{ReserveFault}
use Rattle.cds_store.specs.declared.fault.ReserveFault.TheVariants.{NoRoom, Bank}
use Rattle.cds_store.specs.declared.fault.BankFault.{BankFault}
use Rattle.cds_store.specs.declared.fault.BankFault.TheVariants.{Fault, Stopped}

-- it has as many bytes, and its counts didn't fall
pub record Steady {B : Type 0} (size faults stops : B → ℕ) (old new : B) : Type 0 where
  pub size_kept : size new ≡ size old
  pub fault_count : faults old ≤ faults new
  pub stop_count : stops old ≤ stops new

-- a fault moved only the count of faults, a stop only that of stops, and a call that is done moved neither
abbrev pub CallCounted : {A B : Type 0} → (B → ℕ) → (B → ℕ) → B → B → Result A BankFault → Type 0
CallCounted faults stops old new (Ok x) = Still faults stops old new
CallCounted faults stops old new (Err (Fault gate old_gate)) = RoseAlone faults stops old new
CallCounted faults stops old new (Err (Stopped gate old_gate)) = RoseAlone stops faults old new

-- nor did a reservation for which there was no room
abbrev pub ReserveCounted : {A B : Type 0} → (B → ℕ) → (B → ℕ) → B → B → Result A ReserveFault → Type 0
ReserveCounted faults stops old new (Ok x) = Still faults stops old new
ReserveCounted faults stops old new (Err NoRoom) = Still faults stops old new
ReserveCounted faults stops old new (Err (Bank (Fault gate old_gate))) = RoseAlone faults stops old new
ReserveCounted faults stops old new (Err (Bank (Stopped gate old_gate))) = RoseAlone stops faults old new

-- whether the write that broke off was of a gate byte, and whether of that of a doubtful block
abbrev pub is_gate : BankFault → Bool
is_gate (Fault gate old) = gate
is_gate (Stopped gate old) = gate

abbrev pub is_old : BankFault → Bool
is_old (Fault gate old) = old
is_old (Stopped gate old) = old

pub record HasFlags (gate old : Bool) (fault : BankFault) : Type 0 where
  pub gate_is : is_gate fault ≡ gate
  pub old_is : is_old fault ≡ old

-- if a reservation broke off in a write
abbrev pub IfBank : ReserveFault → (BankFault → Type 0) → Type 0
IfBank NoRoom P = Unit {0}
IfBank (Bank fault) P = P fault

abbrev pub lacks_room : {T : Type 0} → Result T ReserveFault → Bool
lacks_room (Err NoRoom) = true
lacks_room _ = false
