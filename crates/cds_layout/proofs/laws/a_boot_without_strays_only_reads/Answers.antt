use Rattle.std.proofs.Common.{◌≡◌, ℕ, zero, suc, ◌<◌, ◌≤◌, List, [], ◌∷◌, ◌++◌, Bool, false, cond, Option, refl, ap, ◌∙◌, arith}
use Rattle.tbl_kinds.specs.declared.block.Block.{Block}
use Rattle.tbl_outside.specs.BankCalls.{BankCall, read, write}
use Rattle.cds_layout.specs.Directory.{directory_len, directory_of, version_place}
use Rattle.cds_layout.specs.Entries.{slot_count}
use Rattle.cds_layout.specs.Order.{slot_calls, is_stray, strays_to, delete_calls, clear_calls, carried_to, carry_calls}
use Rattle.cds_layout.proofs.laws.a_boot_without_strays_only_reads.Goals as goal

no_strays : (bytes : List ℕ) (directory : List (Option Block)) (n : ℕ) → n ≤ slot_count → ((slot : ℕ) → slot < slot_count → is_stray bytes directory slot ≡ false) → strays_to n bytes directory ≡ []
unfolding slot_calls
no_strays bytes directory zero le none = refl
no_strays bytes directory (suc n) le none =
    ap (λ (l : List BankCall). l ++ cond (is_stray bytes directory n) (delete_calls n) []) (no_strays bytes directory n (omega (arith, le)) none)
    ∙ ap (λ (b : Bool). cond b (delete_calls n) []) (none n (omega (arith, le)))

pub returns : goal.returns
returns c bytes live second none =
    ap (λ (l : List BankCall). read 0 directory_len ∷ l)
    (ap (λ (b : Bool). cond b (strays_to slot_count bytes (directory_of bytes) ++ carry_calls bytes) (clear_calls bytes)) live
    ∙ ap (λ (l : List BankCall). l ++ carry_calls bytes) (no_strays bytes (directory_of bytes) slot_count (omega arith) none)
    ∙ ap (λ (first : Bool). cond first (carried_to slot_count bytes (directory_of bytes) ++ write version_place (0x32 ∷ []) ∷ []) []) second)
