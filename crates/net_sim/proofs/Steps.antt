-- Drivers and clocked blocks, one after the other.
use Rattle.std.proofs.Common.{◌≡◌, ℕ, zero, suc, ◌-◌, ◌<◌, ◌≤◌, List, [], ◌∷◌, ◌++◌, length, get_or, drop}
use Rattle.std.proofs.Common.{ap, sym, ◌∙◌, append_assoc, arith}
use Rattle.net_design.specs.declared.act.Code.{Code}
use Rattle.net_design.specs.declared.design.Driver.{Driver}
use Rattle.net_order.specs.Run.{acts_of}
use Rattle.net_instr.specs.declared.instr.Instr.{Instr}
use Rattle.net_instr.specs.Layout.{span}
use Rattle.net_instr.specs.Statements.{block_code}
use Rattle.net_instr.proofs.Steps.{before_here}
use Rattle.net_sim.specs.Slots.{drivers_code, blocks_code}

acts_at : (xs : List Driver) (k : ℕ) (x : Driver) → k < length xs → x ≡ get_or xs k x → acts_of xs k ≡ x.code.acts
acts_at [] k x l e = absurd (omega arith)
acts_at (y ∷ xs) zero x l e = ap (λ (z : Driver). z.code.acts) (sym e)
acts_at (y ∷ xs) (suc k) x l e = acts_at xs k x (omega arith) e

pub driver_step : (widths : List ℕ) (W : ℕ) (drivers : List Driver) (order : List ℕ) (i n : ℕ) (x : Driver) (code new first : List Instr)
    → 0 < i → i ≤ length order → n ≡ get_or order (i - 1) n → n < length drivers → x ≡ get_or drivers n x
    → code ≡ first ++ drivers_code widths W drivers (drop i order) → new ≡ code ++ block_code widths W 0 x.code.acts
    → new ≡ first ++ drivers_code widths W drivers (drop (i - 1) order)
driver_step widths W drivers order i n x code new first some l e inside is f g =
    g ∙ ap (λ c. c ++ block_code widths W 0 x.code.acts) f
    ∙ append_assoc first (drivers_code widths W drivers (drop i order)) (block_code widths W 0 x.code.acts)
    ∙ ap (λ acts. first ++ (drivers_code widths W drivers (drop i order) ++ block_code widths W 0 acts)) (sym
    (acts_at drivers n x inside is))
    ∙ ap (λ ns. first ++ drivers_code widths W drivers ns) (sym (before_here order i n some l e))

pub block_step : (widths : List ℕ) (W : ℕ) (blocks : List Code) (i : ℕ) (c : Code) (code new first : List Instr)
    → 0 < i → i ≤ length blocks → c ≡ get_or blocks (i - 1) c
    → code ≡ first ++ blocks_code widths W (drop i blocks) → new ≡ code ++ block_code widths W (span widths W) c.acts
    → new ≡ first ++ blocks_code widths W (drop (i - 1) blocks)
block_step widths W blocks i c code new first some l e f g =
    g ∙ ap (λ xs. xs ++ block_code widths W (span widths W) c.acts) f
    ∙ append_assoc first (blocks_code widths W (drop i blocks)) (block_code widths W (span widths W) c.acts)
    ∙ ap (λ cs. first ++ blocks_code widths W cs) (sym (before_here blocks i c some l e))
