-- Whole code, run from its first instruction to its last.
use Rattle.std.proofs.Common.{◌≡◌, ℕ, List, [], ◌∷◌, append-nil, All, length, reverse, ap, sym, subst, ◌∙◌}
use Rattle.std.proofs.lemmas.List.{reverse-append}
use Rattle.std.proofs.lemmas.List.Elements.{All-from_recursion}
use Rattle.net_design.specs.declared.act.Act.{Act}
use Rattle.net_design.specs.declared.act.Timing.{Timing}
use Rattle.net_design.specs.Updates.{block_updates}
use Rattle.net_instr.specs.declared.instr.Instr.{Instr}
use Rattle.net_instr.specs.Machine.{exec, AreBelow, AreSafe, IsInstr}
use Rattle.net_instr.specs.Layout.{shown, IsReady, Moves}
use Rattle.net_instr.specs.Statements.{offset, block_code, IsBlockThere}
use Rattle.net_instr.proofs.Running.{RunsTo}
use Rattle.net_instr.proofs.Acts.{block_right}
use Rattle.net_instr.proofs.Safe.{safe_both}

pub whole : (code : List Instr) (s u : List ℕ) → RunsTo code s u → exec (reverse code) 0 s ≡ u
whole code s u f = ap (λ c. exec c 0 s) (sym (append-nil (reverse code))) ∙ f []

pub made : (widths : List ℕ) (W : ℕ) (t : Timing) (acts : List Act) (s : List ℕ) → IsBlockThere widths W acts
    → AreBelow (length s) (block_code widths W (offset widths W t) acts) → IsReady widths W s
    → Moves widths W t (block_updates t acts (shown widths W s)) s (exec (reverse (block_code widths W (offset widths W t) acts)) 0 s)
made widths W t acts s h i r =
    let d = block_right widths W t acts s h i r in
    subst (λ u. Moves widths W t (block_updates t acts (shown widths W s)) s u)
    (sym (whole (block_code widths W (offset widths W t) acts) s d.after d.runs)) d.moved

safe_turned : (code : List Instr) → AreSafe code → AreSafe (reverse code)
safe_turned [] h = tt
safe_turned (i ∷ code) h =
    subst AreSafe (sym (reverse-append (i ∷ []) code)) (safe_both (reverse code) (i ∷ []) (safe_turned code h.1) (h.0, tt))

pub safe_reverse : (code : List Instr) → AreSafe code → All (λ (i : Instr). IsInstr i) (reverse code)
safe_reverse code h = All-from_recursion (λ (i : Instr). IsInstr i) (reverse code) (safe_turned code h)
