-- The registers of the flat design: the regs of all instances, each with the bits that no `always @*` writes and with what its initialiser
-- makes of them (IEEE 1364-2005, 4.2.2; this project's profile).
use Rattle.std.specs.Prelude.{◌≡◌, ℕ, ◌+◌, nat_lt, Bool, ◌&&◌, not, if◌then◌else◌, List, [], ◌∷◌, ◌++◌}
use Rattle.std.specs.Int.{bit_at}
use Rattle.std.specs.List.{flat_map, list_any}
use Rattle.vlog_elab.specs.vidi_bits.Findings.{told_if}
use Rattle.vlog_tree.specs.Tree.{ModuleOf}
use Rattle.vlog_elab.specs.vidi_bits.Number.{has}
use Rattle.vlog_elab.specs.vlog_size.declared.scope.ScopeNet.{ScopeNet}
use Rattle.vlog_elab.specs.vlog_size.declared.scope.Scope.{Scope}
use Rattle.vlog_elab.specs.vlog_size.Table.{Named}
use Rattle.net_design.specs.declared.design.Driver.{Driver}
use Rattle.net_design.specs.declared.design.Register.{Register}
use Rattle.net_design.specs.Bits.{named}
use Rattle.vlog_elab.specs.vlog_names.Ports.{has_reg}
use Rattle.vlog_driver.specs.Next.{initial_number}
use Rattle.flat_parts.specs.Seats.{Seat}

-- a reg: its net, its width in bits and its initial number
pub record RegPlace : Type 0 where
  pub net : ℕ
  pub width : ℕ
  pub initial : ℕ

-- the regs among the nets of an instance, the first of which is this net of the design
abbrev pub regs_from : ModuleOf ℕ → Scope → ℕ → List (Named ScopeNet) → List RegPlace
regs_from m s net [] = []
regs_from m s net (n ∷ ns) =
    told_if (has_reg m n.name) (record { net = net; width = n.value.width; initial = initial_number m s n.name })
    ++ regs_from m s (net + 1) ns

abbrev pub seat_regs : Seat → List RegPlace
seat_regs x = regs_from x.instance.tree x.instance.scope x.base.net x.instance.scope.nets

unfoldable pub all_regs : List Seat → List RegPlace
all_regs xs = flat_map seat_regs xs

-- whether some `always @*` among these drivers may write bit k of net m
abbrev pub always_writes_bit : List Driver → ℕ → ℕ → Bool
always_writes_bit drivers m k = list_any (λ (x : Driver). x.always && named x.code.writes m k) drivers

-- a register is a reg: it holds the bits that no `always @*` writes, with the bits of its initial number
pub record IsRegisterOf (drivers : List Driver) (q : RegPlace) (r : Register) : Type 0 where
  pub net : r.net ≡ q.net
  pub held : (k : ℕ) → has r.held k ≡ (nat_lt k q.width && not (always_writes_bit drivers q.net k))
  pub initial : (k : ℕ) → bit_at r.initial k ≡ (if has r.held k then bit_at q.initial k else 0)
