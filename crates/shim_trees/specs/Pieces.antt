-- Pieces of the shims' trees (IEEE 1364-2005, clauses 5, 6, 9 and 12; this project's profile). What is generated has line 0.
use Rattle.std.specs.Prelude.{ℕ, zero, suc, ◌+◌, ◌-◌, ◌==◌, false, if◌then◌else◌, List, [], ◌∷◌, ◌++◌, codes, Option, None, Some}
use Rattle.std.specs.Fmt.{decimal}
use Rattle.chan_map.specs.trace_model.declared.channel.Dir.{Dir}
use Rattle.chan_map.specs.trace_model.declared.channel.Dir.TheVariants.{Inward, Outward}
use Rattle.vlog_tree.specs.declared.expr.NumberKind.TheVariants.{Decimal, Based}
use Rattle.vlog_tree.specs.declared.expr.UnaryOp.TheVariants.{BitNot}
use Rattle.vlog_tree.specs.declared.expr.BinaryOp.TheVariants.{And}
use Rattle.vlog_tree.specs.declared.stmt.AssignOp.TheVariants.{Nonblocking}
use Rattle.vlog_tree.specs.declared.module.Direction.{Direction}
use Rattle.vlog_tree.specs.declared.module.Direction.TheVariants.{Input, Output}
use Rattle.vlog_tree.specs.Tree.{IdentOf, ExprOf, UnaryExpr, BinaryExpr, ChoiceExpr, NumberPrim, RefPrim, RefWith, NoIndex, NoLast, TargetOf}
use Rattle.vlog_tree.specs.Tree.{RefTarget, StmtOf, AssignStmt, StmtBody, RangeOf, PortOf, PosedgeEvent, ConnOf, ItemOf, WiresItem, RegsItem}
use Rattle.vlog_tree.specs.Tree.{AssignItem, AlwaysItem, InstanceItem}

abbrev pub Name : Type 0
Name = List ℕ

-- ---- names with numbers, in decimal

-- as `s0` and `v_0`
abbrev pub numbered : Name → ℕ → Name
numbered x n = x ++ decimal n

-- as `d_0_1`
abbrev pub numbered_twice : Name → ℕ → ℕ → Name
numbered_twice x n i = numbered x n ++ (95 ∷ decimal i)

-- ---- lists of pieces

-- one for each element of a list, with its number
abbrev pub each : {X Y : Type 0} → (ℕ → X → Y) → ℕ → List X → List Y
each f k [] = []
each f k (x ∷ xs) = f k x ∷ each f (k + 1) xs

-- some for each element of a list, with its number
abbrev pub each_some : {X Y : Type 0} → (ℕ → X → List Y) → ℕ → List X → List Y
each_some f k [] = []
each_some f k (x ∷ xs) = f k x ++ each_some f (k + 1) xs

-- one for each of `count` numbers
abbrev pub upto : {Y : Type 0} → (ℕ → Y) → ℕ → ℕ → List Y
upto f k zero = []
upto f k (suc count) = f k ∷ upto f (k + 1) count

-- ---- names and numbers in expressions
abbrev pub ident : Name → IdentOf ℕ
ident x = record { name = x; line = 0 }

-- `x`
abbrev pub net : Name → ExprOf ℕ
net x = UnaryExpr None (RefPrim (RefWith (ident x) NoIndex NoLast))

-- `~ x`
abbrev pub not_net : Name → ExprOf ℕ
not_net x = UnaryExpr (Some record { op = BitNot; line = 0 }) (RefPrim (RefWith (ident x) NoIndex NoLast))

-- `n`
abbrev pub number : ℕ → ExprOf ℕ
number n = UnaryExpr None (NumberPrim (record { kind = Decimal; text = decimal n; line = 0 }))

-- `W'd0`
abbrev pub zero_of : ℕ → ExprOf ℕ
zero_of width = UnaryExpr None (NumberPrim (record { kind = Based; text = decimal width ++ codes "'d0"; line = 0 }))

-- `a & b`
abbrev pub both : ExprOf ℕ → ExprOf ℕ → ExprOf ℕ
both a b = BinaryExpr a And b

-- ---- declarations

-- no range for one bit, else `[ W-1 : 0 ]`, with the number written out
abbrev pub range_of : ℕ → Option (RangeOf ℕ)
range_of width = if width == 1 then None else Some (record { first = number (width - 1); second = number 0 })

abbrev pub port : Direction → Name → ℕ → PortOf ℕ
port direction x width = record { head = Some (record { direction = direction; range = range_of width }); id = ident x; init = None }

abbrev pub input : Name → ℕ → PortOf ℕ
input x width = port (Input false) x width

abbrev pub output : Name → ℕ → PortOf ℕ
output x width = port (Output None) x width

-- the direction, on a top, of a channel's valid and contents, which the design takes from an inward channel and gives to an outward one
abbrev pub source_side : Dir → Direction
source_side Inward = Input false
source_side Outward = Output None

-- that of a channel's ready
abbrev pub sink_side : Dir → Direction
sink_side Inward = Output None
sink_side Outward = Input false

abbrev pub wire : Name → ℕ → ItemOf ℕ
wire x width = WiresItem (range_of width) (ident x ∷ [])

abbrev pub reg : Name → ℕ → ItemOf ℕ
reg x width = RegsItem (range_of width) (record { id = ident x; tail = None } ∷ [])

-- ---- what drives

abbrev pub target : Name → TargetOf ℕ
target x = RefTarget (RefWith (ident x) NoIndex NoLast)

-- `assign x = e ;`
abbrev pub assign : Name → ExprOf ℕ → ItemOf ℕ
assign x e = AssignItem (record { target = target x; value = e } ∷ [])

-- `x <= e ;`
abbrev pub next : Name → ExprOf ℕ → StmtOf ℕ
next x e = AssignStmt (target x) Nonblocking e

-- `always @ ( posedge clk ) s`
abbrev pub at_clock : StmtOf ℕ → ItemOf ℕ
at_clock s = AlwaysItem (record { line = 0; event = PosedgeEvent (ident (codes "clk")); body = StmtBody s })

-- content i shows the source's while the valid is up, and 0 else: `assign k0 = kv ? s0 : W'd0 ;`
abbrev pub gated_content : ℕ → ℕ → ItemOf ℕ
gated_content i width =
    assign (numbered (codes "k") i) (ChoiceExpr (net (codes "kv")) (net (numbered (codes "s") i)) (zero_of width))

-- ---- instances

-- `. x ( y )`
abbrev pub conn : Name → Name → ConnOf ℕ
conn x y = record { line = 0; id = ident x; value = Some (net y) }

-- `. x ( )`
abbrev pub unjoined : Name → ConnOf ℕ
unjoined x = record { line = 0; id = ident x; value = None }

-- `kind x ( .. ) ;`
abbrev pub instance : Name → Name → List (ConnOf ℕ) → ItemOf ℕ
instance kind x ports = InstanceItem (record { module_id = ident kind; parameters = []; id = ident x; ports = ports })
