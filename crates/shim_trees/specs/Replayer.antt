-- The replayer of a channel, of which there are `count`: it counts the completions of each, and offers the next transaction of its own once
-- they cover what that one waits for (this project's profile).
use Rattle.std.specs.Prelude.{ℕ, zero, suc, ◌+◌, List, [], ◌∷◌, ◌++◌, codes, None}
use Rattle.chan_map.specs.trace_model.declared.channel.Channel.{Channel}
use Rattle.chan_map.specs.trace_model.declared.channel.Dir.{Dir}
use Rattle.chan_map.specs.trace_model.declared.channel.Dir.TheVariants.{Inward, Outward}
use Rattle.vlog_tree.specs.declared.expr.BinaryOp.TheVariants.{GreaterOrEqual, Plus}
use Rattle.vlog_tree.specs.Tree.{ExprOf, UnaryExpr, BinaryExpr, ParenPrim, BeginStmt, StmtsOf, NoStmts, MoreStmts, PortOf, ItemOf, ModuleOf}
use Rattle.shim_trees.specs.Pieces.{numbered, each, upto, net, both, input, output, reg, assign, next, at_clock, gated_content}

-- `n` is what is waited for, `d` whether a channel completes now; `s` is the source's side, `k` the sink's
abbrev pub side_ports : Dir → List ℕ → List (PortOf ℕ)
side_ports Inward widths =
    each (λ i w. input (numbered (codes "s") i) w) 0 widths
    ++ output (codes "kv") 1 ∷ input (codes "kr") 1 ∷ each (λ i w. output (numbered (codes "k") i) w) 0 widths
side_ports Outward widths = input (codes "sv") 1 ∷ output (codes "sr") 1 ∷ []

abbrev pub replayer_ports : ℕ → Dir → List ℕ → List (PortOf ℕ)
replayer_ports count dir widths =
    input (codes "clk") 1 ∷ input (codes "more") 1
    ∷ (upto (λ j. input (numbered (codes "n") j) 32) 0 count
    ++ (upto (λ j. input (numbered (codes "d") j) 1) 0 count
    ++ (side_ports dir widths ++ output (codes "pop") 1 ∷ [])))

-- `( c0 >= n0 )`
abbrev pub covers : ℕ → ExprOf ℕ
covers j = UnaryExpr None (ParenPrim 0 (BinaryExpr (net (numbered (codes "c") j)) GreaterOrEqual (net (numbered (codes "n") j))))

-- `e & ( c0 >= n0 ) & ( c1 >= n1 ) ..`, from counter j on
abbrev pub covering : ℕ → ℕ → ExprOf ℕ → ExprOf ℕ
covering j zero e = e
covering j (suc count) e = covering (j + 1) count (both e (covers j))

-- `c0 <= c0 + d0 ; c1 <= c1 + d1 ; ..`, from counter j on
abbrev pub counting : ℕ → ℕ → StmtsOf ℕ
counting j zero = NoStmts
counting j (suc count) =
    MoreStmts (next (numbered (codes "c") j) (BinaryExpr (net (numbered (codes "c") j)) Plus (net (numbered (codes "d") j))))
    (counting (j + 1) count)

-- an inward channel's source is this replayer, an outward channel's sink
abbrev pub shown_items : ℕ → Dir → List ℕ → List (ItemOf ℕ)
shown_items count Inward widths =
    assign (codes "kv") (covering 0 count (net (codes "more")))
    ∷ (each gated_content 0 widths ++ assign (codes "pop") (both (net (codes "kv")) (net (codes "kr"))) ∷ [])
shown_items count Outward widths =
    assign (codes "sr") (covering 0 count (net (codes "more"))) ∷ assign (codes "pop") (both (net (codes "sv")) (net (codes "sr"))) ∷ []

abbrev pub replayer_items : ℕ → Dir → List ℕ → List (ItemOf ℕ)
replayer_items count dir widths =
    upto (λ j. reg (numbered (codes "c") j) 32) 0 count
    ++ (shown_items count dir widths ++ at_clock (BeginStmt (counting 0 count)) ∷ [])

-- of channel n
abbrev pub replayer : ℕ → ℕ → Channel → ModuleOf ℕ
replayer count n c = record {
  name = numbered (codes "vidi_q_") n;
  parameters = [];
  ports = replayer_ports count c.dir c.widths;
  items = replayer_items count c.dir c.widths;
}
