-- The reader of items, rule by rule of the grammar, with fuel for the expressions and statements in them.
use Rattle.std.specs.Prelude.{ℕ, true, false, List, [], ◌∷◌, Option, None, Some}
use Rattle.vlog_tree.specs.declared.terminal.Terminal.TheVariants as t
use Rattle.vlog_tree.specs.Tree.{IdentOf, ExprOf, RangeOf, NamedValueOf, InitTail, Reg1Of, AssignOf, EventOf}
use Rattle.vlog_tree.specs.Tree.{PosedgeEvent, ItemOf, WiresItem, DrivenWiresItem, RegsItem, AssignItem, AlwaysItem}
use Rattle.vlog_tree.specs.Tree.{MemoryTail, RegTailOf, ImplicitEvent, ConnOf, LocalparamsItem}
use Rattle.vlog_tree.specs.Tree.{InstanceItem}
use Rattle.vlog_stmt.specs.vlog_expr.Marks.{Toks, after, name_front}
use Rattle.vlog_stmt.specs.vlog_expr.Reader.{◌>>=◌, found_or, Read, expr_at, target_at, more_at, some_at}
use Rattle.vlog_stmt.specs.StmtReader.{body_at}

-- expr ":" expr "]"
abbrev pub range_at : {A : Type 0} → ℕ → Toks A → Read A (RangeOf A)
range_at n ws = expr_at n ws >>= λ a. after t.Colon a.1 >>= λ o. expr_at n o.1 >>= λ b. after t.BracketClose b.1
    >>= λ c. Some (record { first = a.0; second = b.0 }, c.1)

-- [range]
abbrev pub range_front : {A : Type 0} → ℕ → Toks A → Read A (Option (RangeOf A))
range_front n ws = found_or (after t.BracketOpen ws) (Some (None, ws)) (λ o. range_at n o.1 >>= λ r. Some (Some r.0, r.1))

-- [ "=" expr ]
abbrev pub init_front : {A : Type 0} → ℕ → Toks A → Read A (Option (ExprOf A))
init_front n ws = found_or (after t.Equals ws) (Some (None, ws)) (λ o. expr_at n o.1 >>= λ e. Some (Some e.0, e.1))

-- id "=" expr
abbrev pub named_at : {A : Type 0} → ℕ → Toks A → Read A (NamedValueOf A)
named_at n ws = name_front ws >>= λ id. after t.Equals id.1 >>= λ o. expr_at n o.1 >>= λ e. Some (record { id = id.0; value = e.0 }, e.1)

-- [ "=" expr | range ]
abbrev pub tail_front : {A : Type 0} → ℕ → Toks A → Read A (Option (RegTailOf A))
tail_front n ws =
    found_or (after t.Equals ws) (found_or (after t.BracketOpen ws) (Some (None, ws))
    (λ o. range_at n o.1 >>= λ r. Some (Some (MemoryTail r.0), r.1))) (λ o. expr_at n o.1 >>= λ e. Some (Some (InitTail e.0), e.1))

-- id [ "=" expr | range ]
abbrev pub reg_at : {A : Type 0} → ℕ → Toks A → Read A (Reg1Of A)
reg_at n ws = name_front ws >>= λ id. tail_front n id.1 >>= λ x. Some (record { id = id.0; tail = x.0 }, x.1)

-- target "=" expr
abbrev pub assign_at : {A : Type 0} → ℕ → Toks A → Read A (AssignOf A)
assign_at n ws = target_at n ws >>= λ x. after t.Equals x.1 >>= λ o. expr_at n o.1 >>= λ e. Some (record { target = x.0; value = e.0 }, e.1)

-- { "," id } ";" behind the first name
abbrev pub names_at : {A : Type 0} → ℕ → Option (RangeOf A) → IdentOf A → Toks A → Read A (ItemOf A)
names_at n range id ws = more_at name_front n (id ∷ []) ws >>= λ ids. after t.Semicolon ids.1 >>= λ c. Some (WiresItem range ids.0, c.1)

-- expr { "," id "=" expr } ";" behind the first name and its "="
abbrev pub driven_at : {A : Type 0} → ℕ → Option (RangeOf A) → IdentOf A → Toks A → Read A (ItemOf A)
driven_at n range id ws =
    expr_at n ws >>= λ e. more_at (named_at n) n (record { id = id; value = e.0 } ∷ []) e.1 >>= λ xs. after t.Semicolon xs.1
    >>= λ c. Some (DrivenWiresItem range xs.0, c.1)

-- behind "wire"
abbrev pub wires_at : {A : Type 0} → ℕ → Toks A → Read A (ItemOf A)
wires_at n ws = range_front n ws >>= λ r. name_front r.1 >>= λ id. found_or (after t.Equals id.1) (names_at n r.0 id.0 id.1)
    (λ o. driven_at n r.0 id.0 o.1)

-- behind "reg"
abbrev pub regs_at : {A : Type 0} → ℕ → Toks A → Read A (ItemOf A)
regs_at n ws = range_front n ws >>= λ r. some_at (reg_at n) n r.1 >>= λ xs. after t.Semicolon xs.1 >>= λ c. Some (RegsItem r.0 xs.0, c.1)

-- behind "localparam"
abbrev pub localparams_at : {A : Type 0} → ℕ → Toks A → Read A (ItemOf A)
localparams_at n ws = range_front n ws >>= λ r. some_at (named_at n) n r.1 >>= λ xs. after t.Semicolon xs.1
    >>= λ c. Some (LocalparamsItem r.0 xs.0, c.1)

-- behind "assign"
abbrev pub assigns_at : {A : Type 0} → ℕ → Toks A → Read A (ItemOf A)
assigns_at n ws = some_at (assign_at n) n ws >>= λ xs. after t.Semicolon xs.1 >>= λ c. Some (AssignItem xs.0, c.1)

-- ( "posedge" id | "*" ) ")"
abbrev pub paren_event_at : {A : Type 0} → Toks A → Read A (EventOf A)
paren_event_at ws =
    found_or (after t.Star ws) (after t.Posedge ws >>= λ p. name_front p.1 >>= λ id. after t.ParenClose id.1
    >>= λ c. Some (PosedgeEvent id.0, c.1)) (λ s. after t.ParenClose s.1 >>= λ c. Some (ImplicitEvent true, c.1))

-- "@" ( "(" "posedge" id ")" | "*" | "(" "*" ")" )
abbrev pub event_at : {A : Type 0} → Toks A → Read A (EventOf A)
event_at ws = after t.At ws >>= λ a. found_or (after t.Star a.1) (after t.ParenOpen a.1 >>= λ o. paren_event_at o.1)
    (λ s. Some (ImplicitEvent false, s.1))

-- behind "always", whose line this is
abbrev pub always_at : {A : Type 0} → ℕ → A → Toks A → Read A (ItemOf A)
always_at n line ws = event_at ws >>= λ v. body_at n v.1 >>= λ b. Some (AlwaysItem (record { line = line; event = v.0; body = b.0 }), b.1)

-- [expr] ")"
abbrev pub value_at : {A : Type 0} → ℕ → Toks A → Read A (Option (ExprOf A))
value_at n ws = found_or (after t.ParenClose ws) (expr_at n ws >>= λ e. after t.ParenClose e.1 >>= λ c. Some (Some e.0, c.1))
    (λ o. Some (None, o.1))

-- "." id "(" [expr] ")"
abbrev pub conn_at : {A : Type 0} → ℕ → Toks A → Read A (ConnOf A)
conn_at n ws = after t.Dot ws >>= λ d. name_front d.1 >>= λ id. after t.ParenOpen id.1 >>= λ o. value_at n o.1
    >>= λ v. Some (record { line = d.0; id = id.0; value = v.0 }, v.1)

-- [ "#" "(" conn { "," conn } ")" ]
abbrev pub parameter_conns_front : {A : Type 0} → ℕ → Toks A → Read A (List (ConnOf A))
parameter_conns_front n ws = found_or (after t.Hash ws) (Some ([], ws)) (λ h. after t.ParenOpen h.1 >>= λ o. some_at (conn_at n) n o.1
    >>= λ cs. after t.ParenClose cs.1 >>= λ c. Some (cs.0, c.1))

-- [ conn { "," conn } ] ")"
abbrev pub conns_at : {A : Type 0} → ℕ → Toks A → Read A (List (ConnOf A))
conns_at n ws = found_or (after t.ParenClose ws) (some_at (conn_at n) n ws >>= λ cs. after t.ParenClose cs.1 >>= λ c. Some (cs.0, c.1))
    (λ o. Some ([], o.1))

-- [ "#" "(" conn { "," conn } ")" ] id "(" [ conn { "," conn } ] ")" ";" behind the name of the module
abbrev pub instance_at : {A : Type 0} → ℕ → IdentOf A → Toks A → Read A (ItemOf A)
instance_at n module_id ws =
    parameter_conns_front n ws >>= λ ps. name_front ps.1 >>= λ id. after t.ParenOpen id.1 >>= λ o. conns_at n o.1
    >>= λ cs. after t.Semicolon cs.1
    >>= λ c. Some (InstanceItem (record { module_id = module_id; parameters = ps.0; id = id.0; ports = cs.0 }), c.1)

-- an item that begins with no word of the others
abbrev pub named_item_at : {A : Type 0} → ℕ → Toks A → Read A (ItemOf A)
named_item_at n ws = name_front ws >>= λ id. instance_at n id.0 id.1

-- an item that declares no nets
abbrev pub other_item_at : {A : Type 0} → ℕ → Toks A → Read A (ItemOf A)
other_item_at n ws =
    found_or (after t.Localparam ws) (found_or (after t.Assign ws) (found_or (after t.Always ws) (named_item_at n ws)
    (λ o. always_at n o.0 o.1)) (λ o. assigns_at n o.1)) (λ o. localparams_at n o.1)

abbrev pub item_at : {A : Type 0} → ℕ → Toks A → Read A (ItemOf A)
item_at n ws = found_or (after t.Wire ws) (found_or (after t.Reg ws) (other_item_at n ws) (λ o. regs_at n o.1)) (λ o. wires_at n o.1)
