-- The reader of modules and files, rule by rule of the grammar, with fuel for the items in them.
use Rattle.std.specs.Prelude.{ℕ, zero, suc, true, false, List, [], ◌∷◌, ◌++◌, Option, None, Some, length}
use Rattle.vlog_tree.specs.declared.module.Direction.{Direction}
use Rattle.vlog_tree.specs.declared.module.Direction.TheVariants as direction
use Rattle.vlog_tree.specs.declared.module.NetKind.TheVariants as kind
use Rattle.vlog_tree.specs.declared.terminal.Terminal.TheVariants as t
use Rattle.vlog_tree.specs.Tree.{PortHeadOf, PortOf}
use Rattle.vlog_tree.specs.Tree.{ItemOf, ModuleOf, FileOf}
use Rattle.vlog_tree.specs.Tree.{ParameterHeadOf, ParameterOf}
use Rattle.vlog_item.specs.vlog_expr.Marks.{Toks, after, name_front}
use Rattle.vlog_item.specs.vlog_expr.Reader.{◌>>=◌, found_or, Read, expr_at, fuel_for, more_at}
use Rattle.vlog_item.specs.ItemReader.{range_front, init_front, item_at}

-- ["wire"] behind "input"
abbrev pub input_at : {A : Type 0} → Toks A → Read A Direction
input_at ws = found_or (after t.Wire ws) (Some (direction.Input false, ws)) (λ o. Some (direction.Input true, o.1))

-- ["wire"|"reg"] behind "output"
abbrev pub output_at : {A : Type 0} → Toks A → Read A Direction
output_at ws =
    found_or (after t.Wire ws) (found_or (after t.Reg ws) (Some (direction.Output None, ws))
    (λ o. Some (direction.Output (Some kind.Reg), o.1))) (λ o. Some (direction.Output (Some kind.Wire), o.1))

-- "input" ["wire"] | "output" ["wire"|"reg"]
abbrev pub direction_front : {A : Type 0} → Toks A → Read A Direction
direction_front ws = found_or (after t.Input ws) (after t.Output ws >>= λ o. output_at o.1) (λ o. input_at o.1)

-- [ direction [range] ]
abbrev pub head_front : {A : Type 0} → ℕ → Toks A → Read A (Option (PortHeadOf A))
head_front n ws = found_or (direction_front ws) (Some (None, ws)) (λ d. range_front n d.1
    >>= λ r. Some (Some (record { direction = d.0; range = r.0 }), r.1))

-- [ direction [range] ] id [ "=" expr ]
abbrev pub port_at : {A : Type 0} → ℕ → Toks A → Read A (PortOf A)
port_at n ws = head_front n ws >>= λ h. name_front h.1 >>= λ id. init_front n id.1
    >>= λ i. Some (record { head = h.0; id = id.0; init = i.0 }, i.1)

-- x, where something was given
abbrev pub where_given : {X B : Type 0} → Option X → B → Option B
where_given None x = None
where_given (Some h) x = Some x

-- a port with a direction
abbrev pub first_port_at : {A : Type 0} → ℕ → Toks A → Read A (PortOf A)
first_port_at n ws = port_at n ws >>= λ p. where_given p.0.head p

-- [ port { "," port } ] ")", where the first port has a direction
abbrev pub ports_at : {A : Type 0} → ℕ → Toks A → Read A (List (PortOf A))
ports_at n ws =
    found_or (after t.ParenClose ws) (first_port_at n ws >>= λ p. more_at (port_at n) n (p.0 ∷ []) p.1 >>= λ ps. after t.ParenClose ps.1
    >>= λ c. Some (ps.0, c.1)) (λ o. Some ([], o.1))

-- { item } "endmodule" behind the items so far; n is the fuel of each
abbrev pub items_at : {A : Type 0} → ℕ → ℕ → List (ItemOf A) → Toks A → Read A (List (ItemOf A))
items_at n zero front ws = None
items_at n (suc left) front ws = found_or (after t.Endmodule ws) (item_at n ws >>= λ i. items_at n left (front ++ i.0 ∷ []) i.1)
    (λ o. Some (front, o.1))

-- [ "parameter" [range] ]
abbrev pub parameter_head_front : {A : Type 0} → ℕ → Toks A → Read A (Option (ParameterHeadOf A))
parameter_head_front n ws = found_or (after t.Parameter ws) (Some (None, ws))
    (λ o. range_front n o.1 >>= λ r. Some (Some (record { range = r.0 }), r.1))

-- [ "parameter" [range] ] id "=" expr
abbrev pub parameter_at : {A : Type 0} → ℕ → Toks A → Read A (ParameterOf A)
parameter_at n ws = parameter_head_front n ws >>= λ h. name_front h.1 >>= λ id. after t.Equals id.1 >>= λ o. expr_at n o.1
    >>= λ e. Some (record { head = h.0; id = id.0; value = e.0 }, e.1)

-- a parameter with the word `parameter`
abbrev pub first_parameter_at : {A : Type 0} → ℕ → Toks A → Read A (ParameterOf A)
first_parameter_at n ws = parameter_at n ws >>= λ p. where_given p.0.head p

-- [ "#" "(" params ")" ], where the first parameter has the word `parameter`
abbrev pub parameters_front : {A : Type 0} → ℕ → Toks A → Read A (List (ParameterOf A))
parameters_front n ws =
    found_or (after t.Hash ws) (Some ([], ws)) (λ h. after t.ParenOpen h.1 >>= λ o. first_parameter_at n o.1
    >>= λ p. more_at (parameter_at n) n (p.0 ∷ []) p.1 >>= λ ps. after t.ParenClose ps.1 >>= λ c. Some (ps.0, c.1))

-- "module" id [ "#" "(" params ")" ] "(" [ port { "," port } ] ")" ";"
abbrev pub header_at : {A : Type 0} → ℕ → Toks A → Read A (List ℕ × List (ParameterOf A) × List (PortOf A))
header_at n ws = after t.Module ws >>= λ m. name_front m.1 >>= λ id. parameters_front n id.1 >>= λ ps. after t.ParenOpen ps.1
    >>= λ o. ports_at n o.1 >>= λ xs. after t.Semicolon xs.1
    >>= λ c. Some ((id.0.name, ps.0, xs.0), c.1)

-- a header, items and "endmodule"
abbrev pub module_at : {A : Type 0} → ℕ → Toks A → Read A (ModuleOf A)
module_at n ws = header_at n ws >>= λ h. items_at n n [] h.1
    >>= λ xs. Some (record { name = h.0.0; parameters = h.0.1; ports = h.0.2; items = xs.0 }, xs.1)

-- { module } behind the modules so far, with no token behind it
abbrev pub modules_at : {A : Type 0} → ℕ → ℕ → List (ModuleOf A) → Toks A → Option (List (ModuleOf A))
modules_at n zero front ws = None
modules_at n (suc left) front [] = Some front
modules_at n (suc left) front (token ∷ rest) = module_at n (token ∷ rest) >>= λ m. modules_at n left (front ++ m.0 ∷ []) m.1

-- module { module }
abbrev pub file_at : {A : Type 0} → ℕ → Toks A → Option (FileOf A)
file_at n ws = module_at n ws >>= λ m. modules_at n n (m.0 ∷ []) m.1 >>= λ ms. Some (record { modules = ms })

-- the file that all the tokens spell
unfoldable pub file_of : {A : Type 0} → Toks A → Option (FileOf A)
file_of ws = file_at (fuel_for (length ws)) ws
