-- Without lines the reader reads the same files, without their lines.
use Rattle.std.proofs.Common.{◌≡◌, ℕ, zero, suc, Option, None, Some, List, [], ◌∷◌, ◌++◌, map, option_map}
use Rattle.std.proofs.Common.{refl, ap, ◌∙◌}
use Rattle.vlog_tree.specs.Lines.{bare}
use Rattle.vlog_tree.specs.declared.module.Direction.{Direction}
use Rattle.vlog_tree.specs.declared.terminal.Terminal.TheVariants as t
use Rattle.vlog_tree.specs.Tree.{PortHeadOf, PortOf, ParameterHeadOf, ParameterOf, ItemOf, ModuleOf}
use Rattle.vlog_item.specs.vlog_expr.Marks.{Toks}
use Rattle.vlog_item.specs.vlog_expr.Bare.{forget, forget_all}
use Rattle.vlog_parse.specs.BareFile.{bare_head, bare_port}
use Rattle.vlog_item.specs.BareItem.{bare_item}
use Rattle.vlog_parse.specs.BareFile.{bare_module, bare_parameter_head, bare_parameter}
use Rattle.vlog_item.specs.vlog_expr.Reader.{◌>>=◌, Read}
use Rattle.vlog_parse.specs.FileReader.{input_at, output_at, direction_front, head_front, port_at}
use Rattle.vlog_parse.specs.FileReader.{where_given, first_port_at, ports_at}
use Rattle.vlog_parse.specs.FileReader.{items_at, parameter_head_front, parameter_at, first_parameter_at, parameters_front, header_at}
use Rattle.vlog_parse.specs.FileReader.{module_at, modules_at}
use Rattle.vlog_item.specs.vlog_expr.Laws.{seen}
use Rattle.vlog_parse.specs.FileLaws.{FileLinesDontCount}
use Rattle.vlog_item.proofs.vlog_expr_lemmas.Natural.{U}
use Rattle.vlog_item.proofs.vlog_stmt_lemmas.Steps.{Same, same, both_step, both_or, same_after, same_expr}
use Rattle.vlog_item.proofs.vlog_stmt_lemmas.ListNatural.{map_snoc, longer, more_same}
use Rattle.vlog_item.proofs.ItemNatural.{init_same, item_same, name_same, ranges_same}

abbrev pub bare_header : {A : Type 0} → List ℕ × List (ParameterOf A) × List (PortOf A) → List ℕ × List (ParameterOf U) × List (PortOf U)
bare_header h = (h.0, map bare_parameter h.1, map bare_port h.2)

abbrev same_direction : Direction → Direction
same_direction d = d

module _ (A : Type 0) where
  -- ports
  input_same : (ws : Toks A) → Same same_direction (input_at (forget_all ws)) (input_at ws)
  input_same ws = both_or _ (same_after A t.Wire ws) (same refl) (λ o. same refl)

  output_same : (ws : Toks A) → Same same_direction (output_at (forget_all ws)) (output_at ws)
  output_same ws = both_or _ (same_after A t.Wire ws) (both_or _ (same_after A t.Reg ws) (same refl) (λ o. same refl)) (λ o. same refl)

  direction_same : (ws : Toks A) → Same same_direction (direction_front (forget_all ws)) (direction_front ws)
  direction_same ws =
      both_or _ (same_after A t.Input ws) (both_step _ (same_after A t.Output ws) (λ o. output_same o.1)) (λ o. input_same o.1)

  head_same : (n : ℕ) (ws : Toks A) → Same (option_map bare_head) (head_front n (forget_all ws)) (head_front n ws)
  head_same n ws = both_or _ (direction_same ws) (same refl) (λ d. both_step _ (ranges_same A n d.1) (λ r. same refl))

  port_same : (n : ℕ) (ws : Toks A) → Same bare_port (port_at n (forget_all ws)) (port_at n ws)
  port_same n ws = both_step _ (head_same n ws) (λ h. both_step _ (name_same A h.1) (λ id. both_step _ (init_same A n id.1) (λ i. same refl)))

  port_given : (h : Option (PortHeadOf A)) (p : PortOf A × Toks A)
      → Same bare_port (where_given (option_map bare_head h) (bare_port p.0, forget_all p.1)) (where_given h p)
  port_given None p = same refl
  port_given (Some h) p = same refl

  first_same : (n : ℕ) (ws : Toks A) → Same bare_port (first_port_at n (forget_all ws)) (first_port_at n ws)
  first_same n ws = both_step _ (port_same n ws) (λ p. port_given p.0.head p)

  ports_same : (n : ℕ) (ws : Toks A) → Same (map bare_port) (ports_at n (forget_all ws)) (ports_at n ws)
  ports_same n ws =
      both_or _ (same_after A t.ParenClose ws)
      (both_step _ (first_same n ws) (λ p.
      both_step _ (more_same A _ _ bare_port (port_at n) (port_at n) (port_same n) n (p.0 ∷ []) p.1) (λ ps.
      both_step _ (same_after A t.ParenClose ps.1) (λ c. same refl))))
      (λ o. same refl)

  items_same : (n left : ℕ) (front : List (ItemOf A)) (ws : Toks A)
      → Same (map bare_item) (items_at n left (map bare_item front) (forget_all ws)) (items_at n left front ws)
  items_same n zero front ws = same refl
  items_same n (suc left) front ws =
      both_or _ (same_after A t.Endmodule ws)
      (both_step _ (item_same A n ws) (λ i. longer (map bare_item) bare_item front i.0 (λ xs. items_at n left xs (forget_all i.1))
      (items_at n left (front ++ i.0 ∷ []) i.1) (items_same n left (front ++ i.0 ∷ []) i.1)))
      (λ o. same refl)

  -- modules
  parameter_head_same : (n : ℕ) (ws : Toks A)
      → Same (option_map bare_parameter_head) (parameter_head_front n (forget_all ws)) (parameter_head_front n ws)
  parameter_head_same n ws = both_or _ (same_after A t.Parameter ws) (same refl) (λ o. both_step _ (ranges_same A n o.1) (λ r. same refl))

  parameter_same : (n : ℕ) (ws : Toks A) → Same bare_parameter (parameter_at n (forget_all ws)) (parameter_at n ws)
  parameter_same n ws =
      both_step _ (parameter_head_same n ws) (λ h.
      both_step _ (name_same A h.1) (λ id.
      both_step _ (same_after A t.Equals id.1) (λ o.
      both_step _ (same_expr A n o.1) (λ e. same refl))))

  parameter_given : (h : Option (ParameterHeadOf A)) (p : ParameterOf A × Toks A)
      → Same bare_parameter (where_given (option_map bare_parameter_head h) (bare_parameter p.0, forget_all p.1)) (where_given h p)
  parameter_given None p = same refl
  parameter_given (Some h) p = same refl

  first_parameter_same : (n : ℕ) (ws : Toks A) → Same bare_parameter (first_parameter_at n (forget_all ws)) (first_parameter_at n ws)
  first_parameter_same n ws = both_step _ (parameter_same n ws) (λ p. parameter_given p.0.head p)

  parameters_same : (n : ℕ) (ws : Toks A) → Same (map bare_parameter) (parameters_front n (forget_all ws)) (parameters_front n ws)
  parameters_same n ws =
      both_or _ (same_after A t.Hash ws) (same refl)
      (λ h.
      both_step _ (same_after A t.ParenOpen h.1) (λ o.
      both_step _ (first_parameter_same n o.1) (λ p.
      both_step _ (more_same A _ _ bare_parameter (parameter_at n) (parameter_at n) (parameter_same n) n (p.0 ∷ []) p.1) (λ ps.
      both_step _ (same_after A t.ParenClose ps.1) (λ c. same refl)))))

  pub header_same : (n : ℕ) (ws : Toks A) → Same bare_header (header_at n (forget_all ws)) (header_at n ws)
  header_same n ws =
      both_step _ (same_after A t.Module ws) (λ m.
      both_step _ (name_same A m.1) (λ id.
      both_step _ (parameters_same n id.1) (λ qs.
      both_step _ (same_after A t.ParenOpen qs.1) (λ o.
      both_step _ (ports_same n o.1) (λ ps.
      both_step _ (same_after A t.Semicolon ps.1) (λ c. same refl))))))

  module_same : (n : ℕ) (ws : Toks A) → Same bare_module (module_at n (forget_all ws)) (module_at n ws)
  module_same n ws = both_step _ (header_same n ws) (λ h. both_step _ (items_same n n [] h.1) (λ xs. same refl))

  -- files
  over_last : {X Y P Q : Type 0} (g : X → P) (h : Y → Q) (o : Read A X) (p : Read U P) (k : X × Toks A → Option Y)
      (l : P × Toks U → Option Q)
      → p ≡ seen g o → ((x : X × Toks A) → l (g x.0, forget_all x.1) ≡ option_map h (k x)) → (p >>= l) ≡ option_map h (o >>= k)
  over_last {P = P} g h None p k l e c = ap (λ (p : Read U P). p >>= l) e
  over_last {P = P} g h (Some x) p k l e c = ap (λ (p : Read U P). p >>= l) e ∙ c x

  modules_natural : (n left : ℕ) (front : List (ModuleOf A)) (ws : Toks A) → modules_at n left (map bare_module front) (forget_all ws)
      ≡ option_map (map bare_module) (modules_at n left front ws)
  modules_natural n zero front ws = refl
  modules_natural n (suc left) front [] = refl
  modules_natural n (suc left) front (token ∷ rest) =
      over_last bare_module (map bare_module) (module_at n (token ∷ rest)) (module_at n (forget token ∷ forget_all rest))
      (λ m. modules_at n left (front ++ m.0 ∷ []) m.1) (λ m. modules_at n left (map bare_module front ++ m.0 ∷ []) m.1)
      (module_same n (token ∷ rest)).is
      (λ m. ap (λ (ms : List (ModuleOf U)). modules_at n left ms (forget_all m.1)) (map_snoc bare_module front m.0)
      ∙ modules_natural n left (front ++ m.0 ∷ []) m.1)

  file_over : (o : Option (List (ModuleOf A))) (p : Option (List (ModuleOf U))) → p ≡ option_map (map bare_module) o
      → (p >>= λ ms. Some (record { modules = ms })) ≡ option_map bare (o >>= λ ms. Some (record { modules = ms }))
  file_over None p e = ap (λ (p : Option (List (ModuleOf U))). p >>= λ ms. Some (record { modules = ms })) e
  file_over (Some ms) p e = ap (λ (p : Option (List (ModuleOf U))). p >>= λ ms. Some (record { modules = ms })) e

  pub file_natural : FileLinesDontCount A
  file_natural n ws =
      over_last bare_module bare (module_at n ws) (module_at n (forget_all ws))
      (λ m. modules_at n n (m.0 ∷ []) m.1 >>= λ ms. Some (record { modules = ms }))
      (λ m. modules_at n n (m.0 ∷ []) m.1 >>= λ ms. Some (record { modules = ms }))
      (module_same n ws).is
      (λ m. file_over (modules_at n n (m.0 ∷ []) m.1) (modules_at n n (bare_module m.0 ∷ []) (forget_all m.1))
      (modules_natural n n (m.0 ∷ []) m.1))
