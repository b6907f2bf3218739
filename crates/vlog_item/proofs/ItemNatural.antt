-- Without lines the reader reads the same items, without their lines.
use Rattle.std.proofs.Common.{◌≡◌, if◌then◌else◌, ℕ, Bool, true, false, Option, None, Some, [], ◌∷◌, map, option_map}
use Rattle.std.proofs.Common.{refl}
use Rattle.vlog_tree.specs.declared.terminal.Terminal.TheVariants as t
use Rattle.vlog_tree.specs.Tree.{IdentOf, RangeOf}
use Rattle.vlog_stmt.specs.vlog_expr.Marks.{Toks, is_name, name_front}
use Rattle.vlog_stmt.specs.vlog_expr.Bare.{forget_all, bare_ident, bare_expr}
use Rattle.vlog_item.specs.BareItem.{bare_range, bare_named, bare_tail, bare_reg, bare_assign, bare_event, bare_item}
use Rattle.vlog_item.specs.BareItem.{bare_conn}
use Rattle.vlog_item.specs.ItemReader.{range_at, range_front, init_front}
use Rattle.vlog_item.specs.ItemReader.{named_at, tail_front, reg_at, assign_at, names_at, driven_at}
use Rattle.vlog_item.specs.ItemReader.{wires_at, regs_at, localparams_at, assigns_at, paren_event_at, event_at, always_at, value_at}
use Rattle.vlog_item.specs.ItemReader.{conn_at, parameter_conns_front, conns_at, instance_at, named_item_at, other_item_at, item_at}
use Rattle.vlog_stmt.specs.vlog_expr.Laws.{seen}
use Rattle.vlog_item.specs.Laws.{ItemLinesDontCount}
use Rattle.vlog_stmt.proofs.Steps.{Same, same, both_step, both_or, same_after, same_expr}
use Rattle.vlog_stmt.proofs.ListNatural.{more_same, some_same}
use Rattle.vlog_stmt.proofs.StmtNatural.{same_target, same_body}

module _ (A : Type 0) where
  name_over : (b : Bool) (id : IdentOf A) (rest : Toks A) → (if b then Some (bare_ident id, forget_all rest) else None)
      ≡ seen bare_ident (if b then Some (id, rest) else None)
  name_over true id rest = refl
  name_over false id rest = refl

  pub name_same : (ws : Toks A) → Same bare_ident (name_front (forget_all ws)) (name_front ws)
  name_same [] = same refl
  name_same (token ∷ rest) = same (name_over (is_name token.kind) (record { name = token.text; line = token.line }) rest)

  -- ranges, and what follows `=`
  range_same : (n : ℕ) (ws : Toks A) → Same bare_range (range_at n (forget_all ws)) (range_at n ws)
  range_same n ws =
      both_step _ (same_expr A n ws) (λ a.
      both_step _ (same_after A t.Colon a.1) (λ o.
      both_step _ (same_expr A n o.1) (λ b.
      both_step _ (same_after A t.BracketClose b.1) (λ c. same refl))))

  pub ranges_same : (n : ℕ) (ws : Toks A) → Same (option_map bare_range) (range_front n (forget_all ws)) (range_front n ws)
  ranges_same n ws = both_or _ (same_after A t.BracketOpen ws) (same refl) (λ o. both_step _ (range_same n o.1) (λ r. same refl))

  pub init_same : (n : ℕ) (ws : Toks A) → Same (option_map bare_expr) (init_front n (forget_all ws)) (init_front n ws)
  init_same n ws = both_or _ (same_after A t.Equals ws) (same refl) (λ o. both_step _ (same_expr A n o.1) (λ e. same refl))

  -- the elements of items
  named_same : (n : ℕ) (ws : Toks A) → Same bare_named (named_at n (forget_all ws)) (named_at n ws)
  named_same n ws =
      both_step _ (name_same ws) (λ id.
      both_step _ (same_after A t.Equals id.1) (λ o.
      both_step _ (same_expr A n o.1) (λ e. same refl)))

  tail_same : (n : ℕ) (ws : Toks A) → Same (option_map bare_tail) (tail_front n (forget_all ws)) (tail_front n ws)
  tail_same n ws =
      both_or _ (same_after A t.Equals ws)
      (both_or _ (same_after A t.BracketOpen ws) (same refl) (λ o. both_step _ (range_same n o.1) (λ r. same refl)))
      (λ o. both_step _ (same_expr A n o.1) (λ e. same refl))

  reg_same : (n : ℕ) (ws : Toks A) → Same bare_reg (reg_at n (forget_all ws)) (reg_at n ws)
  reg_same n ws = both_step _ (name_same ws) (λ id. both_step _ (tail_same n id.1) (λ x. same refl))

  assign_same : (n : ℕ) (ws : Toks A) → Same bare_assign (assign_at n (forget_all ws)) (assign_at n ws)
  assign_same n ws =
      both_step _ (same_target A n ws) (λ x.
      both_step _ (same_after A t.Equals x.1) (λ o.
      both_step _ (same_expr A n o.1) (λ e. same refl)))

  -- items
  names_same : (n : ℕ) (range : Option (RangeOf A)) (id : IdentOf A) (ws : Toks A)
      → Same bare_item (names_at n (option_map bare_range range) (bare_ident id) (forget_all ws)) (names_at n range id ws)
  names_same n range id ws =
      both_step _ (more_same A _ _ bare_ident name_front name_front name_same n (id ∷ []) ws) (λ ids.
      both_step _ (same_after A t.Semicolon ids.1) (λ c. same refl))

  driven_same : (n : ℕ) (range : Option (RangeOf A)) (id : IdentOf A) (ws : Toks A)
      → Same bare_item (driven_at n (option_map bare_range range) (bare_ident id) (forget_all ws)) (driven_at n range id ws)
  driven_same n range id ws =
      both_step _ (same_expr A n ws) (λ e.
      both_step _ (more_same A _ _ bare_named (named_at n) (named_at n) (named_same n) n (record { id = id; value = e.0 } ∷ []) e.1) (λ xs.
      both_step _ (same_after A t.Semicolon xs.1) (λ c. same refl)))

  wires_same : (n : ℕ) (ws : Toks A) → Same bare_item (wires_at n (forget_all ws)) (wires_at n ws)
  wires_same n ws =
      both_step _ (ranges_same n ws) (λ r.
      both_step _ (name_same r.1) (λ id.
      both_or _ (same_after A t.Equals id.1) (names_same n r.0 id.0 id.1) (λ o. driven_same n r.0 id.0 o.1)))

  regs_same : (n : ℕ) (ws : Toks A) → Same bare_item (regs_at n (forget_all ws)) (regs_at n ws)
  regs_same n ws =
      both_step _ (ranges_same n ws) (λ r.
      both_step _ (some_same A _ _ bare_reg (reg_at n) (reg_at n) (reg_same n) n r.1) (λ xs.
      both_step _ (same_after A t.Semicolon xs.1) (λ c. same refl)))

  localparams_same : (n : ℕ) (ws : Toks A) → Same bare_item (localparams_at n (forget_all ws)) (localparams_at n ws)
  localparams_same n ws =
      both_step _ (ranges_same n ws) (λ r.
      both_step _ (some_same A _ _ bare_named (named_at n) (named_at n) (named_same n) n r.1) (λ xs.
      both_step _ (same_after A t.Semicolon xs.1) (λ c. same refl)))

  assigns_same : (n : ℕ) (ws : Toks A) → Same bare_item (assigns_at n (forget_all ws)) (assigns_at n ws)
  assigns_same n ws =
      both_step _ (some_same A _ _ bare_assign (assign_at n) (assign_at n) (assign_same n) n ws) (λ xs.
      both_step _ (same_after A t.Semicolon xs.1) (λ c. same refl))

  paren_event_same : (ws : Toks A) → Same bare_event (paren_event_at (forget_all ws)) (paren_event_at ws)
  paren_event_same ws =
      both_or _ (same_after A t.Star ws)
      (both_step _ (same_after A t.Posedge ws) (λ p.
      both_step _ (name_same p.1) (λ id.
      both_step _ (same_after A t.ParenClose id.1) (λ c. same refl))))
      (λ s. both_step _ (same_after A t.ParenClose s.1) (λ c. same refl))

  event_same : (ws : Toks A) → Same bare_event (event_at (forget_all ws)) (event_at ws)
  event_same ws =
      both_step _ (same_after A t.At ws) (λ a.
      both_or _ (same_after A t.Star a.1) (both_step _ (same_after A t.ParenOpen a.1) (λ o. paren_event_same o.1)) (λ s. same refl))

  always_same : (n : ℕ) (line : A) (ws : Toks A) → Same bare_item (always_at n tt (forget_all ws)) (always_at n line ws)
  always_same n line ws = both_step _ (event_same ws) (λ v. both_step _ (same_body A n v.1) (λ b. same refl))

  value_same : (n : ℕ) (ws : Toks A) → Same (option_map bare_expr) (value_at n (forget_all ws)) (value_at n ws)
  value_same n ws =
      both_or _ (same_after A t.ParenClose ws)
      (both_step _ (same_expr A n ws) (λ e. both_step _ (same_after A t.ParenClose e.1) (λ c. same refl)))
      (λ o. same refl)

  conn_same : (n : ℕ) (ws : Toks A) → Same bare_conn (conn_at n (forget_all ws)) (conn_at n ws)
  conn_same n ws =
      both_step _ (same_after A t.Dot ws) (λ d.
      both_step _ (name_same d.1) (λ id.
      both_step _ (same_after A t.ParenOpen id.1) (λ o.
      both_step _ (value_same n o.1) (λ v. same refl))))

  parameter_conns_same : (n : ℕ) (ws : Toks A) → Same (map bare_conn) (parameter_conns_front n (forget_all ws)) (parameter_conns_front n ws)
  parameter_conns_same n ws =
      both_or _ (same_after A t.Hash ws) (same refl)
      (λ h.
      both_step _ (same_after A t.ParenOpen h.1) (λ o.
      both_step _ (some_same A _ _ bare_conn (conn_at n) (conn_at n) (conn_same n) n o.1) (λ cs.
      both_step _ (same_after A t.ParenClose cs.1) (λ c. same refl))))

  conns_same : (n : ℕ) (ws : Toks A) → Same (map bare_conn) (conns_at n (forget_all ws)) (conns_at n ws)
  conns_same n ws =
      both_or _ (same_after A t.ParenClose ws)
      (both_step _ (some_same A _ _ bare_conn (conn_at n) (conn_at n) (conn_same n) n ws) (λ cs.
      both_step _ (same_after A t.ParenClose cs.1) (λ c. same refl)))
      (λ o. same refl)

  instance_same : (n : ℕ) (m : IdentOf A) (ws : Toks A)
      → Same bare_item (instance_at n (bare_ident m) (forget_all ws)) (instance_at n m ws)
  instance_same n m ws =
      both_step _ (parameter_conns_same n ws) (λ ps.
      both_step _ (name_same ps.1) (λ id.
      both_step _ (same_after A t.ParenOpen id.1) (λ o.
      both_step _ (conns_same n o.1) (λ cs.
      both_step _ (same_after A t.Semicolon cs.1) (λ c. same refl)))))

  named_item_same : (n : ℕ) (ws : Toks A) → Same bare_item (named_item_at n (forget_all ws)) (named_item_at n ws)
  named_item_same n ws = both_step _ (name_same ws) (λ id. instance_same n id.0 id.1)

  other_item_same : (n : ℕ) (ws : Toks A) → Same bare_item (other_item_at n (forget_all ws)) (other_item_at n ws)
  other_item_same n ws =
      both_or _ (same_after A t.Localparam ws)
      (both_or _ (same_after A t.Assign ws)
      (both_or _ (same_after A t.Always ws) (named_item_same n ws) (λ o. always_same n o.0 o.1))
      (λ o. assigns_same n o.1))
      (λ o. localparams_same n o.1)

  pub item_same : (n : ℕ) (ws : Toks A) → Same bare_item (item_at n (forget_all ws)) (item_at n ws)
  item_same n ws =
      both_or _ (same_after A t.Wire ws)
      (both_or _ (same_after A t.Reg ws) (other_item_same n ws) (λ o. regs_same n o.1))
      (λ o. wires_same n o.1)

  pub item_natural : ItemLinesDontCount A
  item_natural n ws = (item_same n ws).is
