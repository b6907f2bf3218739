-- What is read is of good shape and spelled so: modules and files.
use Rattle.std.proofs.Common.{◌≡◌, ◌≢◌, if◌then◌else◌, ℕ, zero, suc, Option, None, Some, List, [], ◌∷◌, ◌++◌, refl, sym, ap, ◌∙◌}
use Rattle.std.proofs.Common.{append_assoc}
use Rattle.std.specs.List.{AllByRecursion}
use Rattle.vlog_item.specs.vlog_lex.declared.token.TokenKind.{TokenKind}
use Rattle.vlog_item.specs.vlog_lex.declared.token.TokenKind.TheVariants.{Identifier, Reserved, Decimal, Based, Other}
use Rattle.vlog_tree.specs.declared.module.Direction.{Direction}
use Rattle.vlog_tree.specs.declared.terminal.Terminal.TheVariants as t
use Rattle.vlog_tree.specs.Words.{WordOf, NameWord, Fixed}
use Rattle.vlog_tree.specs.Tree.{IdentOf, PortHeadOf, PortOf, ItemOf, ModuleOf, FileOf}
use Rattle.vlog_tree.specs.Spelling.{with_commas, in_row, optional, direction_words, head_words}
use Rattle.vlog_tree.specs.Spelling.{port_words, item_words, module_words}
use Rattle.vlog_tree.specs.Spelling.{file_words}
use Rattle.vlog_tree.specs.Shape.{IsGoodName, IsGoodOption, IsGoodHead, IsGoodPort, IsFirstDirected}
use Rattle.vlog_tree.specs.Shape.{AreSomeGood, IsGoodItem, IsGoodModule, IsGood}
use Rattle.vlog_item.specs.vlog_expr.Marks.{Toks, AreWords, IsLawfulText, AreLawful, is_name, name_front}
use Rattle.vlog_parse.specs.FileReader.{input_at, output_at, direction_front, head_front, port_at}
use Rattle.vlog_parse.specs.FileReader.{first_port_at, ports_at}
use Rattle.vlog_parse.specs.FileReader.{items_at, header_at, module_at, modules_at}
use Rattle.vlog_parse.specs.FileReader.{file_at}
use Rattle.vlog_parse.specs.FileLaws.{ReadFilesAreSpelled}
use Rattle.vlog_item.proofs.vlog_expr_lemmas.Found.{From, again}
use Rattle.vlog_item.proofs.vlog_stmt_lemmas.Sure.{Sure, nothing, sure, next, either, ◌▹◌, some_none, start, after_found}
use Rattle.vlog_item.proofs.vlog_stmt_lemmas.Sure.{expr_found}
use Rattle.vlog_item.proofs.vlog_stmt_lemmas.ListFound.{AreLed, all_snoc, some_snoc, row_snoc, alone, At, more_found}
use Rattle.vlog_tree.specs.Tree.{ParameterHeadOf, ParameterOf}
use Rattle.vlog_tree.specs.Spelling.{parameter_head_words, parameter_words, hash_words}
use Rattle.vlog_tree.specs.Shape.{IsGoodParameterHead, IsGoodParameter, IsFirstHeaded}
use Rattle.vlog_parse.specs.FileReader.{parameter_head_front, parameter_at}
use Rattle.vlog_parse.specs.FileReader.{first_parameter_at, parameters_front, where_given}
use Rattle.vlog_item.proofs.ItemFound.{init_found, item_found, name_found, ranges_found}

module _ (A : Type 0) where
  abbrev AtDirection : Toks A → Direction × Toks A → Type 0
  AtDirection w x = From A w (direction_words x.0) x.1

  input_found : (w ws : Toks A) → From A w (Fixed t.Input ∷ []) ws → Sure (input_at ws) (AtDirection w)
  input_found w ws f = either (after_found A t.Wire ws f.lawful) (sure _ f) (λ o fo. sure _ (f ▹ fo))

  output_found : (w ws : Toks A) → From A w (Fixed t.Output ∷ []) ws → Sure (output_at ws) (AtDirection w)
  output_found w ws f =
      either (after_found A t.Wire ws f.lawful) (either (after_found A t.Reg ws f.lawful) (sure _ f) (λ o fo. sure _ (f ▹ fo)))
      (λ o fo. sure _ (f ▹ fo))

  direction_found : (ws : Toks A) → AreLawful ws → Sure (direction_front ws) (AtDirection ws)
  direction_found ws h = either (after_found A t.Input ws h) (next (after_found A t.Output ws h) (λ o f. output_found ws o.1 f))
      (λ o f. input_found ws o.1 f)

  head_found : (n : ℕ) (ws : Toks A) → AreLawful ws → Sure (head_front n ws) (At (IsGoodOption IsGoodHead) (optional head_words) ws)
  head_found n ws h = either (direction_found ws h) (sure _ (tt, start A ws h))
      (λ d f. next (ranges_found A n d.1 f.lawful) (λ r g. sure _ (g.0, f ▹ g.1)))

  port_found : (n : ℕ) (ws : Toks A) → AreLawful ws → Sure (port_at n ws) (At IsGoodPort port_words ws)
  port_found n ws h =
      next (head_found n ws h) (λ x gx.
      next (name_found A x.1 gx.1.lawful) (λ id gi.
      next (init_found A n id.1 gi.1.lawful) (λ e ge. sure _ ((gx.0, gi.0, ge.0), gx.1 ▹ gi.1 ▹ ge.1))))

  abbrev IsDirected : PortOf A → Type 0
  IsDirected p = IsGoodPort p × (p.head ≢ None)

  directed_found : (ws : Toks A) (p : PortOf A × Toks A) (o : Option (PortHeadOf A)) → p.0.head ≡ o → At IsGoodPort port_words ws p
      → Sure (where_given o p) (At IsDirected port_words ws)
  directed_found ws p None e g = nothing
  directed_found ws p (Some x) e g = sure p ((g.0, (λ none. some_none x (sym e ∙ none))), g.1)

  first_found : (n : ℕ) (ws : Toks A) → AreLawful ws → Sure (first_port_at n ws) (At IsDirected port_words ws)
  first_found n ws h = next (port_found n ws h) (λ p g. directed_found ws p p.0.head refl g)

  abbrev pub ArePorts : List (PortOf A) → Type 0
  ArePorts ps = IsFirstDirected ps × AllByRecursion IsGoodPort ps

  led_ports : (ps : List (PortOf A)) → AreLed IsDirected IsGoodPort ps → ArePorts ps
  led_ports [] g = absurd g
  led_ports (p ∷ ps) g = (g.0.1, (g.0.0, g.1))

  -- behind "(": the ports and ")"
  abbrev AtPorts : Toks A → List (PortOf A) × Toks A → Type 0
  AtPorts w x = ArePorts x.0 × From A w (with_commas port_words x.0 ++ Fixed t.ParenClose ∷ []) x.1

  ports_found : (n : ℕ) (ws : Toks A) → AreLawful ws → Sure (ports_at n ws) (AtPorts ws)
  ports_found n ws h =
      either (after_found A t.ParenClose ws h)
      (next (first_found n ws h) (λ p g.
      next (more_found A (PortOf A) (port_at n) IsDirected IsGoodPort port_words (port_found n) n ws p.1 (p.0 ∷ []) ((g.0, tt), alone g.1))
      (λ ps gs.
      next (after_found A t.ParenClose ps.1 gs.1.lawful) (λ c fc. sure _ (led_ports ps.0 gs.0, gs.1 ▹ fc)))))
      (λ o f. sure _ ((tt, tt), f))

  -- items and "endmodule"
  abbrev AtItems : Toks A → List (ItemOf A) × Toks A → Type 0
  AtItems w x = AllByRecursion IsGoodItem x.0 × From A w (in_row item_words x.0 ++ Fixed t.Endmodule ∷ []) x.1

  items_found : (n left : ℕ) (w ws : Toks A) (xs : List (ItemOf A)) → At (AllByRecursion IsGoodItem) (in_row item_words) w (xs, ws)
      → Sure (items_at n left xs ws) (AtItems w)
  items_found n zero w ws xs g = nothing
  items_found n (suc left) w ws xs g =
      either (after_found A t.Endmodule ws g.1.lawful)
      (next (item_found A n ws g.1.lawful) (λ x gx. items_found n left w x.1 (xs ++ x.0 ∷ []) (
        all_snoc IsGoodItem xs x.0 g.0 gx.0,
        again A w x.1 (in_row item_words xs ++ item_words x.0) (in_row item_words (xs ++ x.0 ∷ [])) (row_snoc item_words xs x.0)
            (g.1 ▹ gx.1),
      )))
      (λ o f. sure _ (g.0, g.1 ▹ f))

  parameter_head_found : (n : ℕ) (ws : Toks A) → AreLawful ws
      → Sure (parameter_head_front n ws) (At (IsGoodOption IsGoodParameterHead) (optional parameter_head_words) ws)
  parameter_head_found n ws h = either (after_found A t.Parameter ws h) (sure _ (tt, start A ws h))
      (λ o f. next (ranges_found A n o.1 f.lawful) (λ r g. sure _ (g.0, f ▹ g.1)))

  parameter_found : (n : ℕ) (ws : Toks A) → AreLawful ws → Sure (parameter_at n ws) (At IsGoodParameter parameter_words ws)
  parameter_found n ws h =
      next (parameter_head_found n ws h) (λ x gx.
      next (name_found A x.1 gx.1.lawful) (λ id gi.
      next (after_found A t.Equals id.1 gi.1.lawful) (λ o fo.
      next (expr_found A n o.1 fo.lawful) (λ e ge. sure _ ((gx.0, gi.0, ge.0), gx.1 ▹ gi.1 ▹ fo ▹ ge.1)))))

  abbrev IsHeaded : ParameterOf A → Type 0
  IsHeaded p = IsGoodParameter p × (p.head ≢ None)

  headed_found : (ws : Toks A) (p : ParameterOf A × Toks A) (o : Option (ParameterHeadOf A)) → p.0.head ≡ o
      → At IsGoodParameter parameter_words ws p
      → Sure (where_given o p) (At IsHeaded parameter_words ws)
  headed_found ws p None e g = nothing
  headed_found ws p (Some x) e g = sure p ((g.0, (λ none. some_none x (sym e ∙ none))), g.1)

  first_parameter_found : (n : ℕ) (ws : Toks A) → AreLawful ws → Sure (first_parameter_at n ws) (At IsHeaded parameter_words ws)
  first_parameter_found n ws h = next (parameter_found n ws h) (λ p g. headed_found ws p p.0.head refl g)

  abbrev pub AreParameters : List (ParameterOf A) → Type 0
  AreParameters ps = IsFirstHeaded ps × AllByRecursion IsGoodParameter ps

  led_parameters : (ps : List (ParameterOf A)) → AreLed IsHeaded IsGoodParameter ps → AreParameters ps
  led_parameters [] g = absurd g
  led_parameters (p ∷ ps) g = (g.0.1, (g.0.0, g.1))

  some_parameters : (ps : List (ParameterOf A)) → AreLed IsHeaded IsGoodParameter ps
      → Fixed t.Hash ∷ Fixed t.ParenOpen ∷ (with_commas parameter_words ps ++ Fixed t.ParenClose ∷ []) ≡ hash_words parameter_words ps
  some_parameters [] g = absurd g
  some_parameters (p ∷ ps) g = refl

  parameters_found : (n : ℕ) (ws : Toks A) → AreLawful ws → Sure (parameters_front n ws) (At AreParameters (hash_words parameter_words) ws)
  parameters_found n ws h =
      either (after_found A t.Hash ws h) (sure _ ((tt, tt), start A ws h))
      (λ o fo.
      next (after_found A t.ParenOpen o.1 fo.lawful) (λ q fq.
      next (first_parameter_found n q.1 fq.lawful) (λ p g.
      next (more_found A (ParameterOf A) (parameter_at n) IsHeaded IsGoodParameter parameter_words (parameter_found n) n q.1 p.1 (p.0 ∷ [])
      ((g.0, tt), alone g.1)) (λ ps gs.
      next (after_found A t.ParenClose ps.1 gs.1.lawful) (λ c fc.
      sure _ (led_parameters ps.0 gs.0, again A ws c.1 _ _ (some_parameters ps.0 gs.0) (fo ▹ fq ▹ gs.1 ▹ fc)))))))

  -- a header, whose words end in ")" and ";"
  abbrev pub AtHeader : Toks A → (List ℕ × List (ParameterOf A) × List (PortOf A)) × Toks A → Type 0
  AtHeader w x = IsGoodName x.0.0 × AreParameters x.0.1 × ArePorts x.0.2
      × From A w (Fixed t.Module ∷ NameWord x.0.0 ∷ (hash_words parameter_words x.0.1 ++ Fixed t.ParenOpen ∷
      ((with_commas port_words x.0.2 ++ Fixed t.ParenClose ∷ []) ++ Fixed t.Semicolon ∷ []))) x.1

  unlined : (kind : TokenKind) (text : List ℕ) (line : A) (rest : Toks A) → IsLawfulText kind text → AreLawful rest
      → Sure {X = IdentOf A × Toks A} (if is_name kind then Some (record { name = text; line = line }, rest) else None)
      (λ id. IsGoodName id.0.name × From A (record { kind = kind; text = text; line = line } ∷ rest) (NameWord id.0.name ∷ []) id.1)
  unlined Identifier text line rest g h = sure _ (g, record { spells = (refl, refl); lawful = h })
  unlined Reserved text line rest g h = nothing
  unlined Decimal text line rest g h = nothing
  unlined Based text line rest g h = nothing
  unlined Other text line rest g h = nothing

  -- a name, whose line isn't kept
  module_name_found : (ws : Toks A) → AreLawful ws
      → Sure (name_front ws) (λ id. IsGoodName id.0.name × From A ws (NameWord id.0.name ∷ []) id.1)
  module_name_found [] h = nothing
  module_name_found (token ∷ rest) h = unlined token.kind token.text token.line rest h.0 h.1

  pub header_found : (n : ℕ) (ws : Toks A) → AreLawful ws → Sure (header_at n ws) (AtHeader ws)
  header_found n ws h =
      next (after_found A t.Module ws h) (λ m fm.
      next (module_name_found m.1 fm.lawful) (λ id gi.
      next (parameters_found n id.1 gi.1.lawful) (λ qs gq.
      next (after_found A t.ParenOpen qs.1 gq.1.lawful) (λ o fo.
      next (ports_found n o.1 fo.lawful) (λ ps gs.
      next (after_found A t.Semicolon ps.1 gs.1.lawful) (λ c fc. sure _ (gi.0, gq.0, gs.0, fm ▹ gi.1 ▹ gq.1 ▹ fo ▹ gs.1 ▹ fc)))))))

  pub header_words : (name : List ℕ) (hash ports rest : List (WordOf A))
      → (Fixed t.Module ∷ NameWord name ∷ (hash ++ Fixed t.ParenOpen
      ∷ ((ports ++ Fixed t.ParenClose ∷ []) ++ Fixed t.Semicolon ∷ []))) ++ rest
      ≡ Fixed t.Module ∷ NameWord name ∷ (hash ++ Fixed t.ParenOpen ∷ (ports ++ Fixed t.ParenClose ∷ Fixed t.Semicolon ∷ rest))
  header_words name hash ports rest = ap (λ (ws : List (WordOf A)). Fixed t.Module ∷ NameWord name ∷ ws)
      (append_assoc hash (Fixed t.ParenOpen ∷ ((ports ++ Fixed t.ParenClose ∷ []) ++ Fixed t.Semicolon ∷ [])) rest
      ∙ ap (λ (ws : List (WordOf A)). hash ++ Fixed t.ParenOpen ∷ ws)
      (append_assoc (ports ++ Fixed t.ParenClose ∷ []) (Fixed t.Semicolon ∷ []) rest
      ∙ append_assoc ports (Fixed t.ParenClose ∷ []) (Fixed t.Semicolon ∷ rest)))

  module_found : (n : ℕ) (ws : Toks A) → AreLawful ws → Sure (module_at n ws) (At IsGoodModule module_words ws)
  module_found n ws h =
      next (header_found n ws h) (λ x gx.
      next (items_found n n x.1 x.1 [] (tt, start A x.1 gx.3.lawful)) (λ xs gs. sure _ (
        (gx.0, gx.1.0, gx.1.1, gx.2.0, gx.2.1, gs.0),
        again A ws xs.1 _ _ (header_words x.0.0 (hash_words parameter_words x.0.1) (with_commas port_words x.0.2)
            (in_row item_words xs.0 ++ Fixed t.Endmodule ∷ []))
            (gx.3 ▹ gs.1),
      )))

  -- all modules, and no token behind them
  abbrev AreModules : Toks A → List (ModuleOf A) → Type 0
  AreModules w ms = AreSomeGood IsGoodModule ms × AreWords (in_row module_words ms) w []

  modules_found : (n left : ℕ) (w ws : Toks A) (ms : List (ModuleOf A)) → At (AreSomeGood IsGoodModule) (in_row module_words) w (ms, ws)
      → Sure (modules_at n left ms ws) (AreModules w)
  modules_found n zero w ws ms g = nothing
  modules_found n (suc left) w [] ms g = sure ms (g.0, g.1.spells)
  modules_found n (suc left) w (token ∷ rest) ms g =
      next (module_found n (token ∷ rest) g.1.lawful) (λ m gm. modules_found n left w m.1 (ms ++ m.0 ∷ []) (
        some_snoc IsGoodModule ms m.0 g.0 gm.0,
        again A w m.1 (in_row module_words ms ++ module_words m.0) (in_row module_words (ms ++ m.0 ∷ [])) (row_snoc module_words ms m.0)
            (g.1 ▹ gm.1),
      ))

  file_found : (n : ℕ) (ws : Toks A) → AreLawful ws → Sure (file_at n ws)
      (λ (f : FileOf A). IsGood f × AreWords (file_words f) ws [])
  file_found n ws h =
      next (module_found n ws h) (λ m g.
      next (modules_found n n ws m.1 (m.0 ∷ []) ((g.0, tt), alone g.1)) (λ ms gs. sure _ gs))

pub file_spelled : (A : Type 0) → ReadFilesAreSpelled A
file_spelled A n ws h = (file_found A n ws h).holds
