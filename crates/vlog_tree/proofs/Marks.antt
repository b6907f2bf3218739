-- With something else in the place of its lines, a tree has the same words, with that in the place of theirs.
use Rattle.std.proofs.Common.{◌≡◌, true, false, Bool, List, [], ◌∷◌, ◌++◌, Option, None, Some, ap, refl, sym, ◌∙◌, map, option_map}
use Rattle.std.proofs.lemmas.List.{map-append}
use Rattle.vlog_tree.specs.declared.terminal.Terminal.{Terminal}
use Rattle.vlog_tree.specs.declared.terminal.Terminal.TheVariants as t
use Rattle.vlog_tree.specs.declared.module.Direction.{Direction}
use Rattle.vlog_tree.specs.declared.module.Direction.TheVariants as direction
use Rattle.vlog_tree.specs.declared.module.NetKind.TheVariants as kind
use Rattle.vlog_tree.specs.Words.{WordOf, NameWord, Fixed, NameAt, NumberAt, FixedAt, token_of, tokens_of, map_word}
use Rattle.vlog_tree.specs.Tree.{SignOf, ExprOf, UnaryExpr, BinaryExpr, ChoiceExpr, PrimOf, NumberPrim, RefPrim, ParenPrim, ConcatPrim}
use Rattle.vlog_tree.specs.Tree.{RepeatPrim}
use Rattle.vlog_tree.specs.Tree.{RefOf, RefWith, IndexOf, NoIndex, Index, LastOf, NoLast, Last, SelOf, IndexSel, PartSel, IndexedSel}
use Rattle.vlog_tree.specs.Tree.{ExprsOf, NoExprs, MoreExprs, TargetOf, RefTarget, ConcatTarget, TargetsOf, NoTargets, MoreTargets}
use Rattle.vlog_tree.specs.Tree.{StmtOf}
use Rattle.vlog_tree.specs.Tree.{BeginStmt, IfStmt, AssignStmt, BodyOf, StmtBody, EmptyBody, ElseOf, NoElse, Else, StmtsOf, NoStmts}
use Rattle.vlog_tree.specs.Tree.{MoreStmts, RangeOf, PortHeadOf, PortOf, NamedValueOf, RegTailOf, InitTail, Reg1Of, AssignOf, EventOf}
use Rattle.vlog_tree.specs.Tree.{PosedgeEvent, AlwaysOf, ItemOf, WiresItem, DrivenWiresItem, RegsItem, AssignItem, AlwaysItem, ModuleOf}
use Rattle.vlog_tree.specs.Tree.{FileOf}
use Rattle.vlog_tree.specs.Spelling.{binary_terminal, assign_terminal, sign_words, expr_words, prim_words, ref_words, index_words}
use Rattle.vlog_tree.specs.Spelling.{last_words, sel_words, exprs_words}
use Rattle.vlog_tree.specs.Spelling.{more_exprs_words, target_words, targets_words, more_targets_words, stmt_words, body_words}
use Rattle.vlog_tree.specs.Spelling.{else_words}
use Rattle.vlog_tree.specs.Spelling.{stmts_words, after_commas, with_commas, in_row, optional, range_words, head_words, init_words}
use Rattle.vlog_tree.specs.Spelling.{port_words, named_words, tail_words, reg_words, assign_words, event_words, always_words, item_words}
use Rattle.vlog_tree.specs.Spelling.{module_words, file_words, ident_words, colon_words, direction_words, toks}
use Rattle.vlog_tree.specs.Lines.{map_ident, map_sign, map_expr, map_prim, map_ref, map_index, map_last, map_sel, map_exprs, map_target}
use Rattle.vlog_tree.specs.Lines.{map_targets, map_stmt, map_body, map_else, map_stmts, map_range, map_head, map_port, map_named}
use Rattle.vlog_tree.specs.Lines.{map_tail}
use Rattle.vlog_tree.specs.Lines.{map_reg, map_assign, map_event, map_always, map_item, map_module, map_file, no_mark, bare}
use Rattle.vlog_tree.specs.Spelling.{arm_words, arms_words, parameter_head_words, parameter_words, hash_words, conn_words, instance_words}
use Rattle.vlog_tree.specs.Lines.{map_arm, map_arms, map_parameter_head, map_parameter, map_conn, map_instance}
use Rattle.vlog_tree.specs.Tree.{CaseStmt, ArmOf, LabelsArm, DefaultArm, ArmsOf, NoArms, MoreArms, ParameterHeadOf, ParameterOf}
use Rattle.vlog_tree.specs.Tree.{MemoryTail, ImplicitEvent, ConnOf, InstanceOf, LocalparamsItem, InstanceItem}

-- these words are those of another tree, with something else in the place of lines
pub record Alike {A B : Type 0} (f : A → B) (vs : List (WordOf B)) (us : List (WordOf A)) : Type 0 where
  pub is : vs ≡ map (map_word f) us

-- one word, and then others
led : {A B : Type 0} {f : A → B} {vs : List (WordOf B)} {us : List (WordOf A)} (w : WordOf A) → Alike f vs us
    → Alike f (map_word f w ∷ vs) (w ∷ us)
led {A} {B} {f} w e = record { is = ap (λ (ws : List (WordOf B)). map_word f w ∷ ws) e.is }

infixr 5 ◌▹◌
-- words, and then others
◌▹◌ : {A B : Type 0} {f : A → B} {us ws : List (WordOf A)} {vs xs : List (WordOf B)} → Alike f vs us → Alike f xs ws
    → Alike f (vs ++ xs) (us ++ ws)
◌▹◌ {f = f} {us = us} {ws = ws} e h = record { is = (λ i. e.is i ++ h.is i) ∙ sym (map-append (map_word f) us ws) }

-- a last word
shut : {A B : Type 0} (f : A → B) (x : Terminal) → Alike f (Fixed x ∷ []) (Fixed x ∷ [])
shut f x = record { is = refl }

pub sign_mapped : {A B : Type 0} (f : A → B) (s : Option (SignOf A)) → Alike f (sign_words (option_map (map_sign f) s)) (sign_words s)
sign_mapped f None = record { is = refl }
sign_mapped f (Some s) = record { is = refl }

mutual
  pub expr_mapped : {A B : Type 0} (f : A → B) (e : ExprOf A) → Alike f (expr_words (map_expr f e)) (expr_words e)
  expr_mapped f (UnaryExpr sign prim) = sign_mapped f sign ▹ prim_mapped f prim
  expr_mapped f (BinaryExpr left op right) = expr_mapped f left ▹ led (Fixed (binary_terminal op)) (expr_mapped f right)
  expr_mapped f (ChoiceExpr condition a b) =
      expr_mapped f condition ▹ led (Fixed t.Question) (expr_mapped f a ▹ led (Fixed t.Colon) (expr_mapped f b))

  pub prim_mapped : {A B : Type 0} (f : A → B) (p : PrimOf A) → Alike f (prim_words (map_prim f p)) (prim_words p)
  prim_mapped f (NumberPrim n) = record { is = refl }
  prim_mapped f (RefPrim r) = ref_mapped f r
  prim_mapped f (ParenPrim line e) = led (FixedAt t.ParenOpen line) (expr_mapped f e ▹ shut f t.ParenClose)
  prim_mapped f (ConcatPrim line es) = led (FixedAt t.BraceOpen line) (exprs_mapped f es ▹ shut f t.BraceClose)
  prim_mapped f (RepeatPrim line count es) =
      led (FixedAt t.BraceOpen line) (expr_mapped f count ▹ led (Fixed t.BraceOpen)
      (exprs_mapped f es ▹ led (Fixed t.BraceClose) (shut f t.BraceClose)))

  pub ref_mapped : {A B : Type 0} (f : A → B) (r : RefOf A) → Alike f (ref_words (map_ref f r)) (ref_words r)
  ref_mapped f (RefWith id index last) = led (NameAt id.name id.line) (index_mapped f index ▹ last_mapped f last)

  pub index_mapped : {A B : Type 0} (f : A → B) (i : IndexOf A) → Alike f (index_words (map_index f i)) (index_words i)
  index_mapped f NoIndex = record { is = refl }
  index_mapped f (Index e) = led (Fixed t.BracketOpen) (expr_mapped f e ▹ shut f t.BracketClose)

  pub last_mapped : {A B : Type 0} (f : A → B) (l : LastOf A) → Alike f (last_words (map_last f l)) (last_words l)
  last_mapped f NoLast = record { is = refl }
  last_mapped f (Last s) = led (Fixed t.BracketOpen) (sel_mapped f s ▹ shut f t.BracketClose)

  pub sel_mapped : {A B : Type 0} (f : A → B) (s : SelOf A) → Alike f (sel_words (map_sel f s)) (sel_words s)
  sel_mapped f (IndexSel e) = expr_mapped f e
  sel_mapped f (PartSel first second) = expr_mapped f first ▹ led (Fixed t.Colon) (expr_mapped f second)
  sel_mapped f (IndexedSel base width) = expr_mapped f base ▹ led (Fixed t.PlusColon) (expr_mapped f width)

  pub exprs_mapped : {A B : Type 0} (f : A → B) (es : ExprsOf A) → Alike f (exprs_words (map_exprs f es)) (exprs_words es)
  exprs_mapped f NoExprs = record { is = refl }
  exprs_mapped f (MoreExprs e es) = expr_mapped f e ▹ more_exprs_mapped f es

  pub more_exprs_mapped : {A B : Type 0} (f : A → B) (es : ExprsOf A) → Alike f (more_exprs_words (map_exprs f es)) (more_exprs_words es)
  more_exprs_mapped f NoExprs = record { is = refl }
  more_exprs_mapped f (MoreExprs e es) = led (Fixed t.Comma) (expr_mapped f e ▹ more_exprs_mapped f es)

mutual
  pub target_mapped : {A B : Type 0} (f : A → B) (x : TargetOf A) → Alike f (target_words (map_target f x)) (target_words x)
  target_mapped f (RefTarget r) = ref_mapped f r
  target_mapped f (ConcatTarget line xs) = led (FixedAt t.BraceOpen line) (targets_mapped f xs ▹ shut f t.BraceClose)

  pub targets_mapped : {A B : Type 0} (f : A → B) (xs : TargetsOf A) → Alike f (targets_words (map_targets f xs)) (targets_words xs)
  targets_mapped f NoTargets = record { is = refl }
  targets_mapped f (MoreTargets x xs) = target_mapped f x ▹ more_targets_mapped f xs

  pub more_targets_mapped : {A B : Type 0} (f : A → B) (xs : TargetsOf A)
      → Alike f (more_targets_words (map_targets f xs)) (more_targets_words xs)
  more_targets_mapped f NoTargets = record { is = refl }
  more_targets_mapped f (MoreTargets x xs) = led (Fixed t.Comma) (target_mapped f x ▹ more_targets_mapped f xs)

-- lists and what may be there, of parts whose words are alike
module _ {A B X Y : Type 0} (f : A → B) (g : Y → List (WordOf B)) (h : X → List (WordOf A)) (k : X → Y)
    (same : (x : X) → Alike f (g (k x)) (h x)) where
  after_commas_same : (xs : List X) → Alike f (after_commas g (map k xs)) (after_commas h xs)
  after_commas_same [] = record { is = refl }
  after_commas_same (x ∷ xs) = led (Fixed t.Comma) (same x ▹ after_commas_same xs)

  commas_same : (xs : List X) → Alike f (with_commas g (map k xs)) (with_commas h xs)
  commas_same [] = record { is = refl }
  commas_same (x ∷ xs) = same x ▹ after_commas_same xs

  optional_same : (o : Option X) → Alike f (optional g (option_map k o)) (optional h o)
  optional_same None = record { is = refl }
  optional_same (Some x) = same x

  hash_same : (xs : List X) → Alike f (hash_words g (map k xs)) (hash_words h xs)
  hash_same [] = record { is = refl }
  hash_same (x ∷ xs) = led (Fixed t.Hash) (led (Fixed t.ParenOpen) ((same x ▹ after_commas_same xs) ▹ shut f t.ParenClose))

  row_same : (xs : List X) → Alike f (in_row g (map k xs)) (in_row h xs)
  row_same [] = record { is = refl }
  row_same (x ∷ xs) = same x ▹ row_same xs

colon_same : {A B : Type 0} (f : A → B) (colon : Bool) → Alike f (colon_words colon) (colon_words colon)
colon_same f false = record { is = refl }
colon_same f true = record { is = refl }

mutual
  pub stmt_mapped : {A B : Type 0} (f : A → B) (s : StmtOf A) → Alike f (stmt_words (map_stmt f s)) (stmt_words s)
  stmt_mapped f (BeginStmt ss) = led (Fixed t.Begin) (stmts_mapped f ss ▹ shut f t.End)
  stmt_mapped f (IfStmt condition b other) =
      led (Fixed t.If) (led (Fixed t.ParenOpen)
      (expr_mapped f condition ▹ led (Fixed t.ParenClose) (body_mapped f b ▹ else_mapped f other)))
  stmt_mapped f (CaseStmt e arms) =
      led (Fixed t.Case) (led (Fixed t.ParenOpen)
      (expr_mapped f e ▹ led (Fixed t.ParenClose) (arms_mapped f arms ▹ shut f t.Endcase)))
  stmt_mapped f (AssignStmt target op value) =
      target_mapped f target ▹ led (Fixed (assign_terminal op)) (expr_mapped f value ▹ shut f t.Semicolon)

  pub body_mapped : {A B : Type 0} (f : A → B) (b : BodyOf A) → Alike f (body_words (map_body f b)) (body_words b)
  body_mapped f (StmtBody s) = stmt_mapped f s
  body_mapped f EmptyBody = record { is = refl }

  pub else_mapped : {A B : Type 0} (f : A → B) (o : ElseOf A) → Alike f (else_words (map_else f o)) (else_words o)
  else_mapped f NoElse = record { is = refl }
  else_mapped f (Else b) = led (Fixed t.Else) (body_mapped f b)

  pub arm_mapped : {A B : Type 0} (f : A → B) (a : ArmOf A) → Alike f (arm_words (map_arm f a)) (arm_words a)
  arm_mapped f (LabelsArm labels b) =
      commas_same f expr_words expr_words (map_expr f) (expr_mapped f) labels ▹ led (Fixed t.Colon) (body_mapped f b)
  arm_mapped f (DefaultArm line colon b) = led (FixedAt t.Default line) (colon_same f colon ▹ body_mapped f b)

  pub arms_mapped : {A B : Type 0} (f : A → B) (more : ArmsOf A) → Alike f (arms_words (map_arms f more)) (arms_words more)
  arms_mapped f NoArms = record { is = refl }
  arms_mapped f (MoreArms a more) = arm_mapped f a ▹ arms_mapped f more

  pub stmts_mapped : {A B : Type 0} (f : A → B) (ss : StmtsOf A) → Alike f (stmts_words (map_stmts f ss)) (stmts_words ss)
  stmts_mapped f NoStmts = record { is = refl }
  stmts_mapped f (MoreStmts s ss) = stmt_mapped f s ▹ stmts_mapped f ss

pub range_mapped : {A B : Type 0} (f : A → B) (r : RangeOf A) → Alike f (range_words (map_range f r)) (range_words r)
range_mapped f r = led (Fixed t.BracketOpen)
    (expr_mapped f r.first ▹ led (Fixed t.Colon) (expr_mapped f r.second ▹ shut f t.BracketClose))

pub ranges_mapped : {A B : Type 0} (f : A → B) (r : Option (RangeOf A))
    → Alike f (optional range_words (option_map (map_range f) r)) (optional range_words r)
ranges_mapped f r = optional_same f range_words range_words (map_range f) (range_mapped f) r

direction_same : {A B : Type 0} (f : A → B) (d : Direction) → Alike f (direction_words d) (direction_words d)
direction_same f (direction.Input false) = record { is = refl }
direction_same f (direction.Input true) = record { is = refl }
direction_same f (direction.Output None) = record { is = refl }
direction_same f (direction.Output (Some kind.Wire)) = record { is = refl }
direction_same f (direction.Output (Some kind.Reg)) = record { is = refl }

pub head_mapped : {A B : Type 0} (f : A → B) (h : PortHeadOf A) → Alike f (head_words (map_head f h)) (head_words h)
head_mapped f h = direction_same f h.direction ▹ ranges_mapped f h.range

pub init_mapped : {A B : Type 0} (f : A → B) (e : ExprOf A) → Alike f (init_words (map_expr f e)) (init_words e)
init_mapped f e = led (Fixed t.Equals) (expr_mapped f e)

pub parameter_head_mapped : {A B : Type 0} (f : A → B) (h : ParameterHeadOf A)
    → Alike f (parameter_head_words (map_parameter_head f h)) (parameter_head_words h)
parameter_head_mapped f h = led (Fixed t.Parameter) (ranges_mapped f h.range)

pub parameter_mapped : {A B : Type 0} (f : A → B) (p : ParameterOf A) → Alike f (parameter_words (map_parameter f p)) (parameter_words p)
parameter_mapped f p =
    optional_same f parameter_head_words parameter_head_words (map_parameter_head f) (parameter_head_mapped f) p.head
    ▹ led (NameAt p.id.name p.id.line) (init_mapped f p.value)

pub port_mapped : {A B : Type 0} (f : A → B) (p : PortOf A) → Alike f (port_words (map_port f p)) (port_words p)
port_mapped f p =
    optional_same f head_words head_words (map_head f) (head_mapped f) p.head
    ▹ led (NameAt p.id.name p.id.line) (optional_same f init_words init_words (map_expr f) (init_mapped f) p.init)

pub named_mapped : {A B : Type 0} (f : A → B) (w : NamedValueOf A) → Alike f (named_words (map_named f w)) (named_words w)
named_mapped f w = led (NameAt w.id.name w.id.line) (init_mapped f w.value)

pub tail_mapped : {A B : Type 0} (f : A → B) (x : RegTailOf A) → Alike f (tail_words (map_tail f x)) (tail_words x)
tail_mapped f (InitTail e) = init_mapped f e
tail_mapped f (MemoryTail r) = range_mapped f r

pub reg_mapped : {A B : Type 0} (f : A → B) (r : Reg1Of A) → Alike f (reg_words (map_reg f r)) (reg_words r)
reg_mapped f r = led (NameAt r.id.name r.id.line) (optional_same f tail_words tail_words (map_tail f) (tail_mapped f) r.tail)

pub assign_mapped : {A B : Type 0} (f : A → B) (a : AssignOf A) → Alike f (assign_words (map_assign f a)) (assign_words a)
assign_mapped f a = target_mapped f a.target ▹ init_mapped f a.value

pub event_mapped : {A B : Type 0} (f : A → B) (e : EventOf A) → Alike f (event_words (map_event f e)) (event_words e)
event_mapped f (PosedgeEvent id) = record { is = refl }
event_mapped f (ImplicitEvent false) = record { is = refl }
event_mapped f (ImplicitEvent true) = record { is = refl }

pub always_mapped : {A B : Type 0} (f : A → B) (a : AlwaysOf A) → Alike f (always_words (map_always f a)) (always_words a)
always_mapped f a = led (FixedAt t.Always a.line) (event_mapped f a.event ▹ body_mapped f a.body)

pub conn_mapped : {A B : Type 0} (f : A → B) (c : ConnOf A) → Alike f (conn_words (map_conn f c)) (conn_words c)
conn_mapped f c =
    led (FixedAt t.Dot c.line) (led (NameAt c.id.name c.id.line) (led (Fixed t.ParenOpen)
    (optional_same f expr_words expr_words (map_expr f) (expr_mapped f) c.value ▹ shut f t.ParenClose)))

pub instance_mapped : {A B : Type 0} (f : A → B) (i : InstanceOf A) → Alike f (instance_words (map_instance f i)) (instance_words i)
instance_mapped f i =
    led (NameAt i.module_id.name i.module_id.line) (hash_same f conn_words conn_words (map_conn f) (conn_mapped f) i.parameters
    ▹ led (NameAt i.id.name i.id.line) (led (Fixed t.ParenOpen)
    (commas_same f conn_words conn_words (map_conn f) (conn_mapped f) i.ports ▹ led (Fixed t.ParenClose) (shut f t.Semicolon))))

pub item_mapped : {A B : Type 0} (f : A → B) (i : ItemOf A) → Alike f (item_words (map_item f i)) (item_words i)
item_mapped f (WiresItem range ids) =
    led (Fixed t.Wire) (ranges_mapped f range
    ▹ (commas_same f ident_words ident_words (map_ident f) (λ id. record { is = refl }) ids ▹ shut f t.Semicolon))
item_mapped f (DrivenWiresItem range wires) =
    led (Fixed t.Wire) (ranges_mapped f range
    ▹ (commas_same f named_words named_words (map_named f) (named_mapped f) wires ▹ shut f t.Semicolon))
item_mapped f (RegsItem range regs) =
    led (Fixed t.Reg) (ranges_mapped f range
    ▹ (commas_same f reg_words reg_words (map_reg f) (reg_mapped f) regs ▹ shut f t.Semicolon))
item_mapped f (LocalparamsItem range parameters) =
    led (Fixed t.Localparam) (ranges_mapped f range
    ▹ (commas_same f named_words named_words (map_named f) (named_mapped f) parameters ▹ shut f t.Semicolon))
item_mapped f (AssignItem assigns) =
    led (Fixed t.Assign) (commas_same f assign_words assign_words (map_assign f) (assign_mapped f) assigns ▹ shut f t.Semicolon)
item_mapped f (AlwaysItem a) = always_mapped f a
item_mapped f (InstanceItem i) = instance_mapped f i

pub module_mapped : {A B : Type 0} (f : A → B) (m : ModuleOf A) → Alike f (module_words (map_module f m)) (module_words m)
module_mapped f m =
    led (Fixed t.Module) (led (NameWord m.name)
    (hash_same f parameter_words parameter_words (map_parameter f) (parameter_mapped f) m.parameters
    ▹ led (Fixed t.ParenOpen) (commas_same f port_words port_words (map_port f) (port_mapped f) m.ports
    ▹ led (Fixed t.ParenClose) (led (Fixed t.Semicolon)
    (row_same f item_words item_words (map_item f) (item_mapped f) m.items ▹ shut f t.Endmodule)))))

pub file_mapped : {A B : Type 0} (f : A → B) (x : FileOf A) → file_words (map_file f x) ≡ map (map_word f) (file_words x)
file_mapped f x = (row_same f module_words module_words (map_module f) (module_mapped f) x.modules).is

-- lines don't count in tokens
token_mapped : {A B : Type 0} (f : A → B) (w : WordOf A) → token_of (map_word f w) ≡ token_of w
token_mapped f (NameWord text) = refl
token_mapped f (Fixed x) = refl
token_mapped f (NameAt text line) = refl
token_mapped f (NumberAt kind text line) = refl
token_mapped f (FixedAt x line) = refl

pub tokens_mapped : {A B : Type 0} (f : A → B) (ws : List (WordOf A)) → tokens_of (map (map_word f) ws) ≡ tokens_of ws
tokens_mapped f [] = refl
tokens_mapped f (w ∷ ws) = λ i. token_mapped f w i ∷ tokens_mapped f ws i

pub toks_bare : {A : Type 0} (x : FileOf A) → toks (bare x) ≡ toks x
toks_bare x = ap tokens_of (file_mapped no_mark x) ∙ tokens_mapped no_mark (file_words x)
