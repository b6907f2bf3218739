-- The bits that a block writes are bits of its scope's nets.
use Rattle.std.proofs.Common.{◌≡◌, ℕ, zero, suc, ◌+◌, ◌<◌, ◌≤◌, ◌==◌, nat_lt, nat_le, ◌&&◌, ◌||◌, not, Bool, true, false}
use Rattle.std.proofs.Common.{cond, if◌then◌else◌}
use Rattle.std.proofs.Common.{List, [], ◌∷◌, length, Option, Some, None, refl, ap, sym, ◌∙◌, arith}
use Rattle.std.specs.List.{position_or_len, list_all}
use Rattle.std.specs.Str.{bytes_eq}
use Rattle.std.proofs.lemmas.Bool.{eqb-true, ltb-true, lt-ltb, leb-true, and_parts}
use Rattle.vlog_tree.specs.Tree.{LastOf, NoLast, Last, RefWith, TargetOf, RefTarget, ConcatTarget, TargetsOf, NoTargets, MoreTargets}
use Rattle.vlog_tree.specs.Tree.{StmtOf, BeginStmt, IfStmt, CaseStmt, AssignStmt, StmtsOf, NoStmts, MoreStmts}
use Rattle.vlog_tree.specs.Tree.{LabelsArm, DefaultArm, ArmsOf, NoArms, MoreArms, BodyOf, StmtBody, EmptyBody, ElseOf, NoElse, Else}
use Rattle.vlog_block.specs.vlog_size.declared.scope.Param.{Param}
use Rattle.vlog_block.specs.vlog_size.declared.scope.ScopeNet.{ScopeNet}
use Rattle.vlog_block.specs.vlog_size.declared.scope.ScopeMemory.{ScopeMemory}
use Rattle.vlog_block.specs.vlog_size.Literal.{is_lawful}
use Rattle.vlog_block.specs.vlog_size.Names.{Readable, is_lawful_readable, are_lawful_params, are_lawful_places}
use Rattle.vlog_block.specs.vlog_size.Size.{or_zero}
use Rattle.vlog_block.specs.vlog_size.Table.{Named, value_of, place_of}
use Rattle.net_design.specs.declared.rhs.Span.{Span}
use Rattle.net_design.specs.Bits.{bits_of}
use Rattle.vlog_block.specs.Sources.{or_constant, or_source, net_source, memory_source, memory_named}
use Rattle.vlog_block.specs.declared.source.Source.TheVariants.{Nothing}
use Rattle.vlog_block.specs.Value.{picked}
use Rattle.vlog_block.specs.Places.{constant_low}
use Rattle.vlog_block.specs.Written.{part_writes, net_writes, source_writes, target_writes, targets_write, writes, stmts_write, body_writes}
use Rattle.vlog_block.specs.Written.{else_writes, arms_write, default_writes}
use Rattle.vlog_driver.specs.Blocks.{is_there}

-- ---- the place of a net

next_place : (place n : ℕ) → nat_lt (1 + place) (suc n) ≡ nat_lt place n
next_place place n = grind arith

next_there : (x : Named ScopeNet) (xs : List (Named ScopeNet)) (place k : ℕ) → is_there (x ∷ xs) (1 + place) k ≡ is_there xs place k
next_there x xs place k = let e : 1 + place ≡ suc place = omega arith in ap (λ i. is_there (x ∷ xs) i k) e

zero_first : (n : ℕ) → nat_lt 0 (suc n) ≡ true
zero_first n = grind arith

some_same : (a b : ScopeNet) → Some a ≡ Some b → a ≡ b
some_same a b h = (cc)

-- what is said of the place of a name
abbrev IsPlaced : List (Named ScopeNet) → ℕ → ℕ → ScopeNet → Type 0
IsPlaced nets place k n = (nat_lt place (length nets) ≡ true) × (is_there nets place k ≡ nat_lt k n.width)

placed_by : (x : Named ScopeNet) (xs : List (Named ScopeNet)) (name : List ℕ) (n : ScopeNet) (k : ℕ) (b : Bool)
    → (value_of xs name ≡ Some n → IsPlaced xs (position_or_len (λ y. bytes_eq name y.name) xs) k n)
    → (if b then Some x.value else value_of xs name) ≡ Some n
    → IsPlaced (x ∷ xs) (cond (not b) (1 + position_or_len (λ y. bytes_eq name y.name) xs) 0) k n
placed_by x xs name n k true more h = (zero_first (length xs), ap (λ (v : ScopeNet). nat_lt k v.width) (some_same x.value n h))
placed_by x xs name n k false more h =
    let p = position_or_len (λ y. bytes_eq name y.name) xs in
    (next_place p (length xs) ∙ (more h).0, next_there x xs p k ∙ (more h).1)

placed : (nets : List (Named ScopeNet)) (name : List ℕ) (n : ScopeNet) (k : ℕ) → value_of nets name ≡ Some n
    → IsPlaced nets (position_or_len (λ x. bytes_eq name x.name) nets) k n
placed [] name n k h = absurd (cc)
placed (x ∷ xs) name n k h = placed_by x xs name n k (bytes_eq name x.name) (λ e. placed xs name n k e) h

at_place : (nets : List (Named ScopeNet)) (name : List ℕ) (n : ScopeNet) (k : ℕ) → value_of nets name ≡ Some n
    → is_there nets (or_zero (place_of nets name)) k ≡ nat_lt k n.width
at_place nets name n k h =
    let p = placed nets name n k h in
    ap (λ b. is_there nets (or_zero (cond b (Some (position_or_len (λ x. bytes_eq name x.name) nets)) None)) k) p.0 ∙ p.1

-- ---- a name with its brackets

part_there : (span : Span) (o : Option ℕ) (w m k : ℕ) → part_writes span o w m k ≡ true → bits_of span m k ≡ true
part_there span None w m k h = h
part_there span (Some low) w m k h = (and_parts (bits_of span m k) (nat_le low k && nat_lt k (low + w)) h).0

pub net_there : (r : Readable) (span : Span) (last : LastOf ℕ) (m k : ℕ) → net_writes r span last m k ≡ true → bits_of span m k ≡ true
net_there r span NoLast m k h = h
net_there r span (Last sel) m k h = part_there span (constant_low r sel) (picked r (Last sel) span.width) m k h

span_there : (nets : List (Named ScopeNet)) (place : ℕ) (n : ScopeNet) (m k : ℕ) → is_there nets place k ≡ nat_lt k n.width
    → bits_of (record { net = place; low = 0; width = n.width }) m k ≡ true → is_there nets m k ≡ true
span_there nets place n m k is h =
    let parts = and_parts (place == m) (nat_le 0 k && nat_lt k (0 + n.width)) h in
    let e : place ≡ m = eqb-true place m parts.0 in
    let inside = (and_parts (nat_le 0 k) (nat_lt k (0 + n.width)) parts.1).1 in
    let l : k < 0 + n.width = ltb-true k (0 + n.width) inside in
    ap (λ i. is_there nets i k) (sym e) ∙ is ∙ lt-ltb k n.width (omega (arith, l))

module _ (r : Readable) where
  no_memory : (name : List ℕ) (last : LastOf ℕ) (v : Option ScopeMemory) (m k : ℕ)
      → source_writes r (or_source (memory_source r.memories) (place_of r.memories name) v Nothing) last m k ≡ true → ⊥
  no_memory name last None m k h = absurd (cc)
  no_memory name last (Some x) m k h = absurd (cc)

  named_there : (name : List ℕ) (last : LastOf ℕ) (p : Option Param) (v : Option ScopeNet) (m k : ℕ) → value_of r.nets name ≡ v
      → source_writes r (or_constant p (or_source net_source (place_of r.nets name) v (memory_named r.memories name))) last m k ≡ true
      → is_there r.nets m k ≡ true
  named_there name last (Some p) v m k e h = absurd (cc)
  named_there name last None None m k e h = absurd (no_memory name last (value_of r.memories name) m k h)
  named_there name last None (Some n) m k e h =
      span_there r.nets (or_zero (place_of r.nets name)) n m k (at_place r.nets name n k e)
      (net_there r (record { net = or_zero (place_of r.nets name); low = 0; width = n.width }) last m k h)

-- ---- targets and statements

pub both : (a b c : Bool) → (a ≡ true → c ≡ true) → (b ≡ true → c ≡ true) → (a || b) ≡ true → c ≡ true
both true b c f g h = f refl
both false b c f g h = g h

module _ (r : Readable) (m k : ℕ) where
  nothing_there : false ≡ true → is_there r.nets m k ≡ true
  nothing_there h = absurd (cc)

  mutual
    target_there : (t : TargetOf ℕ) → target_writes r t m k ≡ true → is_there r.nets m k ≡ true
    target_there (RefTarget (RefWith id index last)) h =
        named_there r id.name last (value_of r.params id.name) (value_of r.nets id.name) m k refl h
    target_there (ConcatTarget line ts) h = targets_there ts h

    targets_there : (ts : TargetsOf ℕ) → targets_write r ts m k ≡ true → is_there r.nets m k ≡ true
    targets_there NoTargets h = nothing_there h
    targets_there (MoreTargets t ts) h =
        both (target_writes r t m k) (targets_write r ts m k) (is_there r.nets m k) (λ x. target_there t x) (λ x. targets_there ts x) h

  mutual
    stmt_there : (s : StmtOf ℕ) → writes r s m k ≡ true → is_there r.nets m k ≡ true
    stmt_there (BeginStmt ss) h = stmts_there ss h
    stmt_there (IfStmt c b other) h =
        both (body_writes r b m k) (else_writes r other m k) (is_there r.nets m k) (λ x. body_there b x) (λ x. else_there other x) h
    stmt_there (CaseStmt subject arms) h =
        both (arms_write r arms m k) (default_writes r arms m k) (is_there r.nets m k) (λ x. arms_there arms x)
        (λ x. default_there arms x) h
    stmt_there (AssignStmt target op e) h = target_there target h

    stmts_there : (ss : StmtsOf ℕ) → stmts_write r ss m k ≡ true → is_there r.nets m k ≡ true
    stmts_there NoStmts h = nothing_there h
    stmts_there (MoreStmts s ss) h =
        both (writes r s m k) (stmts_write r ss m k) (is_there r.nets m k) (λ x. stmt_there s x) (λ x. stmts_there ss x) h

    pub body_there : (b : BodyOf ℕ) → body_writes r b m k ≡ true → is_there r.nets m k ≡ true
    body_there (StmtBody s) h = stmt_there s h
    body_there EmptyBody h = nothing_there h

    else_there : (o : ElseOf ℕ) → else_writes r o m k ≡ true → is_there r.nets m k ≡ true
    else_there NoElse h = nothing_there h
    else_there (Else b) h = body_there b h

    arms_there : (arms : ArmsOf ℕ) → arms_write r arms m k ≡ true → is_there r.nets m k ≡ true
    arms_there NoArms h = nothing_there h
    arms_there (MoreArms (LabelsArm labels b) rest) h =
        both (body_writes r b m k) (arms_write r rest m k) (is_there r.nets m k) (λ x. body_there b x) (λ x. arms_there rest x) h
    arms_there (MoreArms (DefaultArm line colon b) rest) h = arms_there rest h

    default_there : (arms : ArmsOf ℕ) → default_writes r arms m k ≡ true → is_there r.nets m k ≡ true
    default_there NoArms h = nothing_there h
    default_there (MoreArms (LabelsArm labels b) rest) h = default_there rest h
    default_there (MoreArms (DefaultArm line colon b) rest) h = body_there b h

-- ---- within the nets of a lawful scope

bit_within : (nets : List (Named ScopeNet)) (m k : ℕ) → list_all (λ (x : Named ScopeNet). is_lawful x.value.width) nets ≡ true
    → is_there nets m k ≡ true → (m < length nets) × (k < 128)
bit_within [] m k h t = absurd (cc)
bit_within (x ∷ xs) zero k h t =
    let own = (and_parts (is_lawful x.value.width) (list_all (λ (y : Named ScopeNet). is_lawful y.value.width) xs) h).0 in
    let most : x.value.width ≤ 128 = leb-true x.value.width 128 (and_parts (nat_lt 0 x.value.width) (nat_le x.value.width 128) own).1 in
    let l : k < x.value.width = ltb-true k x.value.width t in
    (omega arith, omega (arith, l, most))
bit_within (x ∷ xs) (suc m) k h t =
    let rest = (and_parts (is_lawful x.value.width) (list_all (λ (y : Named ScopeNet). is_lawful y.value.width) xs) h).1 in
    let b = bit_within xs m k rest t in
    let l : m < length xs = b.0 in
    (omega (arith, l), b.1)

pub lawful_nets : (r : Readable) → is_lawful_readable r ≡ true → list_all (λ (x : Named ScopeNet). is_lawful x.value.width) r.nets ≡ true
lawful_nets r h =
    let places = (and_parts (are_lawful_params r.params && are_lawful_params r.constants) (are_lawful_places r.nets r.memories) h).1 in
    (and_parts (list_all (λ (x : Named ScopeNet). is_lawful x.value.width) r.nets)
    (list_all (λ (x : Named ScopeMemory). is_lawful x.value.width) r.memories) places).0

pub within : (r : Readable) (m k : ℕ) → is_lawful_readable r ≡ true → is_there r.nets m k ≡ true → (m < length r.nets) × (k < 128)
within r m k h t = bit_within r.nets m k (lawful_nets r h) t
