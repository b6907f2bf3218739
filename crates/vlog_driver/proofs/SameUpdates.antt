-- The same own numbers give targets and statements the same updates, which are within the instance's nets and words.
use Rattle.std.proofs.Common.{◌≡◌, ℕ, zero, suc, ◌+◌, ◌-◌, ◌/◌, ◌^◌, ◌<◌, ◌≤◌, ◌==◌, ◌||◌, min, nat_lt, Bool, true, false, if◌then◌else◌}
use Rattle.std.proofs.Common.{List, [], ◌∷◌, ◌++◌, length, slice_index, slice_set, Option, Some, None, refl, ap, sym, subst, ◌∙◌, arith}
use Rattle.std.specs.List.{AllByRecursion}
use Rattle.std.proofs.lemmas.Bool.{ltb-true}
use Rattle.std.proofs.lemmas.List.{length-set}
use Rattle.vlog_tree.specs.Tree.{ExprOf, RefWith, LastOf, NoLast, Last, IndexSel, PartSel, IndexedSel}
use Rattle.vlog_tree.specs.Tree.{TargetOf, RefTarget, ConcatTarget, TargetsOf, NoTargets, MoreTargets}
use Rattle.vlog_tree.specs.Tree.{StmtOf, BeginStmt, IfStmt, CaseStmt, AssignStmt, StmtsOf, NoStmts, MoreStmts}
use Rattle.vlog_tree.specs.Tree.{LabelsArm, DefaultArm, ArmsOf, NoArms, MoreArms, BodyOf, StmtBody, EmptyBody, ElseOf, NoElse, Else}
use Rattle.vlog_names.specs.vlog_size.Names.{Readable}
use Rattle.vlog_names.specs.vidi_bits.Number.{put_of}
use Rattle.net_design.specs.declared.act.Timing.{Timing}
use Rattle.net_design.specs.declared.act.Timing.TheVariants.{Blocking, Nonblocking}
use Rattle.net_design.specs.declared.rhs.Room.{Room}
use Rattle.net_design.specs.declared.values.Target as design
use Rattle.net_design.specs.declared.values.Target.TheVariants as designs
use Rattle.net_design.specs.declared.values.Update.{Update}
use Rattle.net_design.specs.declared.values.Values.{Values}
use Rattle.net_design.specs.Updates.{written_to, apply, update, word_updates, seen}
use Rattle.vlog_block.specs.declared.source.Source.{Source}
use Rattle.vlog_block.specs.declared.source.Source.TheVariants.{Constant, Net, Memory, Nothing}
use Rattle.vlog_block.specs.Sources.{source_of}
use Rattle.vlog_block.specs.Value.{width_of, picked, value, first_index, lowest}
use Rattle.vlog_block.specs.Targets.{targets_width, vector_updates, lone_updates, source_updates, target_updates, targets_updates}
use Rattle.vlog_block.specs.Updates.{assigned_width, assigned, is_zero, case_width, matches, stmt_updates, stmts_updates, body_updates}
use Rattle.vlog_block.specs.Updates.{else_updates, arms_updates, default_updates}
use Rattle.vlog_driver.specs.Own.{Agree, word_total}
use Rattle.vlog_driver.proofs.InPlace.{SourceIn, source_in}
use Rattle.vlog_driver.proofs.SameValue.{value_same, index_same, lowest_same}

-- within so many nets and words
abbrev pub TargetIn : Readable → design.Target → Type 0
TargetIn r (designs.Net m) = m < length r.nets
TargetIn r (designs.Word i) = i < word_total r

abbrev pub AreIn : Readable → List Update → Type 0
AreIn r us = AllByRecursion (λ (u : Update). TargetIn r u.target) us

pub both_in : (r : Readable) (us ws : List Update) → AreIn r us → AreIn r ws → AreIn r (us ++ ws)
both_in r [] ws h k = k
both_in r (u ∷ us) ws h k = (h.0, both_in r us ws h.1 k)

if_in : (r : Readable) (b : Bool) (u : Update) → TargetIn r u.target → AreIn r (if b then u ∷ [] else [])
if_in r true u h = (h, tt)
if_in r false u h = tt

choice_in : (r : Readable) (b : Bool) (us ws : List Update) → AreIn r us → AreIn r ws → AreIn r (if b then us else ws)
choice_in r true us ws h k = h
choice_in r false us ws h k = k

module _ (r : Readable) where
  -- ---- targets
  vector_in : (n : ℕ) (last : LastOf ℕ) (low : Option ℕ) (x : ℕ) (to : design.Target) → TargetIn r to
      → AreIn r (vector_updates r n last low x to)
  vector_in n last None x to h = if_in r (nat_lt 0 n) (update to (0 + 0) (min n (n - 0)) x) h
  vector_in n last (Some low) x to h = if_in r (nat_lt low n) (update to (0 + low) (min (picked r last n) (n - low)) x) h

  words_by : (room : Room) (i : ℕ) (f : design.Target → List Update) (b : Bool) → nat_lt i room.length ≡ b
      → room.first + room.length ≤ word_total r → ((to : design.Target) → TargetIn r to → AreIn r (f to))
      → AreIn r (if b then f (designs.Word (room.first + i)) else [])
  words_by room i f true e l h =
      let inside : i < room.length = ltb-true i room.length e in h (designs.Word (room.first + i)) (omega (arith, inside, l))
  words_by room i f false e l h = tt

  words_in : (room : Room) (i : ℕ) (f : design.Target → List Update) → room.first + room.length ≤ word_total r
      → ((to : design.Target) → TargetIn r to → AreIn r (f to)) → AreIn r (word_updates room i f)
  words_in room i f l h = words_by room i f (nat_lt i room.length) refl l h

  lone_in : (room : Room) (n : ℕ) (last : LastOf ℕ) (low : Option ℕ) (x : ℕ) → room.first + room.length ≤ word_total r
      → AreIn r (lone_updates r room n last low x)
  lone_in room n NoLast low x l = tt
  lone_in room n (Last (IndexSel i)) None x l = tt
  lone_in room n (Last (IndexSel i)) (Some k) x l =
      words_in room k (vector_updates r n NoLast None x) l (λ to h. vector_in n NoLast None x to h)
  lone_in room n (Last (PartSel a b)) low x l = tt
  lone_in room n (Last (IndexedSel a b)) low x l = tt

  source_in_updates : (s : Source) (index : Option ℕ) (last : LastOf ℕ) (low : Option ℕ) (x : ℕ)
      → SourceIn (length r.nets) (word_total r) s → AreIn r (source_updates r s index last low x)
  source_in_updates (Constant c) index last low x l = tt
  source_in_updates (Net span) index last low x l = vector_in span.width last low x (designs.Net span.net) l
  source_in_updates (Memory room n) (Some i) last low x l =
      words_in room i (vector_updates r n last low x) l (λ to h. vector_in n last low x to h)
  source_in_updates (Memory room n) None last low x l = lone_in room n last low x l
  source_in_updates Nothing index last low x l = tt

  mutual
    pub target_in : (v : Values) (t : TargetOf ℕ) (x : ℕ) → AreIn r (target_updates r v t x)
    target_in v (RefTarget (RefWith id index last)) x =
        source_in_updates (source_of r id.name) (first_index r v index) last (lowest r v last) x (source_in r id.name)
    target_in v (ConcatTarget line ts) x = targets_in v ts x

    targets_in : (v : Values) (ts : TargetsOf ℕ) (x : ℕ) → AreIn r (targets_updates r v ts x)
    targets_in v NoTargets x = tt
    targets_in v (MoreTargets t ts) x =
        both_in r (target_updates r v t (x / 2 ^ targets_width r ts)) (targets_updates r v ts x)
        (target_in v t (x / 2 ^ targets_width r ts)) (targets_in v ts x)

  mutual
    pub target_same : (v w : Values) → Agree r v w → (t : TargetOf ℕ) (x : ℕ) → target_updates r v t x ≡ target_updates r w t x
    target_same v w same (RefTarget (RefWith id index last)) x =
        ap (λ i. source_updates r (source_of r id.name) i last (lowest r v last) x) (index_same r v w same index)
        ∙ ap (λ i. source_updates r (source_of r id.name) (first_index r w index) last i x) (lowest_same r v w same last)
    target_same v w same (ConcatTarget line ts) x = targets_same v w same ts x

    targets_same : (v w : Values) → Agree r v w → (ts : TargetsOf ℕ) (x : ℕ) → targets_updates r v ts x ≡ targets_updates r w ts x
    targets_same v w same NoTargets x = refl
    targets_same v w same (MoreTargets t ts) x =
        ap (λ us. us ++ targets_updates r v ts x) (target_same v w same t (x / 2 ^ targets_width r ts))
        ∙ ap (λ us. target_updates r w t (x / 2 ^ targets_width r ts) ++ us) (targets_same v w same ts x)

  -- ---- updates made
  set_same : (xs ys : List ℕ) (m j a b : ℕ) → m < length xs → m < length ys → a ≡ b → slice_index xs j ≡ slice_index ys j
      → slice_index (slice_set xs m a) j ≡ slice_index (slice_set ys m b) j
  set_same [] ys m j a b l k h g = absurd (omega (arith, l))
  set_same (x ∷ xs) [] m j a b l k h g = absurd (omega (arith, k))
  set_same (x ∷ xs) (y ∷ ys) zero zero a b l k h g = h
  set_same (x ∷ xs) (y ∷ ys) zero (suc j) a b l k h g = g
  set_same (x ∷ xs) (y ∷ ys) (suc m) zero a b l k h g = g
  set_same (x ∷ xs) (y ∷ ys) (suc m) (suc j) a b l k h g =
      set_same xs ys m j a b (omega (arith, l)) (omega (arith, k)) h g

  longer : (n m : ℕ) (xs : List ℕ) (a : ℕ) → n ≤ length xs → n ≤ length (slice_set xs m a)
  longer n m xs a h = subst (λ k. n ≤ k) (sym (length-set xs m a)) h

  put_same : (u : Update) (x y : ℕ) → x ≡ y → put_of x u.low u.width u.number ≡ put_of y u.low u.width u.number
  put_same u x y h = ap (λ z. put_of z u.low u.width u.number) h

  within : (n m k : ℕ) → m < n → n ≤ k → m < k
  within n m k h l = omega (arith, h, l)

  written_agree : (t : design.Target) (u : Update) (v w : Values) → TargetIn r t → Agree r v w
      → Agree r (written_to t u v) (written_to t u w)
  written_agree (designs.Net m) u v w l same =
      let x = put_of (slice_index v.nets m) u.low u.width u.number in
      let y = put_of (slice_index w.nets m) u.low u.width u.number in
      let equal : x ≡ y = put_same u (slice_index v.nets m) (slice_index w.nets m) (same.nets m l) in
      record {
        left = record { nets = longer (length r.nets) m v.nets x same.left.nets; words = same.left.words };
        right = record { nets = longer (length r.nets) m w.nets y same.right.nets; words = same.right.words };
        nets = λ j h. set_same v.nets w.nets m j x y (within (length r.nets) m (length v.nets) l same.left.nets)
            (within (length r.nets) m (length w.nets) l same.right.nets) equal (same.nets j h);
        words = same.words;
      }
  written_agree (designs.Word i) u v w l same =
      let x = put_of (slice_index v.words i) u.low u.width u.number in
      let y = put_of (slice_index w.words i) u.low u.width u.number in
      let equal : x ≡ y = put_same u (slice_index v.words i) (slice_index w.words i) (same.words i l) in
      record {
        left = record { nets = same.left.nets; words = longer (word_total r) i v.words x same.left.words };
        right = record { nets = same.right.nets; words = longer (word_total r) i w.words y same.right.words };
        nets = same.nets;
        words = λ j h. set_same v.words w.words i j x y (within (word_total r) i (length v.words) l same.left.words)
            (within (word_total r) i (length w.words) l same.right.words) equal (same.words j h);
      }

  pub apply_agree : (us : List Update) (v w : Values) → AreIn r us → Agree r v w → Agree r (apply us v) (apply us w)
  apply_agree [] v w h same = same
  apply_agree (u ∷ us) v w h same =
      apply_agree us (written_to u.target u v) (written_to u.target u w) h.1 (written_agree u.target u v w h.0 same)

  seen_agree : (t : Timing) (us : List Update) (v w : Values) → AreIn r us → Agree r v w → Agree r (seen t us v) (seen t us w)
  seen_agree Blocking us v w h same = apply_agree us v w h same
  seen_agree Nonblocking us v w h same = same

  -- ---- statements
  zero_same : (v w : Values) → Agree r v w → (c : ExprOf ℕ) → is_zero r v c ≡ is_zero r w c
  zero_same v w same c = ap (λ x. x == 0) (value_same r v w same c (width_of r c))

  matches_same : (v w : Values) → Agree r v w → (labels : List (ExprOf ℕ)) (n x : ℕ) → matches r v labels n x ≡ matches r w labels n x
  matches_same v w same [] n x = refl
  matches_same v w same (e ∷ es) n x =
      ap (λ y. (x == y) || matches r v es n x) (value_same r v w same e n)
      ∙ ap (λ b. (x == value r w e n) || b) (matches_same v w same es n x)

  if_same : (b c : Bool) (us ws us' ws' : List Update) → b ≡ c → us ≡ us' → ws ≡ ws'
      → (if b then us else ws) ≡ (if c then us' else ws')
  if_same b c us ws us' ws' h f g =
      ap (λ x. if x then us else ws) h ∙ ap (λ x. if c then x else ws) f ∙ ap (λ x. if c then us' else x) g

  mutual
    stmt_in : (t : Timing) (s : StmtOf ℕ) (v : Values) → AreIn r (stmt_updates r t s v)
    stmt_in t (BeginStmt ss) v = stmts_in t ss v
    stmt_in t (IfStmt c b other) v =
        choice_in r (is_zero r v c) (else_updates r t other v) (body_updates r t b v) (else_in t other v) (body_in t b v)
    stmt_in t (CaseStmt subject arms) v =
        arms_in t arms (case_width r subject arms) (value r v subject (case_width r subject arms)) (default_updates r t arms v) v
        (default_in t arms v)
    stmt_in t (AssignStmt target op e) v = target_in v target (assigned r v target e)

    stmts_in : (t : Timing) (ss : StmtsOf ℕ) (v : Values) → AreIn r (stmts_updates r t ss v)
    stmts_in t NoStmts v = tt
    stmts_in t (MoreStmts s ss) v =
        both_in r (stmt_updates r t s v) (stmts_updates r t ss (seen t (stmt_updates r t s v) v)) (stmt_in t s v)
        (stmts_in t ss (seen t (stmt_updates r t s v) v))

    pub body_in : (t : Timing) (b : BodyOf ℕ) (v : Values) → AreIn r (body_updates r t b v)
    body_in t (StmtBody s) v = stmt_in t s v
    body_in t EmptyBody v = tt

    else_in : (t : Timing) (o : ElseOf ℕ) (v : Values) → AreIn r (else_updates r t o v)
    else_in t NoElse v = tt
    else_in t (Else b) v = body_in t b v

    arms_in : (t : Timing) (arms : ArmsOf ℕ) (n x : ℕ) (us : List Update) (v : Values) → AreIn r us → AreIn r
        (arms_updates r t arms n x us v)
    arms_in t NoArms n x us v h = h
    arms_in t (MoreArms (LabelsArm labels b) rest) n x us v h =
        choice_in r (matches r v labels n x) (body_updates r t b v) (arms_updates r t rest n x us v) (body_in t b v)
        (arms_in t rest n x us v h)
    arms_in t (MoreArms (DefaultArm line colon b) rest) n x us v h = arms_in t rest n x us v h

    default_in : (t : Timing) (arms : ArmsOf ℕ) (v : Values) → AreIn r (default_updates r t arms v)
    default_in t NoArms v = tt
    default_in t (MoreArms (LabelsArm labels b) rest) v = default_in t rest v
    default_in t (MoreArms (DefaultArm line colon b) rest) v = body_in t b v

  mutual
    stmt_same : (t : Timing) (s : StmtOf ℕ) (v w : Values) → Agree r v w → stmt_updates r t s v ≡ stmt_updates r t s w
    stmt_same t (BeginStmt ss) v w same = stmts_same t ss v w same
    stmt_same t (IfStmt c b other) v w same =
        if_same (is_zero r v c) (is_zero r w c) (else_updates r t other v) (body_updates r t b v) (else_updates r t other w)
        (body_updates r t b w) (zero_same v w same c) (else_same t other v w same) (body_same t b v w same)
    stmt_same t (CaseStmt subject arms) v w same =
        let n = case_width r subject arms in
        ap (λ x. arms_updates r t arms n x (default_updates r t arms v) v) (value_same r v w same subject n)
        ∙ arms_same t arms n (value r w subject n) (default_updates r t arms v) (default_updates r t arms w) v w same
        (default_same t arms v w same)
    stmt_same t (AssignStmt target op e) v w same =
        ap (target_updates r v target) (value_same r v w same e (assigned_width r target e))
        ∙ target_same v w same target (assigned r w target e)

    stmts_same : (t : Timing) (ss : StmtsOf ℕ) (v w : Values) → Agree r v w → stmts_updates r t ss v ≡ stmts_updates r t ss w
    stmts_same t NoStmts v w same = refl
    stmts_same t (MoreStmts s ss) v w same =
        let us = stmt_updates r t s v in
        ap (λ xs. us ++ xs) (stmts_same t ss (seen t us v) (seen t us w) (seen_agree t us v w (stmt_in t s v) same))
        ∙ ap (λ xs. xs ++ stmts_updates r t ss (seen t xs w)) (stmt_same t s v w same)

    pub body_same : (t : Timing) (b : BodyOf ℕ) (v w : Values) → Agree r v w → body_updates r t b v ≡ body_updates r t b w
    body_same t (StmtBody s) v w same = stmt_same t s v w same
    body_same t EmptyBody v w same = refl

    else_same : (t : Timing) (o : ElseOf ℕ) (v w : Values) → Agree r v w → else_updates r t o v ≡ else_updates r t o w
    else_same t NoElse v w same = refl
    else_same t (Else b) v w same = body_same t b v w same

    arms_same : (t : Timing) (arms : ArmsOf ℕ) (n x : ℕ) (us us' : List Update) (v w : Values) → Agree r v w → us ≡ us'
        → arms_updates r t arms n x us v ≡ arms_updates r t arms n x us' w
    arms_same t NoArms n x us us' v w same h = h
    arms_same t (MoreArms (LabelsArm labels b) rest) n x us us' v w same h =
        if_same (matches r v labels n x) (matches r w labels n x) (body_updates r t b v) (arms_updates r t rest n x us v)
        (body_updates r t b w) (arms_updates r t rest n x us' w) (matches_same v w same labels n x) (body_same t b v w same)
        (arms_same t rest n x us us' v w same h)
    arms_same t (MoreArms (DefaultArm line colon b) rest) n x us us' v w same h = arms_same t rest n x us us' v w same h

    default_same : (t : Timing) (arms : ArmsOf ℕ) (v w : Values) → Agree r v w → default_updates r t arms v ≡ default_updates r t arms w
    default_same t NoArms v w same = refl
    default_same t (MoreArms (LabelsArm labels b) rest) v w same = default_same t rest v w same
    default_same t (MoreArms (DefaultArm line colon b) rest) v w same = body_same t b v w same
