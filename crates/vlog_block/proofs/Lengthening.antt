-- Guards of code, one after the other, and those of the arms of a `case`.
use Rattle.std.proofs.Common.{◌≡◌, ℕ, ◌==◌, ◌&&◌, ◌||◌, not, Bool, true, false, List, [], ◌∷◌, ◌++◌, if◌then◌else◌, refl, ap, sym, ◌∙◌}
use Rattle.std.specs.List.{list_any}
use Rattle.std.proofs.lemmas.List.Folds.{list_any-append}
use Rattle.vlog_tree.specs.Tree.{ExprOf, ArmOf, LabelsArm, ArmsOf, MoreArms, BodyOf}
use Rattle.vlog_size.specs.Names.{Readable}
use Rattle.net_design.specs.declared.act.Guard.{Guard}
use Rattle.net_design.specs.declared.act.Timing.{Timing}
use Rattle.net_design.specs.declared.values.Values.{Values}
use Rattle.net_design.specs.declared.values.Update.{Update}
use Rattle.net_design.specs.Updates as code
use Rattle.net_design.specs.Value as values
use Rattle.net_design.specs.Bits as bits
use Rattle.net_design.specs.Bits.{BitSet}
use Rattle.net_design.specs.Sized.{IsSizedRhs, IsSizedBlock, AreSizedGuards}
use Rattle.net_code.specs.Found.{guard_writes, guard_adds, guard_reads}
use Rattle.vlog_block.specs.Value.{value}
use Rattle.vlog_block.specs.Bits.{reads}
use Rattle.vlog_block.specs.Updates.{matches, body_updates}
use Rattle.vlog_block.specs.Written.{labels_read, arm_labels_read, arm_open, arms_open}
use Rattle.std.proofs.Common.{append_assoc}
use Rattle.std.proofs.lemmas.List.{append-nil}
use Rattle.std.proofs.Math.Bool.{or_assoc}
use Rattle.vlog_size.proofs.vidi_bits_lemmas.Bools.{or_none, and_assoc, and_true}
use Rattle.net_code.specs.Targets.{block_targets, guard_targets}
use Rattle.vlog_block.specs.Naming.{place_names, code_names, guard_names}
use Rattle.vlog_block.proofs.Names.{guards_append}
use Rattle.vlog_block.specs.Extends.{Choosing, Lengthens, choosing_arm, choosing_arms, has_some, arm_has_label, has_label}
use Rattle.vlog_block.specs.Extends.{doing_block, doing_body}
use Rattle.vlog_block.proofs.Extending.{Same}

-- ---- nothing, and one thing after another

abbrev pub none : Choosing
none = record { updates = λ t us v. us; writes = λ m k. false; adds = λ m k. true; reads = λ t known m k. false; names = [] }

abbrev pub first_of : Choosing → Choosing → Choosing
first_of a b = record {
  updates = λ t us v. a.updates t (b.updates t us v) v;
  writes = λ m k. a.writes m k || b.writes m k;
  adds = λ m k. a.adds m k && b.adds m k;
  reads = λ t known m k. a.reads t known m k || b.reads t known m k;
  names = a.names ++ b.names;
}

pub lengthens_none : (old : List Guard) → Lengthens none old old
lengthens_none old = record {
  updates = λ t us v. refl;
  writes = λ m k. or_none (guard_writes old m k);
  adds = λ m k. and_true (guard_adds old m k);
  reads = λ t known m k. or_none (guard_reads t old known m k);
  names = sym (append-nil (guard_names old));
  sized = λ h. h;
}

pub lengthens_both : (a b : Choosing) (old mid new : List Guard) → Lengthens a old mid → Lengthens b mid new
    → Lengthens (first_of a b) old new
lengthens_both a b old mid new x y = record {
  updates = λ t us v. y.updates t us v ∙ x.updates t (b.updates t us v) v;
  writes = λ m k. y.writes m k ∙ ap (λ z. z || b.writes m k) (x.writes m k) ∙ or_assoc (guard_writes old m k) (a.writes m k) (b.writes m k);
  adds = λ m k.
      y.adds m k ∙ ap (λ z. z && b.adds m k) (x.adds m k) ∙ sym (and_assoc (guard_adds old m k) (a.adds m k) (b.adds m k));
  reads = λ t known m k.
      y.reads t known m k ∙ ap (λ z. z || b.reads t known m k) (x.reads t known m k)
      ∙ or_assoc (guard_reads t old known m k) (a.reads t known m k) (b.reads t known m k);
  names = y.names ∙ ap (λ ns. ns ++ b.names) x.names ∙ append_assoc (guard_names old) a.names b.names;
  sized = λ h. y.sized (x.sized h);
}

-- ---- one guard

abbrev pub choosing_guard : Guard → Choosing
choosing_guard g = record {
  updates = λ t us v. if values.value g.condition v == 0 then us else code.block_updates t g.body v;
  writes = λ m k. bits.block_writes g.body m k;
  adds = λ m k. bits.block_adds g.body m k;
  reads = λ t known m k. (bits.reads g.condition m k && not (known m k)) || bits.block_open_reads t g.body known m k;
  names = code_names g.body;
}

updates_end : (t : Timing) (gs : List Guard) (g : Guard) (us : List Update) (v : Values)
    → code.guard_updates t (gs ++ g ∷ []) us v
    ≡ code.guard_updates t gs (if values.value g.condition v == 0 then us else code.block_updates t g.body v) v
updates_end t [] g us v = refl
updates_end t (x ∷ gs) g us v =
    ap (λ ws. if values.value x.condition v == 0 then ws else code.block_updates t x.body v) (updates_end t gs g us v)

adds_end : (gs : List Guard) (g : Guard) (m k : ℕ) → guard_adds (gs ++ g ∷ []) m k ≡ (guard_adds gs m k && bits.block_adds g.body m k)
adds_end [] g m k = sym (and_true (bits.block_adds g.body m k))
adds_end (x ∷ gs) g m k =
    ap (λ b. bits.block_adds x.body m k && b) (adds_end gs g m k)
    ∙ and_assoc (bits.block_adds x.body m k) (guard_adds gs m k) (bits.block_adds g.body m k)

-- the bits that one guard reads
abbrev guard_read : Timing → Guard → BitSet → BitSet
guard_read t g known m k = (bits.reads g.condition m k && not (known m k)) || bits.block_open_reads t g.body known m k

reads_end : (t : Timing) (gs : List Guard) (g : Guard) (known : BitSet) (m k : ℕ)
    → guard_reads t (gs ++ g ∷ []) known m k ≡ (guard_reads t gs known m k || guard_read t g known m k)
reads_end t [] g known m k =
    let body = bits.block_open_reads t g.body known m k in
    ap (λ b. (bits.reads g.condition m k && not (known m k)) || b) (sym (or_none body))
reads_end t (x ∷ gs) g known m k =
    let test = bits.reads x.condition m k && not (known m k) in
    let body = bits.block_open_reads t x.body known m k in
    ap (λ b. test || (body || b)) (reads_end t gs g known m k)
    ∙ ap (λ b. test || b) (sym (or_assoc body (guard_reads t gs known m k) (guard_read t g known m k)))
    ∙ sym (or_assoc test (body || guard_reads t gs known m k) (guard_read t g known m k))

guards_sized : (gs : List Guard) (g : Guard) → AreSizedGuards gs → IsSizedRhs g.condition × IsSizedBlock g.body
    → AreSizedGuards (gs ++ g ∷ [])
guards_sized [] g h k = (k, tt)
guards_sized (x ∷ gs) g h k = (h.0, guards_sized gs g h.1 k)

one_guard_name : (old : List Guard) (g : Guard) → guard_names (old ++ g ∷ []) ≡ guard_names old ++ code_names g.body
unfolding guard_targets
one_guard_name old g =
    guards_append old (g ∷ []) ∙ ap (λ ps. guard_names old ++ place_names ps) (append-nil (block_targets g.body))

pub lengthens_one : (old : List Guard) (g : Guard) → IsSizedRhs g.condition → IsSizedBlock g.body
    → Lengthens (choosing_guard g) old (old ++ g ∷ [])
lengthens_one old g c b = record {
  updates = λ t us v. updates_end t old g us v;
  writes = λ m k.
      list_any-append (λ (x : Guard). bits.block_writes x.body m k) old (g ∷ []) ∙ ap (λ z. guard_writes old m k || z)
      (sym (or_none (bits.block_writes g.body m k)));
  adds = λ m k. adds_end old g m k;
  reads = λ t known m k. reads_end t old g known m k;
  names = one_guard_name old g;
  sized = λ h. guards_sized old g h (c, b);
}

-- ---- the same said in other words

pub record Alike (a b : Choosing) : Type 0 where
  pub updates : (t : Timing) (us : List Update) (v : Values) → a.updates t us v ≡ b.updates t us v
  pub writes : (m k : ℕ) → a.writes m k ≡ b.writes m k
  pub adds : (m k : ℕ) → a.adds m k ≡ b.adds m k
  pub reads : (t : Timing) (known : BitSet) (m k : ℕ) → a.reads t known m k ≡ b.reads t known m k
  pub names : a.names ≡ b.names

pub lengthens_alike : (a b : Choosing) (old new : List Guard) → Alike a b → Lengthens a old new → Lengthens b old new
lengthens_alike a b old new s x = record {
  updates = λ t us v. x.updates t us v ∙ ap (λ ws. code.guard_updates t old ws v) (s.updates t us v);
  writes = λ m k. x.writes m k ∙ ap (λ z. guard_writes old m k || z) (s.writes m k);
  adds = λ m k. x.adds m k ∙ ap (λ z. guard_adds old m k && z) (s.adds m k);
  reads = λ t known m k. x.reads t known m k ∙ ap (λ z. guard_reads t old known m k || z) (s.reads t known m k);
  names = x.names ∙ ap (λ ns. guard_names old ++ ns) s.names;
  sized = x.sized;
}

-- ---- arms

-- two readings of what isn't known, with others between them
pub or_then : (x y n a b : Bool) → (((x && n) || a) || ((y && n) || b)) ≡ (((x || y) && n) || (a || b))
or_then true y true a b = refl
or_then true true false a b = refl
or_then true false false a b = refl
or_then false true true true b = refl
or_then false true true false b = refl
or_then false true false a b = refl
or_then false false n a b = refl

-- an arm, then the others
pub arms_more : (r : Readable) (subject : ExprOf ℕ) (w : ℕ) (a : ArmOf ℕ) (rest : ArmsOf ℕ)
    → Alike (first_of (choosing_arm r subject w a) (choosing_arms r subject w rest)) (choosing_arms r subject w (MoreArms a rest))
arms_more r subject w a rest = record {
  updates = λ t us v. refl;
  writes = λ m k. refl;
  adds = λ m k. refl;
  reads = λ t known m k.
      let s = reads r subject m k in
      let n = not (known m k) in
      let o = arm_open r t a known m k in
      let p = arms_open r t rest known m k in
      let x = arm_has_label a in
      let y = has_label rest in
      let l = arm_labels_read r a m k in
      let q = labels_read r rest m k in
      or_then ((x && s) || l) ((y && s) || q) n o p ∙ ap (λ z. (z && n) || (o || p)) (or_then x y s l q);
  names = refl;
}

-- the reading of the subject with each label
read_labels : (s x y z : Bool) → ((s || x) || ((y && s) || z)) ≡ (s || (x || z))
read_labels true x y z = refl
read_labels false true y z = refl
read_labels false false true z = refl
read_labels false false false z = refl

labels_with : (s : Bool) (f : ExprOf ℕ → Bool) (labels : List (ExprOf ℕ))
    → list_any (λ (e : ExprOf ℕ). s || f e) labels ≡ ((has_some labels && s) || list_any f labels)
labels_with s f [] = refl
labels_with s f (e ∷ es) =
    ap (λ z. (s || f e) || z) (labels_with s f es) ∙ read_labels s (f e) (has_some es) (list_any f es)

chosen : (z b : Bool) (us xs ys : List Update) → not z ≡ b → xs ≡ ys → (if z then us else xs) ≡ (if b then ys else us)
chosen true true us xs ys h e = absurd cc
chosen true false us xs ys h e = refl
chosen false true us xs ys h e = e
chosen false false us xs ys h e = absurd cc

-- a guard whose condition is that the subject equals a label
pub arm_guard : (r : Readable) (subject : ExprOf ℕ) (w : ℕ) (labels : List (ExprOf ℕ)) (b : BodyOf ℕ) (g : Guard)
    → ((v : Values) → not (values.value g.condition v == 0) ≡ matches r v labels w (value r v subject w))
    → ((m k : ℕ) → bits.reads g.condition m k ≡ list_any (λ (e : ExprOf ℕ). reads r subject m k || reads r e m k) labels)
    → Same (doing_block g.body) (doing_body r b)
    → Alike (choosing_guard g) (choosing_arm r subject w (LabelsArm labels b))
arm_guard r subject w labels b g test read same = record {
  updates = λ t us v. chosen (values.value g.condition v == 0) (matches r v labels w (value r v subject w)) us
      (code.block_updates t g.body v) (body_updates r t b v) (test v) (same.updates t v);
  writes = λ m k. same.writes m k;
  adds = λ m k. same.adds m k;
  reads = λ t known m k.
      ap (λ z. (z && not (known m k)) || bits.block_open_reads t g.body known m k)
      (read m k ∙ labels_with (reads r subject m k) (λ (e : ExprOf ℕ). reads r e m k) labels)
      ∙ ap (λ z. (((has_some labels && reads r subject m k) || list_any (λ (e : ExprOf ℕ). reads r e m k) labels) && not (known m k)) || z)
      (same.reads t known m k);
  names = same.names;
}
