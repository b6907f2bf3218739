-- Statements of code, one after the other.
use Rattle.std.proofs.Common.{◌≡◌, ℕ, ◌||◌, false, List, [], ◌∷◌, ◌++◌, refl, ap, sym, ◌∙◌}
use Rattle.std.proofs.Common.{append_assoc, ◌^◌}
use Rattle.std.proofs.Math.Path.{fun_ext}
use Rattle.std.proofs.lemmas.List.{append-nil}
use Rattle.std.proofs.lemmas.List.Folds.{list_any-append}
use Rattle.std.proofs.Math.Bool.{or_assoc}
use Rattle.vlog_size.proofs.vidi_bits_lemmas.Bools.{or_none}
use Rattle.net_design.specs.declared.act.Act.{Act}
use Rattle.net_design.specs.declared.act.Act.TheVariants.{Branch}
use Rattle.net_design.specs.declared.act.Guard.{Guard}
use Rattle.net_design.specs.declared.act.Timing.{Timing}
use Rattle.net_design.specs.declared.act.Timing.TheVariants.{Blocking, Nonblocking}
use Rattle.net_design.specs.declared.values.Values.{Values}
use Rattle.net_design.specs.declared.values.Update.{Update}
use Rattle.net_design.specs.Updates as code
use Rattle.net_design.specs.Bits as bits
use Rattle.net_design.specs.Bits.{BitSet, no_bits, known_after}
use Rattle.net_design.specs.Sized.{IsSizedAct, IsSizedBlock, AreSizedGuards, IsShort, IsCountable}
use Rattle.net_design.proofs.UpdateLaws.{apply_both, two_blocks}
use Rattle.net_design.proofs.Rows.{updates_branch, branch_sized}
use Rattle.net_code.proofs.RowBits.{branch_writes, branch_adds, branch_open}
use Rattle.net_code.specs.Targets.{targets, block_targets}
use Rattle.net_code.proofs.TargetRows.{branch_targets}
use Rattle.vlog_block.specs.Naming.{place_names, code_names}
use Rattle.vlog_block.proofs.Names.{code_append, names_append}
use Rattle.vlog_block.specs.Extends.{Doing, Extends, doing_block, doing_branch}

-- ---- what is known to the next statement

pub same_bits : (a b : BitSet) → ((m k : ℕ) → a m k ≡ b m k) → a ≡ b
same_bits a b h = fun_ext (λ m. fun_ext (λ k. h m k))

pub known_none : (t : Timing) (known : BitSet) (m k : ℕ) → known_after t known no_bits m k ≡ known m k
known_none Blocking known m k = sym (or_none (known m k))
known_none Nonblocking known m k = refl

known_both : (t : Timing) (known a b c : BitSet) → ((m k : ℕ) → c m k ≡ (a m k || b m k)) → (m k : ℕ)
    → known_after t known c m k ≡ known_after t (known_after t known a) b m k
known_both Blocking known a b c h m k = ap (λ x. known m k || x) (h m k) ∙ sym (or_assoc (known m k) (a m k) (b m k))
known_both Nonblocking known a b c h m k = refl

-- after those of a, then those of b, where c has both
pub known_then : (t : Timing) (known a b c : BitSet) → ((m k : ℕ) → c m k ≡ (a m k || b m k))
    → known_after t known c ≡ known_after t (known_after t known a) b
known_then t known a b c h = same_bits (known_after t known c) (known_after t (known_after t known a) b) (known_both t known a b c h)

seen_both : (t : Timing) (us ws : List Update) (v : Values) → code.seen t (us ++ ws) v ≡ code.seen t ws (code.seen t us v)
seen_both Blocking us ws v = apply_both us ws v
seen_both Nonblocking us ws v = refl

-- ---- nothing, and one thing after another

abbrev pub nothing : Doing
nothing = record { updates = λ t v. []; writes = λ m k. false; adds = λ m k. false; reads = λ t known m k. false; names = [] }

abbrev pub then_ : Doing → Doing → Doing
then_ a b = record {
  updates = λ t v. a.updates t v ++ b.updates t (code.seen t (a.updates t v) v);
  writes = λ m k. a.writes m k || b.writes m k;
  adds = λ m k. a.adds m k || b.adds m k;
  reads = λ t known m k. a.reads t known m k || b.reads t (known_after t known a.adds) m k;
  names = a.names ++ b.names;
}

pub extends_none : (old : List Act) → Extends nothing old old
extends_none old = record {
  updates = λ t v. sym (append-nil (code.block_updates t old v));
  writes = λ m k. or_none (bits.block_writes old m k);
  adds = λ m k. or_none (bits.block_adds old m k);
  reads = λ t known m k. or_none (bits.block_open_reads t old known m k);
  names = sym (append-nil (code_names old));
  sized = λ h. h;
}

pub extends_both : (a b : Doing) (old mid new : List Act) → Extends a old mid → Extends b mid new → Extends (then_ a b) old new
extends_both a b old mid new x y = record {
  updates = λ t v.
      let us = code.block_updates t old v in
      let s = code.seen t us v in
      y.updates t v
      ∙ ap (λ ws. ws ++ b.updates t (code.seen t ws v)) (x.updates t v)
      ∙ append_assoc us (a.updates t s) (b.updates t (code.seen t (us ++ a.updates t s) v))
      ∙ ap (λ u. us ++ (a.updates t s ++ b.updates t u)) (seen_both t us (a.updates t s) v);
  writes = λ m k.
      y.writes m k ∙ ap (λ z. z || b.writes m k) (x.writes m k) ∙ or_assoc (bits.block_writes old m k) (a.writes m k) (b.writes m k);
  adds = λ m k. y.adds m k ∙ ap (λ z. z || b.adds m k) (x.adds m k) ∙ or_assoc (bits.block_adds old m k) (a.adds m k) (b.adds m k);
  reads = λ t known m k.
      let before = known_after t known (bits.block_adds old) in
      y.reads t known m k
      ∙ ap (λ z. z || b.reads t (known_after t known (bits.block_adds mid)) m k) (x.reads t known m k)
      ∙ ap (λ (s : BitSet). (bits.block_open_reads t old known m k || a.reads t before m k) || b.reads t s m k)
      (known_then t known (bits.block_adds old) a.adds (bits.block_adds mid) x.adds)
      ∙ or_assoc (bits.block_open_reads t old known m k) (a.reads t before m k) (b.reads t (known_after t before a.adds) m k);
  names = y.names ∙ ap (λ ns. ns ++ b.names) x.names ∙ append_assoc (code_names old) a.names b.names;
  sized = λ h. y.sized (x.sized h);
}

-- ---- one statement

abbrev pub doing_act : Act → Doing
doing_act a = record {
  updates = λ t v. code.updates t a v;
  writes = λ m k. bits.writes a m k;
  adds = λ m k. bits.adds a m k;
  reads = λ t known m k. bits.open_reads t a known m k;
  names = place_names (targets a);
}

open_both : (t : Timing) (xs ys : List Act) (known : BitSet) (m k : ℕ)
    → bits.block_open_reads t (xs ++ ys) known m k
    ≡ (bits.block_open_reads t xs known m k || bits.block_open_reads t ys (known_after t known (bits.block_adds xs)) m k)
open_both t [] ys known m k = ap (λ (s : BitSet). bits.block_open_reads t ys s m k)
    (sym (same_bits (known_after t known no_bits) known (known_none t known)))
open_both t (a ∷ xs) ys known m k =
    let mine = bits.open_reads t a known m k in
    let next = known_after t known (bits.adds a) in
    ap (λ b. mine || b) (open_both t xs ys next m k)
    ∙ ap (λ (s : BitSet). mine || (bits.block_open_reads t xs next m k || bits.block_open_reads t ys s m k))
    (sym (known_then t known (bits.adds a) (bits.block_adds xs) (bits.block_adds (a ∷ xs)) (λ m k. refl)))
    ∙ sym (or_assoc mine (bits.block_open_reads t xs next m k)
    (bits.block_open_reads t ys (known_after t known (bits.block_adds (a ∷ xs))) m k))

acts_sized : (xs : List Act) (a : Act) → IsSizedBlock xs → IsSizedAct a → IsSizedBlock (xs ++ a ∷ [])
acts_sized [] a h k = (k, tt)
acts_sized (x ∷ xs) a h k = (h.0, acts_sized xs a h.1 k)

-- what one statement more names
one_name : (old : List Act) (a : Act) → code_names (old ++ a ∷ []) ≡ code_names old ++ place_names (targets a)
unfolding block_targets
one_name old a =
    code_append old (a ∷ []) ∙ ap (λ ps. code_names old ++ place_names ps) (append-nil (targets a))

pub extends_one : (old : List Act) (a : Act) → IsSizedAct a → Extends (doing_act a) old (old ++ a ∷ [])
extends_one old a s = record {
  updates = λ t v.
      let seen = code.seen t (code.block_updates t old v) v in
      two_blocks t old (a ∷ []) v ∙ ap (λ us. code.block_updates t old v ++ us) (append-nil (code.updates t a seen));
  writes = λ m k.
      list_any-append (λ (x : Act). bits.writes x m k) old (a ∷ []) ∙ ap (λ b. bits.block_writes old m k || b)
      (sym (or_none (bits.writes a m k)));
  adds = λ m k.
      list_any-append (λ (x : Act). bits.adds x m k) old (a ∷ []) ∙ ap (λ b. bits.block_adds old m k || b)
      (sym (or_none (bits.adds a m k)));
  reads = λ t known m k.
      open_both t old (a ∷ []) known m k
      ∙ ap (λ b. bits.block_open_reads t old known m k || b)
      (sym (or_none (bits.open_reads t a (known_after t known (bits.block_adds old)) m k)));
  names = one_name old a;
  sized = λ h. acts_sized old a h s;
}

-- ---- the same said in other words

pub record Same (a b : Doing) : Type 0 where
  pub updates : (t : Timing) (v : Values) → a.updates t v ≡ b.updates t v
  pub writes : (m k : ℕ) → a.writes m k ≡ b.writes m k
  pub adds : (m k : ℕ) → a.adds m k ≡ b.adds m k
  pub reads : (t : Timing) (known : BitSet) (m k : ℕ) → a.reads t known m k ≡ b.reads t known m k
  pub names : a.names ≡ b.names

pub extends_same : (a b : Doing) (old new : List Act) → Same a b → Extends a old new → Extends b old new
extends_same a b old new s x = record {
  updates = λ t v.
      let seen = code.seen t (code.block_updates t old v) v in
      x.updates t v ∙ ap (λ us. code.block_updates t old v ++ us) (s.updates t seen);
  writes = λ m k. x.writes m k ∙ ap (λ z. bits.block_writes old m k || z) (s.writes m k);
  adds = λ m k. x.adds m k ∙ ap (λ z. bits.block_adds old m k || z) (s.adds m k);
  reads = λ t known m k.
      x.reads t known m k ∙ ap (λ z. bits.block_open_reads t old known m k || z)
      (s.reads t (known_after t known (bits.block_adds old)) m k);
  names = x.names ∙ ap (λ ns. code_names old ++ ns) s.names;
  sized = x.sized;
}

-- ---- a whole list

pub seen_none : (t : Timing) (v : Values) → code.seen t [] v ≡ v
seen_none Blocking v = refl
seen_none Nonblocking v = refl

pub no_names : code_names [] ≡ []
unfolding block_targets
no_names = refl

-- a list that is made from the empty one
pub from_none : (does : Doing) (acts : List Act) → Extends does [] acts → Same (doing_block acts) does
from_none does acts x = record {
  updates = λ t v. x.updates t v ∙ ap (λ (u : Values). does.updates t u) (seen_none t v);
  writes = λ m k. x.writes m k;
  adds = λ m k. x.adds m k;
  reads = λ t known m k.
      x.reads t known m k ∙ ap (λ (s : BitSet). does.reads t s m k) (same_bits (known_after t known no_bits) known (known_none t known));
  names = x.names ∙ ap (λ ns. ns ++ does.names) no_names;
}

pub none_sized : (does : Doing) (acts : List Act) → Extends does [] acts → IsSizedBlock acts
none_sized does acts x = x.sized tt

-- ---- a choice

pub extends_branch : (guards : List Guard) (others old : List Act) → AreSizedGuards guards → IsSizedBlock others
    → Extends (doing_branch guards others) old (old ++ Branch guards others ∷ [])
extends_branch guards others old g h =
    extends_same (doing_act (Branch guards others)) (doing_branch guards others) old (old ++ Branch guards others ∷ []) (record {
      updates = λ t v. updates_branch t guards others v;
      writes = λ m k. branch_writes guards others m k;
      adds = λ m k. branch_adds guards others m k;
      reads = λ t known m k. branch_open t guards others known m k;
      names = ap place_names (branch_targets guards others) ∙ names_append _ _;
    }) (extends_one old (Branch guards others) (branch_sized (IsShort (2 ^ 64)) (IsCountable (2 ^ 64)) guards others g h))
