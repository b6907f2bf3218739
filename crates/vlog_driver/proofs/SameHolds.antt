-- What an item asks of an instance's own numbers doesn't look at others.
use Rattle.std.proofs.Common.{◌≡◌, ℕ, ◌-◌, ◌<◌, ◌≤◌, max, Bool, true, false, if◌then◌else◌, List, [], ◌∷◌, length}
use Rattle.std.proofs.Common.{Option, Some, None, refl, ap, sym, subst, ◌∙◌, arith}
use Rattle.std.specs.Int.{bit_at}
use Rattle.std.specs.Option.{option_or}
use Rattle.std.proofs.lemmas.Bool.{eqb-true, and_parts}
use Rattle.vlog_tree.specs.Tree.{ExprOf, TargetOf, AlwaysOf}
use Rattle.vlog_names.specs.vlog_size.Names.{Readable}
use Rattle.net_design.specs.declared.values.Target as design
use Rattle.net_design.specs.declared.values.Target.TheVariants as designs
use Rattle.net_design.specs.declared.values.Update.{Update}
use Rattle.net_design.specs.declared.values.Values.{Values}
use Rattle.net_design.specs.Last.{same_target, touches, last_bit, bit_of, IsThere, HasLast}
use Rattle.vlog_block.specs.Value.{value, width_of}
use Rattle.vlog_block.specs.Targets.{target_width, target_updates}
use Rattle.vlog_block.specs.Updates.{timing_of, always_updates}
use Rattle.vlog_driver.specs.Items.{IsAssigned}
use Rattle.vlog_driver.specs.Own.{IsLong, Agree, word_total, AssignedAlike, SettledAlike, UpdatedAlike}
use Rattle.vlog_driver.proofs.SameValue.{value_same}
use Rattle.vlog_driver.proofs.SameUpdates.{TargetIn, AreIn, target_in, target_same, body_in, body_same}

pub turned : (r : Readable) (v w : Values) → Agree r v w → Agree r w v
turned r v w same = record {
  left = same.right;
  right = same.left;
  nets = λ m l. sym (same.nets m l);
  words = λ i l. sym (same.words i l);
}

module _ (r : Readable) where
  same_in : (t u : design.Target) → same_target u t ≡ true → TargetIn r u → TargetIn r t
  same_in (designs.Net m) (designs.Net n) h l = subst (λ k. k < length r.nets) (eqb-true n m h) l
  same_in (designs.Net m) (designs.Word j) h l = absurd (cc)
  same_in (designs.Word i) (designs.Net n) h l = absurd (cc)
  same_in (designs.Word i) (designs.Word j) h l = subst (λ k. k < word_total r) (eqb-true j i h) l

  touched_by : (u : Update) (t : design.Target) (k b : ℕ) (test : Bool) → touches u t k ≡ test → TargetIn r u.target
      → (if test then Some (bit_at u.number (k - u.low)) else None) ≡ Some b → TargetIn r t
  touched_by u t k b true e l h = same_in t u.target (and_parts _ _ e).0 l
  touched_by u t k b false e l h = absurd (cc)

  last_by : (u : Update) (t : design.Target) (k b : ℕ) (o : Option ℕ) → ((x : ℕ) → o ≡ Some x → TargetIn r t) → TargetIn r u.target
      → option_or o (if touches u t k then Some (bit_at u.number (k - u.low)) else None) ≡ Some b → TargetIn r t
  last_by u t k b (Some x) more l h = more x refl
  last_by u t k b None more l h = touched_by u t k b (touches u t k) refl l h

  last_in : (us : List Update) (t : design.Target) (k b : ℕ) → AreIn r us → last_bit us t k ≡ Some b → TargetIn r t
  last_in [] t k b l h = absurd (cc)
  last_in (u ∷ us) t k b l h = last_by u t k b (last_bit us t k) (λ x e. last_in us t k x l.1 e) l.0 h

  there : (t : design.Target) (v : Values) → TargetIn r t → IsLong r v → IsThere t v
  there (designs.Net m) v l h = let most : length r.nets ≤ length v.nets = h.nets in omega (arith, l, most)
  there (designs.Word i) v l h = let most : word_total r ≤ length v.words = h.words in omega (arith, l, most)

  bit_same : (t : design.Target) (k : ℕ) (v w : Values) → TargetIn r t → Agree r v w → bit_of t k v ≡ bit_of t k w
  bit_same (designs.Net m) k v w l same = ap (λ x. bit_at x k) (same.nets m l)
  bit_same (designs.Word i) k v w l same = ap (λ x. bit_at x k) (same.words i l)

  last_same : (us : List Update) (v w : Values) → AreIn r us → Agree r v w → HasLast us v → HasLast us w
  last_same us v w l same h t k b is_there k_small e =
      let inside : TargetIn r t = last_in us t k b l e in
      sym (bit_same t k v w inside same) ∙ h t k b (there t v inside same.left) k_small e

one_way : (r q : Readable) (v w u z : Values) (target : TargetOf ℕ) (e : ExprOf ℕ) → Agree r v w → Agree q u z
    → IsAssigned r v target q u e → IsAssigned r w target q z e
one_way r q v w u z target e same alike h =
    let n = max (target_width r target) (width_of q e) in
    let us : target_updates r v target (value q u e n) ≡ target_updates r w target (value q z e n) =
    ap (target_updates r v target) (value_same q u z alike e n) ∙ target_same r v w same target (value q z e n) in
    subst (λ xs. HasLast xs w) us
    (last_same r (target_updates r v target (value q u e n)) v w (target_in r v target (value q u e n)) same h)

pub assigned_alike : AssignedAlike
assigned_alike r q v w u z target e same alike =
    (one_way r q v w u z target e same alike, one_way r q w v z u target e (turned r v w same) (turned q u z alike))

settled_way : (r : Readable) (v w : Values) (a : AlwaysOf ℕ) → Agree r v w → HasLast (always_updates r a v) v
    → HasLast (always_updates r a w) w
settled_way r v w a same h =
    subst (λ xs. HasLast xs w) (body_same r (timing_of a.event) a.body v w same)
    (last_same r (always_updates r a v) v w (body_in r (timing_of a.event) a.body v) same h)

pub settled_alike : SettledAlike
settled_alike r v w a same = (settled_way r v w a same, settled_way r w v a (turned r v w same))

pub updated_alike : UpdatedAlike
updated_alike r v w a same = body_same r (timing_of a.event) a.body v w same
