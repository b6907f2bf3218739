-- Where nothing is found, each parameter is known and has a lawful constant.
use Rattle.std.proofs.Common.{◌≡◌, ℕ, Bool, true, false, if◌then◌else◌, List, [], ◌∷◌, ◌++◌, take, length, Option}
use Rattle.std.proofs.Common.{None, Some, is_some}
use Rattle.std.proofs.Common.{zero, suc, refl, ap, sym, ◌∙◌, subst}
use Rattle.std.specs.List.{list_all, flat_map}
use Rattle.std.specs.Str.{bytes_eq}
use Rattle.std.proofs.lemmas.Bool.{and_from}
use Rattle.vlog_size.proofs.vidi_bits_lemmas.Bools.{left_of, right_of}
use Rattle.vlog_size.proofs.vidi_bits_lemmas.Lists.{nil_left, nil_right}
use Rattle.vlog_tree.specs.Tree.{ExprOf, ConnOf, RangeOf, ParameterHeadOf, ParameterOf, NamedValueOf, ItemOf, WiresItem, DrivenWiresItem}
use Rattle.vlog_tree.specs.Tree.{RegsItem, LocalparamsItem, AssignItem, AlwaysItem, InstanceItem}
use Rattle.vlog_size.specs.declared.scope.Param.{Param}
use Rattle.vlog_size.specs.declared.scope.Scope.{Scope}
use Rattle.vlog_size.specs.Table.{Named, value_of, added}
use Rattle.vlog_size.specs.Names.{Readable, params_alone, are_lawful_params}
use Rattle.vlog_size.specs.Size.{Sizes}
use Rattle.vlog_scope.specs.declared.fault.FaultKind.TheVariants.{Constant, Width}
use Rattle.vlog_scope.specs.declared.extent.Extent.{Extent}
use Rattle.vlog_scope.specs.Extents.{constant_sizes, extent_of, parameter_extent}
use Rattle.vlog_scope.specs.Params.{with_override, overrides_after, given_or, param_of, header_params, local_params}
use Rattle.vlog_scope.specs.Params.{item_params, items_params}
use Rattle.vlog_scope.specs.Scope.{readable_at, after_name, after_names, after_item}
use Rattle.vlog_scope.specs.Faults.{range_faults, name_faults, constant_faults, fixed_faults, override_faults, local_faults, item_faults}
use Rattle.vlog_scope.specs.Faults.{items_faults, parameter_head_faults, parameter_faults, parameters_faults}
use Rattle.vlog_scope.proofs.Declared.{Grown, grown_twice, grown_added, grown_header, grown_locals, grown_items, front}
use Rattle.vlog_scope.proofs.Declared.{declared_added}
use Rattle.vlog_scope.proofs.Sound.{is_good, Makes, makes, is_known, good_param, extent_known, named}

-- ---- tables
all_or : {V : Type 0} (p : Named V → Bool) (b : Bool) (xs ys : List (Named V)) → list_all p xs ≡ true → list_all p ys ≡ true
    → list_all p (if b then xs else ys) ≡ true
all_or p true xs ys h k = h
all_or p false xs ys h k = k

all_end : {V : Type 0} (p : Named V → Bool) (xs : List (Named V)) (r : Named V) → list_all p xs ≡ true → p r ≡ true
    → list_all p (xs ++ r ∷ []) ≡ true
all_end p [] r h k = and_from (p r) true k refl
all_end p (x ∷ xs) r h k =
    and_from (p x) (list_all p (xs ++ r ∷ [])) (left_of (p x) (list_all p xs) h) (all_end p xs r (right_of (p x) (list_all p xs) h) k)

pub all_added : {V : Type 0} (p : Named V → Bool) (xs : List (Named V)) (n : List ℕ) (v : V) → list_all p xs ≡ true
    → p (record { name = n; value = v }) ≡ true → list_all p (added xs n v) ≡ true
all_added p xs n v h k =
    all_or p (is_some (value_of xs n)) xs (xs ++ record { name = n; value = v } ∷ []) h
    (all_end p xs (record { name = n; value = v }) h k)

pub all_front : {V : Type 0} (p : Named V → Bool) (n : ℕ) (xs : List (Named V)) → list_all p xs ≡ true → list_all p (take n xs) ≡ true
all_front p zero xs h = refl
all_front p (suc n) [] h = refl
all_front p (suc n) (x ∷ xs) h =
    and_from (p x) (list_all p (take n xs)) (left_of (p x) (list_all p xs) h) (all_front p n xs (right_of (p x) (list_all p xs) h))

pub lawful_added : (xs : List (Named Param)) (n : List ℕ) (v : Param) → are_lawful_params xs ≡ true → is_good v ≡ true
    → are_lawful_params (added xs n v) ≡ true
lawful_added xs n v h k = all_added (λ (p : Named Param). is_good p.value) xs n v h k

pub lawful_front : (n : ℕ) (xs : List (Named Param)) → are_lawful_params xs ≡ true → are_lawful_params (take n xs) ≡ true
lawful_front n xs h = all_front (λ (p : Named Param). is_good p.value) n xs h

-- ---- overrides
abbrev pub MakesAll : List (Named Sizes) → Type 0
MakesAll [] = Unit {0}
MakesAll (x ∷ xs) = Makes x.value × MakesAll xs

made_or : (b : Bool) (xs ys : List (Named Sizes)) → MakesAll xs → MakesAll ys → MakesAll (if b then xs else ys)
made_or true xs ys h k = h
made_or false xs ys h k = k

made_end : (xs : List (Named Sizes)) (r : Named Sizes) → MakesAll xs → Makes r.value → MakesAll (xs ++ r ∷ [])
made_end [] r h k = (k, tt)
made_end (x ∷ xs) r h k = (h.0, made_end xs r h.1 k)

made_added : (xs : List (Named Sizes)) (n : List ℕ) (e : Sizes) → MakesAll xs → Makes e → MakesAll (added xs n e)
made_added xs n e h k =
    made_or (is_some (value_of xs n)) xs (xs ++ record { name = n; value = e } ∷ []) h (made_end xs (record { name = n; value = e }) h k)

made_with : (r : Readable) (given : List (Named Sizes)) (n : List ℕ) (v : Option (ExprOf ℕ)) → are_lawful_params r.constants ≡ true
    → fixed_faults Constant r v ≡ [] → fixed_faults Width r v ≡ [] → MakesAll given → MakesAll (with_override r given n v)
made_with r given n None l h k m = m
made_with r given n (Some e) l h k m = made_added given n (constant_sizes r e) m (makes r e l h k)

pub made_after : (r : Readable) (given : List (Named Sizes)) (conns : List (ConnOf ℕ)) → are_lawful_params r.constants ≡ true
    → flat_map (override_faults Constant r) conns ≡ [] → flat_map (override_faults Width r) conns ≡ [] → MakesAll given
    → MakesAll (overrides_after r given conns)
made_after r given [] l h k m = m
made_after r given (c ∷ cs) l h k m =
    made_after r (with_override r given c.id.name c.value) cs l
    (nil_right (override_faults Constant r c) (flat_map (override_faults Constant r) cs) h)
    (nil_right (override_faults Width r c) (flat_map (override_faults Width r) cs) k)
    (made_with r given c.id.name c.value l (nil_left (override_faults Constant r c) (flat_map (override_faults Constant r) cs) h)
    (nil_left (override_faults Width r c) (flat_map (override_faults Width r) cs) k) m)

some_same : (a b : Sizes) → Some a ≡ Some b → a ≡ b
some_same a b h = (cc)

made_if : (b : Bool) (x own : Sizes) (o : Option Sizes) → Makes x → Makes (given_or o own)
    → Makes (given_or (if b then Some x else o) own)
made_if true x own o h k = h
made_if false x own o h k = k

made_or_own : (given : List (Named Sizes)) (n : List ℕ) (own : Sizes) → MakesAll given → Makes own
    → Makes (given_or (value_of given n) own)
made_or_own [] n own m h = h
made_or_own (x ∷ xs) n own m h = made_if (bytes_eq n x.name) x.value own (value_of xs n) m.0 (made_or_own xs n own m.1 h)

-- ---- one parameter
pub same_extent : (s : Scope) (k : ℕ) (range : Option (RangeOf ℕ))
    → extent_of (readable_at s k) range ≡ extent_of (params_alone (take k s.params)) range
same_extent s k None = refl
same_extent s k (Some x) = refl

same_head : (s : Scope) (k : ℕ) (before : Extent) (head : Option (ParameterHeadOf ℕ))
    → parameter_extent (readable_at s k) before head ≡ parameter_extent (params_alone (take k s.params)) before head
same_head s k before None = refl
same_head s k before (Some head) = same_extent s k head.range

known_head : (r : Readable) (before : Extent) (head : Option (ParameterHeadOf ℕ)) → are_lawful_params r.constants ≡ true
    → is_known before ≡ true → parameter_head_faults Constant r head ≡ [] → parameter_head_faults Width r head ≡ []
    → is_known (parameter_extent r before head) ≡ true
known_head r before None l b h k = b
known_head r before (Some head) l b h k = extent_known r head.range l h k

-- what is known of one more parameter of the header
pub record OneMore (given : List (Named Sizes)) (s : Scope) (k : ℕ) (before : Extent) (p : ParameterOf ℕ)
    (xs : List (Named Param)) : Type 0 where
  pub same : parameter_extent (readable_at s k) before p.head ≡ parameter_extent (params_alone xs) before p.head
  pub known : is_known (parameter_extent (params_alone xs) before p.head) ≡ true
  pub good : is_good (param_of (parameter_extent (params_alone xs) before p.head)
      (given_or (value_of given p.id.name) (constant_sizes (params_alone xs) p.value))) ≡ true

one_here : (given : List (Named Sizes)) (s : Scope) (k : ℕ) (before : Extent) (p : ParameterOf ℕ) → MakesAll given
    → is_known before ≡ true → are_lawful_params (take k s.params) ≡ true
    → parameter_faults Constant (readable_at s k) (parameter_extent (readable_at s k) before p.head) p ≡ []
    → parameter_faults Width (readable_at s k) (parameter_extent (readable_at s k) before p.head) p ≡ []
    → OneMore given s k before p (take k s.params)
one_here given s k before p m b l h w =
    let r = readable_at s k in
    let x = parameter_extent r before p.head in
    let hc : parameter_head_faults Constant r p.head ≡ [] = nil_left (parameter_head_faults Constant r p.head) _ h in
    let ec : constant_faults Constant r p.value ≡ [] =
    nil_right (name_faults Constant x p.id) (constant_faults Constant r p.value)
    (nil_right (parameter_head_faults Constant r p.head) (name_faults Constant x p.id ++ constant_faults Constant r p.value) h) in
    let hw : parameter_head_faults Width r p.head ≡ [] = nil_left (parameter_head_faults Width r p.head) _ w in
    let rest : name_faults Width x p.id ++ constant_faults Width r p.value ≡ [] =
    nil_right (parameter_head_faults Width r p.head) (name_faults Width x p.id ++ constant_faults Width r p.value) w in
    let nw : name_faults Width x p.id ≡ [] = nil_left (name_faults Width x p.id) (constant_faults Width r p.value) rest in
    let ew : constant_faults Width r p.value ≡ [] = nil_right (name_faults Width x p.id) (constant_faults Width r p.value) rest in
    let known : is_known x ≡ true = known_head r before p.head l b hc hw in
    let own : Makes (constant_sizes r p.value) = makes r p.value l ec ew in
    let same = same_head s k before p.head in
    record {
      same = same;
      known = sym (ap is_known same) ∙ known;
      good = sym (ap (λ y. is_good (param_of y (given_or (value_of given p.id.name) (constant_sizes r p.value)))) same)
          ∙ good_param x (given_or (value_of given p.id.name) (constant_sizes r p.value)) (named x p.id known nw)
          (made_or_own given p.id.name (constant_sizes r p.value) m own);
    }

pub lawful_header : (given : List (Named Sizes)) (s : Scope) (k : ℕ) (before : Extent) (xs : List (Named Param))
    (ps : List (ParameterOf ℕ))
    → MakesAll given → is_known before ≡ true → k ≡ length xs → Grown (header_params given before xs ps) s.params
    → are_lawful_params xs ≡ true → parameters_faults Constant s k before ps ≡ [] → parameters_faults Width s k before ps ≡ []
    → are_lawful_params (header_params given before xs ps) ≡ true
lawful_header given s k before xs [] m b e g l h w = l
lawful_header given s k before xs (p ∷ ps) m b e g l h w =
    let x = parameter_extent (readable_at s k) before p.head in
    let y = parameter_extent (params_alone xs) before p.head in
    let v = param_of y (given_or (value_of given p.id.name) (constant_sizes (params_alone xs) p.value)) in
    let more = added xs p.id.name v in
    let gm : Grown more s.params = grown_twice more _ s.params (grown_header given y more ps) g in
    let q : take k s.params ≡ xs = ap (λ n. take n s.params) e
    ∙ front xs s.params (grown_twice xs more s.params (grown_added xs p.id.name v) gm) in
    let one : OneMore given s k before p xs =
    subst (OneMore given s k before p) q
    (one_here given s k before p m b (ap are_lawful_params q ∙ l)
    (nil_left (parameter_faults Constant (readable_at s k) x p) _ h) (nil_left (parameter_faults Width (readable_at s k) x p) _ w)) in
    let next = after_name s.params k p.id.name in
    let count : next ≡ length more = ap (λ n. after_name s.params n p.id.name) e ∙ declared_added xs s.params p.id.name v gm in
    let hr : parameters_faults Constant s next x ps ≡ [] =
    nil_right (parameter_faults Constant (readable_at s k) x p) (parameters_faults Constant s next x ps) h in
    let wr : parameters_faults Width s next x ps ≡ [] =
    nil_right (parameter_faults Width (readable_at s k) x p) (parameters_faults Width s next x ps) w in
    lawful_header given s next y more ps m one.known count g (lawful_added xs p.id.name v l one.good)
    (sym (ap (λ z. parameters_faults Constant s next z ps) one.same) ∙ hr)
    (sym (ap (λ z. parameters_faults Width s next z ps) one.same) ∙ wr)

-- ---- local parameters
local_here : (s : Scope) (k : ℕ) (x : Extent) (v : NamedValueOf ℕ) → is_known x ≡ true → are_lawful_params (take k s.params) ≡ true
    → constant_faults Constant (readable_at s k) v.value ≡ [] → name_faults Width x v.id ≡ []
    → constant_faults Width (readable_at s k) v.value ≡ []
    → is_good (param_of x (constant_sizes (params_alone (take k s.params)) v.value)) ≡ true
local_here s k x v b l h n w =
    good_param x (constant_sizes (readable_at s k) v.value) (named x v.id b n) (makes (readable_at s k) v.value l h w)

pub lawful_locals : (s : Scope) (k : ℕ) (x : Extent) (xs : List (Named Param)) (vs : List (NamedValueOf ℕ)) → is_known x ≡ true
    → k ≡ length xs → Grown (local_params x xs vs) s.params → are_lawful_params xs ≡ true
    → local_faults Constant s k x vs ≡ [] → local_faults Width s k x vs ≡ []
    → (are_lawful_params (local_params x xs vs) ≡ true) × (after_names s.params k vs ≡ length (local_params x xs vs))
lawful_locals s k x xs [] b e g l h w = (l, e)
lawful_locals s k x xs (v ∷ vs) b e g l h w =
    let value = param_of x (constant_sizes (params_alone xs) v.value) in
    let more = added xs v.id.name value in
    let gm : Grown more s.params = grown_twice more _ s.params (grown_locals x more vs) g in
    let q : take k s.params ≡ xs = ap (λ n. take n s.params) e
    ∙ front xs s.params (grown_twice xs more s.params (grown_added xs v.id.name value) gm) in
    let next = after_name s.params k v.id.name in
    let count : next ≡ length more = ap (λ n. after_name s.params n v.id.name) e ∙ declared_added xs s.params v.id.name value gm in
    let hr : constant_faults Constant (readable_at s k) v.value ++ local_faults Constant s next x vs ≡ [] =
    nil_right (name_faults Constant x v.id) (constant_faults Constant (readable_at s k) v.value ++ local_faults Constant s next x vs) h in
    let wr : constant_faults Width (readable_at s k) v.value ++ local_faults Width s next x vs ≡ [] =
    nil_right (name_faults Width x v.id) (constant_faults Width (readable_at s k) v.value ++ local_faults Width s next x vs) w in
    let here : is_good (param_of x (constant_sizes (params_alone (take k s.params)) v.value)) ≡ true =
    local_here s k x v b (ap are_lawful_params q ∙ l)
    (nil_left (constant_faults Constant (readable_at s k) v.value) (local_faults Constant s next x vs) hr)
    (nil_left (name_faults Width x v.id) _ w)
    (nil_left (constant_faults Width (readable_at s k) v.value) (local_faults Width s next x vs) wr) in
    let good : is_good value ≡ true = sym (ap (λ l. is_good (param_of x (constant_sizes (params_alone l) v.value))) q) ∙ here in
    lawful_locals s next x more vs b count g (lawful_added xs v.id.name value l good)
    (nil_right (constant_faults Constant (readable_at s k) v.value) (local_faults Constant s next x vs) hr)
    (nil_right (constant_faults Width (readable_at s k) v.value) (local_faults Width s next x vs) wr)

pub lawful_item : (s : Scope) (k : ℕ) (xs : List (Named Param)) (i : ItemOf ℕ) → k ≡ length xs → Grown (item_params xs i) s.params
    → are_lawful_params xs ≡ true → item_faults Constant s k i ≡ [] → item_faults Width s k i ≡ []
    → (are_lawful_params (item_params xs i) ≡ true) × (after_item s.params k i ≡ length (item_params xs i))
unfolding item_faults
lawful_item s k xs (WiresItem range ids) e g l h w = (l, e)
lawful_item s k xs (DrivenWiresItem range ws) e g l h w = (l, e)
lawful_item s k xs (RegsItem range gs) e g l h w = (l, e)
lawful_item s k xs (LocalparamsItem range vs) e g l h w =
    let r = readable_at s k in
    let x = extent_of r range in
    let y = extent_of (params_alone xs) range in
    let q : take k s.params ≡ xs = ap (λ n. take n s.params) e ∙ front xs s.params (grown_twice xs _ s.params (grown_locals y xs vs) g) in
    let same : x ≡ y = same_extent s k range ∙ ap (λ l. extent_of (params_alone l) range) q in
    let known : is_known x ≡ true =
    extent_known r range (ap are_lawful_params q ∙ l) (nil_left (range_faults Constant r range) (local_faults Constant s k x vs) h)
    (nil_left (range_faults Width r range) (local_faults Width s k x vs) w) in
    lawful_locals s k y xs vs (sym (ap is_known same) ∙ known) e g l
    (sym (ap (λ z. local_faults Constant s k z vs) same) ∙ nil_right (range_faults Constant r range) (local_faults Constant s k x vs) h)
    (sym (ap (λ z. local_faults Width s k z vs) same) ∙ nil_right (range_faults Width r range) (local_faults Width s k x vs) w)
lawful_item s k xs (AssignItem assigns) e g l h w = (l, e)
lawful_item s k xs (AlwaysItem a) e g l h w = (l, e)
lawful_item s k xs (InstanceItem i) e g l h w = (l, e)

pub lawful_items : (s : Scope) (k : ℕ) (xs : List (Named Param)) (is : List (ItemOf ℕ)) → k ≡ length xs
    → Grown (items_params xs is) s.params → are_lawful_params xs ≡ true → items_faults Constant s k is ≡ []
    → items_faults Width s k is ≡ []
    → are_lawful_params (items_params xs is) ≡ true
lawful_items s k xs [] e g l h w = l
lawful_items s k xs (i ∷ is) e g l h w =
    let next = after_item s.params k i in
    let more = item_params xs i in
    let one = lawful_item s k xs i e (grown_twice more _ s.params (grown_items more is) g) l
    (nil_left (item_faults Constant s k i) (items_faults Constant s next is) h)
    (nil_left (item_faults Width s k i) (items_faults Width s next is) w) in
    lawful_items s next more is one.1 g one.0
    (nil_right (item_faults Constant s k i) (items_faults Constant s next is) h)
    (nil_right (item_faults Width s k i) (items_faults Width s next is) w)
