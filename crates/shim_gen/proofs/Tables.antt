-- Tables to which entries are added: the value of a name is that of its first entry.
use Rattle.std.proofs.Common.{◌≡◌, ℕ, suc, ◌+◌, ◌<◌, length, drop, get_or, arith, drop-cons, Bool, true, false, List, [], ◌∷◌, ◌++◌, Option, Some, None, is_some, if◌then◌else◌, map, option_map}
use Rattle.std.proofs.Common.{refl, sym, ap, ◌∙◌, append_assoc, append-nil}
use Rattle.std.specs.Prelude.{codes}
use Rattle.std.specs.List.{flat_map}
use Rattle.std.specs.Str.{bytes_eq}
use Rattle.std.proofs.lemmas.Slice.Eq.{bytes_eq-Decides}
use Rattle.vlog_copy.specs.vidi_bits.Findings.{or_first}
use Rattle.vlog_tree.specs.Tree.{PortOf, ConnOf}
use Rattle.shim_trees.specs.vlog_size.Table.{Named, value_of, added}
use Rattle.shim_trees.specs.chan_map.declared.pins.Map.{Map}
use Rattle.shim_trees.specs.Pieces.{Name, ident, net, instance, each_some}
use Rattle.shim_trees.specs.Links.{held, tied_input, tied_port, tied_ports, dut_conn, dut}
use Rattle.shim_gen.specs.Tables.{with_entries}

pub entries_append : {V : Type 0} (xs ys zs : List (Named V)) → with_entries xs (ys ++ zs) ≡ with_entries (with_entries xs ys) zs
entries_append xs [] zs = refl
entries_append xs (y ∷ ys) zs = entries_append (added xs y.name y.value) ys zs

or_first_if : {V : Type 0} (b : Bool) (x : V) (o p : Option V)
    → or_first (if b then Some x else o) p ≡ (if b then Some x else or_first o p)
or_first_if true x o p = refl
or_first_if false x o p = refl

value_append : {V : Type 0} (xs ys : List (Named V)) (q : List ℕ) → value_of (xs ++ ys) q ≡ or_first (value_of xs q) (value_of ys q)
value_append [] ys q = refl
value_append (x ∷ xs) ys q =
    ap (λ o. if bytes_eq q x.name then Some x.value else o) (value_append xs ys q)
    ∙ sym (or_first_if (bytes_eq q x.name) x.value (value_of xs q) (value_of ys q))

-- a name that is there hides another entry of it
hidden : {V : Type 0} (b : Bool) (v : V) (o p : Option V) → (b ≡ true → is_some o ≡ true)
    → or_first o p ≡ or_first o (if b then Some v else p)
hidden true v None p h = let t = h refl in absurd (cc)
hidden true v (Some x) p h = refl
hidden false v o p h = refl

step_by : {V : Type 0} (b : Bool) (xs es : List (Named V)) (n : List ℕ) (v : V) (q : List ℕ) → is_some (value_of xs n) ≡ b
    → value_of ((if b then xs else xs ++ record { name = n; value = v } ∷ []) ++ es) q
    ≡ value_of (xs ++ record { name = n; value = v } ∷ es) q
step_by true xs es n v q e =
    value_append xs es q
    ∙ hidden (bytes_eq q n) v (value_of xs q) (value_of es q)
    (λ t. ap (λ (z : List ℕ). is_some (value_of xs z)) ((bytes_eq-Decides q n).0 t) ∙ e)
    ∙ sym (value_append xs (record { name = n; value = v } ∷ es) q)
step_by false xs es n v q e = ap (λ zs. value_of zs q) (append_assoc xs (record { name = n; value = v } ∷ []) es)

value_after : {V : Type 0} (xs es : List (Named V)) (q : List ℕ) → value_of (with_entries xs es) q ≡ value_of (xs ++ es) q
value_after xs [] q = ap (λ zs. value_of zs q) (sym (append-nil xs))
value_after xs (e ∷ es) q =
    value_after (added xs e.name e.value) es q ∙ step_by (is_some (value_of xs e.name)) xs es e.name e.value q refl

-- a table of entries has the value that the entries have
pub value_in : {V : Type 0} (es : List (Named V)) (q : List ℕ) → value_of (with_entries [] es) q ≡ value_of es q
value_in es q = value_after [] es q

tied_same : (ws : List (Named ℕ)) (ports : List (PortOf ℕ)) → flat_map (tied_port (with_entries [] ws)) ports ≡ flat_map (tied_port ws) ports
tied_same ws [] = refl
tied_same ws (p ∷ ports) =
    ap (λ o. tied_input p.id.name o ++ flat_map (tied_port (with_entries [] ws)) ports) (value_in ws p.id.name)
    ∙ ap (λ more. tied_input p.id.name (value_of ws p.id.name) ++ more) (tied_same ws ports)

conns_same : (ls : List (Named Name)) (ports : List (PortOf ℕ)) → map (dut_conn (with_entries [] ls)) ports ≡ map (dut_conn ls) ports
conns_same ls [] = refl
conns_same ls (p ∷ ports) =
    ap (λ (o : Option Name). record { line = 0; id = ident p.id.name; value = option_map net o } ∷ map (dut_conn (with_entries [] ls)) ports)
    (value_in ls p.id.name)
    ∙ ap (λ (more : List (ConnOf ℕ)). record { line = 0; id = ident p.id.name; value = option_map net (value_of ls p.id.name) } ∷ more)
    (conns_same ls ports)

-- the inputs for the reset and the ties may be found in a table of these
pub tied_by_table : (m : Map) (ports : List (PortOf ℕ)) → flat_map (tied_port (with_entries [] (held m))) ports ≡ tied_ports m ports
tied_by_table m ports = tied_same (held m) ports

-- and what the design's ports are joined to in a table of the links
pub dut_by_table : (ls : List (Named Name)) (kind : Name) (ports : List (PortOf ℕ)) → dut (with_entries [] ls) kind ports ≡ dut ls kind ports
dut_by_table ls kind ports = ap (λ (conns : List (ConnOf ℕ)). instance kind (codes "dut") conns) (conns_same ls ports)

-- what is added for an element and for those left makes the same table as before
pub some_linked : {X V : Type 0} (f : ℕ → X → List (Named V)) (old new all : List (Named V)) (xs : List X) (i : ℕ) (x : X) (ys : List (Named V))
    → i < length xs → f i (get_or xs i x) ≡ ys → new ≡ with_entries old ys → with_entries old (each_some f i (drop i xs)) ≡ all
    → with_entries new (each_some f (i + 1) (drop (i + 1) xs)) ≡ all
some_linked f old new all xs i x ys low is push before =
    let next : i + 1 ≡ suc i = omega arith in
    let left = each_some f (i + 1) (drop (i + 1) xs) in
    ap (λ t. with_entries t left) push
    ∙ sym (entries_append old ys left)
    ∙ ap (λ zs. with_entries old (zs ++ left)) (sym is)
    ∙ ap (λ (k : ℕ). with_entries old (f i (get_or xs i x) ++ each_some f (i + 1) (drop k xs))) next
    ∙ ap (λ zs. with_entries old (each_some f i zs)) (sym (drop-cons xs i x low))
    ∙ before
