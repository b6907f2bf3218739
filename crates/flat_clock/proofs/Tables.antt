-- Tables of joined names.
use Rattle.std.proofs.Common.{◌≡◌, ◌≢◌, ℕ, suc, ◌+◌, ◌⊎◌, inl, inr, List, [], ◌∷◌, ◌++◌, map, refl, sym, ap, subst, ◌∙◌, arith}
use Rattle.std.proofs.Common.{Option, None, Some, slice_get, is_some, Bool, true, false, if◌then◌else◌}
use Rattle.std.specs.List.{Contains}
use Rattle.std.specs.Str.{bytes_eq}
use Rattle.std.proofs.lemmas.Slice.Eq.{bytes_eq-Decides}
use Rattle.std.proofs.lemmas.List.Elements.{Contains-append_left, Contains-push}
use Rattle.std.proofs.lemmas.Bool.{false_from_ne_true}
use Rattle.flat_parts.proofs.vidi_bits_lemmas.FindingLaws.{told_none}
use Rattle.flat_parts.specs.vidi_bits.Findings.{or_first}
use Rattle.flat_parts.proofs.vidi_bits_lemmas.Lists.{bytes_eq-self, none_in, head_in, tail_in, cases_in, nil_left, nil_right}
use Rattle.vlog_tree.specs.Tree.{IdentOf, ExprOf, UnaryExpr, BinaryExpr, ChoiceExpr, NumberPrim, RefPrim, ParenPrim, ConcatPrim}
use Rattle.vlog_tree.specs.Tree.{RepeatPrim, RefWith, NoIndex, Index, NoLast, Last, ConnOf, InstanceOf}
use Rattle.flat_parts.specs.vlog_size.Table.{Named, value_of, added}
use Rattle.flat_parts.specs.vlog_names.Twice.{twice_name, twice_among, twice_connected, conn_entry}
use Rattle.flat_parts.specs.vlog_hierarchy.Clock.{ports_from, plain_name, port_of_name, port_of_value, joined_as, conn_joined}
use Rattle.flat_parts.specs.vlog_hierarchy.Clock.{conns_joined, child_joined}
use Rattle.flat_parts.specs.vlog_driver.Items.{read}
use Rattle.flat_parts.specs.vlog_driver.Settled.{ConnJoins}

-- ---- tables

value_append : {V : Type 0} → (xs ys : List (Named V)) (q : List ℕ) → value_of (xs ++ ys) q ≡ or_first (value_of xs q) (value_of ys q)
value_append [] ys q = refl
value_append {V} (x ∷ xs) ys q =
    ap (λ (o : Option V). if bytes_eq q x.name then Some x.value else o) (value_append xs ys q) ∙ one (bytes_eq q x.name)
  where
    one : (b : Bool) → (if b then Some x.value else or_first (value_of xs q) (value_of ys q))
        ≡ or_first (if b then Some x.value else value_of xs q) (value_of ys q)
    one true = refl
    one false = refl

no_some : {V : Type 0} → (o : Option V) → is_some o ≡ false → o ≡ None
no_some None h = refl
no_some (Some v) h = absurd (cc)

other_false : (q name : List ℕ) → q ≢ name → bytes_eq q name ≡ false
other_false q name other = false_from_ne_true (bytes_eq q name) (λ yes. other ((bytes_eq-Decides q name).0 yes))

-- another name keeps its value
added_other : (xs : List (Named ℕ)) (name : List ℕ) (v : ℕ) (q : List ℕ) → q ≢ name → value_of (added xs name v) q ≡ value_of xs q
added_other xs name v q other = one (is_some (value_of xs name))
  where
    none_more : (o : Option ℕ) → or_first o None ≡ o
    none_more None = refl
    none_more (Some x) = refl

    one : (b : Bool) → value_of (if b then xs else xs ++ record { name = name; value = v } ∷ []) q ≡ value_of xs q
    one true = refl
    one false =
        value_append xs (record { name = name; value = v } ∷ []) q
        ∙ (ap (λ (b : Bool). or_first (value_of xs q) (if b then Some v else None)) (other_false q name other)
        ∙ none_more (value_of xs q))

-- a new name has the value
added_own : (xs : List (Named ℕ)) (name : List ℕ) (v : ℕ) → value_of xs name ≡ None → value_of (added xs name v) name ≡ Some v
added_own xs name v absent =
    ap (λ (b : Bool). value_of (if b then xs else xs ++ record { name = name; value = v } ∷ []) name)
    (ap (λ (o : Option ℕ). is_some o) absent)
    ∙ (value_append xs (record { name = name; value = v } ∷ []) name
    ∙ (ap (λ (o : Option ℕ). or_first o (if bytes_eq name name then Some v else None)) absent
    ∙ ap (λ (b : Bool). if b then Some v else None) (bytes_eq-self name)))

-- where a value of a grown table is from
added_cases : (xs : List (Named ℕ)) (name : List ℕ) (v : ℕ) (q : List ℕ) (p : ℕ) → value_of (added xs name v) q ≡ Some p
    → (value_of xs q ≡ Some p) ⊎ ((name ≡ q) × (v ≡ p))
added_cases xs name v q p h = one (is_some (value_of xs name)) h
  where
    from : (o : Option ℕ) (b : Bool) → bytes_eq q name ≡ b → or_first o (if b then Some v else None) ≡ Some p
        → (o ≡ Some p) ⊎ ((name ≡ q) × (v ≡ p))
    from (Some x) b is e = inl e
    from None true is e = let same : v ≡ p = cc in inr (sym ((bytes_eq-Decides q name).0 is), same)
    from None false is e = inl e

    one : (b : Bool) → value_of (if b then xs else xs ++ record { name = name; value = v } ∷ []) q ≡ Some p
        → (value_of xs q ≡ Some p) ⊎ ((name ≡ q) × (v ≡ p))
    one true e = inl e
    one false e = from (value_of xs q) (bytes_eq q name) refl (sym (value_append xs (record { name = name; value = v } ∷ []) q) ∙ e)

-- ---- the ports of the top

-- a port of this name j behind port k
abbrev Behind : ℕ → List (List ℕ) → List ℕ → ℕ → Type 0
Behind k names q p = (j : ℕ) × (p ≡ k + j) × (slice_get names j ≡ Some q)

behind_first : (k : ℕ) (js : List (Named ℕ)) (name : List ℕ) (names : List (List ℕ)) (q : List ℕ) (p : ℕ)
    → (value_of js q ≡ Some p) ⊎ ((name ≡ q) × (k ≡ p)) → (value_of js q ≡ Some p) ⊎ Behind k (name ∷ names) q p
behind_first k js name names q p (inl before) = inl before
behind_first k js name names q p (inr (is, at)) = inr (0, omega (arith, at), ap (λ (n : List ℕ). Some n) is)

behind_next : (k : ℕ) (js : List (Named ℕ)) (name : List ℕ) (names : List (List ℕ)) (q : List ℕ) (p : ℕ)
    → (value_of (added js name k) q ≡ Some p) ⊎ Behind (k + 1) names q p → (value_of js q ≡ Some p) ⊎ Behind k (name ∷ names) q p
behind_next k js name names q p (inl early) = behind_first k js name names q p (added_cases js name k q p early)
behind_next k js name names q p (inr (j, at, is)) = inr (suc j, omega (arith, at), is)

ports_cases : (k : ℕ) (js : List (Named ℕ)) (names : List (List ℕ)) (q : List ℕ) (p : ℕ) → value_of (ports_from k js names) q ≡ Some p
    → (value_of js q ≡ Some p) ⊎ Behind k names q p
ports_cases k js [] q p h = inl h
ports_cases k js (name ∷ names) q p h = behind_next k js name names q p (ports_cases (k + 1) (added js name k) names q p h)

-- the port to which a name of the top is joined has that name
pub input_at : (inputs : List (List ℕ)) (q : List ℕ) (p : ℕ) → value_of (ports_from 0 [] inputs) q ≡ Some p → slice_get inputs p ≡ Some q
input_at inputs q p h = one (ports_cases 0 [] inputs q p h)
  where
    one : (value_of {V = ℕ} [] q ≡ Some p) ⊎ Behind 0 inputs q p → slice_get inputs p ≡ Some q
    one (inl off) = absurd (cc)
    one (inr (j, at, is)) = let same : p ≡ j = omega (arith, at) in ap (slice_get inputs) same ∙ is

-- ---- plain names

is_read : (id : IdentOf ℕ) (q : List ℕ) → id.name ≡ q → (line : ℕ) × (read id ≡ read (record { name = q; line = line }))
is_read id q is = (id.line, ap (λ (n : List ℕ). read (record { name = n; line = id.line })) is)

-- an expression that is a plain name
pub plain_read : (e : ExprOf ℕ) (q : List ℕ) → plain_name e ≡ Some q → (line : ℕ) × (e ≡ read (record { name = q; line = line }))
plain_read (UnaryExpr None (RefPrim (RefWith id NoIndex NoLast))) q h = let is : id.name ≡ q = cc in is_read id q is
plain_read (UnaryExpr None (RefPrim (RefWith id NoIndex (Last s)))) q h = absurd (cc)
plain_read (UnaryExpr None (RefPrim (RefWith id (Index e) last))) q h = absurd (cc)
plain_read (UnaryExpr None (NumberPrim n)) q h = absurd (cc)
plain_read (UnaryExpr None (ParenPrim line e)) q h = absurd (cc)
plain_read (UnaryExpr None (ConcatPrim line es)) q h = absurd (cc)
plain_read (UnaryExpr None (RepeatPrim line e es)) q h = absurd (cc)
plain_read (UnaryExpr (Some sign) p) q h = absurd (cc)
plain_read (BinaryExpr a op b) q h = absurd (cc)
plain_read (ChoiceExpr c a b) q h = absurd (cc)

-- what is connected is a plain name that is joined
pub record Plain (js : List (Named ℕ)) (connected : Option (ExprOf ℕ)) (p : ℕ) : Type 0 where
  pub outer : List ℕ
  pub line : ℕ
  pub value : connected ≡ Some (read (record { name = outer; line = line }))
  pub joined : value_of js outer ≡ Some p

pub plain_joined : (js : List (Named ℕ)) (value : Option (ExprOf ℕ)) (p : ℕ) → port_of_value js value ≡ Some p → Plain js value p
plain_joined js None p h = absurd (cc)
plain_joined js (Some e) p h = one (plain_name e) refl h
  where
    one : (o : Option (List ℕ)) → plain_name e ≡ o → port_of_name js o ≡ Some p → Plain js (Some e) p
    one None is off = absurd (cc)
    one (Some q) is found =
        let r = plain_read e q is in
        record { outer = q; line = r.0; value = ap (λ (x : ExprOf ℕ). Some x) r.1; joined = found }

-- ---- connections

-- another port keeps its value
conn_other : (js inner : List (Named ℕ)) (c : ConnOf ℕ) (q : List ℕ) → q ≢ c.id.name
    → value_of (conn_joined js inner c) q ≡ value_of inner q
conn_other js inner c q other = one (port_of_value js c.value)
  where
    one : (o : Option ℕ) → value_of (joined_as inner c.id.name o) q ≡ value_of inner q
    one None = refl
    one (Some p) = added_other inner c.id.name p q other

-- a new port has that of what is connected
conn_own : (js inner : List (Named ℕ)) (c : ConnOf ℕ) → value_of inner c.id.name ≡ None
    → value_of (conn_joined js inner c) c.id.name ≡ port_of_value js c.value
conn_own js inner c absent = one (port_of_value js c.value)
  where
    one : (o : Option ℕ) → value_of (joined_as inner c.id.name o) c.id.name ≡ o
    one None = absent
    one (Some p) = added_own inner c.id.name p absent

conn_cases : (js inner : List (Named ℕ)) (c : ConnOf ℕ) (q : List ℕ) (p : ℕ) → value_of (conn_joined js inner c) q ≡ Some p
    → (value_of inner q ≡ Some p) ⊎ ((c.id.name ≡ q) × (port_of_value js c.value ≡ Some p))
conn_cases js inner c q p h = one (port_of_value js c.value) refl h
  where
    own : (v : ℕ) → port_of_value js c.value ≡ Some v → (value_of inner q ≡ Some p) ⊎ ((c.id.name ≡ q) × (v ≡ p))
        → (value_of inner q ≡ Some p) ⊎ ((c.id.name ≡ q) × (port_of_value js c.value ≡ Some p))
    own v is (inl before) = inl before
    own v is (inr (name, same)) = inr (name, is ∙ ap (λ (x : ℕ). Some x) same)

    one : (o : Option ℕ) → port_of_value js c.value ≡ o → value_of (joined_as inner c.id.name o) q ≡ Some p
        → (value_of inner q ≡ Some p) ⊎ ((c.id.name ≡ q) × (port_of_value js c.value ≡ Some p))
    one None is e = inl e
    one (Some v) is e = own v is (added_cases inner c.id.name v q p e)

-- the connection by which a port is joined
pub record JoinedBy (js : List (Named ℕ)) (cs : List (ConnOf ℕ)) (q : List ℕ) (p : ℕ) : Type 0 where
  pub conn : ConnOf ℕ
  pub listed : Contains cs conn
  pub named : conn.id.name ≡ q
  pub joined : port_of_value js conn.value ≡ Some p

joined_first : (js inner : List (Named ℕ)) (c : ConnOf ℕ) (cs : List (ConnOf ℕ)) (q : List ℕ) (p : ℕ)
    → (value_of inner q ≡ Some p) ⊎ ((c.id.name ≡ q) × (port_of_value js c.value ≡ Some p))
    → (value_of inner q ≡ Some p) ⊎ JoinedBy js (c ∷ cs) q p
joined_first js inner c cs q p (inl before) = inl before
joined_first js inner c cs q p (inr (named, joined)) =
    inr (record { conn = c; listed = head_in c cs; named = named; joined = joined })

joined_next : (js inner : List (Named ℕ)) (c : ConnOf ℕ) (cs : List (ConnOf ℕ)) (q : List ℕ) (p : ℕ)
    → (value_of (conn_joined js inner c) q ≡ Some p) ⊎ JoinedBy js cs q p → (value_of inner q ≡ Some p) ⊎ JoinedBy js (c ∷ cs) q p
joined_next js inner c cs q p (inl early) = joined_first js inner c cs q p (conn_cases js inner c q p early)
joined_next js inner c cs q p (inr j) =
    inr (record { conn = j.conn; listed = tail_in c cs j.conn j.listed; named = j.named; joined = j.joined })

conns_cases : (js inner : List (Named ℕ)) (cs : List (ConnOf ℕ)) (q : List ℕ) (p : ℕ) → value_of (conns_joined js inner cs) q ≡ Some p
    → (value_of inner q ≡ Some p) ⊎ JoinedBy js cs q p
conns_cases js inner [] q p h = inl h
conns_cases js inner (c ∷ cs) q p h = joined_next js inner c cs q p (conns_cases js (conn_joined js inner c) cs q p h)

pub joined_by : (js : List (Named ℕ)) (i : InstanceOf ℕ) (q : List ℕ) (p : ℕ) → value_of (child_joined js i) q ≡ Some p
    → JoinedBy js i.ports q p
unfolding child_joined
joined_by js i q p h = one (conns_cases js [] i.ports q p h)
  where
    one : (value_of {V = ℕ} [] q ≡ Some p) ⊎ JoinedBy js i.ports q p → JoinedBy js i.ports q p
    one (inl off) = absurd (cc)
    one (inr j) = j

-- ---- no port is connected twice

some_else : {V : Type 0} → (b : Bool) (v : V) (o : Option V) → is_some o ≡ true → is_some (if b then Some v else o) ≡ true
some_else true v o e = refl
some_else false v o e = e

found_some : {V : Type 0} → (xs : List (Named V)) (x : Named V) → Contains xs x → is_some (value_of xs x.name) ≡ true
found_some [] x h = absurd (none_in x h)
found_some {V} (y ∷ ys) x h =
    elim (cases_in y ys x h) [
      | inl is ↦ ap (λ (b : Bool). is_some (if b then Some y.value else value_of ys x.name))
          ((bytes_eq-Decides x.name y.name).1 (ap (λ (z : Named V). z.name) (sym is)))
      | inr more ↦ some_else (bytes_eq x.name y.name) y.value (value_of ys x.name) (found_some ys x more)
    ]

not_before : {V : Type 0} → (before ys : List (Named V)) (b y : Named V) → twice_among before (y ∷ ys) ≡ [] → Contains before b
    → b.name ≢ y.name
not_before before ys b y none in_before same =
    let no : is_some (value_of before y.name) ≡ false = told_none _ _ (nil_left (twice_name before y.name) _ none) in
    let yes : is_some (value_of before y.name) ≡ true =
    subst (λ (n : List ℕ). is_some (value_of before n) ≡ true) same (found_some before b in_before) in
    absurd (cc)

-- a name of the list isn't one of those before
apart_from : {V : Type 0} → (before xs : List (Named V)) (b x : Named V) → twice_among before xs ≡ [] → Contains before b → Contains xs x
    → b.name ≢ x.name
apart_from before [] b x none in_before in_xs = absurd (none_in x in_xs)
apart_from {V} before (y ∷ ys) b x none in_before in_xs =
    elim (cases_in y ys x in_xs) [
      | inl is ↦ subst (λ (z : Named V). b.name ≢ z.name) is (not_before before ys b y none in_before)
      | inr more ↦ apart_from (before ++ y ∷ []) ys b x (nil_right (twice_name before y.name) _ none)
          (Contains-append_left before (y ∷ []) b in_before) more
    ]

entry_in : (cs : List (ConnOf ℕ)) (c : ConnOf ℕ) → Contains cs c → Contains (map conn_entry cs) (conn_entry c)
entry_in [] c h = absurd (none_in c h)
entry_in (x ∷ cs) c h =
    elim (cases_in x cs c h) [
      | inl is ↦ (0, omega arith, ap conn_entry is)
      | inr more ↦ tail_in (conn_entry x) (map conn_entry cs) (conn_entry c) (entry_in cs c more)
    ]

-- a port that isn't connected keeps its value
conns_other : (js inner : List (Named ℕ)) (cs : List (ConnOf ℕ)) (q : List ℕ) → ((c : ConnOf ℕ) → Contains cs c → q ≢ c.id.name)
    → value_of (conns_joined js inner cs) q ≡ value_of inner q
conns_other js inner [] q other = refl
conns_other js inner (c ∷ cs) q other =
    conns_other js (conn_joined js inner c) cs q (λ d h. other d (tail_in c cs d h)) ∙ conn_other js inner c q (other c (head_in c cs))

others_apart : (before : List (Named (Unit {0}))) (x : ConnOf ℕ) (cs : List (ConnOf ℕ))
    → twice_among (before ++ conn_entry x ∷ []) (map conn_entry cs) ≡ [] → (d : ConnOf ℕ) → Contains cs d → x.id.name ≢ d.id.name
others_apart before x cs none d there =
    apart_from (before ++ conn_entry x ∷ []) (map conn_entry cs) (conn_entry x) (conn_entry d) none (Contains-push before (conn_entry x))
    (entry_in cs d there)

own_first : (js inner : List (Named ℕ)) (x c : ConnOf ℕ) (cs : List (ConnOf ℕ)) → ((d : ConnOf ℕ) → Contains cs d → x.id.name ≢ d.id.name)
    → x ≡ c → value_of inner c.id.name ≡ None → value_of (conns_joined js inner (x ∷ cs)) c.id.name ≡ port_of_value js c.value
own_first js inner x c cs others is absent =
    subst (λ (y : ConnOf ℕ). value_of (conns_joined js inner (x ∷ cs)) y.id.name ≡ port_of_value js y.value) is
    (conns_other js (conn_joined js inner x) cs x.id.name others
    ∙ conn_own js inner x (subst (λ (y : ConnOf ℕ). value_of inner y.id.name ≡ None) (sym is) absent))

-- a port has what its connection joins
conns_own : (js inner : List (Named ℕ)) (before : List (Named (Unit {0}))) (cs : List (ConnOf ℕ)) (c : ConnOf ℕ)
    → twice_among before (map conn_entry cs) ≡ [] → Contains cs c → value_of inner c.id.name ≡ None
    → value_of (conns_joined js inner cs) c.id.name ≡ port_of_value js c.value
conns_own js inner before [] c none h absent = absurd (none_in c h)
conns_own js inner before (x ∷ cs) c none h absent =
    let rest : twice_among (before ++ conn_entry x ∷ []) (map conn_entry cs) ≡ [] = nil_right (twice_name before x.id.name) _ none in
    elim (cases_in x cs c h) [
      | inl is ↦ own_first js inner x c cs (others_apart before x cs rest) is absent
      | inr more ↦ conns_own js (conn_joined js inner x) (before ++ conn_entry x ∷ []) cs c rest more
          (conn_other js inner x c.id.name (λ same. others_apart before x cs rest c more (sym same)) ∙ absent)
    ]

-- a port that is connected to a plain name is joined as that name is
pub joined_as_outer : (js : List (Named ℕ)) (i : InstanceOf ℕ) (c : ConnOf ℕ) (outer port : List ℕ) → twice_connected i.ports ≡ []
    → Contains i.ports c → ConnJoins outer port c → value_of (child_joined js i) port ≡ value_of js outer
unfolding child_joined
joined_as_outer js i c outer port none listed (named, line, value) =
    ap (value_of (conns_joined js [] i.ports)) (sym named)
    ∙ (conns_own js [] [] i.ports c none listed refl ∙ ap (port_of_value js) value)
