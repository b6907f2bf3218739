-- What the state holds is the same in the design and in the file.
use Rattle.std.proofs.Common.{◌≡◌, ℕ, ◌+◌, ◌<◌, ◌≤◌, ◌↔◌, ⊎_elim, true, nat_lt, ◌&&◌, List, [], ◌∷◌, ◌++◌}
use Rattle.std.proofs.Common.{length, get_or, Some, ap, sym, subst, ◌∙◌, arith, slice_get}
use Rattle.std.specs.Int.{bit_at}
use Rattle.std.specs.List.{AllByRecursion, Contains}
use Rattle.std.proofs.lemmas.Bool.{cases_lt, and_from}
use Rattle.std.proofs.lemmas.List.{length-map, get_or-drop, get_or-map, get_or_past}
use Rattle.std.proofs.lemmas.Option.{slice_get_within, slice_get_cases, get_or_from_slice_get}
use Rattle.vlog_elab.proofs.vidi_bits_lemmas.Bools.{left_of, right_of}
use Rattle.vlog_tree.specs.Tree.{ModuleOf}
use Rattle.vlog_elab.specs.vlog_size.declared.scope.ScopeNet.{ScopeNet}
use Rattle.vlog_elab.specs.vlog_size.declared.scope.Scope.{Scope}
use Rattle.vlog_elab.specs.vlog_size.Table.{Named}
use Rattle.net_design.specs.declared.design.Design.{Design}
use Rattle.net_design.specs.declared.values.Values.{Values}
use Rattle.net_design.specs.Names.{net_names}
use Rattle.net_design.specs.Settled.{held}
use Rattle.vlog_elab.specs.Instances.{ModuleInstance}
use Rattle.vlog_driver.specs.Names.{Full}
use Rattle.vlog_driver.specs.Settled.{is_held}
use Rattle.flat_parts.specs.Seats.{Seat, seats_of}
use Rattle.flat_parts.specs.Nets.{flat_nets}
use Rattle.flat_parts.specs.Meaning.{values_of}
use Rattle.flat_parts.specs.Laws.{numbers_of, IsNetOf}
use Rattle.flat_parts.proofs.SettledLists.{members}
use Rattle.flat_parts.proofs.Items.{Stand}

-- the number of an instance's net stands at its place
pub net_at : (nets : Full → ℕ) (words : Full → ℕ → ℕ) (is : List ModuleInstance) → Stand nets words is
    → (x : Seat) (j : ℕ) (n : Named ScopeNet) → Contains (seats_of is) x → slice_get x.instance.scope.nets j ≡ Some n
    → get_or (numbers_of nets words is).nets (x.base.net + j) 0 ≡ nets (x.instance.path ++ n.name ∷ [])
net_at nets words is stand x j n there e =
    let less : j < length x.instance.scope.nets = slice_get_within x.instance.scope.nets j n e in
    sym (get_or-drop x.base.net (numbers_of nets words is).nets j 0)
    ∙ (stand x 0 there).numbers.nets j less
    ∙ get_or-map (λ (n : Named ScopeNet). nets (x.instance.path ++ n.name ∷ [])) x.instance.scope.nets j n 0 less
    ∙ ap (λ (m : Named ScopeNet). nets (x.instance.path ++ m.name ∷ [])) (get_or_from_slice_get x.instance.scope.nets j n n e)

less_true : (k w : ℕ) → k < w → nat_lt k w ≡ true
less_true k w h = grind arith

true_less : (k w : ℕ) → nat_lt k w ≡ true → k < w
true_less k w h = grind arith

module _ (d : Design) (is : List ModuleInstance) (v old : Full → ℕ) (words : Full → ℕ → ℕ)
    (stand_now : Stand v words is) (stand_old : Stand old words is)
    (now : values_of d v words ≡ numbers_of v words is) (then' : values_of d old words ≡ numbers_of old words is)
    (alike : (x : Seat) (j k : ℕ) (n : Named ScopeNet) → Contains (seats_of is) x → slice_get x.instance.scope.nets j ≡ Some n
    → held d (x.base.net + j) k ≡ (nat_lt k n.value.width && is_held x.instance.tree x.instance.scope n.name j k))
    (seats : (m : ℕ) → m < length (flat_nets (seats_of is)) → (x : Seat) × (j : ℕ) × IsNetOf (seats_of is) m x j)
    (nets : d.nets ≡ flat_nets (seats_of is)) where
  -- bit k of a net is the same in both
  abbrev Same : Full → ℕ → Type 0
  Same full k = bit_at (v full) k ≡ bit_at (old full) k

  -- the bits of an instance's nets that the state holds are the same
  abbrev pub HeldAt : Full → ModuleOf ℕ → Scope → Type 0
  HeldAt path m s = (j k : ℕ) (n : Named ScopeNet) → slice_get s.nets j ≡ Some n → k < n.value.width → is_held m s n.name j k ≡ true
      → bit_at (v (path ++ n.name ∷ [])) k ≡ bit_at (old (path ++ n.name ∷ [])) k

  abbrev pub HeldOf : ModuleInstance → Type 0
  HeldOf i = HeldAt i.path i.tree i.scope

  abbrev pub DesignHolds : Type 0
  DesignHolds = (m k : ℕ) → held d m k ≡ true
      → bit_at (get_or (values_of d v words).nets m 0) k ≡ bit_at (get_or (values_of d old words).nets m 0) k

  number_now : (x : Seat) (j : ℕ) (n : Named ScopeNet) → Contains (seats_of is) x → slice_get x.instance.scope.nets j ≡ Some n
      → get_or (values_of d v words).nets (x.base.net + j) 0 ≡ v (x.instance.path ++ n.name ∷ [])
  number_now x j n there e =
      ap (λ (u : Values). get_or u.nets (x.base.net + j) 0) now ∙ net_at v words is stand_now x j n there e

  number_old : (x : Seat) (j : ℕ) (n : Named ScopeNet) → Contains (seats_of is) x → slice_get x.instance.scope.nets j ≡ Some n
      → get_or (values_of d old words).nets (x.base.net + j) 0 ≡ old (x.instance.path ++ n.name ∷ [])
  number_old x j n there e =
      ap (λ (u : Values). get_or u.nets (x.base.net + j) 0) then' ∙ net_at old words is stand_old x j n there e

  seat_held : DesignHolds → (x : Seat) → Contains (seats_of is) x → HeldOf x.instance
  seat_held h x there j k n e less kept =
      let width : nat_lt k n.value.width ≡ true = less_true k n.value.width less in
      let holds : held d (x.base.net + j) k ≡ true =
      alike x j k n there e
      ∙ and_from (nat_lt k n.value.width) (is_held x.instance.tree x.instance.scope n.name j k) width kept in
      sym (ap (λ y. bit_at y k) (number_now x j n there e)) ∙ h (x.base.net + j) k holds ∙ ap (λ y. bit_at y k) (number_old x j n there e)

  net_held : AllByRecursion (λ (x : Seat). HeldOf x.instance) (seats_of is) → (x : Seat) (j k : ℕ) (n : Named ScopeNet)
      → Contains (seats_of is) x → slice_get x.instance.scope.nets j ≡ Some n → held d (x.base.net + j) k ≡ true
      → bit_at (get_or (values_of d v words).nets (x.base.net + j) 0) k ≡ bit_at (get_or (values_of d old words).nets (x.base.net + j) 0) k
  net_held h x j k n there e holds =
      let both : (nat_lt k n.value.width && is_held x.instance.tree x.instance.scope n.name j k) ≡ true =
      sym (alike x j k n there e) ∙ holds in
      let less : k < n.value.width =
      true_less k n.value.width (left_of (nat_lt k n.value.width) (is_held x.instance.tree x.instance.scope n.name j k) both) in
      let kept : is_held x.instance.tree x.instance.scope n.name j k ≡ true =
      right_of (nat_lt k n.value.width) (is_held x.instance.tree x.instance.scope n.name j k) both in
      ap (λ y. bit_at y k) (number_now x j n there e)
      ∙ (members (λ (x : Seat). HeldOf x.instance) (seats_of is)).0 h x there j k n e less kept
      ∙ sym (ap (λ y. bit_at y k) (number_old x j n there e))

  within_held : AllByRecursion (λ (x : Seat). HeldOf x.instance) (seats_of is) → (m k : ℕ) (x : Seat) (j : ℕ)
      → IsNetOf (seats_of is) m x j → held d m k ≡ true
      → bit_at (get_or (values_of d v words).nets m 0) k ≡ bit_at (get_or (values_of d old words).nets m 0) k
  within_held h m k x j own holds =
      ⊎_elim (λ some. subst (λ z. bit_at (get_or (values_of d v words).nets z 0) k ≡ bit_at (get_or (values_of d old words).nets z 0) k)
      (sym own.place)
      (net_held h x j k some.0 own.seat some.2 (sym (ap (λ z. held d z k) own.place) ∙ holds)))
      (λ none. let less : j < length x.instance.scope.nets = own.there in absurd (omega (arith, less, none.0)))
      (slice_get_cases x.instance.scope.nets j).1

  past_held : (m k : ℕ) → length d.nets ≤ m
      → bit_at (get_or (values_of d v words).nets m 0) k ≡ bit_at (get_or (values_of d old words).nets m 0) k
  past_held m k past =
      let zero_now : get_or (values_of d v words).nets m 0 ≡ 0 =
      get_or_past (values_of d v words).nets m 0
      (subst (λ z. z ≤ m) (sym (length-map (net_names d) v ∙ length-map d.nets _)) past) in
      let zero_old : get_or (values_of d old words).nets m 0 ≡ 0 =
      get_or_past (values_of d old words).nets m 0
      (subst (λ z. z ≤ m) (sym (length-map (net_names d) old ∙ length-map d.nets _)) past) in
      ap (λ y. bit_at y k) (zero_now ∙ sym zero_old)

  -- the design holds what each instance does
  pub held_alike : DesignHolds ↔ AllByRecursion (λ (x : Seat). HeldOf x.instance) (seats_of is)
  held_alike = (
    (λ h. (members (λ (x : Seat). HeldOf x.instance) (seats_of is)).1 (seat_held h)),
    (λ h m k holds. ⊎_elim
        (λ less. let s = seats m (subst (λ ns. m < length ns) nets less) in within_held h m k s.0 s.1 s.2 holds)
        (λ past. past_held m k past) (cases_lt m (length d.nets))),
  )
