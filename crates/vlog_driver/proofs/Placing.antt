-- Code at an instance's places, and its equations.
use Rattle.std.proofs.Common.{◌≡◌, ℕ, ◌+◌, ◌-◌, ◌^◌, ◌<◌, ◌↔◌, nat_le, ◌&&◌, List, []}
use Rattle.std.proofs.Common.{◌∷◌, ◌++◌, map}
use Rattle.std.proofs.Common.{ap, sym, subst, ◌∙◌}
use Rattle.std.proofs.lemmas.List.{get_or-drop, append-nil}
use Rattle.std.proofs.Math.Bool.{or-false, and-true}
use Rattle.net_design.specs.declared.act.Place.{Place}
use Rattle.net_design.specs.declared.act.Act.{Act, Set}
use Rattle.net_design.specs.declared.act.Code.{Code}
use Rattle.net_design.specs.declared.act.Timing.{Timing}
use Rattle.net_design.specs.declared.act.Timing.TheVariants.{Blocking}
use Rattle.net_design.specs.declared.rhs.Rhs.{Rhs, Number}
use Rattle.net_design.specs.declared.values.Update.{Update}
use Rattle.net_design.specs.declared.values.Values.{Values}
use Rattle.net_design.specs.Value.{value}
use Rattle.net_design.specs.Updates.{apply, target_updates, block_updates, run}
use Rattle.net_design.specs.Bits.{BitSet, named, reads, target_reads, target_writes, target_adds, block_writes, block_adds, block_reads}
use Rattle.net_design.specs.Bits.{HasBits}
use Rattle.net_design.specs.Last.{HasLast, IsNarrow}
use Rattle.net_design.proofs.LastLaws.{last_updates}
use Rattle.net_drive.specs.net_code.Moved.{moved_rhs, moved_place, moved_act, moved_update, moved_bits, moved, from_first}
use Rattle.net_drive.proofs.net_code_lemmas.MovedValues.{value_moved, block_moved, fixed_moved}
use Rattle.net_drive.proofs.net_code_lemmas.MovedBits.{named_moved, reads_moved, block_writes_moved, block_adds_moved, block_open_moved, bits_moved}

module _ (net word : ℕ) where
  narrow_from : (v : Values) → IsNarrow v → IsNarrow (from_first net word v)
  narrow_from v h = record {
    nets = λ m. subst (λ x. x < 2 ^ 128) (sym (get_or-drop net v.nets m 0)) (h.nets (net + m));
    words = λ i. subst (λ x. x < 2 ^ 128) (sym (get_or-drop word v.words i 0)) (h.words (word + i));
  }

  same_bits : (p q : BitSet) → ((m k : ℕ) → p m k ≡ q m k) → (m k : ℕ) → moved_bits net word p m k ≡ moved_bits net word q m k
  same_bits p q h m k = ap (λ b. nat_le net m && b) (h (m - net) k)

  -- ---- expressions
  pub value_placed : (old new : Rhs) (f : Values → ℕ) → new ≡ moved_rhs net word old → ((v : Values) → value old v ≡ f v)
      → (v : Values) → value new v ≡ f (from_first net word v)
  value_placed old new f is h v = ap (λ c. value c v) is ∙ value_moved net word old v ∙ h (from_first net word v)

  pub reads_placed : (old new : Rhs) (p : BitSet) → new ≡ moved_rhs net word old → ((m k : ℕ) → reads old m k ≡ p m k)
      → (m k : ℕ) → reads new m k ≡ moved_bits net word p m k
  reads_placed old new p is h m k =
      ap (λ c. reads c m k) is ∙ reads_moved net word old m k ∙ same_bits (reads old) p h m k

  -- ---- targets
  target_reads_alone : (ps : List Place) (m k : ℕ) → block_reads Blocking (Set ps (Number 0) ∷ []) m k ≡ target_reads ps m k
  target_reads_alone ps m k = or-false _ ∙ and-true _

  pub target_writes_placed : (old new : List Place) (p : BitSet) → new ≡ map (moved_place net word) old
      → ((m k : ℕ) → target_writes old m k ≡ p m k) → (m k : ℕ) → target_writes new m k ≡ moved_bits net word p m k
  target_writes_placed old new p is h m k =
      ap (λ ps. target_writes ps m k) is ∙ sym (or-false _) ∙ block_writes_moved net word (Set old (Number 0) ∷ []) m k
      ∙ same_bits (block_writes (Set old (Number 0) ∷ [])) p (λ x y. or-false _ ∙ h x y) m k

  pub target_adds_placed : (old new : List Place) (p : BitSet) → new ≡ map (moved_place net word) old
      → ((m k : ℕ) → target_adds old m k ≡ p m k) → (m k : ℕ) → target_adds new m k ≡ moved_bits net word p m k
  target_adds_placed old new p is h m k =
      ap (λ ps. target_adds ps m k) is ∙ sym (or-false _) ∙ block_adds_moved net word (Set old (Number 0) ∷ []) m k
      ∙ same_bits (block_adds (Set old (Number 0) ∷ [])) p (λ x y. or-false _ ∙ h x y) m k

  pub target_reads_placed : (old new : List Place) (p : BitSet) → new ≡ map (moved_place net word) old
      → ((m k : ℕ) → target_reads old m k ≡ p m k) → (m k : ℕ) → target_reads new m k ≡ moved_bits net word p m k
  target_reads_placed old new p is h m k =
      ap (λ ps. target_reads ps m k) is ∙ sym (target_reads_alone (map (moved_place net word) old) m k)
      ∙ block_open_moved net word Blocking (Set old (Number 0) ∷ []) m k
      ∙ same_bits (block_reads Blocking (Set old (Number 0) ∷ [])) p (λ x y. target_reads_alone old x y ∙ h x y) m k

  -- ---- equations
  holds_moved : (acts : List Act) (us : List Update) (v : Values) → IsNarrow v
      → block_updates Blocking acts (from_first net word v) ≡ us
      → (run (map (moved_act net word) acts) v ≡ v) ↔ HasLast us (from_first net word v)
  holds_moved acts us v narrow is =
      let w : Values = from_first net word v in
      let fixed = fixed_moved net word acts v in
      let last = last_updates us w (narrow_from v narrow) in
      let same : run acts w ≡ apply us w = ap (λ xs. apply xs w) is in
      ((λ h. last.0 (sym same ∙ fixed.0 h)), (λ h. fixed.1 (same ∙ last.1 h)))

  pub set_holds : (old new : List Place) (f : Values → ℕ → List Update) → new ≡ map (moved_place net word) old
      → ((x : ℕ) (v : Values) → target_updates old x v ≡ f v x)
      → (e : Rhs) (x : ℕ) (v : Values) → IsNarrow v → value e v ≡ x
      → (run (Set new e ∷ []) v ≡ v) ↔ HasLast (f (from_first net word v) x) (from_first net word v)
  set_holds old new f is h e x v narrow number =
      let w : Values = from_first net word v in
      let moved_set : List Act = map (moved_act net word) (Set old (Number x) ∷ []) in
      let same : run (Set new e ∷ []) v ≡ run moved_set v =
      ap (λ ps. apply (target_updates ps (value e v) v ++ []) v) is
      ∙ ap (λ y. apply (target_updates (map (moved_place net word) old) y v ++ []) v) number in
      let both = holds_moved (Set old (Number x) ∷ []) (f w x) v narrow (append-nil (target_updates old x w) ∙ h x w) in
      ((λ k. both.0 (sym same ∙ k)), (λ k. same ∙ both.1 k))

  -- ---- blocks
  pub code_updates : (old new : Code) (f : Timing → Values → List Update) → new ≡ moved net word old
      → ((t : Timing) (v : Values) → block_updates t old.acts v ≡ f t v)
      → (t : Timing) (v : Values) → block_updates t new.acts v ≡ map (moved_update net word) (f t (from_first net word v))
  code_updates old new f is h t v =
      ap (λ (c : Code). block_updates t c.acts v) is ∙ block_moved net word t old.acts v
      ∙ ap (map (moved_update net word)) (h t (from_first net word v))

  pub code_holds : (old new : Code) (f : Timing → Values → List Update) → new ≡ moved net word old
      → ((t : Timing) (v : Values) → block_updates t old.acts v ≡ f t v)
      → (v : Values) → IsNarrow v
      → (run new.acts v ≡ v) ↔ HasLast (f Blocking (from_first net word v)) (from_first net word v)
  code_holds old new f is h v narrow =
      let both = holds_moved old.acts (f Blocking (from_first net word v)) v narrow (h Blocking (from_first net word v)) in
      let same : run new.acts v ≡ run (map (moved_act net word) old.acts) v = ap (λ (c : Code). run c.acts v) is in
      ((λ k. both.0 (sym same ∙ k)), (λ k. same ∙ both.1 k))

  pub code_writes : (old new : Code) (p : BitSet) → new ≡ moved net word old → ((m k : ℕ) → named old.writes m k ≡ p m k)
      → (m k : ℕ) → named new.writes m k ≡ moved_bits net word p m k
  code_writes old new p is h m k =
      ap (λ (c : Code). named c.writes m k) is ∙ named_moved net word old.writes m k ∙ same_bits (named old.writes) p h m k

  pub code_reads : (old new : Code) (p : BitSet) → new ≡ moved net word old → ((m k : ℕ) → named old.reads m k ≡ p m k)
      → (m k : ℕ) → named new.reads m k ≡ moved_bits net word p m k
  code_reads old new p is h m k =
      ap (λ (c : Code). named c.reads m k) is ∙ named_moved net word old.reads m k ∙ same_bits (named old.reads) p h m k

  pub code_adds : (old new : Code) (p : BitSet) → new ≡ moved net word old → ((m k : ℕ) → block_adds old.acts m k ≡ p m k)
      → (m k : ℕ) → block_adds new.acts m k ≡ moved_bits net word p m k
  code_adds old new p is h m k =
      ap (λ (c : Code). block_adds c.acts m k) is ∙ block_adds_moved net word old.acts m k ∙ same_bits (block_adds old.acts) p h m k

  pub code_bits : (t : Timing) (old new : Code) → new ≡ moved net word old → HasBits t old → HasBits t new
  code_bits t old new is h = subst (λ c. HasBits t c) (sym is) (bits_moved net word t old h)
