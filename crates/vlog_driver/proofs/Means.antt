-- What it means that nothing is found of a block.
use Rattle.std.proofs.Common.{◌≡◌, ℕ, zero, suc, ◌+◌, ◌<◌, ◌&&◌, not, Bool, true, false, List, [], ◌∷◌, ◌++◌, length}
use Rattle.std.proofs.Common.{refl, ap, sym, ◌∙◌}
use Rattle.std.proofs.Common.{arith}
use Rattle.std.proofs.lemmas.Bool.{and_right, or_from, or_parts}
use Rattle.net_drive.proofs.vidi_bits_lemmas.Bools.{and_not_false}
use Rattle.net_drive.specs.vidi_bits.Findings.{told_if}
use Rattle.vlog_block.specs.vlog_size.declared.scope.ScopeNet.{ScopeNet}
use Rattle.vlog_block.specs.vlog_size.Table.{Named}
use Rattle.net_design.specs.declared.act.Code.{Code}
use Rattle.net_design.specs.declared.act.Timing.TheVariants.{Blocking}
use Rattle.net_design.specs.Bits.{BitSet, named, block_adds}
use Rattle.vlog_tree.specs.Tree.{EventOf, PosedgeEvent, ImplicitEvent, AlwaysOf}
use Rattle.vlog_block.specs.vlog_size.Names.{Readable, is_lawful_readable}
use Rattle.vlog_block.specs.Updates.{timing_of}
use Rattle.vlog_block.specs.Written.{always_writes, always_adds, always_reads}
use Rattle.vlog_block.specs.Naming.{Naming, always_names}
use Rattle.vlog_driver.specs.Blocks.{of_implicit, block_latches, IsCodeOf}
use Rattle.vlog_driver.specs.declared.latches.error.BlockError.{BlockError}
use Rattle.vlog_driver.specs.declared.latches.error.BlockError.TheVariants as error
use Rattle.vlog_driver.specs.Latch.{some_bit, is_named, is_latched, latches_from, latches}
use Rattle.vlog_driver.proofs.SomeBit.{some_lacks, some_no}
use Rattle.vlog_driver.proofs.Found.{none_from}
use Rattle.vlog_driver.proofs.There.{body_there, within}
use Rattle.vlog_driver.proofs.Targets.{body_named}

told_none : (b : Bool) (x : BlockError) (rest : List BlockError) → told_if b x ++ rest ≡ [] → (b ≡ false) × (rest ≡ [])
told_none true x rest h = absurd (cc)
told_none false x rest h = (refl, h)

none_at : (p : ℕ → Bool) (line : ℕ) (nets : List (Named ScopeNet)) (f i : ℕ) → latches_from p line f nets ≡ [] → i < length nets
    → p (f + i) ≡ false
none_at p line [] f i h l = absurd (omega (arith, l))
none_at p line (n ∷ nets) f zero h l =
    let e : f + zero ≡ f = omega arith in
    ap p e ∙ (told_none (p f) (error.Latch n.name line) (latches_from p line (suc f) nets) h).0
none_at p line (n ∷ nets) f (suc i) h l =
    let e : f + suc i ≡ suc f + i = omega arith in
    let s : i < length nets = omega (arith, l) in
    ap p e ∙ none_at p line nets (suc f) i (told_none (p f) (error.Latch n.name line) (latches_from p line (suc f) nets) h).1 s

not_added : (w a : Bool) → (w ≡ true → a ≡ true) → (w && not a) ≡ false
not_added true a h = ap not (h refl)
not_added false a h = refl

second : (w r : Bool) → (w && r) ≡ false → w ≡ true → r ≡ false
second true r h t = h
second false r h t = absurd (cc)

-- of bit k of net m: where it is written it is surely assigned, and where the net is named it isn't read before
abbrev IsWell : BitSet → List Naming → BitSet → BitSet → ℕ → ℕ → Type 0
IsWell writes names adds reads m k = (writes m k ≡ true → adds m k ≡ true) × (is_named names m ≡ true → reads m k ≡ false)

module _ (writes : BitSet) (names : List Naming) (adds reads : BitSet) (line : ℕ) (nets : List (Named ScopeNet)) where
  one_net : (m : ℕ) → is_latched writes names adds reads m ≡ false → (k : ℕ) → k < 128 → IsWell writes names adds reads m k
  unfolding is_latched
  one_net m h k l =
      let parts = or_parts (some_bit (λ x. writes m x && not (adds m x))) (is_named names m && some_bit (λ x. reads m x)) h in (
        λ t. and_not_false (writes m k) (adds m k) (some_lacks (λ x. writes m x && not (adds m x)) parts.0 k l) t,
        λ t. some_lacks (λ x. reads m x) (second (is_named names m) (some_bit (λ x. reads m x)) parts.1 t) k l,
      )

  pub found : latches writes names adds reads line nets ≡ [] → (m k : ℕ) → m < length nets → k < 128
      → IsWell writes names adds reads m k
  found h m k lm lk =
      let e : 0 + m ≡ m = omega arith in
      one_net m (ap (is_latched writes names adds reads) (sym e) ∙ none_at (is_latched writes names adds reads) line nets 0 m h lm) k lk

  no_reads : (m : ℕ) → ((k : ℕ) → k < 128 → IsWell writes names adds reads m k) → (t : Bool) → is_named names m ≡ t
      → (is_named names m && some_bit (λ x. reads m x)) ≡ false
  no_reads m h true e =
      and_right (is_named names m) (some_bit (λ x. reads m x)) (some_no (λ x. reads m x) (λ k l. (h k l).1 e))
  no_reads m h false e = ap (λ b. b && some_bit (λ x. reads m x)) e

  no_net : (m : ℕ) → ((k : ℕ) → k < 128 → IsWell writes names adds reads m k) → is_latched writes names adds reads m ≡ false
  unfolding is_latched
  no_net m h =
      or_from (some_bit (λ x. writes m x && not (adds m x))) (is_named names m && some_bit (λ x. reads m x))
      (some_no (λ x. writes m x && not (adds m x)) (λ k l. not_added (writes m k) (adds m k) (h k l).0))
      (no_reads m h (is_named names m) refl)

  pub none : ((m k : ℕ) → m < length nets → k < 128 → IsWell writes names adds reads m k)
      → latches writes names adds reads line nets ≡ []
  none h = none_from (is_latched writes names adds reads) line nets 0 (λ m l.
      let b : m < length nets = omega (arith, l) in no_net m (λ k lk. h m k b lk))

-- ---- a block's code

module _ (r : Readable) (a : AlwaysOf ℕ) (code : Code) (bits : IsCodeOf r a code) (implicit : timing_of a.event ≡ Blocking)
    (empty : block_latches r a ≡ []) (lawful : is_lawful_readable r ≡ true) where
  none_there : (e : EventOf ℕ) (found : List BlockError) → timing_of e ≡ Blocking → of_implicit e found ≡ [] → found ≡ []
  none_there (PosedgeEvent clock) found t h = absurd (cc)
  none_there (ImplicitEvent parens) found t h = h

  of_bit : (m k : ℕ) → named code.writes m k ≡ true → (always_adds r a m k ≡ true) × (always_reads r a m k ≡ false)
  of_bit m k t =
      let w : always_writes r a m k ≡ true = sym (bits.writes m k) ∙ t in
      let b = within r m k lawful (body_there r m k a.body w) in
      let well = found (always_writes r a) (always_names r a) (always_adds r a) (always_reads r a) a.line r.nets
      (none_there a.event (latches (always_writes r a) (always_names r a) (always_adds r a) (always_reads r a) a.line r.nets)
      implicit empty) m k b.0 b.1 in
      (well.0 w, well.1 (body_named r m k a.body w))

  pub whole : (m k : ℕ) → named code.writes m k ≡ true → block_adds code.acts m k ≡ true
  whole m k t = bits.adds m k ∙ (of_bit m k t).0

  pub own : (m k : ℕ) → named code.writes m k ≡ true → named code.reads m k ≡ false
  own m k t = bits.reads m k ∙ (of_bit m k t).1
