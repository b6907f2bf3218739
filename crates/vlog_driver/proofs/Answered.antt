-- The first net at which E9 holds, by a code's masks and targets.
use Rattle.std.proofs.Common.{◌≡◌, ℕ, ◌&&◌, ◌||◌, not, Bool, false, List, length, ap, sym, subst, ◌∙◌}
use Rattle.net_drive.proofs.net_code_lemmas.MaskLaws.{same_sets}
use mathlib.Core.Path.{fun_ext}
use Rattle.vlog_block.specs.vlog_size.declared.scope.ScopeNet.{ScopeNet}
use Rattle.vlog_block.specs.vlog_size.Table.{Named}
use Rattle.net_design.specs.declared.act.Code.{Code}
use Rattle.net_design.specs.declared.act.Mask.{Mask}
use Rattle.net_design.specs.declared.act.Place.{Place}
use Rattle.net_design.specs.Bits.{BitSet, named, block_adds}
use Rattle.net_drive.specs.net_code.declared.bit_map.BitMap.{BitMap}
use Rattle.net_drive.specs.net_code.BitMap.{in_map}
use Rattle.net_drive.specs.net_code.Targets.{nets_named, block_targets}
use Rattle.vlog_block.specs.Naming.{Naming, place_names, code_names}
use Rattle.vlog_driver.specs.Latch.{some_bit, is_latched}
use Rattle.vlog_driver.specs.Blocks.{code_latched}
use Rattle.vlog_driver.specs.Masks.{least_missed, least_read, IsLeast}
use Rattle.vlog_driver.proofs.OneMask.{any_missed, any_read, by_masks, by_names}
use Rattle.vlog_driver.proofs.Least.{least_of, least_among, least_start}

same_least : (p q : ℕ → Bool) (count n : ℕ) → ((m : ℕ) → p m ≡ q m) → IsLeast p count n → IsLeast q count n
same_least p q count n h = subst (λ x. IsLeast x count n) (fun_ext h)

-- both parts of E9, by a code's masks and places
both_parts : (masks : List Mask) (places : List Place) (adds reads : BitSet) (m : ℕ)
    → (any_missed adds masks m || any_read reads (nets_named places) m) ≡ is_latched (named masks) (place_names places) adds reads m
unfolding is_latched
both_parts masks places adds reads m =
    ap (λ b. b || any_read reads (nets_named places) m) (by_masks adds masks m)
    ∙ ap (λ b. some_bit (λ k. named masks m k && not (adds m k)) || b) (by_names reads places m)

-- the least of those by masks and those by targets
pub least_latched : (masks : List Mask) (places : List Place) (sure early : BitMap) (count : ℕ)
    → IsLeast (is_latched (named masks) (place_names places) (in_map sure) (in_map early)) count
    (least_read (in_map early) (nets_named places) (least_missed (in_map sure) masks count))
least_latched masks places sure early count =
    let missed = least_of (in_map sure) count masks (λ m. false) count (least_start count) in
    let all = least_among (in_map early) count (nets_named places) (any_missed (in_map sure) masks)
    (least_missed (in_map sure) masks count) missed in
    same_least (λ m. any_missed (in_map sure) masks m || any_read (in_map early) (nets_named places) m)
    (is_latched (named masks) (place_names places) (in_map sure) (in_map early)) count
    (least_read (in_map early) (nets_named places) (least_missed (in_map sure) masks count))
    (both_parts masks places (in_map sure) (in_map early)) all

-- what the code answers of its own masks and targets
pub code_least : (code : Code) (sure early : BitMap) (masks given : List Mask) (nets : List ℕ) (count missed n : ℕ)
    → masks ≡ code.writes → given ≡ code.reads → nets ≡ nets_named (block_targets code.acts)
    → ((m k : ℕ) → in_map sure m k ≡ block_adds code.acts m k) → ((m k : ℕ) → in_map early m k ≡ named given m k)
    → missed ≡ least_missed (in_map sure) masks count → n ≡ least_read (in_map early) nets missed → IsLeast (code_latched code) count n
code_least code sure early masks given nets count missed n ew er en hs he hm hn =
    let places = block_targets code.acts in
    let own = least_latched masks places sure early count in
    let same : n ≡ least_read (in_map early) (nets_named places) (least_missed (in_map sure) masks count) =
    hn ∙ (ap (λ x. least_read (in_map early) x missed) en ∙ ap (least_read (in_map early) (nets_named places)) hm) in
    same_least (is_latched (named masks) (place_names places) (in_map sure) (in_map early)) (code_latched code) count n
    (λ m. ap (λ xs. is_latched (named xs) (place_names places) (in_map sure) (in_map early) m) ew
    ∙ (ap (λ p. is_latched (named code.writes) (place_names places) p (in_map early) m) (same_sets (in_map sure) (block_adds code.acts) hs)
    ∙ (ap (λ p. is_latched (named code.writes) (place_names places) (block_adds code.acts) p m) (same_sets (in_map early) (named given) he)
    ∙ ap (λ xs. is_latched (named code.writes) (place_names places) (block_adds code.acts) (named xs) m) er)))
    (subst (λ k. IsLeast (is_latched (named masks) (place_names places) (in_map sure) (in_map early)) count k) (sym same) own)

-- the same in the words of a block's bits and targets
pub is_least : (code : Code) (count n : ℕ) (nets : List (Named ScopeNet)) → count ≡ length nets → IsLeast (code_latched code) count n
    → (writes : BitSet) (names : List Naming) (adds reads : BitSet) → ((m k : ℕ) → named code.writes m k ≡ writes m k)
    → code_names code.acts ≡ names → ((m k : ℕ) → block_adds code.acts m k ≡ adds m k) → ((m k : ℕ) → named code.reads m k ≡ reads m k)
    → IsLeast (is_latched writes names adds reads) (length nets) n
is_least code count n nets ec own writes names adds reads w t s r =
    subst (λ c. IsLeast (is_latched writes names adds reads) c n) ec
    (same_least (code_latched code) (is_latched writes names adds reads) count n
    (λ m. ap (λ p. is_latched p (code_names code.acts) (block_adds code.acts) (named code.reads) m) (same_sets (named code.writes) writes w)
    ∙ (ap (λ ns. is_latched writes ns (block_adds code.acts) (named code.reads) m) t
    ∙ (ap (λ p. is_latched writes names p (named code.reads) m) (same_sets (block_adds code.acts) adds s)
    ∙ ap (λ p. is_latched writes names adds p m) (same_sets (named code.reads) reads r)))) own)
