-- A name with its brackets takes as many bits of the number as it is wide.
use Rattle.std.proofs.Common.{◌≡◌, ℕ, ◌+◌, ◌-◌, ◌≤◌, Option, None, Some, option_map, List, refl, arith}
use Rattle.vlog_tree.specs.Tree.{RefWith, IdentOf, IndexOf, NoIndex, Index, LastOf, NoLast, Last, IndexSel, PartSel, IndexedSel, RefTarget}
use Rattle.vlog_size.specs.vidi_bits.Findings.{or_first}
use Rattle.vlog_size.specs.vidi_bits.Number.{IsWidth}
use Rattle.vlog_size.specs.declared.scope.Param.{Param}
use Rattle.vlog_size.specs.declared.scope.ScopeNet.{ScopeNet}
use Rattle.vlog_size.specs.declared.scope.ScopeMemory.{ScopeMemory}
use Rattle.vlog_size.specs.Table.{Named, value_of, place_of}
use Rattle.vlog_size.specs.Names.{Readable, fixed, or_meaning, or_undeclared, net_meaning, memory_meaning}
use Rattle.vlog_size.specs.Size.{Sizes, sizes_of, sizes_of_index, sizes_of_last, of_ref, part_width, bounds_width, or_zero, number}
use Rattle.vlog_block.specs.declared.source.Source.TheVariants.{Nothing}
use Rattle.vlog_block.specs.Sources.{source_of, net_source, memory_source, or_source, or_constant}
use Rattle.vlog_block.specs.Value.{picked}
use Rattle.vlog_block.specs.Targets.{target_width, taken, lone_taken}

bounds_same : (a b : Option ℕ) → IsWidth (bounds_width a b) → bounds_width a b ≡ or_zero a + 1 - or_zero b
bounds_same (Some a) (Some b) h = refl
bounds_same (Some a) None h = let none : 1 ≤ 0 = h.0 in omega (arith, none)
bounds_same None (Some b) h = let none : 1 ≤ 0 = h.0 in omega (arith, none)
bounds_same None None h = let none : 1 ≤ 0 = h.0 in omega (arith, none)

part_picked : (r : Readable) (last : LastOf ℕ) (n : ℕ) → IsWidth (part_width n 1 (sizes_of_last r last))
    → part_width n 1 (sizes_of_last r last) ≡ picked r last n
part_picked r NoLast n h = refl
part_picked r (Last (IndexSel i)) n h = refl
part_picked r (Last (PartSel a b)) n h = bounds_same (number (sizes_of (fixed r) a)) (number (sizes_of (fixed r) b)) h
part_picked r (Last (IndexedSel base width)) n h = refl

lone_picked : (r : Readable) (last : LastOf ℕ) (n : ℕ) → IsWidth (part_width n n (sizes_of_last r last))
    → part_width n n (sizes_of_last r last) ≡ lone_taken r last n
lone_picked r NoLast n h = refl
lone_picked r (Last (IndexSel i)) n h = refl
lone_picked r (Last (PartSel a b)) n h = bounds_same (number (sizes_of (fixed r) a)) (number (sizes_of (fixed r) b)) h
lone_picked r (Last (IndexedSel base width)) n h = refl

-- a parameter, else a net, else a memory, with brackets
abbrev read_name : Readable → ℕ → Option Param → Option ScopeNet → Option ScopeMemory → IndexOf ℕ → LastOf ℕ → Sizes
read_name r line p n m index last =
    of_ref line (or_meaning p (or_undeclared (or_first (option_map net_meaning n) (option_map memory_meaning m)))) (sizes_of_index r index)
    (sizes_of_last r last)

name_taken : (r : Readable) (line : ℕ) (memories : List (Named ScopeMemory)) (p : Option Param) (n : Option ScopeNet)
    (m : Option ScopeMemory) (i j : Option ℕ) (index : IndexOf ℕ) (last : LastOf ℕ) → IsWidth (read_name r line p n m index last).width
    → (read_name r line p n m index last).width
    ≡ taken r (or_constant p (or_source net_source i n (or_source (memory_source memories) j m Nothing))) index last
name_taken r line memories (Some p) n m i j index last h = refl
name_taken r line memories None (Some n) m i j NoIndex last h = part_picked r last n.width h
name_taken r line memories None (Some n) m i j (Index e) last h = part_picked r last n.width h
name_taken r line memories None None (Some m) i j NoIndex last h = lone_picked r last m.width h
name_taken r line memories None None (Some m) i j (Index e) last h = part_picked r last m.width h
name_taken r line memories None None None i j index last h = refl

pub ref_taken : (r : Readable) (id : IdentOf ℕ) (index : IndexOf ℕ) (last : LastOf ℕ)
    → IsWidth (target_width r (RefTarget (RefWith id index last)))
    → target_width r (RefTarget (RefWith id index last)) ≡ taken r (source_of r id.name) index last
ref_taken r id index last h =
    name_taken r id.line r.memories (value_of r.params id.name) (value_of r.nets id.name) (value_of r.memories id.name)
    (place_of r.nets id.name) (place_of r.memories id.name) index last h
