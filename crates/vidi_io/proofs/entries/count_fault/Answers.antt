use Rattle.std.proofs.Common.{◌≡◌, List, Some, None, subst}
use Rattle.std.specs.List.{position}
use Rattle.std.specs.Str.{bytes_eq}
use Rattle.vidi_io.specs.declared.entries.Entry.{Entry}
use Rattle.vidi_io.proofs.Names.{fault_at, same_entries, no_file}
use Rattle.vidi_io.proofs.entries.count_fault.Goals as goal

pub returns-in-Some : goal.returns-in-Some
returns-in-Some c =
    let first : Some c.in-Some.i ≡ position (λ (x : Entry). bytes_eq c.args.name.now x.name) c.args.entries.now.items =
    subst (λ (es : List Entry). Some c.in-Some.i ≡ position (λ (x : Entry). bytes_eq c.args.name.now x.name) es) c.as_slice.ensures.value
    c.in-Some.ensures in
    fault_at c.count_fault.result c.args.entries.now.items c.args.name.now c.in-Some.i c.index_mut.result.now c.count_fault.new.self first
    c.index_mut.ensures.value
    c.count_fault.ensures.name c.count_fault.ensures.room c.count_fault.ensures.file c.count_fault.ensures.there c.count_fault.ensures.later
    c.count_fault.ensures.rose

pub returns-in-None : goal.returns-in-None
returns-in-None c =
    let none : None ≡ position (λ (x : Entry). bytes_eq c.args.name.now x.name) c.args.entries.now.items =
    subst (λ (es : List Entry). None ≡ position (λ (x : Entry). bytes_eq c.args.name.now x.name) es) c.as_slice.ensures.value
    c.in-None.ensures in
    (same_entries c.args.entries.now.items, no_file c.args.entries.now.items c.args.name.now none)
