-- What a memory shelf shows: its entries, the calls that are listed to fail, its failed writes, and its starts that succeeded.
use Rattle.std.specs.Prelude.{ℕ, List}
use Rattle.vidi_io.specs.declared.entries.Entry.{Entry}
use Rattle.vidi_io.specs.declared.fails.Plan.{Plan}
use Rattle.vidi_io.specs.declared.mem_shelf.MemShelf.{MemShelf}

abbrev pub entries : MemShelf → List Entry
entries shelf = shelf.entries.items

abbrev pub planned : MemShelf → Plan
planned shelf = shelf.plan

abbrev pub failed_writes : MemShelf → ℕ
failed_writes shelf = shelf.write_faults

abbrev pub starts_of : MemShelf → ℕ
starts_of shelf = shelf.starts
