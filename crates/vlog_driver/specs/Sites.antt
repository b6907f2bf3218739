-- Where the code of an instance stands in the flat design.
use Rattle.std.specs.Prelude.{ℕ, ◌+◌, ◌-◌, nat_le, if◌then◌else◌, List, map}
use Rattle.vlog_block.specs.vlog_size.Names.{Readable}
use Rattle.net_design.specs.declared.values.Values.{Values}
use Rattle.net_design.specs.Bits.{BitSet}
use Rattle.net_drive.specs.net_code.declared.base.Base.{Base}
use Rattle.net_drive.specs.net_code.Moved.{from_first, moved_bits}
use Rattle.vlog_block.specs.Sources.{names_of}
use Rattle.vlog_block.specs.Naming.{Naming, NamesNet, NamesRoom}
use Rattle.vlog_driver.specs.declared.site.Site as code

-- what an instance's expressions read, and where it stands
pub record Site : Type 0 where
  pub names : Readable
  pub base : Base

abbrev pub site_of : code.Site → Site
site_of x = record { names = names_of x.scope.now; base = x.base }

-- the numbers from an instance's first places on
abbrev pub numbers_from : Site → Values → Values
numbers_from p v = from_first p.base.net p.base.word v

-- bits of an instance's nets as bits of the flat design's
abbrev pub bits_at : Site → BitSet → BitSet
bits_at p s m k = moved_bits p.base.net p.base.word s m k

-- how often bits of an instance's nets are named, as of the flat design's
abbrev pub count_at : Site → (ℕ → ℕ → ℕ) → ℕ → ℕ → ℕ
count_at p count m k = if nat_le p.base.net m then count (m - p.base.net) k else 0

-- what an instance's code names, at the instance's places
abbrev pub name_at : Site → Naming → Naming
name_at p (NamesNet m) = NamesNet (p.base.net + m)
name_at p (NamesRoom first) = NamesRoom (p.base.word + first)

abbrev pub names_at_site : Site → List Naming → List Naming
names_at_site p names = map (name_at p) names
