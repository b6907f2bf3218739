-- The findings of the crates below as reasons why a design text is refused.
use Rattle.std.specs.Prelude.{ℕ, Option, None, Some}
use Rattle.vlog_names.specs.declared.error.NameError.{NameError}
use Rattle.vlog_names.specs.declared.error.NameError.TheVariants as name
use Rattle.vlog_names.specs.declared.kinds.error.KindError.{KindError}
use Rattle.vlog_hierarchy.specs.declared.error.HierarchyError.{HierarchyError}
use Rattle.vlog_hierarchy.specs.declared.error.HierarchyError.TheVariants as hierarchy
use Rattle.vlog_hierarchy.specs.declared.error.HierarchyLimit.{HierarchyLimit}
use Rattle.vlog_hierarchy.specs.declared.error.HierarchyLimit.TheVariants as limit
use Rattle.vlog_hierarchy.specs.vlog_size.declared.error.SizeError.{SizeError}
use Rattle.vlog_hierarchy.specs.vlog_size.declared.error.SizeError.TheVariants as size
use Rattle.vlog_elab.specs.declared.error.Big.{Big}
use Rattle.vlog_elab.specs.declared.error.Big.TheVariants as big
use Rattle.vlog_elab.specs.declared.error.ElabError.{ElabError}
use Rattle.vlog_elab.specs.declared.error.ElabError.TheVariants as e

-- E3 and E4
abbrev pub of_name : NameError → ElabError
of_name (name.Twice x) = e.Twice x
of_name (name.Unknown x) = e.Unknown x
of_name name.Memory = e.Memory

-- E7
abbrev pub of_line : ℕ → ElabError
of_line line = e.Kind line

abbrev pub of_kind : KindError → ElabError
of_kind x = of_line x.line

-- E12 of instances and nets, and E13
abbrev pub of_limit : HierarchyLimit → Big
of_limit limit.Instances = big.Instances
of_limit limit.Nets = big.Nets

abbrev pub of_hierarchy : HierarchyError → ElabError
of_hierarchy (hierarchy.TooBig what) = e.TooBig (of_limit what)
of_hierarchy (hierarchy.Clock line) = e.Clock line
of_hierarchy hierarchy.Memory = e.Memory

-- E5 and E6
abbrev pub of_size : SizeError → ElabError
of_size (size.Const line) = e.Const line
of_size (size.Width line got) = e.Width line got

-- the numbers of E3 to E9 and E11 to E13; want of memory is no reason
abbrev pub number_of : ElabError → Option ℕ
number_of (e.Twice name) = Some 3
number_of (e.Unknown name) = Some 4
number_of (e.Const line) = Some 5
number_of (e.Width line got) = Some 6
number_of (e.Kind line) = Some 7
number_of (e.Drive name bit drivers) = Some 8
number_of (e.Latch name line) = Some 9
number_of (e.Nested name) = Some 11
number_of (e.TooBig what) = Some 12
number_of (e.Clock line) = Some 13
number_of e.Memory = None
