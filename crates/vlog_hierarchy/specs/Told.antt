-- What an error tells beside the list of all findings.
use Rattle.std.specs.Prelude.{Option, None, Some}
use Rattle.vlog_hierarchy.specs.declared.error.HierarchyError.{HierarchyError}
use Rattle.vlog_hierarchy.specs.declared.error.HierarchyError.TheVariants as e

-- the finding; want of memory is none
abbrev pub hierarchy_told : HierarchyError → Option HierarchyError
hierarchy_told e.Memory = None
hierarchy_told error = Some error
