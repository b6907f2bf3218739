-- Values of the code as plain data.
use Rattle.std.specs.Prelude.{List, ℕ, Option, None, Some}
use Rattle.shim_gen.specs.declared.error.WrapError.{WrapError}
use Rattle.shim_gen.specs.declared.error.WrapError.TheVariants as error

-- the finding of an error; want of memory is none
abbrev pub wrap_told : WrapError → Option (List ℕ)
wrap_told (error.Reserved name) = Some name
wrap_told error.Memory = None
