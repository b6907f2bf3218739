-- The parameters of a module instance (IEEE 1364-2005, 12.2 and 4.10; this project's profile): each is made by the connection of its
-- name where the instance has one, else by its own expression in the parameters before it.
use Rattle.std.specs.Prelude.{ℕ, min, if◌then◌else◌, List, [], ◌∷◌, Option, Some, None, is_some}
use Rattle.vlog_tree.specs.Tree.{ExprOf, ConnOf, ParameterOf, NamedValueOf, ItemOf, LocalparamsItem}
use Rattle.vlog_size.specs.declared.scope.Const.TheVariants as const
use Rattle.vlog_size.specs.declared.scope.Param.{Param}
use Rattle.vlog_size.specs.Table.{Named, value_of, added}
use Rattle.vlog_size.specs.Literal.{is_lawful}
use Rattle.vlog_size.specs.Names.{Readable, params_alone}
use Rattle.vlog_size.specs.Size.{Sizes, number, or_zero, constant_at, assigned_number}
use Rattle.vlog_scope.specs.declared.extent.Extent.{Extent}
use Rattle.vlog_scope.specs.declared.extent.Extent.TheVariants.{NoRange, Bits, AtFault}
use Rattle.vlog_scope.specs.Extents.{MOST, constant_sizes, extent_of, parameter_extent}

-- the connections of parameters that aren't empty, each a constant position where these names may be read
abbrev pub with_override : Readable → List (Named Sizes) → List ℕ → Option (ExprOf ℕ) → List (Named Sizes)
with_override r given name None = given
with_override r given name (Some e) = added given name (constant_sizes r e)

abbrev pub overrides_after : Readable → List (Named Sizes) → List (ConnOf ℕ) → List (Named Sizes)
overrides_after r given [] = given
overrides_after r given (c ∷ cs) = overrides_after r (with_override r given c.id.name c.value) cs

-- the overrides that an instance's connections give, by name
abbrev pub overrides_of : Readable → List (ConnOf ℕ) → List (Named Sizes)
overrides_of r conns = overrides_after r [] conns

-- the one that is given, else the other
abbrev pub given_or : Option Sizes → Sizes → Sizes
given_or None own = own
given_or (Some e) own = e

-- the width of an expression's constant; 0, which is no lawful one, where a part that makes it has no lawful one
abbrev pub constant_width : Sizes → ℕ
constant_width e = if e.parts_lawful then min e.width MOST else 0

-- the constant of an expression, with number 0 where it has none
abbrev pub own_param : Sizes → Param
own_param e = record { value = constant_at e.plain (constant_width e) (or_zero (number e)); known = is_some (number e) }

-- so many bits and their number, where there is one
abbrev pub ranged_param : ℕ → Option ℕ → Param
ranged_param w n = record { value = const.Sized w (or_zero n); known = is_some n }

-- the number that an expression gives to so many bits, where these are lawful
abbrev pub assigned : ℕ → Sizes → Option ℕ
assigned w e = if is_lawful w then assigned_number w e else None

-- a parameter that this expression makes: sized by its range as by assignment, and without a range the expression's constant
abbrev pub param_of : Extent → Sizes → Param
param_of NoRange e = own_param e
param_of (Bits w) e = ranged_param w (assigned w e)
param_of AtFault e = ranged_param MOST None

-- one more parameter, which this expression makes
abbrev pub with_param : Extent → List (Named Param) → List ℕ → Sizes → List (Named Param)
with_param x so_far name e = added so_far name (param_of x e)

-- the header's parameters
abbrev pub header_params : List (Named Sizes) → Extent → List (Named Param) → List (ParameterOf ℕ) → List (Named Param)
header_params given before so_far [] = so_far
header_params given before so_far (p ∷ ps) =
    header_params given (parameter_extent (params_alone so_far) before p.head)
    (with_param (parameter_extent (params_alone so_far) before p.head) so_far p.id.name
    (given_or (value_of given p.id.name) (constant_sizes (params_alone so_far) p.value))) ps

-- the parameters of one `localparam`, whose range this is
abbrev pub local_params : Extent → List (Named Param) → List (NamedValueOf ℕ) → List (Named Param)
local_params x so_far [] = so_far
local_params x so_far (v ∷ vs) = local_params x (with_param x so_far v.id.name (constant_sizes (params_alone so_far) v.value)) vs

abbrev pub item_params : List (Named Param) → ItemOf ℕ → List (Named Param)
item_params so_far (LocalparamsItem range vs) = local_params (extent_of (params_alone so_far) range) so_far vs
item_params so_far item = so_far

-- with those of the items
abbrev pub items_params : List (Named Param) → List (ItemOf ℕ) → List (Named Param)
items_params so_far [] = so_far
items_params so_far (i ∷ is) = items_params (item_params so_far i) is
