-- What an expression may read, and what a name means there.
use Rattle.std.specs.Prelude.{ℕ, ◌^◌, Bool, true, false, ◌&&◌, nat_le, nat_lt, List, [], take, Option, None, Some, option_map}
use Rattle.std.specs.List.{list_all}
use Rattle.std.specs.Borrow.{Bor}
use Rattle.vlog_size.specs.Table.{Named, value_of}
use Rattle.vlog_tree.specs.vidi_bits.Findings.{or_first}
use Rattle.vlog_size.specs.Literal.{is_lawful}
use Rattle.vlog_size.specs.declared.scope.Const.{Const}
use Rattle.vlog_size.specs.declared.scope.Const.TheVariants as const
use Rattle.vlog_size.specs.declared.scope.Param.{Param}
use Rattle.vlog_size.specs.declared.scope.ScopeNet.{ScopeNet}
use Rattle.vlog_size.specs.declared.scope.ScopeMemory.{ScopeMemory}
use Rattle.vlog_size.specs.declared.scope.Scope.{Scope}
use Rattle.vlog_size.specs.declared.names.View.{View}
use Rattle.vlog_size.specs.declared.names.Meaning.{Meaning}
use Rattle.vlog_size.specs.declared.names.Meaning.TheVariants.{Parameter, Place, Undeclared}

-- what an expression may read, the parameters that a constant position in it may, and whether names are checked: whether
-- what a name stands for is at fault where it is read, if it isn't lawful
pub record Readable : Type 0 where
  pub params : List (Named Param)
  pub constants : List (Named Param)
  pub nets : List (Named ScopeNet)
  pub memories : List (Named ScopeMemory)
  pub is_checked : Bool

-- a constant position may read the parameters whose names stand before it
abbrev pub readable_of : Scope → Readable
readable_of s = record {
  params = s.params;
  constants = take s.declared s.params;
  nets = s.nets;
  memories = s.memories;
  is_checked = false;
}

-- the nets of a scope that is there
abbrev pub nets_in : Option (Bor Scope) → List (Named ScopeNet)
nets_in None = []
nets_in (Some s) = s.now.nets

-- the memories of a scope that is there
abbrev pub memories_in : Option (Bor Scope) → List (Named ScopeMemory)
memories_in None = []
memories_in (Some s) = s.now.memories

-- what the code looks at
abbrev pub readable_in : View → Readable
readable_in v = record {
  params = take v.readable v.params.now;
  constants = take v.declared v.params.now;
  nets = nets_in v.places;
  memories = memories_in v.places;
  is_checked = v.is_checked;
}

-- parameters alone
abbrev pub params_alone : List (Named Param) → Readable
params_alone params = record { params = params; constants = params; nets = []; memories = []; is_checked = false }

-- the same names, which are checked
abbrev pub checked : Readable → Readable
checked r = record r { is_checked = true }

-- a constant position
abbrev pub fixed : Readable → Readable
fixed r = record { params = r.constants; constants = r.constants; nets = []; memories = []; is_checked = r.is_checked }

-- what a parameter means
abbrev pub param_meaning : Param → Meaning
param_meaning p = Parameter p.value p.known

-- what a net means, of which a lone index picks one bit
abbrev pub net_meaning : ScopeNet → Meaning
net_meaning n = Place n.width 1 n.width

-- what a memory means, of which a lone index picks a whole word
abbrev pub memory_meaning : ScopeMemory → Meaning
memory_meaning m = Place m.width m.width m.length

-- a name that isn't there
abbrev pub or_undeclared : Option Meaning → Meaning
or_undeclared None = Undeclared
or_undeclared (Some m) = m

-- a net or a memory
abbrev pub place_meaning : List (Named ScopeNet) → List (Named ScopeMemory) → List ℕ → Meaning
place_meaning nets memories name =
    or_undeclared (or_first (option_map net_meaning (value_of nets name)) (option_map memory_meaning (value_of memories name)))

-- a parameter, or else the other meaning
abbrev pub or_meaning : Option Param → Meaning → Meaning
or_meaning None other = other
or_meaning (Some p) other = param_meaning p

-- a parameter, a net or a memory
abbrev pub meaning_of : Readable → List ℕ → Meaning
meaning_of r name = or_meaning (value_of r.params name) (place_meaning r.nets r.memories name)

-- a plain constant of 0 to 2,147,483,647, or a sized one of 1 to 128 bits and a number that fits
abbrev pub is_lawful_const : Const → Bool
is_lawful_const (const.Plain n) = nat_le n 2147483647
is_lawful_const (const.Sized w n) = is_lawful w && nat_lt n (2 ^ w)

-- each parameter is known and has a lawful constant
abbrev pub are_lawful_params : List (Named Param) → Bool
are_lawful_params params = list_all (λ (p : Named Param). p.value.known && is_lawful_const p.value.value) params

-- nets and words of 1 to 128 bits
abbrev pub are_lawful_places : List (Named ScopeNet) → List (Named ScopeMemory) → Bool
are_lawful_places nets memories =
    list_all (λ (n : Named ScopeNet). is_lawful n.value.width) nets
    && list_all (λ (m : Named ScopeMemory). is_lawful m.value.width) memories

-- lawful parameters, nets and memories
abbrev pub is_lawful_readable : Readable → Bool
is_lawful_readable r = (are_lawful_params r.params && are_lawful_params r.constants) && are_lawful_places r.nets r.memories

-- lawful parameters, nets and memories
abbrev pub is_lawful_scope : Scope → Bool
is_lawful_scope s = are_lawful_params s.params && are_lawful_places s.nets s.memories
