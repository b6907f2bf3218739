-- The kinds of an AXI file's lines, and which must stand together (this project's profile).
use Rattle.std.specs.Prelude.{ℕ, ◌==◌, ◌&&◌, ◌||◌, not, Bool, true, false, List}
use Rattle.std.specs.List.{list_any}
use Rattle.axi_burst.specs.declared.axi_text.AxiLine.{AxiLine}
use Rattle.axi_burst.specs.declared.axi_text.Entry.{Entry}
use Rattle.axi_burst.specs.declared.axi_text.Entry.TheVariants as E
use Rattle.axi_burst.specs.declared.axi_text.Role.{Role}
use Rattle.axi_burst.specs.declared.axi_text.Role.TheVariants.{WriteAddress, WriteData, WriteResponse, ReadAddress, ReadData}

abbrev pub role_number : Role → ℕ
role_number WriteAddress = 0
role_number WriteData = 1
role_number WriteResponse = 2
role_number ReadAddress = 3
role_number ReadData = 4

-- lines of one kind, of which a file has at most one
abbrev pub same_entry : Entry → Entry → Bool
same_entry (E.Channel role channel places) (E.Channel other name others) = role_number role == role_number other
same_entry (E.Memory words) (E.Memory others) = true
same_entry (E.Data places) (E.Data others) = true
same_entry a b = false

-- whether one of these lines is of the kind of an entry
abbrev pub is_said : List AxiLine → Entry → Bool
is_said lines entry = list_any (λ (l : AxiLine). same_entry l.entry entry) lines

abbrev pub is_of : Role → Entry → Bool
is_of role (E.Channel own channel places) = role_number role == role_number own
is_of role entry = false

-- whether one of these lines names the channel that has a role
abbrev pub has_role : List AxiLine → Role → Bool
has_role lines role = list_any (λ (l : AxiLine). is_of role l.entry) lines

abbrev pub same : Bool → Bool → Bool
same true b = b
same false b = not b

-- `aw`, `w` and `b` are all there or all absent, `ar` and `r` likewise, and some channel is there
abbrev pub is_whole : List AxiLine → Bool
is_whole lines = same (has_role lines WriteAddress) (has_role lines WriteData)
    && (same (has_role lines WriteAddress) (has_role lines WriteResponse)
    && (same (has_role lines ReadAddress) (has_role lines ReadData)
    && (has_role lines WriteAddress || has_role lines ReadAddress)))
