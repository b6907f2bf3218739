-- Which calls of a memory shelf are listed to fail.
use Rattle.std.specs.Prelude.{ℕ, ◌+◌, ◌-◌, ◌^◌, Bool, true, false, if◌then◌else◌, ◌&&◌, nat_eq, nat_lt, List, Option, None}
use Rattle.std.specs.List.{find, list_any}
use Rattle.vidi_io.specs.declared.fails.Fail.{Fail}
use Rattle.vidi_io.specs.declared.fails.FailCall.{FailCall}
use Rattle.vidi_io.specs.declared.fails.FailCall.TheVariants.{Fetch, Start, Append}
use Rattle.vidi_io.specs.declared.fails.Plan.{Plan}

abbrev pub same_call : FailCall → FailCall → Bool
same_call Fetch Fetch = true
same_call Start Start = true
same_call Append Append = true
same_call _ _ = false

-- the first that lists the call of this kind and number
abbrev pub first_listing : List Fail → FailCall → ℕ → Option Fail
first_listing fails call number = find (λ fail. same_call fail.call call && nat_eq fail.number number) fails

-- how many calls of this kind there were
abbrev pub calls_of : Plan → FailCall → ℕ
calls_of plan Fetch = plan.fetches
calls_of plan Start = plan.starts
calls_of plan Append = plan.appends

-- what lists the next call of this kind; past the last number none is listed
abbrev pub next_listed : Plan → FailCall → Option Fail
next_listed plan call = if nat_lt (calls_of plan call) (2 ^ 32 - 1) then first_listing plan.fails call (calls_of plan call + 1) else None

-- the count of calls stays at its last value
abbrev pub one_more : ℕ → ℕ
one_more calls = if nat_lt calls (2 ^ 32 - 1) then calls + 1 else calls

-- one call more of this kind
abbrev pub counted : Plan → FailCall → Plan
counted plan Fetch = record plan { fetches = one_more plan.fetches }
counted plan Start = record plan { starts = one_more plan.starts }
counted plan Append = record plan { appends = one_more plan.appends }

-- whether the list has the number of the push after so many; past the last number none is listed
abbrev pub push_listed : List ℕ → ℕ → Bool
push_listed numbers before = nat_lt before (2 ^ 32 - 1) && list_any (λ number. nat_eq number (before + 1)) numbers
