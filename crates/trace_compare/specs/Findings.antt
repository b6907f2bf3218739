-- *Findings*: what a second trace lacks, has beyond, or does earlier than a first one over the same channels (this project's profile).
use Rattle.std.specs.Prelude.{ℕ, ◌+◌, Bool, not, min, List, [], ◌∷◌, ◌++◌, length, map, nat_eq, nat_lt, if◌then◌else◌, count_by}
use Rattle.std.specs.List.{flat_map, filter, zip, list_any, enumerate_from, range_with_len, position_or_len}
use lib.Pointwise.{pointwise}
use Rattle.vec_clock.specs.trace_model.declared.channel.Channel.{Channel}
use Rattle.vec_clock.specs.trace_model.declared.event.Kind.{Kind}
use Rattle.vec_clock.specs.trace_model.declared.event.Kind.TheVariants.{Start, End, Reset}
use Rattle.vec_clock.specs.trace_model.declared.packet.Packet.{Packet}
use Rattle.vec_clock.specs.trace_model.declared.trace.Trace.{Trace}
use Rattle.vec_clock.specs.trace_model.Clock.{clock}
use Rattle.vec_clock.specs.trace_model.Epoch.{epoch, resets}
use Rattle.vec_clock.specs.trace_model.Packet.{does, count, content_of}
use Rattle.trace_compare.specs.declared.report.Finding.{Finding}
use Rattle.trace_compare.specs.declared.report.What.{What}
use Rattle.trace_compare.specs.declared.report.What.TheVariants.{Differs, MissingStart, ExtraStart, MissingEnd, ExtraEnd}
use Rattle.trace_compare.specs.declared.report.What.TheVariants.{EarlyStart, EarlyEnd, MissingReset, ExtraReset}

-- the finding on channel c in epoch e
abbrev pub finding_of : ℕ → ℕ → What → ℕ → ℕ → Finding
finding_of e c what index n = record { channel = c; what = what; index = index; count = n; epoch = e }

-- where it is one
abbrev pub found : Bool → ℕ → ℕ → What → ℕ → ℕ → List Finding
found is_one e c what index n = if is_one then finding_of e c what index n ∷ [] else []

-- ---- what only one has
abbrev pub missing : Kind → What
missing Start = MissingStart
missing End = MissingEnd
missing Reset = MissingReset

abbrev pub extra : Kind → What
extra Start = ExtraStart
extra End = ExtraEnd
extra Reset = ExtraReset

-- the first start, or end, of channel c that only a, or only b, has in epoch e; or the first reset
abbrev pub only_one : ℕ → Kind → ℕ → List Packet → List Packet → List Finding
only_one e kind c a b = found (nat_lt (count kind c b) (count kind c a)) e c (missing kind) (count kind c b) 1
    ++ found (nat_lt (count kind c a) (count kind c b)) e c (extra kind) (count kind c a) 1

-- ---- what both have
-- the packets that have a start, or an end, of channel c, in order, each with its place, where the first one has place p
abbrev pub events_from : Kind → ℕ → ℕ → List Packet → List (ℕ × Packet)
events_from kind c p packets = filter (λ (x : ℕ × Packet). does kind c x.1) (enumerate_from p packets)

-- event 0 of a beside event 0 of b, event 1 beside event 1, and so on, as long as both have one
abbrev pub in_both : Kind → ℕ → List Packet → List Packet → List ((ℕ × Packet) × (ℕ × Packet))
in_both kind c a b = zip (events_from kind c 0 a) (events_from kind c 0 b)

-- the marked events, and the place of the first of them
abbrev pub marked : List Bool → ℕ
marked marks = count_by (λ m. m) marks

abbrev pub first_marked : List Bool → ℕ
first_marked marks = position_or_len (λ m. m) marks

-- whether the contents of a start of channel c in both are unequal
abbrev pub differs : List Channel → ℕ → (ℕ × Packet) × (ℕ × Packet) → Bool
differs channels c x = not (pointwise nat_eq (content_of channels x.0.1 c) (content_of channels x.1.1 c))

abbrev pub differing : List Channel → ℕ → List Packet → List Packet → List Bool
differing channels c a b = map (differs channels c) (in_both Start c a b)

-- the first start in both whose contents are unequal
abbrev pub different : ℕ → List Channel → ℕ → List Packet → List Packet → List Finding
different e channels c a b = found (nat_lt 0 (marked (differing channels c a b))) e c Differs (first_marked (differing channels c a b)) 1

-- whether the clock in b of an event in both is below its clock in a in some of n channels
abbrev pub is_early : ℕ → List Packet → List Packet → (ℕ × Packet) × (ℕ × Packet) → Bool
is_early n a b x = list_any (λ d. nat_lt (clock b x.1.0 d) (clock a x.0.0 d)) (range_with_len 0 n)

abbrev pub early_marks : ℕ → Kind → ℕ → List Packet → List Packet → List Bool
early_marks n kind c a b = map (is_early n a b) (in_both kind c a b)

abbrev pub early : Kind → What
early Start = EarlyStart
early End = EarlyEnd
early Reset = EarlyStart  -- never asked: no reset is early

-- the first such start, or end, with the number of them
abbrev pub early_ones : ℕ → ℕ → Kind → ℕ → List Packet → List Packet → List Finding
early_ones e n kind c a b = found (nat_lt 0 (marked (early_marks n kind c a b))) e c (early kind) (first_marked (early_marks n kind c a b))
    (marked (early_marks n kind c a b))

-- ---- all of them
-- on channel c, where a and b have the packets of epoch e
abbrev pub findings_on : ℕ → List Channel → List Packet → List Packet → ℕ → List Finding
findings_on e channels a b c = different e channels c a b
    ++ (only_one e Start c a b ++ (only_one e End c a b
    ++ (early_ones e (length channels) Start c a b ++ early_ones e (length channels) End c a b)))

-- those of epoch e, channel by channel
abbrev pub findings_in : List Channel → List Packet → List Packet → ℕ → List Finding
findings_in channels a b e = flat_map (findings_on e channels (epoch e a) (epoch e b)) (range_with_len 0 (length channels))

-- how many epochs both have
abbrev pub epochs_in_both : List Packet → List Packet → ℕ
epochs_in_both a b = min (resets a) (resets b) + 1

-- the findings of a trace a and a trace b over the same channels: those of each epoch that both have, in order, and then the first reset
-- that only one has; gaps aren't compared
abbrev pub findings : Trace → Trace → List Finding
findings a b = flat_map (findings_in a.channels a.packets b.packets) (range_with_len 0 (epochs_in_both a.packets b.packets))
    ++ only_one 0 Reset 0 a.packets b.packets
