-- The lines of findings (this project's profile). Every line ends with a newline, and numbers are decimal.
use Rattle.std.specs.Prelude.{ℕ, ◌==◌, ◌||◌, List, [], ◌∷◌, ◌++◌, Option, Some, None, slice_get, codes, decimal, if◌then◌else◌}
use Rattle.run_model.specs.trace_model.declared.channel.Channel.{Channel}
use Rattle.trace_compare.specs.declared.report.Finding.{Finding}
use Rattle.trace_compare.specs.declared.report.What.{What}
use Rattle.trace_compare.specs.declared.report.What.TheVariants.{Differs, MissingStart, ExtraStart, MissingEnd, ExtraEnd}
use Rattle.trace_compare.specs.declared.report.What.TheVariants.{EarlyStart, EarlyEnd, MissingReset, ExtraReset}
use Rattle.report_text.specs.Text.{newline}

abbrev pub verb : What → List ℕ
verb Differs = codes "differs "
verb MissingStart = codes "missing "
verb MissingEnd = codes "missing "
verb ExtraStart = codes "extra "
verb ExtraEnd = codes "extra "
verb EarlyStart = codes "early "
verb EarlyEnd = codes "early "
verb MissingReset = codes "missing "
verb ExtraReset = codes "extra "

abbrev pub event : What → List ℕ
event Differs = codes " start "
event MissingStart = codes " start "
event MissingEnd = codes " end "
event ExtraStart = codes " start "
event ExtraEnd = codes " end "
event EarlyStart = codes " start "
event EarlyEnd = codes " end "
event MissingReset = codes "reset "
event ExtraReset = codes "reset "

-- ` count N`, of early events
abbrev pub count_text : What → ℕ → List ℕ
count_text EarlyStart n = codes " count " ++ decimal n
count_text EarlyEnd n = codes " count " ++ decimal n
count_text Differs n = []
count_text MissingStart n = []
count_text MissingEnd n = []
count_text ExtraStart n = []
count_text ExtraEnd n = []
count_text MissingReset n = []
count_text ExtraReset n = []

abbrev pub its_name : Option Channel → List ℕ
its_name (Some channel) = channel.name
its_name None = []

abbrev pub name_of : List Channel → ℕ → List ℕ
name_of channels c = its_name (slice_get channels c)

-- the channel that a finding is on, which a reset hasn't
abbrev pub subject : List Channel → ℕ → What → List ℕ
subject channels c Differs = name_of channels c
subject channels c MissingStart = name_of channels c
subject channels c MissingEnd = name_of channels c
subject channels c ExtraStart = name_of channels c
subject channels c ExtraEnd = name_of channels c
subject channels c EarlyStart = name_of channels c
subject channels c EarlyEnd = name_of channels c
subject channels c MissingReset = []
subject channels c ExtraReset = []

-- `differs CH start J`, `missing CH end J`, `early CH start J count N`, `missing reset J` and the like
abbrev pub finding_line : List Channel → Finding → List ℕ
finding_line channels f = verb f.what ++ (subject channels f.channel f.what ++ (event f.what ++ (decimal f.index
    ++ (count_text f.what f.count ++ newline))))

-- `epoch E`, before what is of an epoch E above 0 where the line before isn't
abbrev pub epoch_line : ℕ → ℕ → List ℕ
epoch_line before e = if e == 0 || e == before then [] else codes "epoch " ++ (decimal e ++ newline)

-- the lines of findings behind one of this epoch
abbrev pub lines_behind : List Channel → ℕ → List Finding → List ℕ
lines_behind channels before [] = []
lines_behind channels before (f ∷ report) = (epoch_line before f.epoch ++ finding_line channels f) ++ lines_behind channels f.epoch report

-- a line for each finding, in order, and before the first one of an epoch above 0 that epoch
abbrev pub report_lines : List Finding → List Channel → List ℕ
report_lines report channels = lines_behind channels 0 report
