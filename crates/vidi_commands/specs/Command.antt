-- The commands, and the words that give them (this project's profile).
use Rattle.std.specs.Prelude.{◌≡◌, ◌≢◌, ℕ, ◌<◌, ◌≤◌, ◌^◌, Bool, if◌then◌else◌, List, [], ◌∷◌, Some, codes}
use Rattle.wrap_command.specs.vidi_lines.Number.{number_of}
use Rattle.sample_command.specs.sample_gen.declared.generate.TheConstants.{LARGEST}
use Rattle.wrap_command.specs.trace_model.declared.packet.TheConstants.{MOST_CYCLES}
use Rattle.trace_commands.specs.Moves.{wanted, Wanted}
use Rattle.vidi_commands.specs.declared.command.Command as declared
use Rattle.vidi_commands.specs.declared.command.Command.TheVariants as variants

pub data Command : Type 0 where
  Dump : (trace : List ℕ) → Command
  Check : (design top : List ℕ) → Command
  Run : (design map script : List ℕ) → Command
  Record : (design map script stalls trace : List ℕ) → Command
  Replay : (design map trace : List ℕ) (cycles : ℕ) (out : List ℕ) → Command
  Compare : (trace other : List ℕ) → Command
  Salvage : (trace out : List ℕ) → Command
  Migrate : (trace out : List ℕ) → Command
  Bursts : (trace axi : List ℕ) → Command
  Move : (trace : List ℕ) (wish : Wanted) (out : List ℕ) → Command
  Wrap : (design map out : List ℕ) → Command
  Sample : (number : ℕ) → Command

-- the word writes this number of cycles, which a command can play
abbrev pub IsCycles : List ℕ → ℕ → Type 0
IsCycles word cycles = (number_of word ≡ Some cycles) × (1 ≤ cycles) × (cycles ≤ MOST_CYCLES)

-- the word writes this number, of which there is a sample
abbrev pub IsSampleNumber : List ℕ → ℕ → Type 0
IsSampleNumber word number = (number_of word ≡ Some number) × (number ≤ LARGEST)

-- the word writes this number of a completion
abbrev pub IsIndex : List ℕ → ℕ → Type 0
IsIndex word index = (number_of word ≡ Some index) × (index < 2 ^ 32)

-- the word of a side
abbrev pub side_word : Bool → List ℕ
side_word after = if after then codes "after" else codes "before"

-- the words `CH J before CH K`, or `CH J after CH K`, say this
abbrev pub IsWanted : List ℕ → List ℕ → List ℕ → List ℕ → List ℕ → Wanted → Type 0
IsWanted channel first side other second wish = (channel ≡ wish.channel) × IsIndex first wish.index × (side ≡ side_word wish.after)
    × (other ≡ wish.other) × IsIndex second wish.other_index

-- the words are exactly the command's name and its parts; a file that is written isn't one that is read
abbrev pub IsGiven : List (List ℕ) → Command → Type 0
IsGiven words (Dump trace) = words ≡ codes "dump" ∷ trace ∷ []
IsGiven words (Check design top) = words ≡ codes "check" ∷ design ∷ top ∷ []
IsGiven words (Run design map script) = words ≡ codes "run" ∷ design ∷ map ∷ script ∷ []
IsGiven words (Record design map script stalls trace) =
    (words ≡ codes "record" ∷ design ∷ map ∷ script ∷ stalls ∷ trace ∷ [])
    × (design ≢ trace) × (map ≢ trace) × (script ≢ trace) × (stalls ≢ trace)
IsGiven words (Replay design map trace cycles out) =
    (word : List ℕ) × (words ≡ codes "replay" ∷ design ∷ map ∷ trace ∷ word ∷ out ∷ []) × IsCycles word cycles
    × (design ≢ out) × (map ≢ out) × (trace ≢ out)
IsGiven words (Compare trace other) = words ≡ codes "compare" ∷ trace ∷ other ∷ []
IsGiven words (Salvage trace out) = (words ≡ codes "salvage" ∷ trace ∷ out ∷ []) × (trace ≢ out)
IsGiven words (Migrate trace out) = (words ≡ codes "migrate" ∷ trace ∷ out ∷ []) × (trace ≢ out)
IsGiven words (Bursts trace axi) = words ≡ codes "bursts" ∷ trace ∷ axi ∷ []
IsGiven words (Move trace wish out) =
    (channel : List ℕ) × (first : List ℕ) × (side : List ℕ) × (other : List ℕ) × (second : List ℕ)
    × (words ≡ codes "move" ∷ trace ∷ channel ∷ first ∷ side ∷ other ∷ second ∷ out ∷ [])
    × IsWanted channel first side other second wish × (trace ≢ out)
IsGiven words (Wrap design map out) = (words ≡ codes "wrap" ∷ design ∷ map ∷ out ∷ []) × (design ≢ out) × (map ≢ out)
IsGiven words (Sample number) = (word : List ℕ) × (words ≡ codes "sample" ∷ word ∷ []) × IsSampleNumber word number

-- a command of the code, whose parts are borrowed
abbrev pub plain : declared.Command → Command
plain (variants.Dump trace) = Dump trace.now
plain (variants.Check design top) = Check design.now top.now
plain (variants.Run design map script) = Run design.now map.now script.now
plain (variants.Record design map script stalls trace) = Record design.now map.now script.now stalls.now trace.now
plain (variants.Replay design map trace cycles out) = Replay design.now map.now trace.now cycles out.now
plain (variants.Compare trace other) = Compare trace.now other.now
plain (variants.Salvage trace out) = Salvage trace.now out.now
plain (variants.Migrate trace out) = Migrate trace.now out.now
plain (variants.Bursts trace axi) = Bursts trace.now axi.now
plain (variants.Move trace wish out) = Move trace.now (wanted wish) out.now
plain (variants.Wrap design map out) = Wrap design.now map.now out.now
plain (variants.Sample number) = Sample number
