-- Words give one command: it is read off them, a line for each.
use Rattle.std.proofs.Common.{◌≡◌, ℕ, Bool, true, false, List, [], ◌∷◌, Option, None, Some, if◌then◌else◌, refl, sym, ap, ◌∙◌, codes, bytes_eq, option_map}
use Rattle.vidi_commands.proofs.vidi_bits_lemmas.Lists.{some_same}
use Rattle.vidi_commands.specs.vidi_lines.Number.{number_of}
use Rattle.vidi_commands.specs.Command.{Command, Dump, Check, Run, Record, Replay, Compare, Salvage, Migrate, Bursts, Move, Wrap, Sample, IsGiven, side_word}
use Rattle.vidi_commands.specs.trace_commands.Moves.{Wanted}

-- this command, if its name is given, else others
abbrev named : List ℕ → List ℕ → Option Command → Option Command → Option Command
named word name it others = if bytes_eq word name then it else others

-- what is wanted of a completion, where its numbers are there
wished : List ℕ → Option ℕ → Bool → List ℕ → Option ℕ → Option Wanted
wished c (Some i) after d (Some j) = Some (record { channel = c; index = i; after = after; other = d; other_index = j })
wished c (Some i) after d None = None
wished c None after d j = None

-- what the words would give, whatever names of files they have
abbrev given : List (List ℕ) → Option Command
given (name ∷ a ∷ []) = named name (codes "dump") (Some (Dump a)) (named name (codes "sample") (option_map Sample (number_of a)) None)
given (name ∷ a ∷ b ∷ []) = named name (codes "check") (Some (Check a b)) (named name (codes "compare") (Some (Compare a b))
    (named name (codes "salvage") (Some (Salvage a b)) (named name (codes "migrate") (Some (Migrate a b)) (named name (codes "bursts") (Some (Bursts a b)) None))))
given (name ∷ a ∷ b ∷ c ∷ []) = named name (codes "run") (Some (Run a b c)) (named name (codes "wrap") (Some (Wrap a b c)) None)
given (name ∷ a ∷ b ∷ c ∷ d ∷ e ∷ []) = named name (codes "record") (Some (Record a b c d e))
    (named name (codes "replay") (option_map (λ (n : ℕ). Replay a b c n e) (number_of d)) None)
given (name ∷ t ∷ c ∷ i ∷ s ∷ d ∷ j ∷ o ∷ []) = named name (codes "move")
    (option_map (λ (w : Wanted). Move t w o) (wished c (number_of i) (bytes_eq s (codes "after")) d (number_of j))) None
given words = None

-- the word of a side tells it
side-after : (after : Bool) → bytes_eq (side_word after) (codes "after") ≡ after
side-after true = refl
side-after false = refl

is_given : (words : List (List ℕ)) (c : Command) → IsGiven words c → given words ≡ Some c
unfolding wished
is_given words (Dump t) g = ap given g
is_given words (Check d t) g = ap given g
is_given words (Run d m s) g = ap given g
is_given words (Record d m s p t) (g, _, _, _, _) = ap given g
is_given words (Replay d m t n o) (word, g, is, _, _, _) = ap given g ∙ ap (λ (k : Option ℕ). option_map (λ (n : ℕ). Replay d m t n o) k) is.0
is_given words (Compare t u) g = ap given g
is_given words (Salvage t o) (g, _) = ap given g
is_given words (Migrate t o) (g, _) = ap given g
is_given words (Bursts t u) g = ap given g
is_given words (Move t w o) (c, i, s, d, j, g, (own, is, side, other, js), _) =
    ap given g
    ∙ ap (λ (k : Option ℕ). option_map (λ (w : Wanted). Move t w o) (wished c k (bytes_eq s (codes "after")) d (number_of j))) is.0
    ∙ ap (λ (k : Option ℕ). option_map (λ (w : Wanted). Move t w o) (wished c (Some w.index) (bytes_eq s (codes "after")) d k)) js.0
    ∙ ap (λ (b : Bool). Some (Move t (record { channel = c; index = w.index; after = b; other = d; other_index = w.other_index }) o))
    (ap (λ (v : List ℕ). bytes_eq v (codes "after")) side ∙ side-after w.after)
    ∙ ap (λ (v : List ℕ). Some (Move t (record { channel = v; index = w.index; after = w.after; other = d; other_index = w.other_index }) o)) own
    ∙ ap (λ (v : List ℕ). Some (Move t (record { channel = w.channel; index = w.index; after = w.after; other = v; other_index = w.other_index }) o))
    other
is_given words (Wrap d m o) (g, _, _) = ap given g
is_given words (Sample n) (word, g, is) = ap given g ∙ ap (λ (k : Option ℕ). option_map Sample k) is.0

pub one_command : (words : List (List ℕ)) (c d : Command) → IsGiven words c → IsGiven words d → c ≡ d
one_command words c d g h = some_same c d (sym (is_given words c g) ∙ is_given words d h)
