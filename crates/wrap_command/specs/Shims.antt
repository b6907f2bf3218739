-- Why a file and the map of its design can't be wrapped: a name that is kept for shims, a reason that holds of the wrapped tree, or its
-- length (this project's profile).
use Rattle.std.specs.Prelude.{◌≡◌, ℕ, ◌≤◌, ◌<◌, ◌⊎◌, List, [], Some, length}
use Rattle.vlog_print.specs.vidi_bits.Findings.{first}
use Rattle.vlog_print.specs.vlog_lex.declared.token.Token.{Token}
use Rattle.vlog_print.specs.vlog_lex.Reading.{HasTokens}
use Rattle.vlog_tree.specs.Tree.{FileOf}
use Rattle.vlog_tree.specs.Lines.{bare}
use Rattle.vlog_tree.specs.Spelling.{toks}
use Rattle.vlog_print.specs.vlog_parse.Marks.{all_marked}
use Rattle.vlog_print.specs.vlog_parse.Depth.{IsDeep, IsShallow}
use Rattle.vlog_print.specs.vlog_parse.Parsing.{IsFileOf}
use Rattle.vlog_print.specs.Printed.{printed}
use Rattle.vidi_bench.specs.vlog_elab.declared.error.ElabError.{ElabError}
use Rattle.vidi_bench.specs.vlog_elab.Errors.{number_of}
use Rattle.vidi_bench.specs.vlog_design.Reasons.{Refused}
use Rattle.net_design.specs.declared.design.Design.{Design}
use Rattle.vidi_bench.specs.net_order.Order.{IsOrder, IsLoop}
use Rattle.shim_gen.specs.chan_map.declared.pins.Map.{Map}
use Rattle.shim_gen.specs.shim_trees.RecordTop.{record_name}
use Rattle.shim_gen.specs.shim_trees.ReplayTop.{replay_name}
use Rattle.shim_gen.specs.shim_trees.Wrapped.{reserved_names, wrapped}
use Rattle.vidi_bench.specs.report_text.declared.reason.Word.TheVariants as words
use Rattle.vidi_bench.specs.report_text.declared.reason.Reason.TheVariants as reasons
use Rattle.vidi_bench.specs.Design.{text_limit, IsAccepted}
use Rattle.vidi_bench.specs.Steps.{Ending, IsRefusal}

-- ---- a name that is kept

-- the first module whose name is kept for shims
abbrev pub IsReserved : FileOf ℕ → Ending
IsReserved f status said = (name : List ℕ) × (first (reserved_names f) ≡ Some name) × IsRefusal words.Design (reasons.Reserved name) status said

-- ---- the reasons that hold of a wrapped tree

-- the reason of this number holds
abbrev pub IsFaulty : ℕ → Ending
IsFaulty number = IsRefusal words.Design (reasons.Wrapped number)

-- E14: a limit is passed at one of the tree's tokens
abbrev pub IsDeepTree : FileOf ℕ → Ending
IsDeepTree w status said = (line : ℕ) × IsDeep (all_marked (toks w)) line × IsFaulty 14 status said

-- the number of the reason is answered
abbrev pub IsFaultyAs : ElabError → Ending
IsFaultyAs error status said = (number : ℕ) × (number_of error ≡ Some number) × IsFaulty number status said

-- this is the first of these reasons that holds of the tree with this top
abbrev pub IsRefusedTop : List ℕ → FileOf ℕ → Ending
IsRefusedTop top w status said = (error : ElabError) × Refused w top error × IsFaultyAs error status said

-- E10
abbrev pub IsLoopedTop : Design → Ending
IsLoopedTop d status said = (loop : List ℕ) × IsLoop d loop × IsFaulty 10 status said

-- the first reason that holds of the tree with this top
abbrev pub IsFaultyTop : List ℕ → FileOf ℕ → Ending
IsFaultyTop top w status said = IsRefusedTop top w status said ⊎ ((d : Design) × IsAccepted top w d × IsLoopedTop d status said)

-- no reason holds of the tree with this top
abbrev pub IsClearTop : List ℕ → FileOf ℕ → Type 0
IsClearTop top w = (d : Design) × IsAccepted top w d × ((order : List ℕ) × IsOrder d order)

-- the first reason that holds of the tree's tokens, with the top that records, else with the one that replays
abbrev pub IsFaultyTree : FileOf ℕ → Ending
IsFaultyTree w status said = IsDeepTree w status said
    ⊎ (IsShallow (all_marked (toks w)) × (IsFaultyTop record_name w status said
    ⊎ (IsClearTop record_name w × IsFaultyTop replay_name w status said)))

-- no reason holds of the tree's tokens with either top
pub record IsClearTree (w : FileOf ℕ) : Type 0 where
  pub shallow : IsShallow (all_marked (toks w))
  pub recording : IsClearTop record_name w
  pub replaying : IsClearTop replay_name w

-- ---- its text

abbrev pub file_text : FileOf ℕ → List ℕ
file_text w = printed (toks w)

abbrev pub IsLong : FileOf ℕ → Ending
IsLong w status said = (text_limit < length (file_text w)) × IsRefusal words.Design reasons.WrapLong status said

-- the text's tokens pass no limit, and this tree is their file; lines don't count
abbrev pub IsReadAs : List ℕ → FileOf ℕ → Type 0
IsReadAs text w = (tokens : List Token) × HasTokens text tokens × IsShallow (all_marked tokens) × IsFileOf tokens (bare w)

-- ---- a file and the map of its design

-- the first reason for which they aren't wrapped
abbrev pub IsUnwrapped : FileOf ℕ → Map → Ending
IsUnwrapped f m status said = IsReserved f status said
    ⊎ ((reserved_names f ≡ []) × (IsFaultyTree (wrapped f m) status said
    ⊎ (IsClearTree (wrapped f m) × IsLong (wrapped f m) status said)))

-- no such reason holds, and what is read of the wrapped tree's text is this tree
pub record IsWrapped (f : FileOf ℕ) (m : Map) : Type 0 where
  pub names : reserved_names f ≡ []
  pub clear : IsClearTree (wrapped f m)
  pub fits : length (file_text (wrapped f m)) ≤ text_limit
  pub reads : IsReadAs (file_text (wrapped f m)) (wrapped f m)
