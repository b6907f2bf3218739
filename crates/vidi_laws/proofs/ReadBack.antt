-- What is read of a wrapped design is the tree that was printed.
use Rattle.std.proofs.Common.{◌≡◌, ℕ, List, sym, subst, ◌∙◌}
use Rattle.vidi_commands.specs.vlog_lex.declared.token.Token.{Token}
use Rattle.vidi_commands.specs.vlog_lex.Reading.{OneReading}
use Rattle.vlog_tree.specs.Tree.{FileOf}
use Rattle.vlog_tree.specs.Lines.{bare}
use Rattle.vidi_commands.specs.vlog_parse.Parsing.{IsFileOf, LinedFilesAreFiles, OneFile}
use Rattle.vidi_commands.specs.shim_trees.Wrapped.{wrapped}
use Rattle.vidi_commands.specs.vidi_bench.Design.{Spells}
use Rattle.vidi_commands.specs.wrap_command.Shims.{file_text, IsReadAs}
use Rattle.vidi_laws.specs.Headline.{WrappedIsReadBack}

same-tree : OneReading → OneFile → LinedFilesAreFiles → (text : List ℕ) (w g : FileOf ℕ) → IsReadAs text w → Spells text g
    → bare g ≡ bare w
same-tree reading file plain text w g (others, has, shallow, printed) (tokens, has', (low, lined)) =
    let one = reading text others tokens has has' in
    let theirs : IsFileOf tokens (bare w) = subst (λ (ts : List Token). IsFileOf ts (bare w)) one printed in
    let own : IsFileOf tokens (bare g) = plain tokens g lined in
    file (bare g) (bare w) own.0 theirs.0 (own.1 ∙ sym theirs.1)

pub read-back : OneReading → OneFile → LinedFilesAreFiles → WrappedIsReadBack
read-back reading file plain design map files f m is g spelled =
    same-tree reading file plain (file_text (wrapped f m)) (wrapped f m) g is.wrapping.wrapped.reads spelled
