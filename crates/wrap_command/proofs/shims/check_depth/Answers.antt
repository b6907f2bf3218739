use Rattle.vlog_tree.specs.Plain.{plain}
use Rattle.vlog_tree.specs.Spelling.{toks}
use Rattle.vlog_print.specs.vlog_parse.Parsing.{Refuses}
use Rattle.vlog_print.specs.vlog_parse.declared.error.ParseError.TheVariants.{Item}
use Rattle.wrap_command.proofs.Spelled.{never_item}
use Rattle.wrap_command.proofs.shims.check_depth.Goals as goal

pub unreachable-requires : goal.unreachable-requires
unreachable-requires c =
    let tree = plain c.args.tree.now in
    let line = c.in-Err-Item.field-0-0 in
    let refused : Refuses (toks tree) (Item line) =
    rw c.in-Err-Item.field-0-is at (rw c.in_ok-tokens.ensures at c.in-Err-Item.ensures.refused) in
    never_item c.printed_is_spelled.ensures c.printed_is_read.ensures tree line c.requires refused
