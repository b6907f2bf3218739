use Rattle.std.proofs.Common.{◌<◌, length, ◌∙◌, arith}
use Rattle.vlog_lex.proofs.Lookup.{reserved_of, reserved_below, reserved_above}
use Rattle.vlog_lex.proofs.words.is_reserved.Goals as goal

pub returns-in-2 : goal.returns-in-2
returns-in-2 c = c.is_one_of.ensures ∙ reserved_of 2 c.args.text.now c.in-2.is

pub returns-in-3 : goal.returns-in-3
returns-in-3 c = c.is_one_of-in-3.ensures ∙ reserved_of 3 c.args.text.now c.in-3.is

pub returns-in-4 : goal.returns-in-4
returns-in-4 c = c.is_one_of-in-4.ensures ∙ reserved_of 4 c.args.text.now c.in-4.is

pub returns-in-5 : goal.returns-in-5
returns-in-5 c = c.is_one_of-in-5.ensures ∙ reserved_of 5 c.args.text.now c.in-5.is

pub returns-in-6 : goal.returns-in-6
returns-in-6 c = c.is_one_of-in-6.ensures ∙ reserved_of 6 c.args.text.now c.in-6.is

pub returns-in-7 : goal.returns-in-7
returns-in-7 c = c.is_one_of-in-7.ensures ∙ reserved_of 7 c.args.text.now c.in-7.is

pub returns-in-8 : goal.returns-in-8
returns-in-8 c = c.is_one_of-in-8.ensures ∙ reserved_of 8 c.args.text.now c.in-8.is

pub returns-in-9 : goal.returns-in-9
returns-in-9 c = c.is_one_of-in-9.ensures ∙ reserved_of 9 c.args.text.now c.in-9.is

pub returns-in-10 : goal.returns-in-10
returns-in-10 c = c.is_one_of-in-10.ensures ∙ reserved_of 10 c.args.text.now c.in-10.is

pub returns-in-0-to-1 : goal.returns-in-0-to-1
returns-in-0-to-1 c = let short : length c.args.text.now < 2 = omega arith in reserved_below 2 c.args.text.now short

pub returns-in_default : goal.returns-in_default
returns-in_default c = let long : 10 < length c.args.text.now = omega arith in c.is_one_of-in_default.ensures
    ∙ reserved_above 10 c.args.text.now long
