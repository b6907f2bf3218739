use Rattle.std.proofs.Common.{sym, ◌∙◌}
use Rattle.vidi_lines.proofs.Parts.{word_read, words_read, is_none}
use Rattle.vidi_lines.proofs.lines.words_between.Goals as goal

pub loop-rest-preserved : goal.loop-rest-preserved
loop-rest-preserved c = rw c.behind-rest.ensures
    (word_read c.args.text.now c.loop-rest.rest.now c.loop-rest.words c.push_word.new.words c.word_len-len.result c.loop-rest.invariant
    c.word_len-len.ensures.value c.in_ok-push_word.ensures)

pub returns : goal.returns
returns c = words_read c.args.text.now c.loop-rest.rest.now c.loop-rest.words c.loop-rest.invariant
    (is_none c.loop-rest.rest.now (sym c.is_empty.ensures ∙ c.loop-rest-test.false))
