use Rattle.std.proofs.Common.{ℕ, List, inl, inr, refl}
use Rattle.wrap_command.specs.vidi_io.Cause.{Rose}
use Rattle.wrap_command.specs.vidi_io.Shelf.{HasStarted}
use Rattle.wrap_command.specs.vidi_bench.AnswerText.{text_of}
use Rattle.vidi_commands.specs.Answer.{Stops}
use Rattle.vidi_commands.specs.Said.{memory_line}
use Rattle.wrap_command.specs.vidi_bench.vidi_answer.declared.status.Status.TheVariants.{Memory}
use Rattle.vidi_commands.proofs.Saying.{said, quietly}
use Rattle.vidi_commands.proofs.Starting.{answers-none, answers-once, stopped-once}
use Rattle.vidi_commands.proofs.top.vidi.Goals as goal

pub returns-in-Ok-clause-answers : goal.returns-in-Ok-clause-answers
returns-in-Ok-clause-answers g c =
    let S = g.S.Shelf in
    let O = g.O.Sink in
    let words = c.args.words.now in
    let files = S.files c.args.shelf.now in
    let left = S.files c.answer_to.new.shelf in
    let F = λ (name : List ℕ). Rose (S.read_faults c.args.shelf.now name) (S.read_faults c.answer_to.new.shelf name) in
    let P = HasStarted (S.starts c.args.shelf.now) (S.starts c.answer_to.new.shelf) in
    let W = Rose (S.write_faults c.args.shelf.now) (S.write_faults c.answer_to.new.shelf) in
    let V = Rose (O.faults c.args.out.now) (O.faults c.say.new.out) in
    let old = O.told c.args.out.now in
    let new = O.told c.say.new.out in
    said words files F P (Stops words files P) W V old new left c.in-Ok.answer.status (text_of c.in-Ok.answer.text) c.say.result c.in-Ok.ensures.owed
    c.say.ensures.said

pub returns-in-Ok-clause-complete : goal.returns-in-Ok-clause-complete
returns-in-Ok-clause-complete g c = λ reads writes pushes.
    let S = g.S.Shelf in
    let O = g.O.Sink in
    let words = c.args.words.now in
    let files = S.files c.args.shelf.now in
    let left = S.files c.answer_to.new.shelf in
    let F = λ (name : List ℕ). Rose (S.read_faults c.args.shelf.now name) (S.read_faults c.answer_to.new.shelf name) in
    let P = HasStarted (S.starts c.args.shelf.now) (S.starts c.answer_to.new.shelf) in
    let W = Rose (S.write_faults c.args.shelf.now) (S.write_faults c.answer_to.new.shelf) in
    let V = Rose (O.faults c.args.out.now) (O.faults c.say.new.out) in
    let old = O.told c.args.out.now in
    let new = O.told c.say.new.out in
    quietly words files F P (Stops words files P) W V old new left c.say.result reads writes pushes
    (returns-in-Ok-clause-answers g c)

pub returns-in-Ok-clause-starts : goal.returns-in-Ok-clause-starts
returns-in-Ok-clause-starts g c =
    let S = g.S.Shelf in
    let O = g.O.Sink in
    let words = c.args.words.now in
    let files = S.files c.args.shelf.now in
    let left = S.files c.answer_to.new.shelf in
    let F = λ (name : List ℕ). Rose (S.read_faults c.args.shelf.now name) (S.read_faults c.answer_to.new.shelf name) in
    let P = HasStarted (S.starts c.args.shelf.now) (S.starts c.answer_to.new.shelf) in
    let W = Rose (S.write_faults c.args.shelf.now) (S.write_faults c.answer_to.new.shelf) in
    let V = Rose (O.faults c.args.out.now) (O.faults c.say.new.out) in
    let old = O.told c.args.out.now in
    let new = O.told c.say.new.out in
    answers-once words files F P W V old new left c.say.result (returns-in-Ok-clause-answers g c)

pub returns-in-Ok-clause-unstarted : goal.returns-in-Ok-clause-unstarted
returns-in-Ok-clause-unstarted g c = λ is.
    let S = g.S.Shelf in
    let O = g.O.Sink in
    let words = c.args.words.now in
    let files = S.files c.args.shelf.now in
    let left = S.files c.answer_to.new.shelf in
    let F = λ (name : List ℕ). Rose (S.read_faults c.args.shelf.now name) (S.read_faults c.answer_to.new.shelf name) in
    let P = HasStarted (S.starts c.args.shelf.now) (S.starts c.answer_to.new.shelf) in
    let W = Rose (S.write_faults c.args.shelf.now) (S.write_faults c.answer_to.new.shelf) in
    let V = Rose (O.faults c.args.out.now) (O.faults c.say.new.out) in
    let old = O.told c.args.out.now in
    let new = O.told c.say.new.out in
    answers-none words files F P (Stops words files P) W V old new left c.say.result (returns-in-Ok-clause-answers g c) is

pub returns-in-Err-Refused-clause-answers : goal.returns-in-Err-Refused-clause-answers
returns-in-Err-Refused-clause-answers g c =
    let earned = rw c.in-Err-Refused.field-0-is at c.in-Err-Refused.ensures.owed in
    let S = g.S.Shelf in
    let O = g.O.Sink in
    let words = c.args.words.now in
    let files = S.files c.args.shelf.now in
    let left = S.files c.answer_to.new.shelf in
    let F = λ (name : List ℕ). Rose (S.read_faults c.args.shelf.now name) (S.read_faults c.answer_to.new.shelf name) in
    let P = HasStarted (S.starts c.args.shelf.now) (S.starts c.answer_to.new.shelf) in
    let W = Rose (S.write_faults c.args.shelf.now) (S.write_faults c.answer_to.new.shelf) in
    let V = Rose (O.faults c.args.out.now) (O.faults c.say-in-Err-Refused.new.out) in
    let old = O.told c.args.out.now in
    let new = O.told c.say-in-Err-Refused.new.out in
    said words files F P (Stops words files P) W V old new left c.in-Err-Refused.answer.status (text_of c.in-Err-Refused.answer.text) c.say-in-Err-Refused.result earned
    c.say-in-Err-Refused.ensures.said

pub returns-in-Err-Refused-clause-complete : goal.returns-in-Err-Refused-clause-complete
returns-in-Err-Refused-clause-complete g c = λ reads writes pushes.
    let S = g.S.Shelf in
    let O = g.O.Sink in
    let words = c.args.words.now in
    let files = S.files c.args.shelf.now in
    let left = S.files c.answer_to.new.shelf in
    let F = λ (name : List ℕ). Rose (S.read_faults c.args.shelf.now name) (S.read_faults c.answer_to.new.shelf name) in
    let P = HasStarted (S.starts c.args.shelf.now) (S.starts c.answer_to.new.shelf) in
    let W = Rose (S.write_faults c.args.shelf.now) (S.write_faults c.answer_to.new.shelf) in
    let V = Rose (O.faults c.args.out.now) (O.faults c.say-in-Err-Refused.new.out) in
    let old = O.told c.args.out.now in
    let new = O.told c.say-in-Err-Refused.new.out in
    quietly words files F P (Stops words files P) W V old new left c.say-in-Err-Refused.result reads writes pushes
    (returns-in-Err-Refused-clause-answers g c)

pub returns-in-Err-Refused-clause-starts : goal.returns-in-Err-Refused-clause-starts
returns-in-Err-Refused-clause-starts g c =
    let S = g.S.Shelf in
    let O = g.O.Sink in
    let words = c.args.words.now in
    let files = S.files c.args.shelf.now in
    let left = S.files c.answer_to.new.shelf in
    let F = λ (name : List ℕ). Rose (S.read_faults c.args.shelf.now name) (S.read_faults c.answer_to.new.shelf name) in
    let P = HasStarted (S.starts c.args.shelf.now) (S.starts c.answer_to.new.shelf) in
    let W = Rose (S.write_faults c.args.shelf.now) (S.write_faults c.answer_to.new.shelf) in
    let V = Rose (O.faults c.args.out.now) (O.faults c.say-in-Err-Refused.new.out) in
    let old = O.told c.args.out.now in
    let new = O.told c.say-in-Err-Refused.new.out in
    answers-once words files F P W V old new left c.say-in-Err-Refused.result (returns-in-Err-Refused-clause-answers g c)

pub returns-in-Err-Refused-clause-unstarted : goal.returns-in-Err-Refused-clause-unstarted
returns-in-Err-Refused-clause-unstarted g c = λ is.
    let S = g.S.Shelf in
    let O = g.O.Sink in
    let words = c.args.words.now in
    let files = S.files c.args.shelf.now in
    let left = S.files c.answer_to.new.shelf in
    let F = λ (name : List ℕ). Rose (S.read_faults c.args.shelf.now name) (S.read_faults c.answer_to.new.shelf name) in
    let P = HasStarted (S.starts c.args.shelf.now) (S.starts c.answer_to.new.shelf) in
    let W = Rose (S.write_faults c.args.shelf.now) (S.write_faults c.answer_to.new.shelf) in
    let V = Rose (O.faults c.args.out.now) (O.faults c.say-in-Err-Refused.new.out) in
    let old = O.told c.args.out.now in
    let new = O.told c.say-in-Err-Refused.new.out in
    answers-none words files F P (Stops words files P) W V old new left c.say-in-Err-Refused.result (returns-in-Err-Refused-clause-answers g c) is

pub returns-in-Err-Memory-clause-answers : goal.returns-in-Err-Memory-clause-answers
returns-in-Err-Memory-clause-answers g c =
    let kept = rw c.in-Err-Memory.field-0-is at c.in-Err-Memory.ensures.owed in
    let S = g.S.Shelf in
    let O = g.O.Sink in
    let words = c.args.words.now in
    let files = S.files c.args.shelf.now in
    let left = S.files c.answer_to.new.shelf in
    let F = λ (name : List ℕ). Rose (S.read_faults c.args.shelf.now name) (S.read_faults c.answer_to.new.shelf name) in
    let P = HasStarted (S.starts c.args.shelf.now) (S.starts c.answer_to.new.shelf) in
    let W = Rose (S.write_faults c.args.shelf.now) (S.write_faults c.answer_to.new.shelf) in
    let V = Rose (O.faults c.args.out.now) (O.faults c.say_memory.new.out) in
    let old = O.told c.args.out.now in
    let new = O.told c.say_memory.new.out in
    said words files F P (Stops words files P) W V old new left Memory memory_line c.say_memory.result (inr (inl ((refl, refl), kept)))
    c.say_memory.ensures.said

pub returns-in-Err-Memory-clause-complete : goal.returns-in-Err-Memory-clause-complete
returns-in-Err-Memory-clause-complete g c = λ reads writes pushes.
    let S = g.S.Shelf in
    let O = g.O.Sink in
    let words = c.args.words.now in
    let files = S.files c.args.shelf.now in
    let left = S.files c.answer_to.new.shelf in
    let F = λ (name : List ℕ). Rose (S.read_faults c.args.shelf.now name) (S.read_faults c.answer_to.new.shelf name) in
    let P = HasStarted (S.starts c.args.shelf.now) (S.starts c.answer_to.new.shelf) in
    let W = Rose (S.write_faults c.args.shelf.now) (S.write_faults c.answer_to.new.shelf) in
    let V = Rose (O.faults c.args.out.now) (O.faults c.say_memory.new.out) in
    let old = O.told c.args.out.now in
    let new = O.told c.say_memory.new.out in
    quietly words files F P (Stops words files P) W V old new left c.say_memory.result reads writes pushes
    (returns-in-Err-Memory-clause-answers g c)

pub returns-in-Err-Memory-clause-starts : goal.returns-in-Err-Memory-clause-starts
returns-in-Err-Memory-clause-starts g c =
    let S = g.S.Shelf in
    let O = g.O.Sink in
    let words = c.args.words.now in
    let files = S.files c.args.shelf.now in
    let left = S.files c.answer_to.new.shelf in
    let F = λ (name : List ℕ). Rose (S.read_faults c.args.shelf.now name) (S.read_faults c.answer_to.new.shelf name) in
    let P = HasStarted (S.starts c.args.shelf.now) (S.starts c.answer_to.new.shelf) in
    let W = Rose (S.write_faults c.args.shelf.now) (S.write_faults c.answer_to.new.shelf) in
    let V = Rose (O.faults c.args.out.now) (O.faults c.say_memory.new.out) in
    let old = O.told c.args.out.now in
    let new = O.told c.say_memory.new.out in
    answers-once words files F P W V old new left c.say_memory.result (returns-in-Err-Memory-clause-answers g c)

pub returns-in-Err-Memory-clause-unstarted : goal.returns-in-Err-Memory-clause-unstarted
returns-in-Err-Memory-clause-unstarted g c = λ is.
    let S = g.S.Shelf in
    let O = g.O.Sink in
    let words = c.args.words.now in
    let files = S.files c.args.shelf.now in
    let left = S.files c.answer_to.new.shelf in
    let F = λ (name : List ℕ). Rose (S.read_faults c.args.shelf.now name) (S.read_faults c.answer_to.new.shelf name) in
    let P = HasStarted (S.starts c.args.shelf.now) (S.starts c.answer_to.new.shelf) in
    let W = Rose (S.write_faults c.args.shelf.now) (S.write_faults c.answer_to.new.shelf) in
    let V = Rose (O.faults c.args.out.now) (O.faults c.say_memory.new.out) in
    let old = O.told c.args.out.now in
    let new = O.told c.say_memory.new.out in
    answers-none words files F P (Stops words files P) W V old new left c.say_memory.result (returns-in-Err-Memory-clause-answers g c) is

pub returns-in-Err-WriteFault-clause-starts : goal.returns-in-Err-WriteFault-clause-starts
returns-in-Err-WriteFault-clause-starts g c =
    let S = g.S.Shelf in
    let stopped = rw c.in-Err-WriteFault.field-0-is at c.in-Err-WriteFault.ensures.owed in
    stopped-once c.args.words.now (S.files c.args.shelf.now) (HasStarted (S.starts c.args.shelf.now) (S.starts c.answer_to.new.shelf))
    (S.files c.answer_to.new.shelf) stopped.1
