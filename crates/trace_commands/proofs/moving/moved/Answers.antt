use Rattle.std.proofs.Common.{◌≡◌, Bool, List, Result, inr, ap, subst, ◌∙◌}
use Rattle.vidi_answer.specs.trace_code.trace_model.declared.channel.Channel.{Channel}
use Rattle.vidi_answer.specs.trace_code.trace_model.declared.event.Event.{Event}
use Rattle.vidi_answer.specs.trace_code.trace_model.declared.trace.Trace.{Trace}
use Rattle.vidi_answer.specs.report_text.declared.reason.Word.TheVariants as words
use Rattle.vidi_answer.specs.Steps.{IsRefusalFor}
use Rattle.vidi_answer.proofs.Chain.{ends-as}
use Rattle.trace_edit.specs.declared.error.EditError.{EditError}
use Rattle.trace_edit.specs.Moved.{Moves}
use Rattle.trace_commands.specs.Moves.{end_named, reason_of, wanted, IsUnmovedIn}
use Rattle.trace_commands.proofs.MovedTraces.{moved-encodes}
use Rattle.trace_commands.proofs.moving.moved.Goals as goal

-- what is answered of two completions is answered of those that these are
answered-of : (t : Trace) (end other named named' : Event) (after : Bool) (r : Result Trace EditError) → end ≡ named → other ≡ named'
    → Moves t end other after r → Moves t named named' after r
answered-of t end other named named' after r is is' moves =
    subst (λ (e : Event). Moves t named e after r) is' (subst (λ (e : Event). Moves t e other after r) is moves)

pub encoded-requires : goal.encoded-requires
encoded-requires c = moved-encodes c.end_named-end.result c.end_named-other.result c.args.wish.after c.in_ok-t.t c.in-Ok.new c.args.file.now
    c.in_ok-t.ensures.decoded c.requires c.in-Ok.ensures.completion

pub returns-in-Ok-clause-moved : goal.returns-in-Ok-clause-moved
returns-in-Ok-clause-moved c =
    let t = c.in_ok-t.t in
    let w = wanted c.args.wish in
    let end = c.end_named-end.ensures ∙ ap (λ (cs : List Channel). end_named cs w.channel w.index) c.as_slice.ensures in
    let other = c.end_named-other.ensures ∙ ap (λ (cs : List Channel). end_named cs w.other w.other_index) c.as_slice-2.ensures in
    let moves = answered-of t c.end_named-end.result c.end_named-other.result (end_named t.channels w.channel w.index)
    (end_named t.channels w.other w.other_index) w.after c.move_end.result end other c.move_end.ensures.moves in
    (c.in-Ok.new, (t, c.in_ok-t.ensures.decoded, rw c.in-Ok.is at moves), c.in_ok-encoded-in-Ok.ensures)

pub returns-clause-refused : goal.returns-clause-refused
returns-clause-refused c =
    let t = c.in_ok-t.t in
    let w = wanted c.args.wish in
    let end = c.end_named-end.ensures ∙ ap (λ (cs : List Channel). end_named cs w.channel w.index) c.as_slice.ensures in
    let other = c.end_named-other.ensures ∙ ap (λ (cs : List Channel). end_named cs w.other w.other_index) c.as_slice-2.ensures in
    let moves = answered-of t c.end_named-end.result c.end_named-other.result (end_named t.channels w.channel w.index)
    (end_named t.channels w.other w.other_index) w.after c.move_end.result end other c.move_end.ensures.moves in
    ends-as (IsRefusalFor words.Trace (reason_of c.in-Err.error)) (IsUnmovedIn w c.args.file.now) c.refusal.result
    (λ a x is. inr (t, c.in_ok-t.ensures.decoded, (c.in-Err.error, rw c.in-Err.is at moves, is))) c.refusal.ensures
