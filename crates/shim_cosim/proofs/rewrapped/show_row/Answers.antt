use Rattle.std.proofs.Common.{◌<◌, ◌^◌, List, ap, length, subst, sym}
use Rattle.replay_run.specs.trace_model.declared.channel.Channel.{Channel}
use Rattle.replay_run.specs.trace_model.declared.row.Row.{Row}
use Rattle.replay_run.proofs.run_model_lemmas.Contents.{mask-below}
use Rattle.shim_cosim.specs.declared.shown_row.Signal.TheVariants.{Valid}
use Rattle.shim_cosim.specs.Rewrapped.{is_raised}
use Rattle.shim_cosim.proofs.ShownRow.{flight_is}
use Rattle.shim_cosim.proofs.rewrapped.show_row.Goals as goal

pub returns-clause-next : goal.returns-clause-next
returns-clause-next g c =
    flight_is (length c.args.map.now.channels) c.fill_row.new.row c.without.result
    (subst (λ (channels : List Channel). c.fill_row.new.row.valids < 2 ^ length channels) c.as_slice.ensures
    (subst (λ m. m < 2 ^ length c.as_slice.result.now) (sym (ap (λ (row : Row). row.valids) c.fill_row.ensures))
    (mask-below (is_raised c.as_slice.result.now c.read_outputs.new.numbers Valid) (length c.as_slice.result.now))))
    c.without.ensures
