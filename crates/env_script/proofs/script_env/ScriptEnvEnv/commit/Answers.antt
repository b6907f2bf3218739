use Rattle.std.proofs.Common.{◌≡◌, ◌++◌, ap, ◌∙◌, subst, arith, length, take, drop}
use Rattle.env_script.specs.Fits.{steps_of}
use Rattle.env_script.specs.Places.{AllReadWithin}
use Rattle.env_script.proofs.Moves.{refilled, committed}
use Rattle.env_script.proofs.script_env.ScriptEnvEnv.commit.Goals as goal

pub move_on-requires-clause-reads : goal.move_on-requires-clause-reads
move_on-requires-clause-reads c = λ k.
    let self = c.args.self.now in
    subst (λ n. AllReadWithin n (steps_of self.script.now k))
    (let z : length self.channels.now ≡ length c.as_slice.result.now =
    omega (arith, c.as_slice.ensures.len, self.done.ok.0, self.all_done) in z) (self.reads k)

pub returns-clause-rows : goal.returns-clause-rows
returns-clause-rows c = λ rows stands.
    let self = c.args.self.now in
    let counted : length c.count_ends.new.done ≡ length c.as_mut_slice.result.now = c.count_ends.auto.done in
    let done_back : take self.done.len (c.count_ends.new.done ++ drop (length c.count_ends.new.done) self.done.items)
    ≡ c.count_ends.new.done = refilled self.done.items c.count_ends.new.done self.done.len self.done.ok.0
    (counted ∙ ap length c.as_mut_slice.ensures.value) in
    committed rows c.args.row.now self.script.now self.places.items c.as_mut_slice-2.result.now c.move_on.new.places _ self.done.items
    c.as_mut_slice.result.now c.count_ends.new.done c.as_slice.result.now _ self.cycle c.requires.ends c.as_mut_slice-2.ensures.value
    c.as_mut_slice.ensures.value counted c.count_ends.ensures (c.as_slice.ensures.value ∙ done_back) done_back
    (refilled self.places.items c.move_on.new.places self.places.len self.places.ok.0
    (c.move_on.auto.places ∙ ap length c.as_mut_slice-2.ensures.value)) c.move_on.ensures stands
