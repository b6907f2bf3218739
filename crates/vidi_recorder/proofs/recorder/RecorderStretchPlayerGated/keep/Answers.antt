use Rattle.std.proofs.Common.{ℕ, ◌+◌, cond, ◌<◌, ◌^◌, List, [], ◌∷◌, ◌++◌, Result, Ok, Err, IfErr, length, ap, sym, subst, ◌∙◌, arith}
use Rattle.std.specs.Global.{Vec}
use Rattle.std.proofs.lemmas.List.{length-map}
use Rattle.circular_buffer.specs.Buffer.{Buffer}
use Rattle.trace_code.specs.trace_model.declared.channel.Channel.{Channel}
use Rattle.trace_code.specs.trace_model.Channel.{content_bytes}
use Rattle.trace_code.specs.trace_model.Epoch.{restarts}
use Rattle.trace_code.specs.trace_model.Recording.{has_event}
use Rattle.trace_code.specs.trace_model.Row.{IsOver}
use Rattle.run_stage.specs.Stretching.{all_rows}
use Rattle.vidi_recorder.specs.Course.{plan_of}
use Rattle.vidi_recorder.specs.Standing.{BreaksAt, Going, IsAsFar, IsNextFresh, end_so_far}
use Rattle.vidi_recorder.proofs.Keeping.{breaks-back, came-now, comes-is, count-after, cut-now, end-after, ended-within, ends-now, going-more, may}
use Rattle.vidi_recorder.proofs.Keeping.{may-turn, next-now, own}
use Rattle.vidi_recorder.proofs.Keeping.{Puts, kept_sizes, packets-within, row-next, some, stands-back, waits-mid, waits-now}
use Rattle.vidi_recorder.proofs.Turning.{carries-now, given-long}
use Rattle.vidi_recorder.proofs.Turns.{fits-now, lasting, written-len}
use Rattle.vidi_recorder.proofs.recorder.RecorderStretchPlayerGated.keep.Goals as goal
use Rattle.run_stage.proofs.Stretching.{all-more}

any_err : {X E : Type 0} (Q : E → Type 0) (r : Result X E) → ((e : E) → Q e) → IfErr r Q
any_err Q (Ok x) f = tt
any_err Q (Err e) f = f e

pub commit-requires-clause-over : goal.commit-requires-clause-over
commit-requires-clause-over g c =
    let first = c.requires.0 in
    let past = c.requires.1 in
    let here = c.requires.2 in
    let long = c.requires.3 in
    let stands = c.requires.5 in
    let ruled = c.requires.6 in
    let self = c.args.self.now in
    let env = self.env.now in
    let m = self.map.now in
    let stalls = self.stalls.now in
    let times = self.resets.now in
    let cycles = self.cycles in
    let cells = self.cells.now in
    let row = c.args.last.now in
    let rows = all_rows past here in
    let offer = g.E.Env.offer (g.E.Env.plan env) in
    let given = g.E.Env.channels env in
    let stands_for = g.E.Env.stands_for env in
    let current = g.E.Env.current env in
    let begun = g.K.Sink.told first.sink.now in
    let told = g.K.Sink.told self.sink.now in
    let k = own first.map.now m first.stalls.now stalls first.resets.now times first.cycles cycles _ _ _ _ _ _ stands.0 begun told stands_for
    (g.E.Env.offer (g.E.Env.plan first.env.now)) offer given current cells past here row (ap g.E.Env.offer stands.2.plan) (record {
      table = stands.1;
      channels = stands.2.channels_stay ∙ stands.2.channels_are;
      at = stands.4;
      ruled = ruled;
    }) in
    let lasts = lasting m.channels given offer k.channels (g.met.E.Env.fits env) (g.met.E.Env.stays env) in
    let is = row-next m offer stalls times cycles given begun told stands_for current cells past here row lasts k in
    subst (λ (cs : List Channel). IsOver cs row) (sym k.channels) is.over

pub commit-requires-clause-carries : goal.commit-requires-clause-carries
commit-requires-clause-carries g c =
    let first = c.requires.0 in
    let past = c.requires.1 in
    let here = c.requires.2 in
    let long = c.requires.3 in
    let stands = c.requires.5 in
    let ruled = c.requires.6 in
    let self = c.args.self.now in
    let env = self.env.now in
    let m = self.map.now in
    let stalls = self.stalls.now in
    let times = self.resets.now in
    let cycles = self.cycles in
    let cells = self.cells.now in
    let row = c.args.last.now in
    let rows = all_rows past here in
    let offer = g.E.Env.offer (g.E.Env.plan env) in
    let given = g.E.Env.channels env in
    let stands_for = g.E.Env.stands_for env in
    let current = g.E.Env.current env in
    let begun = g.K.Sink.told first.sink.now in
    let told = g.K.Sink.told self.sink.now in
    let k = own first.map.now m first.stalls.now stalls first.resets.now times first.cycles cycles _ _ _ _ _ _ stands.0 begun told stands_for
    (g.E.Env.offer (g.E.Env.plan first.env.now)) offer given current cells past here row (ap g.E.Env.offer stands.2.plan) (record {
      table = stands.1;
      channels = stands.2.channels_stay ∙ stands.2.channels_are;
      at = stands.4;
      ruled = ruled;
    }) in
    let lasts = lasting m.channels given offer k.channels (g.met.E.Env.fits env) (g.met.E.Env.stays env) in
    let is = row-next m offer stalls times cycles given begun told stands_for current cells past here row lasts k in
    carries-now m.channels given current (offer rows) row k.channels (g.met.E.Env.offers_now env rows k.at.far.played) is.carries

pub commit-requires-clause-ends : goal.commit-requires-clause-ends
commit-requires-clause-ends g c =
    let first = c.requires.0 in
    let past = c.requires.1 in
    let here = c.requires.2 in
    let long = c.requires.3 in
    let stands = c.requires.5 in
    let ruled = c.requires.6 in
    let self = c.args.self.now in
    let env = self.env.now in
    let m = self.map.now in
    let stalls = self.stalls.now in
    let times = self.resets.now in
    let cycles = self.cycles in
    let cells = self.cells.now in
    let row = c.args.last.now in
    let rows = all_rows past here in
    let offer = g.E.Env.offer (g.E.Env.plan env) in
    let given = g.E.Env.channels env in
    let stands_for = g.E.Env.stands_for env in
    let current = g.E.Env.current env in
    let begun = g.K.Sink.told first.sink.now in
    let told = g.K.Sink.told self.sink.now in
    let k = own first.map.now m first.stalls.now stalls first.resets.now times first.cycles cycles _ _ _ _ _ _ stands.0 begun told stands_for
    (g.E.Env.offer (g.E.Env.plan first.env.now)) offer given current cells past here row (ap g.E.Env.offer stands.2.plan) (record {
      table = stands.1;
      channels = stands.2.channels_stay ∙ stands.2.channels_are;
      at = stands.4;
      ruled = ruled;
    }) in
    let lasts = lasting m.channels given offer k.channels (g.met.E.Env.fits env) (g.met.E.Env.stays env) in
    let is = row-next m offer stalls times cycles given begun told stands_for current cells past here row lasts k in
    is.ends

pub keep-requires-clause-row : goal.keep-requires-clause-row
keep-requires-clause-row g c =
    let first = c.requires.0 in
    let past = c.requires.1 in
    let here = c.requires.2 in
    let long = c.requires.3 in
    let stands = c.requires.5 in
    let ruled = c.requires.6 in
    let self = c.args.self.now in
    let env = self.env.now in
    let m = self.map.now in
    let stalls = self.stalls.now in
    let times = self.resets.now in
    let cycles = self.cycles in
    let cells = self.cells.now in
    let row = c.args.last.now in
    let rows = all_rows past here in
    let offer = g.E.Env.offer (g.E.Env.plan env) in
    let given = g.E.Env.channels env in
    let stands_for = g.E.Env.stands_for env in
    let current = g.E.Env.current env in
    let begun = g.K.Sink.told first.sink.now in
    let told = g.K.Sink.told self.sink.now in
    let k = own first.map.now m first.stalls.now stalls first.resets.now times first.cycles cycles _ _ _ _ _ _ stands.0 begun told stands_for
    (g.E.Env.offer (g.E.Env.plan first.env.now)) offer given current cells past here row (ap g.E.Env.offer stands.2.plan) (record {
      table = stands.1;
      channels = stands.2.channels_stay ∙ stands.2.channels_are;
      at = stands.4;
      ruled = ruled;
    }) in
    let lasts = lasting m.channels given offer k.channels (g.met.E.Env.fits env) (g.met.E.Env.stays env) in
    let is = row-next m offer stalls times cycles given begun told stands_for current cells past here row lasts k in
    is.over

pub keep-requires-clause-may : goal.keep-requires-clause-may
keep-requires-clause-may g c =
    let first = c.requires.0 in
    let past = c.requires.1 in
    let here = c.requires.2 in
    let long = c.requires.3 in
    let stands = c.requires.5 in
    let ruled = c.requires.6 in
    let self = c.args.self.now in
    let env = self.env.now in
    let m = self.map.now in
    let stalls = self.stalls.now in
    let times = self.resets.now in
    let cycles = self.cycles in
    let cells = self.cells.now in
    let row = c.args.last.now in
    let rows = all_rows past here in
    let offer = g.E.Env.offer (g.E.Env.plan env) in
    let given = g.E.Env.channels env in
    let stands_for = g.E.Env.stands_for env in
    let current = g.E.Env.current env in
    let begun = g.K.Sink.told first.sink.now in
    let told = g.K.Sink.told self.sink.now in
    let k = own first.map.now m first.stalls.now stalls first.resets.now times first.cycles cycles _ _ _ _ _ _ stands.0 begun told stands_for
    (g.E.Env.offer (g.E.Env.plan first.env.now)) offer given current cells past here row (ap g.E.Env.offer stands.2.plan) (record {
      table = stands.1;
      channels = stands.2.channels_stay ∙ stands.2.channels_are;
      at = stands.4;
      ruled = ruled;
    }) in
    let lasts = lasting m.channels given offer k.channels (g.met.E.Env.fits env) (g.met.E.Env.stays env) in
    may m offer stalls times cycles given begun told stands_for current cells past here row lasts k

pub keep-requires-clause-end : goal.keep-requires-clause-end
keep-requires-clause-end g c =
    let first = c.requires.0 in
    let past = c.requires.1 in
    let here = c.requires.2 in
    let long = c.requires.3 in
    let stands = c.requires.5 in
    let ruled = c.requires.6 in
    let self = c.args.self.now in
    let env = self.env.now in
    let m = self.map.now in
    let stalls = self.stalls.now in
    let times = self.resets.now in
    let cycles = self.cycles in
    let cells = self.cells.now in
    let row = c.args.last.now in
    let rows = all_rows past here in
    let offer = g.E.Env.offer (g.E.Env.plan env) in
    let given = g.E.Env.channels env in
    let stands_for = g.E.Env.stands_for env in
    let current = g.E.Env.current env in
    let begun = g.K.Sink.told first.sink.now in
    let told = g.K.Sink.told self.sink.now in
    let k = own first.map.now m first.stalls.now stalls first.resets.now times first.cycles cycles _ _ _ _ _ _ stands.0 begun told stands_for
    (g.E.Env.offer (g.E.Env.plan first.env.now)) offer given current cells past here row (ap g.E.Env.offer stands.2.plan) (record {
      table = stands.1;
      channels = stands.2.channels_stay ∙ stands.2.channels_are;
      at = stands.4;
      ruled = ruled;
    }) in
    let lasts = lasting m.channels given offer k.channels (g.met.E.Env.fits env) (g.met.E.Env.stays env) in
    ended-within m offer stalls times cycles given begun told stands_for current cells past here row lasts k c.args.cycle long

pub keep-requires-clause-count : goal.keep-requires-clause-count
keep-requires-clause-count g c =
    let first = c.requires.0 in
    let past = c.requires.1 in
    let here = c.requires.2 in
    let long = c.requires.3 in
    let stands = c.requires.5 in
    let ruled = c.requires.6 in
    let self = c.args.self.now in
    let env = self.env.now in
    let m = self.map.now in
    let stalls = self.stalls.now in
    let times = self.resets.now in
    let cycles = self.cycles in
    let cells = self.cells.now in
    let row = c.args.last.now in
    let rows = all_rows past here in
    let offer = g.E.Env.offer (g.E.Env.plan env) in
    let given = g.E.Env.channels env in
    let stands_for = g.E.Env.stands_for env in
    let current = g.E.Env.current env in
    let begun = g.K.Sink.told first.sink.now in
    let told = g.K.Sink.told self.sink.now in
    let k = own first.map.now m first.stalls.now stalls first.resets.now times first.cycles cycles _ _ _ _ _ _ stands.0 begun told stands_for
    (g.E.Env.offer (g.E.Env.plan first.env.now)) offer given current cells past here row (ap g.E.Env.offer stands.2.plan) (record {
      table = stands.1;
      channels = stands.2.channels_stay ∙ stands.2.channels_are;
      at = stands.4;
      ruled = ruled;
    }) in
    let lasts = lasting m.channels given offer k.channels (g.met.E.Env.fits env) (g.met.E.Env.stays env) in
    packets-within m offer stalls times cycles given begun told stands_for current cells past here row lasts k c.args.cycle long

pub restart-requires-clause-may : goal.restart-requires-clause-may
restart-requires-clause-may g c =
    let first = c.requires.0 in
    let past = c.requires.1 in
    let here = c.requires.2 in
    let long = c.requires.3 in
    let stands = c.requires.5 in
    let ruled = c.requires.6 in
    let self = c.args.self.now in
    let env = self.env.now in
    let m = self.map.now in
    let stalls = self.stalls.now in
    let times = self.resets.now in
    let cycles = self.cycles in
    let cells = self.cells.now in
    let row = c.args.last.now in
    let rows = all_rows past here in
    let offer = g.E.Env.offer (g.E.Env.plan env) in
    let given = g.E.Env.channels env in
    let stands_for = g.E.Env.stands_for env in
    let current = g.E.Env.current env in
    let begun = g.K.Sink.told first.sink.now in
    let told = g.K.Sink.told self.sink.now in
    let k = own first.map.now m first.stalls.now stalls first.resets.now times first.cycles cycles _ _ _ _ _ _ stands.0 begun told stands_for
    (g.E.Env.offer (g.E.Env.plan first.env.now)) offer given current cells past here row (ap g.E.Env.offer stands.2.plan) (record {
      table = stands.1;
      channels = stands.2.channels_stay ∙ stands.2.channels_are;
      at = stands.4;
      ruled = ruled;
    }) in
    let lasts = lasting m.channels given offer k.channels (g.met.E.Env.fits env) (g.met.E.Env.stays env) in
    let t = c.args.cycle in
    let put = ap (λ (b : Buffer ℕ). b.items) c.keep.ensures.store in
    may-turn m offer stalls times cycles given begun told stands_for current cells past here row lasts k t long
    c.keep.new.cells.room c.keep.ensures.room c.reset_comes-comes.result
    c.keep.new.cells.resets c.reset_comes-comes.ensures

pub restart-requires-clause-end : goal.restart-requires-clause-end
restart-requires-clause-end g c =
    let first = c.requires.0 in
    let past = c.requires.1 in
    let here = c.requires.2 in
    let long = c.requires.3 in
    let stands = c.requires.5 in
    let ruled = c.requires.6 in
    let self = c.args.self.now in
    let env = self.env.now in
    let m = self.map.now in
    let stalls = self.stalls.now in
    let times = self.resets.now in
    let cycles = self.cycles in
    let cells = self.cells.now in
    let row = c.args.last.now in
    let rows = all_rows past here in
    let offer = g.E.Env.offer (g.E.Env.plan env) in
    let given = g.E.Env.channels env in
    let stands_for = g.E.Env.stands_for env in
    let current = g.E.Env.current env in
    let begun = g.K.Sink.told first.sink.now in
    let told = g.K.Sink.told self.sink.now in
    let k = own first.map.now m first.stalls.now stalls first.resets.now times first.cycles cycles _ _ _ _ _ _ stands.0 begun told stands_for
    (g.E.Env.offer (g.E.Env.plan first.env.now)) offer given current cells past here row (ap g.E.Env.offer stands.2.plan) (record {
      table = stands.1;
      channels = stands.2.channels_stay ∙ stands.2.channels_are;
      at = stands.4;
      ruled = ruled;
    }) in
    let lasts = lasting m.channels given offer k.channels (g.met.E.Env.fits env) (g.met.E.Env.stays env) in
    end-after (has_event row) c.args.cycle cells.end c.keep.new.cells.end c.keep.ensures.end
    (ended-within m offer stalls times cycles given begun told stands_for current cells past here row lasts k c.args.cycle long)

pub restart-requires-clause-count : goal.restart-requires-clause-count
restart-requires-clause-count g c =
    let first = c.requires.0 in
    let past = c.requires.1 in
    let here = c.requires.2 in
    let long = c.requires.3 in
    let stands = c.requires.5 in
    let ruled = c.requires.6 in
    let self = c.args.self.now in
    let env = self.env.now in
    let m = self.map.now in
    let stalls = self.stalls.now in
    let times = self.resets.now in
    let cycles = self.cycles in
    let cells = self.cells.now in
    let row = c.args.last.now in
    let rows = all_rows past here in
    let offer = g.E.Env.offer (g.E.Env.plan env) in
    let given = g.E.Env.channels env in
    let stands_for = g.E.Env.stands_for env in
    let current = g.E.Env.current env in
    let begun = g.K.Sink.told first.sink.now in
    let told = g.K.Sink.told self.sink.now in
    let k = own first.map.now m first.stalls.now stalls first.resets.now times first.cycles cycles _ _ _ _ _ _ stands.0 begun told stands_for
    (g.E.Env.offer (g.E.Env.plan first.env.now)) offer given current cells past here row (ap g.E.Env.offer stands.2.plan) (record {
      table = stands.1;
      channels = stands.2.channels_stay ∙ stands.2.channels_are;
      at = stands.4;
      ruled = ruled;
    }) in
    let lasts = lasting m.channels given offer k.channels (g.met.E.Env.fits env) (g.met.E.Env.stays env) in
    count-after (has_event row) c.args.cycle cells.packets c.keep.new.cells.packets c.keep.ensures.count
    (packets-within m offer stalls times cycles given begun told stands_for current cells past here row lasts k c.args.cycle long)

pub restart-requires-clause-waits : goal.restart-requires-clause-waits
restart-requires-clause-waits g c =
    let first = c.requires.0 in
    let past = c.requires.1 in
    let here = c.requires.2 in
    let long = c.requires.3 in
    let stands = c.requires.5 in
    let ruled = c.requires.6 in
    let self = c.args.self.now in
    let env = self.env.now in
    let m = self.map.now in
    let stalls = self.stalls.now in
    let times = self.resets.now in
    let cycles = self.cycles in
    let cells = self.cells.now in
    let row = c.args.last.now in
    let rows = all_rows past here in
    let offer = g.E.Env.offer (g.E.Env.plan env) in
    let given = g.E.Env.channels env in
    let stands_for = g.E.Env.stands_for env in
    let current = g.E.Env.current env in
    let begun = g.K.Sink.told first.sink.now in
    let told = g.K.Sink.told self.sink.now in
    let k = own first.map.now m first.stalls.now stalls first.resets.now times first.cycles cycles _ _ _ _ _ _ stands.0 begun told stands_for
    (g.E.Env.offer (g.E.Env.plan first.env.now)) offer given current cells past here row (ap g.E.Env.offer stands.2.plan) (record {
      table = stands.1;
      channels = stands.2.channels_stay ∙ stands.2.channels_are;
      at = stands.4;
      ruled = ruled;
    }) in
    let lasts = lasting m.channels given offer k.channels (g.met.E.Env.fits env) (g.met.E.Env.stays env) in
    let t = c.args.cycle in
    let put = ap (λ (b : Buffer ℕ). b.items) c.keep.ensures.store in
    waits-mid m offer stalls times cycles given begun told stands_for current cells past here row lasts k t long
    c.keep.new.cells.room c.keep.ensures.room
    c.keep.new.cells.store.items put

pub give-requires-clause-waits : goal.give-requires-clause-waits
give-requires-clause-waits g c =
    let first = c.requires.0 in
    let past = c.requires.1 in
    let here = c.requires.2 in
    let long = c.requires.3 in
    let stands = c.requires.5 in
    let ruled = c.requires.6 in
    let self = c.args.self.now in
    let env = self.env.now in
    let m = self.map.now in
    let stalls = self.stalls.now in
    let times = self.resets.now in
    let cycles = self.cycles in
    let cells = self.cells.now in
    let row = c.args.last.now in
    let rows = all_rows past here in
    let offer = g.E.Env.offer (g.E.Env.plan env) in
    let given = g.E.Env.channels env in
    let stands_for = g.E.Env.stands_for env in
    let current = g.E.Env.current env in
    let begun = g.K.Sink.told first.sink.now in
    let told = g.K.Sink.told self.sink.now in
    let k = own first.map.now m first.stalls.now stalls first.resets.now times first.cycles cycles _ _ _ _ _ _ stands.0 begun told stands_for
    (g.E.Env.offer (g.E.Env.plan first.env.now)) offer given current cells past here row (ap g.E.Env.offer stands.2.plan) (record {
      table = stands.1;
      channels = stands.2.channels_stay ∙ stands.2.channels_are;
      at = stands.4;
      ruled = ruled;
    }) in
    let lasts = lasting m.channels given offer k.channels (g.met.E.Env.fits env) (g.met.E.Env.stays env) in
    let t = c.args.cycle in
    let put = ap (λ (b : Buffer ℕ). b.items) c.keep.ensures.store in
    let comes = c.reset_comes-comes.result in
    let said = c.reset_comes-comes.ensures in
    let p : Puts m.channels (plan_of stalls times) times cycles rows row t cells c.keep.new.cells c.restart.new.cells comes = record {
      is = c.keep.ensures.room;
      put = put;
      ended = c.keep.ensures.end;
      said = comes-is m offer stalls times cycles given begun told stands_for current cells past here row lasts k t long
          c.keep.new.cells.room c.keep.ensures.room comes c.keep.new.cells.resets
          c.keep.ensures.resets said;
      can = may-turn m offer stalls times cycles given begun told stands_for current cells past here row lasts k t long
          c.keep.new.cells.room c.keep.ensures.room comes c.keep.new.cells.resets said;
      restarted = c.restart.ensures.room;
      put_reset = ap (λ (b : Buffer ℕ). b.items) c.restart.ensures.store;
    } in
    waits-now m offer stalls times cycles given begun told stands_for current cells past here row lasts k t long
    c.keep.new.cells c.restart.new.cells comes p

pub returns-in_err-give-clause-broke : goal.returns-in_err-give-clause-broke
returns-in_err-give-clause-broke g c =
    any_err _ c.from_residual.result (λ e first past here long stands ruled.
    (let self = c.args.self.now in
    let env = self.env.now in
    let m = self.map.now in
    let stalls = self.stalls.now in
    let times = self.resets.now in
    let cycles = self.cycles in
    let cells = self.cells.now in
    let row = c.args.last.now in
    let rows = all_rows past here in
    let offer = g.E.Env.offer (g.E.Env.plan env) in
    let given = g.E.Env.channels env in
    let stands_for = g.E.Env.stands_for env in
    let current = g.E.Env.current env in
    let begun = g.K.Sink.told first.sink.now in
    let told = g.K.Sink.told self.sink.now in
    let k = own first.map.now m first.stalls.now stalls first.resets.now times first.cycles cycles _ _ _ _ _ _ stands.0 begun told stands_for
    (g.E.Env.offer (g.E.Env.plan first.env.now)) offer given current cells past here row (ap g.E.Env.offer stands.2.plan) (record {
      table = stands.1;
      channels = stands.2.channels_stay ∙ stands.2.channels_are;
      at = stands.4;
      ruled = ruled;
    }) in
    let lasts = lasting m.channels given offer k.channels (g.met.E.Env.fits env) (g.met.E.Env.stays env) in
    let t = c.args.cycle in
    let put = ap (λ (b : Buffer ℕ). b.items) c.keep.ensures.store in
    let comes = c.reset_comes-comes.result in
    let said = c.reset_comes-comes.ensures in
    let p : Puts m.channels (plan_of stalls times) times cycles rows row t cells c.keep.new.cells c.restart.new.cells comes = record {
      is = c.keep.ensures.room;
      put = put;
      ended = c.keep.ensures.end;
      said = comes-is m offer stalls times cycles given begun told stands_for current cells past here row lasts k t long
          c.keep.new.cells.room c.keep.ensures.room comes c.keep.new.cells.resets
          c.keep.ensures.resets said;
      can = may-turn m offer stalls times cycles given begun told stands_for current cells past here row lasts k t long
          c.keep.new.cells.room c.keep.ensures.room comes c.keep.new.cells.resets said;
      restarted = c.restart.ensures.room;
      put_reset = ap (λ (b : Buffer ℕ). b.items) c.restart.ensures.store;
    } in (
      stands.0,
      record {
        plan = c.commit.ensures.plan ∙ stands.2.plan;
        channels_are = stands.2.channels_are;
        channels_stay = c.commit.ensures.channels ∙ stands.2.channels_stay;
      },
      record {
        later = let a = stands.3.later in let b = c.in_err-give.ensures.cause.later in omega (arith, a, b);
        place_is = c.give.ensures.place ∙ stands.3.place_is;
        frame = λ f h. c.give.ensures.frame f (stands.3.frame f h);
      },
      (let a = stands.3.later in let b = c.in_err-give.ensures.cause.failed in omega (arith, a, b)),
      breaks-back first.map.now m first.stalls.now stalls first.resets.now times first.cycles cycles _ _ _ _ _ _ stands.0 begun
          (g.K.Sink.told c.give.new.sink) (g.E.Env.stands_for c.commit.new.self) (all_rows past (here ++ row ∷ []))
          (subst (BreaksAt m.channels (plan_of stalls times) times cycles begun (g.K.Sink.told c.give.new.sink)
          (g.E.Env.stands_for c.commit.new.self)) (all-more past here row) (record {
            played = c.commit.ensures.rows rows k.at.far.played;
            cut = cut-now m offer stalls times cycles given begun told stands_for current cells past here row lasts k t long
                c.keep.new.cells c.restart.new.cells comes p
                (g.K.Sink.told c.give.new.sink) c.allowance.result c.allowance.ensures c.in_err-give.ensures.err;
          })),
    )))

pub offer-requires-clause-fits : goal.offer-requires-clause-fits
offer-requires-clause-fits g c =
    let first = c.requires.0 in
    let past = c.requires.1 in
    let here = c.requires.2 in
    let long = c.requires.3 in
    let stands = c.requires.5 in
    let ruled = c.requires.6 in
    let self = c.args.self.now in
    let env = self.env.now in
    let m = self.map.now in
    let stalls = self.stalls.now in
    let times = self.resets.now in
    let cycles = self.cycles in
    let cells = self.cells.now in
    let row = c.args.last.now in
    let rows = all_rows past here in
    let offer = g.E.Env.offer (g.E.Env.plan env) in
    let given = g.E.Env.channels env in
    let stands_for = g.E.Env.stands_for env in
    let current = g.E.Env.current env in
    let begun = g.K.Sink.told first.sink.now in
    let told = g.K.Sink.told self.sink.now in
    let k = own first.map.now m first.stalls.now stalls first.resets.now times first.cycles cycles _ _ _ _ _ _ stands.0 begun told stands_for
    (g.E.Env.offer (g.E.Env.plan first.env.now)) offer given current cells past here row (ap g.E.Env.offer stands.2.plan) (record {
      table = stands.1;
      channels = stands.2.channels_stay ∙ stands.2.channels_are;
      at = stands.4;
      ruled = ruled;
    }) in
    let lasts = lasting m.channels given offer k.channels (g.met.E.Env.fits env) (g.met.E.Env.stays env) in
    let then = c.commit.new.self in
    let later = g.E.Env.offer (g.E.Env.plan then) in
    let lasts_then = lasting m.channels (g.E.Env.channels then) later (c.commit.ensures.channels ∙ k.channels) (g.met.E.Env.fits then)
    (g.met.E.Env.stays then) in
    let played = c.commit.ensures.rows rows k.at.far.played in
    let fits = fits-now m.channels later (g.E.Env.current then) (rows ++ row ∷ []) lasts_then
    (g.met.E.Env.offers_now then (rows ++ row ∷ []) played) in
    fits

pub returns-clause-stands : goal.returns-clause-stands
returns-clause-stands g c first past here long stands ruled =
    let self = c.args.self.now in
    let env = self.env.now in
    let m = self.map.now in
    let stalls = self.stalls.now in
    let times = self.resets.now in
    let cycles = self.cycles in
    let cells = self.cells.now in
    let row = c.args.last.now in
    let rows = all_rows past here in
    let offer = g.E.Env.offer (g.E.Env.plan env) in
    let given = g.E.Env.channels env in
    let stands_for = g.E.Env.stands_for env in
    let current = g.E.Env.current env in
    let begun = g.K.Sink.told first.sink.now in
    let told = g.K.Sink.told self.sink.now in
    let k = own first.map.now m first.stalls.now stalls first.resets.now times first.cycles cycles _ _ _ _ _ _ stands.0 begun told stands_for
    (g.E.Env.offer (g.E.Env.plan first.env.now)) offer given current cells past here row (ap g.E.Env.offer stands.2.plan) (record {
      table = stands.1;
      channels = stands.2.channels_stay ∙ stands.2.channels_are;
      at = stands.4;
      ruled = ruled;
    }) in
    let lasts = lasting m.channels given offer k.channels (g.met.E.Env.fits env) (g.met.E.Env.stays env) in
    let t = c.args.cycle in
    let put = ap (λ (b : Buffer ℕ). b.items) c.keep.ensures.store in
    let comes = c.reset_comes-comes.result in
    let said = c.reset_comes-comes.ensures in
    let p : Puts m.channels (plan_of stalls times) times cycles rows row t cells c.keep.new.cells c.restart.new.cells comes = record {
      is = c.keep.ensures.room;
      put = put;
      ended = c.keep.ensures.end;
      said = comes-is m offer stalls times cycles given begun told stands_for current cells past here row lasts k t long
          c.keep.new.cells.room c.keep.ensures.room comes c.keep.new.cells.resets
          c.keep.ensures.resets said;
      can = may-turn m offer stalls times cycles given begun told stands_for current cells past here row lasts k t long
          c.keep.new.cells.room c.keep.ensures.room comes c.keep.new.cells.resets said;
      restarted = c.restart.ensures.room;
      put_reset = ap (λ (b : Buffer ℕ). b.items) c.restart.ensures.store;
    } in
    let then = c.commit.new.self in
    let later = g.E.Env.offer (g.E.Env.plan then) in
    let lasts_then = lasting m.channels (g.E.Env.channels then) later (c.commit.ensures.channels ∙ k.channels) (g.met.E.Env.fits then)
    (g.met.E.Env.stays then) in
    let played = c.commit.ensures.rows rows k.at.far.played in
    let fits = fits-now m.channels later (g.E.Env.current then) (rows ++ row ∷ []) lasts_then
    (g.met.E.Env.offers_now then (rows ++ row ∷ []) played) in
    let going = some m offer stalls times cycles given begun told stands_for current cells past here row lasts k in
    let fresh = sym c.restart.ensures.fresh in
    let sizes_stay = c.give.ensures.room.sizes ∙ kept_sizes comes c.keep.new.cells.room c.restart.new.cells.room p.restarted
    ∙ c.keep.ensures.room.sizes ∙ going.stands.channels in
    let at : IsAsFar m.channels (plan_of stalls times) begun (g.K.Sink.told c.give.new.sink) (g.E.Env.stands_for then) (g.E.Env.current then) _
    (rows ++ row ∷ []) = record {
      header = k.at.far.header;
      played = played;
      going = λ start begins. subst (λ b. Going m.channels (plan_of stalls times) start (rows ++ row ∷ []) b c.give.new.room
          c.give.new.store.items (g.K.Sink.told c.give.new.sink) c.restart.new.cells.packets) fresh
          (going-more m offer stalls times cycles given begun told stands_for current cells past here row lasts k t long
          c.keep.new.cells c.restart.new.cells comes p c.give.new.room c.give.new.store.items (g.K.Sink.told c.give.new.sink)
          c.allowance.result c.keep.new.cells.packets c.restart.new.cells.packets c.allowance.ensures c.give.ensures.room
          (ap (λ (b : Buffer ℕ). b.items) c.give.ensures.rest) c.in_ok-give.ensures.ok c.keep.ensures.count c.restart.ensures.count start begins);
      ends = ends-now m offer stalls times cycles given begun told stands_for current cells past here row lasts k t long
          c.keep.new.cells c.restart.new.cells comes p c.restart.new.cells.end c.restart.ensures.end
          ∙ ap (end_so_far (rows ++ row ∷ [])) fresh;
      came = came-now m offer stalls times cycles given begun told stands_for current cells past here row lasts k t long
          c.keep.new.cells c.restart.new.cells comes p c.restart.new.cells.resets c.keep.new.cells.resets
          c.keep.ensures.resets c.restart.ensures.resets ∙ ap (λ b. restarts (rows ++ row ∷ []) + cond b 1 0) fresh;
      sizes = record {
        store = ap (λ (b : Buffer ℕ). b.capacity) c.give.ensures.rest ∙ ap (λ (b : Buffer ℕ). b.capacity) c.restart.ensures.store
            ∙ ap (λ (b : Buffer ℕ). b.capacity) c.keep.ensures.store ∙ k.at.far.sizes.store;
        used = let a = c.give.ensures.room.used in
            let b = c.restart.ensures.within in
            let d = c.keep.ensures.room.capacity in
            omega (arith, a, b, d, going.stands.capacity);
        out_len = written-len _ c.give.new.out c.restart.new.cells.out.items (c.give.auto.out ∙ ap length c.as_mut_slice.ensures.value)
            (sym (ap length c.as_mut_slice.ensures.value) ∙ c.as_mut_slice.ensures.len)
            ∙ ap (λ (v : Vec ℕ). length v.items) (c.restart.ensures.out ∙ c.keep.ensures.out) ∙ k.at.far.sizes.out_len;
        offers_len = given-long m.channels (g.E.Env.current then) c.offer.new.given c.offer.ensures.offers fits;
      };
      offers = c.offer.ensures.offers;
      gates = c.offer.ensures.gates;
      below = subst (λ n. c.offer.new.given.gates < 2 ^ n) (ap length sizes_stay ∙ length-map m.channels content_bytes) c.offer.ensures.below;
    } in (
      stands.0,
      stands.1,
      record {
        plan = c.commit.ensures.plan ∙ stands.2.plan;
        channels_are = stands.2.channels_are;
        channels_stay = c.commit.ensures.channels ∙ stands.2.channels_stay;
      },
      record {
        later = let a = stands.3.later in let b = c.give.ensures.cause.later in omega (arith, a, b);
        place_is = c.give.ensures.place ∙ stands.3.place_is;
        frame = λ f h. c.give.ensures.frame f (stands.3.frame f h);
      },
      stands-back first.map.now m first.stalls.now stalls first.resets.now times first.cycles cycles _ _ _ _ _ _ stands.0 begun
          (g.K.Sink.told c.give.new.sink) (g.E.Env.stands_for then) (g.E.Env.current then) _ past (here ++ row ∷ []) (record {
            far = subst (IsAsFar m.channels (plan_of stalls times) begun (g.K.Sink.told c.give.new.sink) (g.E.Env.stands_for then)
                (g.E.Env.current then) _) (all-more past here row) at;
            next = subst (IsNextFresh m.channels (plan_of stalls times) times cycles past (here ++ row ∷ [])) fresh
                (next-now m offer stalls times cycles given begun told stands_for current cells past here row lasts k t long
                c.keep.new.cells c.restart.new.cells comes p);
          }),
    )
