-- What monitors or replayers round a design fill in a cycle is one row.
use Rattle.std.proofs.Common.{◌≡◌, ◌↔◌, ℕ, Bool, true, false, cond, List, length, Option, refl, ap, sym, subst, ◌∙◌}
use Rattle.std.proofs.lemmas.Bool.{false≢true}
use Rattle.net_order.specs.vidi_bits.Number.{has}
use Rattle.chan_replayer.specs.trace_model.declared.channel.Channel.{Channel}
use Rattle.chan_replayer.specs.trace_model.declared.channel.Dir.{Dir}
use Rattle.chan_replayer.specs.trace_model.declared.channel.Dir.TheVariants.{Inward, Outward}
use Rattle.chan_replayer.specs.trace_model.declared.row.Row.{Row}
use Rattle.chan_replayer.specs.trace_model.Row.{content_at, row_before, IsOver, IsMarked}
use Rattle.net_design.specs.declared.design.Design.{Design}
use Rattle.net_design.specs.declared.values.Values.{Values}
use Rattle.net_design.specs.Pins.{outputs}
use Rattle.net_design.specs.Settled.{IsSettled}
use Rattle.net_order.proofs.OneMap.{only_map}
use Rattle.chan_replayer.specs.chan_map.declared.pins.Map.{Map}
use Rattle.chan_replayer.specs.run_model.MapOf.{IsMapOf}
use Rattle.chan_replayer.specs.run_model.Offers.{no_content}
use Rattle.chan_replayer.specs.run_model.Replay.{done}
use Rattle.chan_replayer.specs.run_model.Step.{IsStep, Shows}
use Rattle.chan_replayer.proofs.run_model_lemmas.PinLemmas.{one-list}
use Rattle.chan_replayer.proofs.run_model_lemmas.RowParts.{AgreeOn, Agree, entered-same, one-row, carried}
use Rattle.chan_replayer.specs.declared.feed.Feed.{Feed}
use Rattle.chan_replayer.specs.Feed.{IsUp, IsFedOn}
use Rattle.shim_step.specs.Recording.{Records}
use Rattle.shim_step.specs.Replaying.{Replays}
use Rattle.shim_step.specs.OneRow.{SettlesOnce, StatesSettleOnce, OrderedSettleOnce, OneRecordedRow, OneReplayedRow, RecordsEach, ReplaysEach}
use Rattle.shim_step.proofs.Recording.{records_rows}
use Rattle.shim_step.proofs.Replaying.{replays_rows}

-- ---- designs that settle in at most one way
pub states_settle_once : StatesSettleOnce
states_settle_once d one s is pins fit u v su sv = one.only s pins u v is fit su sv

pub ordered_settle_once : OrderedSettleOnce
ordered_settle_once d order law is s pins fit u v su sv = only_map d law order is s pins u v su sv

-- ---- rows of one state with the environment's part and the gates in common
one_of_state : (d : Design) (a : Map) → IsMapOf d a → (s : Values) → SettlesOnce d s → (before : Option Row) (x y : Row) (nx ny : Values)
    → IsOver a.channels x → IsOver a.channels y → IsMarked before x → IsMarked before y → x.fresh ≡ y.fresh
    → Agree a.channels x y → IsStep d a s x nx → IsStep d a s y ny → x ≡ y
one_of_state d a is s once before x y nx ny ox oy mx my fresh agree sx sy =
    let pins : sx.pins ≡ sy.pins = one-list d a is false x y (entered-same a false x y agree) sx.pins sy.pins sx.entered sy.entered in
    let there : IsSettled d s sx.pins sy.v = subst (λ p. IsSettled d s p sy.v) (sym pins) sy.settled in
    let same : sx.v ≡ sy.v = once sx.pins sx.entered.fit sx.v sy.v sx.settled there in
    one-row d a is (outputs d sx.v) before x y ox oy mx my fresh agree sx.shown (subst (λ v. Shows (outputs d v) a y) (sym same) sy.shown)

pub one_recorded_row : OneRecordedRow
one_recorded_row d a is s once before offers gates x y fresh ix iy =
    one_of_state d a is s once before x y ix.after iy.after ix.over iy.over ix.marked iy.marked
    fresh (carried a.channels offers x y (ix.gates_are ∙ sym iy.gates_are) ix.carries iy.carries) ix.step iy.step

-- ---- under one feed
same_tests : (b c : Bool) (P : Type 0) → ((b ≡ true) ↔ P) → ((c ≡ true) ↔ P) → b ≡ c
same_tests true c P p q = sym (q.1 (p.0 refl))
same_tests false true P p q = absurd (false≢true (p.1 (q.0 refl)))
same_tests false false P p q = refl

fed_alike : (channels : List Channel) (feed : Feed) (have : ℕ → ℕ) (x y : Row) (c : ℕ) (dir : Dir) → IsFedOn channels feed have x c dir
    → IsFedOn channels feed have y c dir → AgreeOn channels x y c dir
fed_alike channels feed have x y c Inward p q =
    let valid : has x.valids c ≡ has y.valids c =
    same_tests (has x.valids c) (has y.valids c) (IsUp (length channels) feed have c) p.0 q.0 in (
      valid,
      p.1 ∙ ap (λ b. cond b (content_at channels feed.contents c) (no_content channels c)) valid ∙ sym q.1,
    )
fed_alike channels feed have x y c Outward p q = same_tests (has x.readies c) (has y.readies c) (IsUp (length channels) feed have c) p q

pub one_replayed_row : OneReplayedRow
one_replayed_row d a is s once rows feed x y fresh ix iy =
    let agree : Agree a.channels x y = record {
      gates = ix.gates_are ∙ sym iy.gates_are;
      on = λ c z at. fed_alike a.channels feed (done rows) x y c z.dir (ix.fed c z at) (iy.fed c z at);
    } in
    one_of_state d a is s once (row_before rows (length rows)) x y ix.after iy.after ix.over iy.over ix.marked iy.marked fresh agree ix.step iy.step

-- ---- on the ports
pub records_each : RecordsEach
records_each f a m d w top s pins v h once before flies offers are gates below on row is =
    let there = records_rows f a m d w top s pins v h before flies offers are gates below on row.fresh in
    let same : there.0 ≡ row = one_recorded_row d a w.mapped _ once before offers gates there.0 row there.1 there.2.shown is in
    subst (Records f a d top s v before offers gates) same there.2

pub replays_each : ReplaysEach
replays_each f a m d w top s pins v h once rows short counts feed over on row is =
    let there = replays_rows f a m d w top s pins v h rows short counts feed over on row.fresh in
    let same : there.0 ≡ row = one_replayed_row d a w.mapped _ once rows feed there.0 row there.1 there.2.shown is in
    subst (Replays f a d top s v rows feed) same there.2
