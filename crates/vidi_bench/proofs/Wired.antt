-- The steps of a design and a map: what they say together, and what ends a command that goes on with it.
use Rattle.std.proofs.Common.{ℕ, List, Result, Ok, Err, inl, inr}
use Rattle.std.specs.Prelude.{IfOk}
use Rattle.vlog_tree.specs.Tree.{FileOf}
use Rattle.env_script.specs.chan_map.declared.text.MapText.{MapText}
use Rattle.env_script.specs.chan_map.declared.pins.Map.{Map}
use Rattle.env_script.specs.chan_map.Text.{ReadsMap}
use Rattle.env_script.specs.chan_map.Bound.{BindsMap}
use Rattle.vidi_answer.specs.declared.answer.Ended.{Ended}
use Rattle.vidi_bench.specs.declared.device.Device.{Device}
use Rattle.vidi_bench.specs.Design.{IsAccepted, Spells}
use Rattle.vidi_bench.specs.Devices.{IsDevice, IsRunnable, Wiring}
use Rattle.vidi_answer.specs.Steps.{Ending, Never}
use Rattle.vidi_answer.proofs.Chain.{Implies}

-- what the tree and the lines of a map say
pub device-said : (design map : List ℕ) (file : FileOf ℕ) (text : MapText) (r : Result Device Ended) → Spells design file
    → ReadsMap map (Ok text) → IfOk r (λ v. IsAccepted text.top file v.design) → IfOk r (λ v. BindsMap text v.design (Ok v.map))
    → IfOk r IsRunnable → IfOk r (IsDevice design map)
device-said design map file text (Ok v) spelled mapped accepted bound runnable = record {
  file = file;
  spelled = spelled;
  text = text;
  mapped = mapped;
  accepted = accepted;
  ordered = runnable.ordered;
  bound = bound;
}
device-said design map file text (Err e) spelled mapped accepted bound runnable = tt

-- a design or a map that isn't accepted ends the command, whatever comes of the bound map
pub never-wired : (design map : List ℕ) (Next : Map → Ending) → Implies (Wiring design map (λ _. Never)) (Wiring design map Next)
never-wired design map Next a x (inl refused) = inl refused
never-wired design map Next a x (inr (f, spelled, inl refused)) = inr (f, spelled, inl refused)
never-wired design map Next a x (inr (f, spelled, inr (text, reads, inl refused))) = inr (f, spelled, inr (text, reads, inl refused))
never-wired design map Next a x (inr (f, spelled, inr (text, reads, inr (d, accepted, inl looped)))) =
    inr (f, spelled, inr (text, reads, inr (d, accepted, inl looped)))
never-wired design map Next a x (inr (f, spelled, inr (text, reads, inr (d, accepted, inr (order, ordered, inl unbound))))) =
    inr (f, spelled, inr (text, reads, inr (d, accepted, inr (order, ordered, inl unbound))))
never-wired design map Next a x (inr (f, spelled, inr (text, reads, inr (d, accepted, inr (order, ordered, inr (m, bound, never)))))) =
    absurd never

-- where they are accepted, what comes of the bound map comes of the texts
pub wired-then : (design map : List ℕ) (v : Device) (Next : Map → Ending) → IsDevice design map v
    → Implies (Next v.map) (Wiring design map Next)
wired-then design map v Next is a x next = inr (
  is.file,
  is.spelled,
  inr (
    is.text,
    is.mapped,
    inr (v.design, is.accepted, inr (v.order.drivers, is.ordered, inr (v.map, is.bound, next))),
  ),
)
