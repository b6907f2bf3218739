-- The texts of a script and of a plan of stalls have one reading.
use Rattle.std.proofs.Common.{◌≡◌, ◌⊎◌, ℕ, ◌+◌, ◌<◌, List, [], ◌∷◌, Option, None, Some, Err, inl, inr, length, drop, refl, sym}
use Rattle.std.proofs.Common.{subst, ◌∙◌, codes}
use Rattle.std.proofs.lemmas.List.{ext_get_or}
use Rattle.std.specs.List.{prefix_len}
use Rattle.run_model.proofs.vidi_bits_lemmas.Lists.{some_same}
use Rattle.run_model.specs.vidi_bits.Findings.{first}
use Rattle.run_model.specs.chan_map.vidi_lines.declared.lines.Line.{Line as LineOf}
use Rattle.run_model.specs.trace_model.declared.channel.Channel.{Channel as ChannelOf}
use Rattle.env_script.specs.declared.error.ScriptError.{ScriptError}
use Rattle.env_script.specs.declared.error.ScriptError.TheVariants.{Line, Channel, Number, Memory}
use Rattle.env_script.specs.declared.error.StallError.{StallError}
use Rattle.env_script.specs.declared.error.StallError.TheVariants as S
use Rattle.env_script.specs.declared.said.ScriptLine.{ScriptLine}
use Rattle.env_script.specs.declared.script.Script.{Script}
use Rattle.env_script.specs.declared.stalls.Stalls.{Stalls}
use Rattle.env_script.specs.Used.{is_blank, number_in}
use Rattle.env_script.specs.Reasons.{script_faults}
use Rattle.env_script.specs.Reads.{IsScript, SaysBehind, SaysFrom, Says, ReadsScript}
use Rattle.run_model.specs.vidi_bits.Findings.{IsFirst}
use Rattle.env_script.specs.Told.{script_told}
use Rattle.env_script.specs.Stalls.{plan_faults, PlansFrom, ReadsStalls}
use Rattle.env_script.specs.OneReading.{SamePlan, OneScript, OnePlan}
use Rattle.run_model.proofs.vidi_bits_lemmas.OneAnswer.{one-answer}

-- ---- scripts
same-script : (channels : List ChannelOf) (cycles : ℕ) (lines : List ScriptLine) (a b : Script) → IsScript channels cycles lines a
    → IsScript channels cycles lines b → a ≡ b
same-script channels cycles lines a b x y =
    let cycles-same = x.cycles_are ∙ sym y.cycles_are in
    let steps-same = ext_get_or [] a.steps b.steps (x.lists ∙ sym y.lists) (λ c l.
    (let within : c < length channels = subst (λ (n : ℕ). c < n) x.lists l in x.steps c within ∙ sym (y.steps c within))) in
    let resets-same = x.resets_are ∙ sym y.resets_are in
    λ i. record { cycles = cycles-same i; steps = steps-same i; resets = resets-same i }

says-behind : (channels : List ChannelOf) (n : ℕ) (cycles : Option ℕ) (others : List (Option LineOf)) (a b : Script)
    → SaysBehind channels n cycles others a → SaysBehind channels n cycles others b → a ≡ b
says-behind channels n None others a b x y = absurd x
says-behind channels n (Some cycles) others a b x y = same-script channels cycles _ a b x y

says-from : (channels : List ChannelOf) (n : ℕ) (lines : List (Option LineOf)) (a b : Script) → SaysFrom channels n lines a
    → SaysFrom channels n lines b → a ≡ b
says-from channels n [] a b x y = absurd x
says-from channels n (head ∷ others) a b x y = says-behind channels n (number_in (codes "cycles") head) others a b x y

found : (faults : List ScriptError) (e : ScriptError) → IsFirst script_told faults e
    → (e ≡ Memory) ⊎ ((f : ScriptError) × (e ≡ f) × (first faults ≡ Some f))
found faults (Line n) is = inr (Line n, refl, is)
found faults (Channel n) is = inr (Channel n, refl, is)
found faults (Number n) is = inr (Number n, refl, is)
found faults Memory is = inl refl

pub one-script : OneScript
one-script channels lines = one-answer (λ (a b : Script). a ≡ b) Memory (Says channels lines) (script_faults channels lines) (λ e. e)
    (ReadsScript channels lines) (λ a x. (x.0, x.1)) (found (script_faults channels lines))
    (says-from channels (prefix_len is_blank lines + 1) (drop (prefix_len is_blank lines) lines))

-- ---- plans
plans-from : (lines : List (Option LineOf)) (a b : Stalls) → PlansFrom lines a → PlansFrom lines b → SamePlan a b
plans-from [] a b x y = absurd x
plans-from (head ∷ others) a b x y = (some_same a.capacity b.capacity (sym x.0 ∙ y.0), x.1 ∙ sym y.1)

plan-found : (lines : List (Option LineOf)) (e : StallError) → ReadsStalls lines (Err e)
    → (e ≡ S.Memory) ⊎ ((n : ℕ) × (e ≡ S.Line n) × (first (plan_faults lines) ≡ Some n))
plan-found lines (S.Line n) is = inr (n, refl, is)
plan-found lines S.Memory is = inl refl

pub one-plan : OnePlan
one-plan lines = one-answer SamePlan S.Memory (PlansFrom (drop (prefix_len is_blank lines) lines)) (plan_faults lines) S.Line
    (ReadsStalls lines) (λ a x. x) (plan-found lines) (plans-from (drop (prefix_len is_blank lines) lines))
