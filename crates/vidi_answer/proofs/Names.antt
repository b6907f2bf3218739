-- Names of channels are short.
use Rattle.std.proofs.Common.{◌≡◌, ℕ, ◌≤◌, List, [], ◌∷◌, Option, None, Some, length, slice_get, refl, arith}
use Rattle.report_text.proofs.run_model_lemmas.PinLemmas.{all-at}
use Rattle.report_text.specs.run_model.trace_model.declared.channel.Channel.{Channel}
use Rattle.report_text.specs.run_model.trace_model.Channel.{IsName, IsChannel, IsTable}
use Rattle.report_text.specs.Report.{its_name, name_of}

name_short : (name : List ℕ) → IsName name → length name ≤ 64
name_short [] is = absurd is
name_short (b ∷ bs) (letter, rest, few) = omega (arith, few)

short_in : (channels : List Channel) → IsTable channels → (c : ℕ) (o : Option Channel) → slice_get channels c ≡ o → length (its_name o) ≤ 64
short_in channels table c None at = omega (arith)
short_in channels table c (Some x) at = let each : IsChannel x = all-at IsChannel channels c x table.each at in name_short x.name each.name

pub short_name : (channels : List Channel) (c : ℕ) → IsTable channels → length (name_of channels c) ≤ 64
short_name channels c table = short_in channels table c (slice_get channels c) refl
