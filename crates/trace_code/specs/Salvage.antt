-- What `salvage` answers for these bytes: what is whole of a trace that was cut off.
use Rattle.std.specs.Prelude.{◌≡◌, ℕ, ◌+◌, ◌≤◌, ◌⊎◌, List, ◌++◌, length, take, Result, Ok, Err}
use Rattle.std.specs.List.{flat_map}
use Rattle.vec_clock.specs.trace_model.declared.trace.Trace.{Trace}
use Rattle.trace_code.specs.declared.error.CodeError.{CodeError}
use Rattle.trace_code.specs.declared.error.CodeError.TheVariants.{BadTrace, Memory}
use Rattle.trace_code.specs.declared.salvaging.Whole.{Whole}
use Rattle.trace_code.specs.Encoding.{header_bytes, packet_bytes, end_mark, HasEncoding, encode}
use Rattle.trace_code.specs.Decoding.{SplitsLongest, HasNoHeader}

-- the header that begins the bytes, and the longest list of whole lawful packets behind it
abbrev pub Salvages : List ℕ → Result Trace CodeError → Type 0
Salvages bytes (Ok t) = (rest : List ℕ) × SplitsLongest bytes t.channels t.packets rest
Salvages bytes (Err (BadTrace at)) = HasNoHeader bytes × (at ≡ 0)
Salvages bytes (Err Memory) = Unit {0}

-- the front of the bytes is the encoding of t without its end mark, and t is what is salvaged from them
pub record IsFront (bytes : List ℕ) (whole : Whole) (t : Trace) : Type 0 where
  pub salvaged : Salvages bytes (Ok t)
  pub packets : whole.packets ≡ length t.packets
  pub few : whole.packets ≤ whole.len
  pub within : whole.len ≤ length bytes
  pub encoded : take whole.len bytes ++ end_mark whole.packets ≡ encode t

abbrev pub SalvagesFront : List ℕ → Result Whole CodeError → Type 0
SalvagesFront bytes (Ok whole) = (t : Trace) × IsFront bytes whole t
SalvagesFront bytes (Err (BadTrace at)) = HasNoHeader bytes × (at ≡ 0)
SalvagesFront bytes (Err Memory) = Unit {0}

-- no bytes are salvaged in two ways, unless memory runs out
abbrev pub OneSalvage : Type 0
OneSalvage = (bytes : List ℕ) (a b : Result Trace CodeError) → Salvages bytes a → Salvages bytes b
    → (a ≡ Err Memory) ⊎ (b ≡ Err Memory) ⊎ (a ≡ b)

-- t with its first k packets
abbrev pub front : ℕ → Trace → Trace
front k t = record { channels = t.channels; packets = take k t.packets }

-- the bytes of the header and of the first k packets
abbrev pub front_len : ℕ → Trace → ℕ
front_len k t = length (header_bytes t.channels) + length (flat_map (packet_bytes t.channels) (take k t.packets))

-- k packets of t lie whole in the first n bytes of its encoding, and no more
pub record LieWhole (t : Trace) (n k : ℕ) : Type 0 where
  pub there : k ≤ length t.packets
  pub whole : front_len k t ≤ n
  pub most : (j : ℕ) → j ≤ length t.packets → front_len j t ≤ n → j ≤ k

-- of a front of an encoding that holds the header, the packets that lie whole in it are salvaged, unless memory runs out
abbrev pub FrontIsSalvaged : Type 0
FrontIsSalvaged = (t : Trace) (n : ℕ) (result : Result Trace CodeError) → HasEncoding t → length (header_bytes t.channels) ≤ n
    → Salvages (take n (encode t)) result
    → (result ≡ Err Memory) ⊎ ((k : ℕ) × LieWhole t n k × (result ≡ Ok (front k t)))
