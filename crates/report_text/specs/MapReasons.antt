-- The reasons of a map, M1 to M4 (this project's profile).
use Rattle.std.specs.Prelude.{ℕ, List, ◌++◌, codes, decimal}
use Rattle.run_model.specs.chan_map.declared.error.MapLimit.{MapLimit}
use Rattle.run_model.specs.chan_map.declared.error.MapLimit.TheVariants.{Channels, Ports, Bytes}

abbrev pub limit_name : MapLimit → List ℕ
limit_name Channels = codes "channels"
limit_name Ports = codes "ports"
limit_name Bytes = codes "bytes"

-- `M3 cover X times N`
abbrev pub cover_text : List ℕ → ℕ → List ℕ
cover_text port times = (codes "M3 cover " ++ port) ++ (codes " times " ++ decimal times)

-- `M4 limit channels got N`
abbrev pub limit_text : MapLimit → ℕ → List ℕ
limit_text what got = (codes "M4 limit " ++ limit_name what) ++ (codes " got " ++ decimal got)
