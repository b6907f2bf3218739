-- The reasons of an AXI file, and of a trace that breaks a rule of bursts (AMBA AXI4, IHI 0022; this project's profile).
use Rattle.std.specs.Prelude.{ℕ, List, ◌++◌, codes, decimal}
use Rattle.report_text.specs.declared.reason.axi.Lack.{Lack}
use Rattle.report_text.specs.declared.reason.axi.Lack.TheVariants.{Words, Places, Channels, Side}

-- what keeps a memory from being served
abbrev pub lack_name : Lack → List ℕ
lack_name Words = codes "memory"
lack_name Places = codes "data"
lack_name Channels = codes "channels"
lack_name Side = codes "side"

-- `broken rule N CH J`
abbrev pub broken_text : ℕ → List ℕ → ℕ → List ℕ
broken_text rule channel index = (codes "broken rule " ++ decimal rule) ++ ((codes " " ++ channel) ++ (codes " " ++ decimal index))
