-- Where the numbers of a design stand in the slots: its nets, then the words of its memories; and once more behind them.
use Rattle.std.specs.Prelude.{◌≡◌, ℕ, ◌+◌, ◌^◌, ◌<◌, ◌≤◌, List, length, take, drop, slice_index}
use Rattle.net_design.specs.declared.act.Timing.{Timing}
use Rattle.net_design.specs.declared.act.Timing.TheVariants.{Blocking, Nonblocking}
use Rattle.net_design.specs.declared.values.Update.{Update}
use Rattle.net_design.specs.declared.values.Values.{Values}
use Rattle.net_design.specs.Updates.{apply, seen}

-- the numbers of n nets and W words
abbrev pub view : ℕ → ℕ → List ℕ → Values
view n W s = record { nets = take n s; words = drop n (take (n + W) s) }

module _ (widths : List ℕ) (W : ℕ) where
  -- how many slots one copy of the numbers takes
  abbrev pub span : ℕ
  span = length widths + W

  -- the first free slot
  abbrev pub base : ℕ
  base = span + span

  -- the numbers that are shown, which stand in front, and the state, which stands behind them
  abbrev pub shown : List ℕ → Values
  shown s = view (length widths) W s

  abbrev pub state : List ℕ → Values
  state s = view (length widths) W (drop span s)

  -- each net's number fits it
  abbrev pub Fits : Values → Type 0
  Fits v = (m : ℕ) → m < length widths → slice_index v.nets m < 2 ^ slice_index widths m

  pub record IsReady (s : List ℕ) : Type 0 where
    pub long : base ≤ length s
    pub shown_fits : Fits (shown s)
    pub state_fits : Fits (state s)

-- the state after updates, which change it where they don't change the numbers that are read
abbrev pub left : Timing → List Update → Values → Values
left Blocking us v = v
left Nonblocking us v = apply us v

module _ (widths : List ℕ) (W : ℕ) where
  -- slots u have what updates make of the numbers and of the state in slots s
  pub record Moves (t : Timing) (us : List Update) (s u : List ℕ) : Type 0 where
    pub shows : shown widths W u ≡ seen t us (shown widths W s)
    pub moves : state widths W u ≡ left t us (state widths W s)
    pub long : length u ≡ length s
    pub ready : IsReady widths W u
