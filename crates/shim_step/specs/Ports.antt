-- What stands on the ports of the tops, in a map of full names.
use Rattle.std.specs.Prelude.{◌≡◌, ℕ, ◌<◌, Bool, true, false, List, [], ◌∷◌, codes, length, Some, IfSome, slice_get, slice_index}
use Rattle.std.specs.List.{AllByRecursion}
use Rattle.net_order.specs.vidi_bits.Number.{truth, has}
use Rattle.flat_parts.specs.vlog_driver.Names.{Name, Full}
use Rattle.chan_replayer.specs.trace_model.declared.channel.Channel.{Channel}
use Rattle.chan_replayer.specs.trace_model.declared.channel.Dir.{Dir}
use Rattle.chan_replayer.specs.trace_model.declared.channel.Dir.TheVariants.{Inward, Outward}
use Rattle.chan_replayer.specs.trace_model.declared.row.Offers.{Offers}
use Rattle.chan_replayer.specs.trace_model.declared.row.Row.{Row}
use Rattle.chan_replayer.specs.trace_model.Row.{content_at, completes}
use Rattle.chan_replayer.specs.chan_map.declared.pins.Map.{Map}
use Rattle.chan_replayer.specs.chan_map.declared.pins.Reset.{Reset}
use Rattle.chan_replayer.specs.chan_map.declared.pins.Tie.{Tie}
use Rattle.chan_replayer.specs.run_model.Pins.{reset_input}
use Rattle.chan_replayer.specs.declared.feed.Feed.{Feed}
use Rattle.chan_replayer.specs.Feed.{need_of}
use Rattle.shim_trees.specs.Pieces.{numbered, numbered_twice}
use Rattle.shim_trees.specs.Links.{tied}

-- the clock is 0, the reset has its active value in a reset cycle, else the other one, and the ties have theirs
pub record HasHeld (a : Map) (resets : Bool) (v : Full → ℕ) : Type 0 where
  pub clock : v (codes "clk" ∷ []) ≡ 0
  pub reset : IfSome a.reset (λ (r : Reset). v (tied r.pin.name ∷ []) ≡ (reset_input resets r).number)
  pub ties : AllByRecursion (λ (t : Tie). v (tied t.pin.name ∷ []) ≡ t.number) a.ties

-- these ports of channel c have the numbers of a content
abbrev pub HasContent : (Full → ℕ) → Name → ℕ → List ℕ → List ℕ → Type 0
HasContent v base c widths content =
    (i w : ℕ) → slice_get widths i ≡ Some w → v (numbered_twice base c i ∷ []) ≡ slice_index content i

-- ---- the top that records

-- an inward channel's ports have its offered valid, and while that is up its content; an outward channel's have the offered ready
abbrev pub HasOffer : (Full → ℕ) → List Channel → Offers → ℕ → Dir → List ℕ → Type 0
HasOffer v channels offers c Inward widths =
    (v (numbered (codes "v_") c ∷ []) ≡ truth (has offers.valids c))
    × (has offers.valids c ≡ true → HasContent v (codes "d_") c widths (content_at channels offers.contents c))
HasOffer v channels offers c Outward widths = v (numbered (codes "r_") c ∷ []) ≡ truth (has offers.readies c)

-- the inputs of the top have these offers and gates, in a cycle that is no reset cycle
pub record HasOffers (a : Map) (offers : Offers) (gates : ℕ) (v : Full → ℕ) : Type 0 where
  pub held : HasHeld a false v
  pub gate : (c : ℕ) (x : Channel) → slice_get a.channels c ≡ Some x → v (numbered (codes "g_") c ∷ []) ≡ truth (has gates c)
  pub offered : (c : ℕ) (x : Channel) → slice_get a.channels c ≡ Some x → HasOffer v a.channels offers c x.dir x.widths

-- they have a reset cycle: all gates are 0
pub record HasReset (a : Map) (v : Full → ℕ) : Type 0 where
  pub held : HasHeld a true v
  pub gate : (c : ℕ) (x : Channel) → slice_get a.channels c ≡ Some x → v (numbered (codes "g_") c ∷ []) ≡ 0

-- a channel's content, before the gate; an inward one is shown while its valid is up
abbrev pub ShowsContent : (Full → ℕ) → List Channel → Row → ℕ → Dir → List ℕ → Type 0
ShowsContent v channels row c Inward widths =
    has row.valids c ≡ true → HasContent v (codes "d_") c widths (content_at channels row.contents c)
ShowsContent v channels row c Outward widths = HasContent v (codes "d_") c widths (content_at channels row.contents c)

-- the ports of the top show the row: each channel's valid, ready and content before the gate, its start and its completion
pub record ShowsRow (a : Map) (row : Row) (v : Full → ℕ) : Type 0 where
  pub valid : (c : ℕ) (x : Channel) → slice_get a.channels c ≡ Some x → v (numbered (codes "v_") c ∷ []) ≡ truth (has row.valids c)
  pub ready : (c : ℕ) (x : Channel) → slice_get a.channels c ≡ Some x → v (numbered (codes "r_") c ∷ []) ≡ truth (has row.readies c)
  pub content : (c : ℕ) (x : Channel) → slice_get a.channels c ≡ Some x → ShowsContent v a.channels row c x.dir x.widths
  pub start : (c : ℕ) (x : Channel) → slice_get a.channels c ≡ Some x → v (numbered (codes "start_") c ∷ []) ≡ truth (has row.starts c)
  pub stop : (c : ℕ) (x : Channel) → slice_get a.channels c ≡ Some x → v (numbered (codes "stop_") c ∷ []) ≡ truth (has row.ends c)

-- ---- the top that replays

-- an inward channel is fed the contents of its next start
abbrev pub HasFedContent : (Full → ℕ) → List Channel → Feed → ℕ → Dir → List ℕ → Type 0
HasFedContent v channels feed c Inward widths = HasContent v (codes "s_") c widths (content_at channels feed.contents c)
HasFedContent v channels feed c Outward widths = Unit {0}

-- the inputs of the top have this feed: for each channel whether there is a next event, its clock and its contents
pub record HasFeed (a : Map) (feed : Feed) (v : Full → ℕ) : Type 0 where
  pub held : HasHeld a false v
  pub more : (c : ℕ) (x : Channel) → slice_get a.channels c ≡ Some x → v (numbered (codes "more_") c ∷ []) ≡ truth (has feed.more c)
  pub need : (c : ℕ) (x : Channel) → slice_get a.channels c ≡ Some x → (j : ℕ) → j < length a.channels
      → v (numbered_twice (codes "n_") c j ∷ []) ≡ need_of (length a.channels) feed c j
  pub content : (c : ℕ) (x : Channel) → slice_get a.channels c ≡ Some x → HasFedContent v a.channels feed c x.dir x.widths

-- they have a reset cycle: no replayer has a next event
pub record HasNoFeed (a : Map) (v : Full → ℕ) : Type 0 where
  pub held : HasHeld a true v
  pub more : (c : ℕ) (x : Channel) → slice_get a.channels c ≡ Some x → v (numbered (codes "more_") c ∷ []) ≡ 0

-- an inward channel's content stands on wires, an outward channel's on ports
abbrev pub content_base : Dir → Name
content_base Inward = codes "k_"
content_base Outward = codes "d_"

-- the outputs and the wires of the top show the row and its completions
pub record ShowsReplay (a : Map) (row : Row) (v : Full → ℕ) : Type 0 where
  pub valid : (c : ℕ) (x : Channel) → slice_get a.channels c ≡ Some x → v (numbered (codes "v_") c ∷ []) ≡ truth (has row.valids c)
  pub ready : (c : ℕ) (x : Channel) → slice_get a.channels c ≡ Some x → v (numbered (codes "r_") c ∷ []) ≡ truth (has row.readies c)
  pub content : (c : ℕ) (x : Channel) → slice_get a.channels c ≡ Some x
      → HasContent v (content_base x.dir) c x.widths (content_at a.channels row.contents c)
  pub pop : (c : ℕ) (x : Channel) → slice_get a.channels c ≡ Some x → v (numbered (codes "pop_") c ∷ []) ≡ truth (completes row c)
