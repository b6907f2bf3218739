-- The feed that cursors give, piece by piece.
use Rattle.std.proofs.Common.{◌≡◌, ◌≢◌, ◌⊎◌, ℕ, suc, ◌+◌, ◌-◌, ◌*◌, ◌^◌, ◌<◌, ◌≤◌, min, Bool, true, false, not, ◌&&◌, List, [], ◌∷◌, ◌++◌, Option, Some, None}
use Rattle.std.proofs.Common.{length, take, get_or, set, slice_get, inl, inr, refl, sym, ap, subst, ◌∙◌, arith, ⊎_elim, replicate}
use Rattle.std.specs.Prelude.{◌↔◌, IfSome}
use Rattle.std.specs.Int.{bit_at}
use Rattle.std.proofs.lemmas.Bool.{cases_Bool, cases_eq, cases_lt, false≢true}
use Rattle.std.proofs.lemmas.List.{length-take-le, take_all, take_more}
use Rattle.std.proofs.lemmas.Nat.{pow_pos}
use Rattle.std.proofs.lemmas.Option.{same_Some, slice_get_cases, slice_get_read, slice_get_within}
use Rattle.trace_code.specs.vidi_bits.Number.{has}
use Rattle.trace_code.specs.trace_model.declared.channel.Channel.{Channel}
use Rattle.trace_code.specs.trace_model.declared.event.Kind.{Kind}
use Rattle.trace_code.specs.trace_model.declared.event.Kind.TheVariants.{Start, End, Reset}
use Rattle.trace_code.specs.trace_model.declared.channel.Dir.{Dir}
use Rattle.trace_code.specs.trace_model.declared.channel.Dir.TheVariants.{Inward, Outward}
use Rattle.trace_code.specs.trace_model.declared.packet.Packet.{Packet}
use Rattle.trace_code.specs.trace_model.declared.trace.Trace.{Trace}
use Rattle.trace_code.specs.trace_model.Channel.{IsChannel, IsTable}
use Rattle.trace_code.specs.trace_model.Counting.{IsNth}
use Rattle.trace_code.specs.trace_model.Epoch.{epoch, resets}
use Rattle.trace_code.specs.trace_model.Packet.{content_of, count, does, widths_of, Fit, IsPacket}
use Rattle.trace_code.specs.trace_model.Row.{all_widths, content_at, replaced}
use Rattle.trace_code.proofs.trace_model_lemmas.ContentsLemmas.{content-fits, fit-length}
use Rattle.trace_code.proofs.trace_model_lemmas.CountingLemmas.{count-front, nth, nth-below, nth-count, nth-within}
use Rattle.trace_code.proofs.trace_model_lemmas.MaskLemmas.{no-bit-from-has}
use Rattle.trace_code.proofs.trace_model_lemmas.RowLemmas.{first_of, first-more, replaced-more}
use Rattle.trace_code.specs.declared.cursor.Cursor.{Cursor}
use Rattle.trace_code.specs.Counted.{counted}
use Rattle.trace_code.specs.Stands.{Stands}
use Rattle.trace_code.proofs.Beside as stood
use Rattle.run_stage.proofs.chan_replayer_lemmas.FedOffers.{named-within}
use Rattle.run_stage.proofs.run_model_lemmas.Contents.{fit-zeros, has-all}
use Rattle.run_stage.proofs.run_model_lemmas.PinLemmas.{all-at}
use Rattle.run_stage.specs.chan_replayer.declared.feed.Feed.{Feed}
use Rattle.run_stage.specs.chan_replayer.Feed.{kind_of, need_of, IsFeed, IsFeedAt, IsFeedOver}
use Rattle.replay_run.specs.declared.cursors.Cursors.{Cursors}
use Rattle.replay_run.specs.Behind.{epoch_clock, AreBehind, IsBehind, IsNext}
use Rattle.replay_run.specs.Epochs.{before_epoch}
use Rattle.replay_run.specs.Feeding.{IsBeside, IsChannelFed, IsClockAt, IsFeedBut, IsSameAt}
use Rattle.replay_run.proofs.Epochs.{clock-epoch, count-append, epoch-there, front-epoch, nth-here, nth-whole}
use Rattle.replay_run.proofs.Placing.{content-here, content-other, fit-replaced, room-at, still-below}

-- ---- a content
-- the numbers of a start fit its channel's ports
pub own-fits : (t : Trace) (k : Cursor) (j p : ℕ) (packet : Packet) → (s : Stands k t j) → IsNth (does Start k.channel) t.packets j p packet
    → Fit s.1.channel.widths (content_of t.channels packet k.channel)
own-fits t k j p packet s is =
    let lawful = all-at (IsPacket t.channels) t.packets p packet s.0.at.encoding.well_formed.packets is.at in
    content-fits t.channels packet k.channel s.1.channel lawful.contents s.1.at is.passes

own-many : (t : Trace) (k : Cursor) (j p : ℕ) (packet : Packet) → Stands k t j → IsNth (does Start k.channel) t.packets j p packet
    → length (content_of t.channels packet k.channel) ≡ length (widths_of (slice_get t.channels k.channel))
own-many t k j p packet s is =
    sym (fit-length s.1.channel.widths (content_of t.channels packet k.channel) (own-fits t k j p packet s is))
    ∙ sym (ap (λ (o : Option Channel). length (widths_of o)) s.1.at)

pub content-more : (t : Trace) (k : Cursor) (j p : ℕ) (packet : Packet) (contents now new : List ℕ) (at ports port y : ℕ) → Stands k t j
    → ports ≡ length (widths_of (slice_get t.channels k.channel)) → IsNth (does Start k.channel) t.packets j p packet → port < ports
    → at + ports ≤ length contents → y ≡ get_or (content_of t.channels packet k.channel) port 0
    → now ≡ replaced contents at (take port (content_of t.channels packet k.channel)) → new ≡ set now (at + port) y
    → new ≡ replaced contents at (take (port + 1) (content_of t.channels packet k.channel))
content-more t k j p packet contents now new at ports port y s many is l room ey n w =
    let content = content_of t.channels packet k.channel in
    let whole = own-many t k j p packet s is in
    let long : length (take port content) ≡ port = length-take-le port content (omega (arith, whole, many, l)) in
    replaced-more contents (take port content) now new at y (omega (arith, long, l, room)) n
    (w ∙ ap (λ i. set now (at + i) y) (sym long))
    ∙ ap (λ z. replaced contents at (take port content ++ z ∷ [])) ey
    ∙ ap (replaced contents at) (sym (take_more content port 0 (omega (arith, whole, many, l))))

pub content-whole : (t : Trace) (k : Cursor) (j p : ℕ) (packet : Packet) (contents now : List ℕ) (at ports port : ℕ) → Stands k t j
    → ports ≡ length (widths_of (slice_get t.channels k.channel)) → IsNth (does Start k.channel) t.packets j p packet → ports ≤ port
    → now ≡ replaced contents at (take port (content_of t.channels packet k.channel))
    → now ≡ replaced contents at (content_of t.channels packet k.channel)
content-whole t k j p packet contents now at ports port s many is l n =
    let whole = own-many t k j p packet s is in
    n ∙ ap (replaced contents at) (take_all port (content_of t.channels packet k.channel) (omega (arith, whole, many, l)))

-- ---- a channel's part of the feed
-- where the cursor stands, as it says itself: event n of its epoch, in the whole trace
pub next-stands : (t : Trace) (e : ℕ) (kind : Kind) (c n : ℕ) (k : Cursor) → IsNext t e kind c n k
    → Stands k t (count kind c (before_epoch e t.packets) + n)
next-stands t e kind c n k is =
    let l = is.there in
    let here : min n (count kind c (epoch e t.packets)) ≡ n = omega (arith, l) in
    subst (λ m. Stands k t (count kind c (before_epoch e t.packets) + m)) here is.behind.stands

own-nth : (t : Trace) (e : ℕ) (kind : Kind) (c n p : ℕ) (k : Cursor) (packet : Packet) → IsNext t e kind c n k
    → IsNth (does kind c) (epoch e t.packets) n p packet
    → IsNth (does k.kind k.channel) t.packets (count kind c (before_epoch e t.packets) + n) (length (before_epoch e t.packets) + p) packet
own-nth t e kind c n p k packet is at =
    let j = count kind c (before_epoch e t.packets) + n in
    let q = length (before_epoch e t.packets) + p in
    subst (λ (i : Kind). IsNth (does i k.channel) t.packets j q packet) (sym is.behind.over.0)
    (subst (λ d. IsNth (does kind d) t.packets j q packet) (sym is.behind.over.1) (nth-whole kind c e t.packets n p packet at))

-- it isn't at the end
pub next-within : (t : Trace) (e : ℕ) (kind : Kind) (c n : ℕ) (k : Cursor) → IsNext t e kind c n k
    → count kind c (before_epoch e t.packets) + n < count k.kind k.channel t.packets
next-within t e kind c n k is =
    let found = nth (does kind c) (epoch e t.packets) n is.there in
    nth-below (does k.kind k.channel) t.packets (count kind c (before_epoch e t.packets) + n) (length (before_epoch e t.packets) + found.place) found.item
    (own-nth t e kind c n found.place k found.item is found.is)

module _ (channels : List Channel) (t : Trace) (e : ℕ) (kind : Kind) (c n : ℕ) (k : Cursor) (new : Feed)
    (is : IsNext t e kind c n k) (more : has new.more c ≡ true)
    (need : (j p : ℕ) (packet : Packet) → Stands k t j → IsNth (does k.kind k.channel) t.packets j p packet
    → (d : ℕ) → d < length channels → need_of (length channels) new c d ≡ epoch_clock t.packets p d) where
  pub fed-at : ((p : ℕ) (packet : Packet) → IsNth (does kind c) (epoch e t.packets) n p packet → kind ≡ Start
      → content_at channels new.contents c ≡ content_of channels packet c) → IsFeedAt channels (epoch e t.packets) kind c n new
  fed-at content = record {
    more = (λ e. is.there, λ l. more);
    need = λ p packet at d l.
        need (count kind c (before_epoch e t.packets) + n) (length (before_epoch e t.packets) + p) packet (next-stands t e kind c n k is)
        (own-nth t e kind c n p k packet is at) d l
        ∙ clock-epoch e t.packets p d (epoch-there kind c e n t.packets is.there)
        (let w = nth-within (does kind c) (epoch e t.packets) n p packet at in omega (arith, w));
    content = content;
  }

pub fed-end : (channels : List Channel) (t : Trace) (e c n : ℕ) (k : Cursor) (new : Feed)
    → IsNext t e End c n k → has new.more c ≡ true
    → ((j p : ℕ) (packet : Packet) → Stands k t j → IsNth (does k.kind k.channel) t.packets j p packet
    → (d : ℕ) → d < length channels → need_of (length channels) new c d ≡ epoch_clock t.packets p d)
    → IsFeedAt channels (epoch e t.packets) End c n new
fed-end channels t e c n k new is more need = fed-at channels t e End c n k new is more need (λ p packet at same. absurd (End≢Start same))
  where
    End≢Start : End ≡ Start → ⊥
    End≢Start e = cc

-- where there is no event, and the mask says so
pub fed-none : (channels : List Channel) (packets : List Packet) (kind : Kind) (c n mask : ℕ) (old : Feed) (r : Bool) → has mask c ≡ false → r ≡ false
    → ((r ≡ true) ↔ (n < count kind c packets))
    → IsFeedAt channels packets kind c n (record { more = mask; needs = old.needs; contents = old.contents })
fed-none channels packets kind c n mask old r down f says = record {
  more = (λ up. absurd (false≢true (sym down ∙ up)), λ l. absurd (none l));
  need = λ p packet at d l. absurd (none (nth-below (does kind c) packets n p packet at));
  content = λ p packet at e. absurd (none (nth-below (does kind c) packets n p packet at));
}
  where
    none : n < count kind c packets → ⊥
    none l = false≢true (sym f ∙ says.1 l)

pub next-of : (t : Trace) (e : ℕ) (kind other : Kind) (c n : ℕ) (k : Cursor) (r : Bool) → IsBehind t e kind c n k
    → ((r ≡ true) ↔ (n < count kind c (epoch e t.packets))) → r ≡ true → kind ≡ other → IsNext t e other c n k
next-of t e kind other c n k r is says up same =
    subst (λ (i : Kind). IsNext t e i c n k) same (record { behind = is; there = says.0 up })

-- a channel alone is said to have none
pub unfed-over : (channels : List Channel) (c mask : ℕ) (old : Feed) → c < length channels → ((d : ℕ) → d ≢ c → has mask d ≡ has old.more d)
    → IsFeedOver channels old → IsFeedOver channels (record { more = mask; needs = old.needs; contents = old.contents })
unfed-over channels c mask old l others over = record {
  more = still-below old.more mask c (length channels) l over.more others;
  needs = over.needs;
  contents = over.contents;
}

-- what was written of a channel's content
pub record IsWrittenAt (channels : List Channel) (c at : ℕ) (old new : List ℕ) : Type 0 where
  pub channel : Channel
  pub there : slice_get channels c ≡ Some channel
  pub numbers : List ℕ
  pub fit : Fit channel.widths numbers
  pub new_is : new ≡ replaced old at numbers

-- `write_content` says so of each trace for which the cursor stands
abbrev pub Writes : Cursor → ℕ → ℕ → List ℕ → List ℕ → Type 0
Writes k ports at old new = (t : Trace) (j p : ℕ) (packet : Packet) → Stands k t j
    → ports ≡ length (widths_of (slice_get t.channels k.channel)) → IsNth (does Start k.channel) t.packets j p packet
    → new ≡ replaced old at (content_of t.channels packet k.channel)

own-place : (channels : List Channel) (t : Trace) (e c n : ℕ) (k : Cursor) (x : Channel) → t.channels ≡ channels → IsNext t e Start c n k
    → slice_get channels c ≡ Some x → slice_get t.channels k.channel ≡ Some x
own-place channels t e c n k x same is x-there =
    ap (λ (cs : List Channel). slice_get cs k.channel) same ∙ ap (slice_get channels) is.behind.over.1 ∙ x-there

pub own-ports : (channels : List Channel) (t : Trace) (e c n ports : ℕ) (k : Cursor) (x : Channel) → t.channels ≡ channels
    → IsNext t e Start c n k → slice_get channels c ≡ Some x → ports ≡ length x.widths
    → ports ≡ length (widths_of (slice_get t.channels k.channel))
own-ports channels t e c n ports k x same is x-there ports-are =
    ports-are ∙ sym (ap (λ (o : Option Channel). length (widths_of o)) (own-place channels t e c n k x same is x-there))

module _ (channels : List Channel) (t : Trace) (e c n at ports : ℕ) (k : Cursor) (x : Channel) (old new : List ℕ) (same : t.channels ≡ channels)
    (is : IsNext t e Start c n k) (x-there : slice_get channels c ≡ Some x) (ports-are : ports ≡ length x.widths)
    (writes : Writes k ports at old new) where
  written-as : (p : ℕ) (packet : Packet) → IsNth (does Start c) (epoch e t.packets) n p packet
      → (Fit x.widths (content_of channels packet c)) × (new ≡ replaced old at (content_of channels packet c))
  written-as p packet nth-is =
      let j = count Start c (before_epoch e t.packets) + n in
      let q = length (before_epoch e t.packets) + p in
      let st = next-stands t e Start c n k is in
      let starts : IsNth (does Start k.channel) t.packets j q packet =
      subst (λ (i : Kind). IsNth (does i k.channel) t.packets j q packet) is.behind.over.0 (own-nth t e Start c n p k packet is nth-is) in
      let content : content_of t.channels packet k.channel ≡ content_of channels packet c =
      ap (λ (cs : List Channel). content_of cs packet k.channel) same ∙ ap (content_of channels packet) is.behind.over.1 in
      let own : st.1.channel ≡ x = same_Some st.1.channel x (sym st.1.at ∙ own-place channels t e c n k x same is x-there) in (
        subst (Fit x.widths) content
            (subst (λ (y : Channel). Fit y.widths (content_of t.channels packet k.channel)) own (own-fits t k j q packet st starts)),
        writes t j q packet st (own-ports channels t e c n ports k x same is x-there ports-are) starts ∙ ap (replaced old at) content,
      )

  pub written-at : IsWrittenAt channels c at old new
  written-at =
      let found = nth (does Start c) (epoch e t.packets) n is.there in
      let w = written-as found.place found.item found.is in
      record { channel = x; there = x-there; numbers = content_of channels found.item c; fit = w.0; new_is = w.1 }

  pub content-fed : length old ≡ length (all_widths channels) → at ≡ first_of channels c → (p : ℕ) (packet : Packet)
      → IsNth (does Start c) (epoch e t.packets) n p packet → content_at channels new c ≡ content_of channels packet c
  content-fed long place p packet nth-is =
      let w = written-as p packet nth-is in
      ap (λ xs. content_at channels xs c) w.1
      ∙ content-here channels old (content_of channels packet c) c at x long x-there place (sym (fit-length x.widths (content_of channels packet c) w.0))

-- what is written of one channel leaves the others
pub written-other : (channels : List Channel) (c at d : ℕ) (old new : List ℕ) → length old ≡ length (all_widths channels)
    → at ≡ first_of channels c → IsWrittenAt channels c at old new → d ≢ c → content_at channels new d ≡ content_at channels old d
written-other channels c at d old new long place w ne =
    ap (λ xs. content_at channels xs d) w.new_is
    ∙ content-other channels old w.numbers c at d w.channel long w.there place (sym (fit-length w.channel.widths w.numbers w.fit)) ne

pub written-over : (channels : List Channel) (c at : ℕ) (old new : List ℕ) → Fit (all_widths channels) old → at ≡ first_of channels c
    → IsWrittenAt channels c at old new → Fit (all_widths channels) new
written-over channels c at old new fit place w =
    subst (Fit (all_widths channels)) (sym w.new_is) (fit-replaced channels old w.numbers c at w.channel fit w.there place w.fit)

-- ---- one channel
-- `feed_event` says so, of n channels; its clock is right for the traces of which `right` holds
pub record IsEventFed (right : Trace → Type 0) (k : Cursor) (n c : ℕ) (old new : Feed) : Type 0 where
  pub more : has new.more c ≡ true
  pub need : (t : Trace) (j p : ℕ) (packet : Packet) → right t → Stands k t j → n ≡ length t.channels → IsNth (does k.kind k.channel) t.packets j p packet
      → (d : ℕ) → d < n → need_of n new c d ≡ epoch_clock t.packets p d
  pub other_more : (d : ℕ) → d ≢ c → has new.more d ≡ has old.more d
  pub other_needs : (d e : ℕ) → d ≢ c → e < n → need_of n new d e ≡ need_of n old d e
  pub needs : length new.needs ≡ n * n
  pub contents : new.contents ≡ old.contents

module _ (right : Trace → Type 0) (channels : List Channel) (k : Cursor) (n c : ℕ) (old mid : Feed) (many : n ≡ length channels)
    (fed : IsEventFed right k n c old mid) where
  own : IsEventFed right k (length channels) c old mid
  own = subst (λ m. IsEventFed right k m c old mid) many fed

  pub event-others : (d : ℕ) → d ≢ c → IsSameAt channels d old mid
  event-others d ne = record {
    more = own.other_more d ne;
    need = λ e l. own.other_needs d e ne l;
    content = ap (λ xs. content_at channels xs d) own.contents;
  }

  pub event-over : c < length channels → IsFeedOver channels old → IsFeedOver channels mid
  event-over l over = record {
    more = still-below old.more mid.more c (length channels) l over.more own.other_more;
    needs = own.needs;
    contents = subst (Fit (all_widths channels)) (sym own.contents) over.contents;
  }

  need-fed : (t : Trace) → right t → t.channels ≡ channels → (j p : ℕ) (packet : Packet) → Stands k t j → IsNth (does k.kind k.channel) t.packets j p packet
      → (d : ℕ) → d < length channels → need_of (length channels) mid c d ≡ epoch_clock t.packets p d
  need-fed t is-right same j p packet st nth-is d l = own.need t j p packet is-right st (sym (ap length same)) nth-is d l

  pub end-here : (t : Trace) (e i : ℕ) → right t → IsNext t e End c i k → t.channels ≡ channels → IsFeedAt channels (epoch e t.packets) End c i mid
  end-here t e i is-right is same = fed-end channels t e c i k mid is own.more (need-fed t is-right same)

  -- there is a start, whose content is written from place `at` on
  module _ (at ports : ℕ) (x : Channel) (new : Feed) (over : IsFeedOver channels old) (place : at ≡ first_of channels c)
      (x-there : slice_get channels c ≡ Some x) (ports-are : ports ≡ length x.widths) (more-same : new.more ≡ mid.more)
      (needs-same : new.needs ≡ mid.needs) (writes : Writes k ports at mid.contents new.contents) where
    long : length mid.contents ≡ length (all_widths channels)
    long = ap length own.contents ∙ sym (fit-length (all_widths channels) old.contents over.contents)

    -- what was written, as a trace tells for which the cursor stands
    content-written : (t : Trace) (e i : ℕ) → IsNext t e Start c i k → t.channels ≡ channels → IsWrittenAt channels c at mid.contents new.contents
    content-written t e i is same = written-at channels t e c i at ports k x mid.contents new.contents same is x-there ports-are writes

    pub start-over : (t : Trace) (e i : ℕ) → IsNext t e Start c i k → t.channels ≡ channels → IsFeedOver channels new
    start-over t e i is same =
        let was = event-over (slice_get_within channels c x x-there) over in
        record {
          more = subst (λ m. m < 2 ^ length channels) (sym more-same) was.more;
          needs = ap length needs-same ∙ was.needs;
          contents = written-over channels c at mid.contents new.contents was.contents place (content-written t e i is same);
        }

    pub start-others : (t : Trace) (e i : ℕ) → IsNext t e Start c i k → t.channels ≡ channels → (d : ℕ) → d ≢ c → IsSameAt channels d old new
    start-others t e i is same d ne =
        let was = event-others d ne in
        record {
          more = ap (λ m. has m d) more-same ∙ was.more;
          need = λ e l. ap (λ xs. get_or xs (length channels * d + e) 0) needs-same ∙ was.need e l;
          content = written-other channels c at d mid.contents new.contents long place (content-written t e i is same) ne ∙ was.content;
        }

    pub start-here : (t : Trace) (e i : ℕ) → right t → IsNext t e Start c i k → t.channels ≡ channels
        → IsFeedAt channels (epoch e t.packets) Start c i new
    start-here t e i is-right is same =
        fed-at channels t e Start c i k new is (ap (λ m. has m c) more-same ∙ own.more)
        (λ j p packet st nth-is d l. ap (λ xs. get_or xs (length channels * c + d) 0) needs-same ∙ need-fed t is-right same j p packet st nth-is d l)
        (λ p packet nth-is start.
        content-fed channels t e c i at ports k x mid.contents new.contents same is x-there ports-are writes long place p packet nth-is)

-- there is room for a start's content
pub start-room : (channels : List Channel) (c at ports : ℕ) (x : Channel) (old contents : List ℕ) → Fit (all_widths channels) old
    → contents ≡ old → at ≡ first_of channels c → slice_get channels c ≡ Some x → ports ≡ length x.widths → at + ports ≤ length contents
start-room channels c at ports x old contents fit same place x-there ports-are =
    let long = fit-length (all_widths channels) old fit in
    let e = ap length same in
    let room = room-at channels contents c x (omega (arith, long, e)) x-there in omega (arith, room, place, ports-are)

-- ---- the feed of all channels
pub fed-same : (channels : List Channel) (packets : List Packet) (kind : Kind) (c n : ℕ) (old new : Feed) → IsSameAt channels c old new
    → IsFeedAt channels packets kind c n old → IsFeedAt channels packets kind c n new
fed-same channels packets kind c n old new same is = record {
  more = (λ e. is.more.0 (sym same.more ∙ e), λ l. same.more ∙ is.more.1 l);
  need = λ p packet at d l. same.need d l ∙ is.need p packet at d l;
  content = λ p packet at e. same.content ∙ is.content p packet at e;
}

-- one channel more is fed
pub fed-more : (channels : List Channel) (packets : List Packet) (have : ℕ → ℕ) (left new_left c : ℕ) (old new : Feed)
    → ((d : ℕ) → (d ≢ c) ⊎ (has left d ≡ false) → IsSameAt channels d old new) → (has left c ≡ true → IsChannelFed channels packets have c new)
    → ((d : ℕ) → d ≢ c → has new_left d ≡ has left d) → IsFeedBut left channels packets have old → IsFeedBut new_left channels packets have new
fed-more channels packets have left new_left c old new others here same so_far d down y at = ⊎_elim
    (λ (e : d ≡ c). ⊎_elim
    (λ (up : has left d ≡ true). subst (λ i. IsChannelFed channels packets have i new) (sym e) (here (ap (has left) (sym e) ∙ up)) y at)
    (λ (none : has left d ≡ false). fed-same channels packets (kind_of y.dir) d (have d) old new (others d (inr none)) (so_far d none y at))
    (cases_Bool (has left d)))
    (λ (ne : d ≡ c → ⊥). fed-same channels packets (kind_of y.dir) d (have d) old new (others d (inl ne))
    (so_far d (sym (same d ne) ∙ down) y at))
    (cases_eq d c)

-- ---- a channel whose next event is in the same packet
-- the events that replayers control are no resets
pub no-reset : (dir : Dir) → kind_of dir ≢ Reset
no-reset Inward e = cc
no-reset Outward e = cc

-- of an epoch's packet the cursor's event is one of the epoch
own-below : (t : Trace) (e : ℕ) (kind : Kind) (c n p : ℕ) (packet : Packet)
    → IsNth (does kind c) t.packets (count kind c (before_epoch e t.packets) + n) (length (before_epoch e t.packets) + p) packet
    → p < length (epoch e t.packets) → n < count kind c (epoch e t.packets)
own-below t e kind c n p packet is l =
    let bef = before_epoch e t.packets in
    let a = nth-count (does kind c) t.packets (count kind c bef + n) (length bef + p) packet is in
    let on : length bef + suc p ≡ suc (length bef + p) = omega arith in
    let f = ap (λ i. count kind c (take i t.packets)) (sym on) ∙ ap (count kind c) (front-epoch e t.packets (suc p) (omega (arith, l)))
    ∙ count-append (does kind c) bef (take (suc p) (epoch e t.packets)) in
    let m = count-front (does kind c) (epoch e t.packets) (suc p) in
    omega (arith, a, f, m)

pub beside-is : (t : Trace) (e : ℕ) (have : ℕ → ℕ) (b : ℕ) (kind : Kind) (x : Channel) (k o : Cursor) → slice_get t.channels b ≡ Some x
    → kind ≡ kind_of x.dir → IsBehind t e kind b (have b) o
    → ((i j p : ℕ) (packet : Packet) → Stands k t i → Stands o t j → IsNth (does k.kind k.channel) t.packets i p packet
    → IsNth (does o.kind o.channel) t.packets j p packet)
    → IsBeside t e have k b
beside-is t e have b kind x k o there kind-is is says y at i p packet st nth-is within =
    let bef = before_epoch e t.packets in
    let m = min (have b) (count kind b (epoch e t.packets)) in
    let too = says i (count kind b bef + m) (length bef + p) packet st is.stands nth-is in
    let own : IsNth (does kind b) t.packets (count kind b bef + m) (length bef + p) packet =
    subst (λ (a : Kind). IsNth (does a b) t.packets (count kind b bef + m) (length bef + p) packet) is.over.0
    (subst (λ a. IsNth (does o.kind a) t.packets (count kind b bef + m) (length bef + p) packet) is.over.1 too) in
    let l = own-below t e kind b m p packet own within in
    let n : m ≡ have b = omega (arith, l) in
    let here = nth-here kind b e t.packets m (length bef + p) packet own l in
    let w = here.at in
    let p-is : here.place ≡ p = omega (arith, w) in
    let same : x ≡ y = same_Some x y (sym there ∙ at) in
    subst (λ (a : Kind). IsNth (does a b) (epoch e t.packets) (have b) p packet) (kind-is ∙ ap (λ (z : Channel). kind_of z.dir) same)
    (subst (λ a. IsNth (does kind b) (epoch e t.packets) a p packet) n
    (subst (λ q. IsNth (does kind b) (epoch e t.packets) m q packet) p-is here.is))

-- wherever it is said to stand, it stands at its event
one-stand : (t : Trace) (k : Cursor) (i j p : ℕ) (packet : Packet) → Stands k t i → Stands k t j → IsNth (does k.kind k.channel) t.packets i p packet
    → IsNth (does k.kind k.channel) t.packets j p packet
one-stand t k i j p packet st too is = stood.beside t k.kind k.kind k.channel k.channel i j k.head.sizes.items k.rest.now (counted k.clock)
    k.head.sizes.items k.rest.now (counted k.clock) st.0 too.0 p packet is refl

-- its clock is that of the event at which the cursor stands
pub clock-beside : (channels : List Channel) (t : Trace) (e : ℕ) (have : ℕ → ℕ) (kind : Kind) (c n b : ℕ) (feed : Feed) (k : Cursor)
    → t.channels ≡ channels → b < length channels → IsNext t e kind c n k → IsBeside t e have k b
    → IsChannelFed channels (epoch e t.packets) have b feed → IsClockAt t k (length channels) feed.needs b
clock-beside channels t e have kind c n b feed k same l next is fed j p packet st nth-is d m =
    let bef = before_epoch e t.packets in
    let i = count kind c bef + n in
    let own : IsNth (does k.kind k.channel) t.packets i p packet = one-stand t k j i p packet st (next-stands t e kind c n k next) nth-is in
    let plain : IsNth (does kind c) t.packets i p packet =
    subst (λ (a : Kind). IsNth (does a c) t.packets i p packet) next.behind.over.0
    (subst (λ a. IsNth (does k.kind a) t.packets i p packet) next.behind.over.1 own) in
    let here = nth-here kind c e t.packets n p packet plain next.there in
    let w = here.within in
    let moved : IsNth (does k.kind k.channel) t.packets j (length bef + here.place) packet =
    subst (λ q. IsNth (does k.kind k.channel) t.packets j q packet) here.at nth-is in
    ⊎_elim
    (λ (h : (x : Channel) × (b < length channels) × (slice_get channels b ≡ Some x) × (get_or channels b x ≡ x)).
    (fed h.0 h.2).need here.place packet
    (is h.0 (ap (λ (cs : List Channel). slice_get cs b) same ∙ h.2) j here.place packet st moved here.within) d m
    ∙ sym (clock-epoch e t.packets here.place d (epoch-there kind c e n t.packets next.there) (omega (arith, w)))
    ∙ ap (λ q. epoch_clock t.packets q d) (sym here.at))
    (λ (h : (length channels ≤ b) × (slice_get channels b ≡ None)). absurd (let past = h.0 in omega (arith, past, l)))
    (slice_get_cases channels b).1

-- nothing is fed where the channel isn't named
pub same-at : (channels : List Channel) (c : ℕ) (feed : Feed) → IsSameAt channels c feed feed
same-at channels c feed = record { more = refl; need = λ d l. refl; content = refl }

pub not-own : (which c d : ℕ) → has which c ≡ true → (d ≢ c) ⊎ (has which d ≡ false) → d ≢ c
not-own which c d up side e = ⊎_elim
    (λ (ne : d ≢ c). ne e)
    (λ (down : has which d ≡ false). false≢true (sym down ∙ ap (has which) e ∙ up))
    side

pub fed-all : (channels : List Channel) (packets : List Packet) (have : ℕ → ℕ) (left c : ℕ) (feed : Feed) → length channels ≤ c
    → ((d : ℕ) → d < c → has left d ≡ false) → IsFeedBut left channels packets have feed → IsFeed channels packets have feed
fed-all channels packets have left c feed l none so_far d x at =
    so_far d (none d (let w = slice_get_within channels d x at in omega (arith, w, l))) x at

-- the mask of all
pub but-all : (channels : List Channel) (packets : List Packet) (have : ℕ → ℕ) (feed : Feed) → length channels ≤ 128
    → IsFeedBut (2 ^ 128 - 1) channels packets have feed
but-all channels packets have feed few d down x at =
    absurd (false≢true (sym down ∙ has-all 128 d (let w = slice_get_within channels d x at in omega (arith, w, few))))

-- the channels that don't complete await the same event
pub but-next : (channels : List Channel) (packets : List Packet) (have : ℕ → ℕ) (ends : ℕ) (feed : Feed) → IsFeed channels packets have feed
    → IsFeedBut ends channels packets (λ c. have c + bit_at ends c) feed
but-next channels packets have ends feed is d down x at =
    let e : have d ≡ have d + bit_at ends d = (let z = no-bit-from-has ends d down in omega (arith, z)) in
    subst (λ n. IsFeedAt channels packets (kind_of x.dir) d n feed) e (is d x at)

-- fewer are left
pub none-left : (left new c : ℕ) → has new c ≡ false → ((d : ℕ) → d ≢ c → has new d ≡ has left d) → ((d : ℕ) → d < c → has left d ≡ false)
    → (d : ℕ) → d < c + 1 → has new d ≡ false
none-left left new c own others below d l = ⊎_elim
    (λ (e : d ≡ c). ap (has new) e ∙ own)
    (λ (ne : d ≡ c → ⊥). others d ne ∙ below d (omega (arith, l, ne)))
    (cases_eq d c)

pub less-without : (left rest b : ℕ) (together : Bool) → rest ≤ left → has left b ≡ true → has rest b ≡ (has left b && not together) → together ≡ true
    → rest < left
less-without left rest b together most up is t = ⊎_elim
    (λ (l : rest < left). l)
    (λ (l : left ≤ rest). absurd (false≢true (sym (is ∙ ap (λ q. has left b && not q) t ∙ and-none (has left b)) ∙ ap (λ m. has m b)
    (let e : rest ≡ left = omega (arith, l, most) in e) ∙ up)))
    (cases_lt rest left)
  where
    and-none : (p : Bool) → (p && false) ≡ false
    and-none true = refl
    and-none false = refl

pub within-without : (p q r : Bool) → r ≡ (p && not q) → r ≡ true → p ≡ true
within-without true q r is up = refl
within-without false q r is up = absurd (false≢true (sym is ∙ up))

pub not-without : (p q r : Bool) → r ≡ (p && not q) → r ≡ true → q ≡ false
not-without p false r is up = refl
not-without true true r is up = absurd (false≢true (sym is ∙ up))
not-without false true r is up = absurd (false≢true (sym is ∙ up))

-- ---- places
pub place-more : (channels : List Channel) (c at ports : ℕ) (x : Channel) → c < length channels → x ≡ get_or channels c x
    → ports ≡ length x.widths → at ≡ first_of channels c → at + ports ≡ first_of channels (c + 1)
place-more channels c at ports x l ex many place = let m = first-more channels c x l ex in omega (arith, m, many, place)

pub ports-few : (channels : List Channel) (c ports : ℕ) (x : Channel) → IsTable channels → c < length channels → x ≡ get_or channels c x
    → ports ≡ length x.widths → ports ≤ 16
ports-few channels c ports x table l ex many =
    let one = all-at IsChannel channels c x table.each (slice_get_read channels (length channels) c x refl l ex) in
    let p = one.ports in omega (arith, p, many)

pub zero-feed : (channels : List Channel) (n : ℕ) (needs contents : List ℕ) → n ≡ length channels → length needs ≡ n * n
    → contents ≡ replicate (length (all_widths channels)) 0
    → IsFeedOver channels (record { more = 0; needs = needs; contents = contents })
zero-feed channels n needs contents many long places = record {
  more = pow_pos (length channels);
  needs = long ∙ ap (λ k. k * k) many;
  contents = subst (Fit (all_widths channels)) (sym places) (fit-zeros (all_widths channels));
}

-- ---- the channel whose clock is shared
-- `fed` names the channels that have a next event and are fed
pub beside-there : (more left fed n : ℕ) (o : Option ℕ) → more < 2 ^ n → ((c : ℕ) → has fed c ≡ (has more c && not (has left c)))
    → IfSome o (λ b. has fed b ≡ true) → IfSome o (λ b. b < n)
beside-there more left fed n None small each is = tt
beside-there more left fed n (Some b) small each is = named-within more n b small (within-without (has more b) (has left b) (has fed b) (each b) is)

pub clocks-beside : (channels : List Channel) (t : Trace) (have : ℕ → ℕ) (more left fed : ℕ) (feed : Feed) (cursors : Cursors) (kind : Kind) (c n : ℕ)
    (k : Cursor) (o : Option ℕ) → t.channels ≡ channels → more < 2 ^ length channels → ((c : ℕ) → has fed c ≡ (has more c && not (has left c)))
    → IsFeedBut left channels (epoch cursors.epoch t.packets) have feed → IfSome o (λ b. has fed b ≡ true)
    → IfSome o (λ b. (u : Trace) (h : ℕ → ℕ) → AreBehind u h cursors → u.channels ≡ channels → IsBeside u cursors.epoch h k b)
    → AreBehind t have cursors → IsNext t cursors.epoch kind c n k → IfSome o (IsClockAt t k (length channels) feed.needs)
clocks-beside channels t have more left fed feed cursors kind c n k None same small each but is beside are next = tt
clocks-beside channels t have more left fed feed cursors kind c n k (Some b) same small each but is beside are next =
    let within = named-within more (length channels) b small (within-without (has more b) (has left b) (has fed b) (each b) is) in
    clock-beside channels t cursors.epoch have kind c n b feed k same within next (beside t have are same)
    (but b (not-without (has more b) (has left b) (has fed b) (each b) is))
