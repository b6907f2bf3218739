-- What is kept of the lines before.
use Rattle.std.specs.Prelude.{◌≡◌, not, true, List, [], map}
use Rattle.std.specs.List.{list_any, list_all, flat_map}
use Rattle.std.specs.Option.{option_to_list}
use Rattle.vidi_lines.specs.vidi_bits.Findings.{is_nil}
use Rattle.chan_map.specs.declared.seen.Seen.{Seen}
use Rattle.chan_map.specs.declared.map_text.Entry.{Entry}
use Rattle.chan_map.specs.Follow.{is_reset, top_name, clock_name, channel_names, follow, is_named}

pub record IsSeen (s : Seen) (before : List Entry) : Type 0 where
  pub names : map (λ v. v.items) s.names.keys ≡ channel_names before
  pub top : flat_map top_name before ≡ option_to_list s.top
  pub some : s.some ≡ not (is_nil before)
  pub clock : flat_map clock_name before ≡ option_to_list s.clock
  pub reset : s.reset ≡ list_any is_reset before

-- each may follow those before it, and channels have names
pub record AreLawful (said : List Entry) : Type 0 where
  pub follows : follow [] said ≡ true
  pub named : list_all is_named said ≡ true
