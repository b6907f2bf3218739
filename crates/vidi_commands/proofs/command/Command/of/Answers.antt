use Rattle.std.proofs.Common.{◌≡◌, List, [], ◌∷◌, ℕ, sym, ◌∙◌, subst}
use Rattle.std.specs.Prelude.{MatchOption}
use Rattle.vidi_commands.specs.Command.{Command, IsGiven, plain}
use Rattle.vidi_commands.proofs.WordLists.{two, three, six, eight}
use Rattle.vidi_commands.proofs.command.Command.of.Goals as goal

pub returns-in-len2 : goal.returns-in-len2
returns-in-len2 c =
    let shape = two c.as_slice.result.now c.name-item.result c.part-item.result c.in-len2.len_at_least c.in-len2.len_below c.name-item.is
    c.part-item.is in
    let parts : c.as_str.result.now ∷ c.as_str-in-len2.result.now ∷ [] ≡ c.name-item.result ∷ c.part-item.result ∷ [] =
    λ i. c.as_str.ensures i ∷ c.as_str-in-len2.ensures i ∷ [] in
    let whole : c.as_str.result.now ∷ c.as_str-in-len2.result.now ∷ [] ≡ c.args.words.now = parts ∙ sym shape ∙ c.as_slice.ensures in
    subst (λ (ws : List (List ℕ)). MatchOption c.of_one.result ((k : Command) → ¬ IsGiven ws k) (λ k. IsGiven ws (plain k))) whole
    c.of_one.ensures

pub returns-in-len3 : goal.returns-in-len3
returns-in-len3 c =
    let shape = three c.as_slice.result.now c.name-item-then-this-lt4.result c.first-item.result c.second-item.result
    c.in-len3.len_at_least c.in-len3.len_below c.name-item-then-this-lt4.is c.first-item.is c.second-item.is in
    let parts : c.as_str-in-len3.result.now ∷ c.as_str-in-len3-2.result.now ∷ c.as_str-in-len3-3.result.now ∷ []
    ≡ c.name-item-then-this-lt4.result ∷ c.first-item.result ∷ c.second-item.result ∷ [] =
    λ i. c.as_str-in-len3.ensures i ∷ c.as_str-in-len3-2.ensures i ∷ c.as_str-in-len3-3.ensures i ∷ [] in
    let whole : c.as_str-in-len3.result.now ∷ c.as_str-in-len3-2.result.now ∷ c.as_str-in-len3-3.result.now ∷ [] ≡ c.args.words.now =
    parts ∙ sym shape ∙ c.as_slice.ensures in
    subst (λ (ws : List (List ℕ)). MatchOption c.of_two.result ((k : Command) → ¬ IsGiven ws k) (λ k. IsGiven ws (plain k))) whole
    c.of_two.ensures

pub returns-in-len6 : goal.returns-in-len6
returns-in-len6 c =
    let shape = six c.as_slice.result.now c.name-item-then-this-lt7.result c.design-item.result c.map-item.result c.script-item.result
    c.stalls-item.result c.trace-item.result c.in-len6.len_at_least c.in-len6.len_below c.name-item-then-this-lt7.is
    c.design-item.is c.map-item.is c.script-item.is c.stalls-item.is c.trace-item.is in
    let parts : c.as_str-in-len6.result.now ∷ c.as_str-in-len6-2.result.now ∷ c.as_str-in-len6-3.result.now
    ∷ c.as_str-in-len6-4.result.now ∷ c.as_str-in-len6-5.result.now ∷ c.as_str-in-len6-6.result.now ∷ []
    ≡ c.name-item-then-this-lt7.result ∷ c.design-item.result ∷ c.map-item.result
    ∷ c.script-item.result ∷ c.stalls-item.result ∷ c.trace-item.result ∷ [] =
    λ i. c.as_str-in-len6.ensures i ∷ c.as_str-in-len6-2.ensures i ∷ c.as_str-in-len6-3.ensures i
    ∷ c.as_str-in-len6-4.ensures i ∷ c.as_str-in-len6-5.ensures i ∷ c.as_str-in-len6-6.ensures i ∷ [] in
    let whole : c.as_str-in-len6.result.now ∷ c.as_str-in-len6-2.result.now ∷ c.as_str-in-len6-3.result.now
    ∷ c.as_str-in-len6-4.result.now ∷ c.as_str-in-len6-5.result.now ∷ c.as_str-in-len6-6.result.now ∷ [] ≡ c.args.words.now =
    parts ∙ sym shape ∙ c.as_slice.ensures in
    subst (λ (ws : List (List ℕ)). MatchOption c.of_five.result ((k : Command) → ¬ IsGiven ws k) (λ k. IsGiven ws (plain k))) whole
    c.of_five.ensures

pub returns-in-len8 : goal.returns-in-len8
returns-in-len8 c =
    let shape = eight c.as_slice.result.now c.name-item-then-this-lt9.result c.trace-item-then-this-lt9.result c.channel-item.result
    c.index-item.result c.side-item.result c.other-item.result c.other_index-item.result c.out-item.result c.in-len8.len_at_least
    c.in-len8.len_below c.name-item-then-this-lt9.is c.trace-item-then-this-lt9.is c.channel-item.is c.index-item.is c.side-item.is
    c.other-item.is c.other_index-item.is c.out-item.is in
    let parts : c.as_str-in-len8-6.result.now ∷ c.as_str-in-len8-7.result.now ∷ c.as_str-in-len8.result.now ∷ c.as_str-in-len8-2.result.now
    ∷ c.as_str-in-len8-3.result.now ∷ c.as_str-in-len8-4.result.now ∷ c.as_str-in-len8-5.result.now ∷ c.as_str-in-len8-8.result.now ∷ []
    ≡ c.name-item-then-this-lt9.result ∷ c.trace-item-then-this-lt9.result ∷ c.channel-item.result ∷ c.index-item.result
    ∷ c.side-item.result ∷ c.other-item.result ∷ c.other_index-item.result ∷ c.out-item.result ∷ [] =
    λ i. c.as_str-in-len8-6.ensures i ∷ c.as_str-in-len8-7.ensures i ∷ c.as_str-in-len8.ensures i ∷ c.as_str-in-len8-2.ensures i
    ∷ c.as_str-in-len8-3.ensures i ∷ c.as_str-in-len8-4.ensures i ∷ c.as_str-in-len8-5.ensures i ∷ c.as_str-in-len8-8.ensures i ∷ [] in
    let whole : c.as_str-in-len8-6.result.now ∷ c.as_str-in-len8-7.result.now ∷ c.as_str-in-len8.result.now ∷ c.as_str-in-len8-2.result.now
    ∷ c.as_str-in-len8-3.result.now ∷ c.as_str-in-len8-4.result.now ∷ c.as_str-in-len8-5.result.now ∷ c.as_str-in-len8-8.result.now ∷ []
    ≡ c.args.words.now = parts ∙ sym shape ∙ c.as_slice.ensures in
    subst (λ (ws : List (List ℕ)). MatchOption c.of_seven.result ((k : Command) → ¬ IsGiven ws k) (λ k. IsGiven ws (plain k))) whole
    c.of_seven.ensures
