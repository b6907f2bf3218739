use Rattle.std.proofs.Common.{◌≡◌, ℕ, List, take, nat_lt, ◌||◌, ◌&&◌, ap, ◌∙◌, arith}
use Rattle.std.proofs.lemmas.List.{take_all}
use Rattle.net_code.proofs.TallyLaws.{next_once, next_more}
use Rattle.net_code.specs.BitMap.{in_map, is_among}
use Rattle.net_drive.specs.Drive.{block_count}
use Rattle.net_drive.proofs.tally.tally_blocks.Goals as goal

pub loop-keys-init : goal.loop-keys-init
loop-keys-init c = record {
  once = λ m. c.new-tally.ensures.once m 0;
  more = λ m. c.new-tally.ensures.more m 0;
}

pub loop-keys-preserved : goal.loop-keys-preserved
loop-keys-preserved c = record {
  once = λ m. next_once (is_among m) c.args.blocks.now c.loop-keys.keys-index c.keys-item.result
      (in_map c.loop-keys.tally.once m 0) _ c.loop-keys-test.true c.keys-item.is (c.loop-keys.invariant.once m)
      (c.in_ok-add_keys.ensures.once m ∙ ap (λ (ks : List ℕ). in_map c.loop-keys.tally.once m 0 || is_among m ks) c.as_slice.ensures);
  more = λ m. next_more (is_among m) c.args.blocks.now c.loop-keys.keys-index c.keys-item.result
      (in_map c.loop-keys.tally.once m 0) (in_map c.loop-keys.tally.more m 0) _ c.loop-keys-test.true c.keys-item.is
      (c.loop-keys.invariant.once m) (c.loop-keys.invariant.more m)
      (c.in_ok-add_keys.ensures.more m ∙ ap (λ (ks : List ℕ). in_map c.loop-keys.tally.more m 0
      || (in_map c.loop-keys.tally.once m 0 && is_among m ks)) c.as_slice.ensures);
}

pub returns : goal.returns
returns c =
    let all : take c.loop-keys.keys-index c.args.blocks.now ≡ c.args.blocks.now =
    take_all c.loop-keys.keys-index c.args.blocks.now (omega (arith, c.loop-keys-test.false)) in
    record {
      once = λ m. c.loop-keys.invariant.once m ∙ ap (λ (xs : List (List ℕ)). nat_lt 0 (block_count xs m)) all;
      more = λ m. c.loop-keys.invariant.more m ∙ ap (λ (xs : List (List ℕ)). nat_lt 1 (block_count xs m)) all;
    }
