use Rattle.std.proofs.Common.{◌≡◌, ◌∷◌, [], ◌++◌, true, false, sym, ap, ◌∙◌}
use Rattle.std.specs.List.{list_any}
use Rattle.std.specs.Str.{bytes_eq}
use Rattle.wave_text.proofs.Fits.{names-more, differ-more, not-differ}
use Rattle.wave_text.proofs.Keys.{texts}
use Rattle.wave_text.proofs.lawful.differ.Goals as goal

pub returns-then-is_there : goal.returns-then-is_there
returns-then-is_there c =
    let keys = texts c.loop-net.names.keys in
    let there = ap (λ n. list_any (bytes_eq n) keys) (sym c.as_slice.ensures) ∙ sym c.is_there.ensures ∙ c.if-is_there.true in (
      λ (no : false ≡ true). absurd (cc),
      λ differ. absurd (not-differ c.args.nets.now c.loop-net.net-index c.net-item.result keys c.loop-net-test.true c.net-item.is
          c.loop-net.invariant.names_are there differ),
    )

pub loop-net-preserved : goal.loop-net-preserved
loop-net-preserved c =
    let keys = texts c.loop-net.names.keys in
    let name = c.net-item.result.name in
    let none = ap (λ n. list_any (bytes_eq n) keys) (sym c.as_slice.ensures) ∙ sym c.is_there.ensures ∙ c.if-is_there.false in
    let absent = ap (λ n. list_any (bytes_eq n) keys) c.as_slice-in-loop-net.ensures ∙ none in
    record {
      names_are = names-more c.args.nets.now c.loop-net.net-index c.net-item.result keys (texts c.insert_name.new.names.keys)
          c.loop-net-test.true c.net-item.is c.loop-net.invariant.names_are
          (c.in_ok-insert_name.ensures absent ∙ ap (λ n. keys ++ n ∷ []) c.as_slice-in-loop-net.ensures);
      differ = differ-more c.args.nets.now c.loop-net.net-index c.net-item.result keys c.loop-net-test.true c.net-item.is
          c.loop-net.invariant.names_are none c.loop-net.invariant.differ;
    }
