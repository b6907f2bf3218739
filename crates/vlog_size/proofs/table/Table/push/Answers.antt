use Rattle.std.proofs.Common.{◌≡◌, ◌∙◌, sym, ap, is_some, true, false}
use Rattle.std.specs.Map.{lookup}
use Rattle.vlog_size.proofs.Tables.{is_name, pushed, kept, not_there}
use Rattle.vlog_size.proofs.table.Table.push.Goals as goal

pub returns-then-contains_key-clause-ok : goal.returns-then-contains_key-clause-ok
returns-then-contains_key-clause-ok g c =
    let es = c.self.inside.entries.entries in
    let there : is_some (lookup (is_name c.args.name) es) ≡ true =
    ap (λ n. is_some (lookup (is_name n) es)) (sym c.as_slice.ensures) ∙ (sym c.contains_key.ensures ∙ c.if-contains_key.true) in
    rw (← c.self.view_is) (kept es c.args.name c.args.value there)

pub returns-clause-ok : goal.returns-clause-ok
returns-clause-ok g c =
    let es = c.self.inside.entries.entries in
    let absent : is_some (lookup (is_name c.args.name) es) ≡ false =
    ap (λ n. is_some (lookup (is_name n) es)) (sym c.as_slice.ensures) ∙ (sym c.contains_key.ensures ∙ c.if-contains_key.false) in
    rw (← c.self.view_is)
    (pushed es c.insert.new.self.entries c.into_vec.result c.args.name c.args.value c.into_vec.ensures
    (not_there (lookup (is_name c.args.name) es) absent) c.in_ok-insert.ensures.entries)
