use Rattle.std.proofs.Common.{ℕ, ◌+◌, List, false, get_or, take, ap, subst, sym, ◌∙◌}
use Rattle.std.proofs.lemmas.List.{get_or_default}
use Rattle.text_page.proofs.Items.{more_on}
use Rattle.axi_burst.specs.declared.axi.Burst.{Burst}
use Rattle.axi_burst.specs.Text.{burst_line, numbered_line}
use Rattle.axi_burst.proofs.LineLaws.{number-there, reads-more, text-done, writes-more}
use Rattle.axi_burst.proofs.text.print_bursts.Goals as goal

pub loop-burst-preserved : goal.loop-burst-preserved
loop-burst-preserved g c =
    let bursts = c.args.bursts.now in
    let i = c.loop-burst.burst-index in
    let l = c.loop-burst-test.true in
    let none : Burst = record { write = false; id = 0; addr = 0; beats = 0; done = false } in
    let b : Burst = get_or bursts i none in
    let number = c.number_of.ensures ∙ number-there (take i bursts) b.write c.loop-burst.writes c.loop-burst.reads c.loop-burst.invariant.writes
    c.loop-burst.invariant.reads in
    let line = subst (λ (n : ℕ). g.P.Page.went c.loop-burst.page c.print_burst.new.page (burst_line n b)) number c.print_burst.ensures in
    record {
      writes = ap (λ n. c.loop-burst.writes + n) c.from-writes.ensures ∙ writes-more bursts i none l c.loop-burst.writes c.loop-burst.invariant.writes;
      reads = ap (λ n. c.loop-burst.reads + n) c.from-reads.ensures ∙ reads-more bursts i none l c.loop-burst.reads c.loop-burst.invariant.reads;
      went = subst (λ (x : List ℕ). g.P.Page.went c.args.page.now c.print_burst.new.page x)
          (more_on (numbered_line bursts) bursts i b l (sym (get_or_default bursts i b none l)))
          (g.met.P.Page.onward _ _ _ _ _ c.loop-burst.invariant.went line);
    }

pub returns : goal.returns
returns g c =
    subst (λ (x : List ℕ). g.P.Page.went c.args.page.now c.print_counts.new.page x)
    (text-done c.args.bursts.now c.loop-burst.burst-index c.loop-burst.writes c.loop-burst.reads c.loop-burst-test.false
    c.loop-burst.invariant.writes c.loop-burst.invariant.reads)
    (g.met.P.Page.onward _ _ _ _ _ c.loop-burst.invariant.went c.print_counts.ensures)
