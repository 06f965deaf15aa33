use Rattle.std.proofs.Common.{sym, ap, ◌∙◌}
use Rattle.std.proofs.lemmas.List.{at_drop_all}
use Rattle.machine.specs.Rules.{run}
use Rattle.machine.proofs.Running.{run_more, run_steady}
use Rattle.machine.proofs.runs.run_all.Goals as goal

pub loop-command-preserved : goal.loop-command-preserved
loop-command-preserved g c =
    run_more g.M.Machine.rule _ _ _ c.loop-command.command-index _ c.loop-command-test.true c.apply.ensures.after
    ∙ c.loop-command.invariant

pub returns : goal.returns
returns g c =
    let m = g.M.Machine in
    let cs = c.args.commands.now in
    let after = sym (at_drop_all (run m.rule (m.means c.loop-command.machine)) cs c.loop-command.command-index c.loop-command-test.false) ∙ c.loop-command.invariant in
    record { after = after; bays = ap m.rule.bays after ∙ run_steady m.rule m.steady (m.means c.args.machine.now) cs }
