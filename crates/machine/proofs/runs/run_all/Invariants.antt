use Rattle.std.proofs.Common.{◌≡◌, drop}
use Rattle.machine.specs.Rules.{run}
use Rattle.machine.proofs.runs.run_all.Given as goal

abbrev pub invariant-loop-command : goal.invariant-loop-command
invariant-loop-command g l =
    let m = g.M.Machine in
    run m.rule (m.means l.machine) (drop l.command-index l.commands) ≡ run m.rule (m.means l.initial.machine) l.commands
