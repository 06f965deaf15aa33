use Rattle.std.proofs.Common.{◌≡◌, drop}
use Rattle.machine.specs.Rules.{run, answers}
use Rattle.machine.proofs.Alikes.{SoFar}
use Rattle.machine.proofs.alike.answer_alike.Given as goal

abbrev pub invariant-loop-command : goal.invariant-loop-command
invariant-loop-command g l =
    let m = g.M.Machine in
    let n = g.N.Machine in
    let rest = drop l.command-index l.commands in
    (run m.rule (m.means l.one) rest ≡ run m.rule (m.means l.initial.one) l.commands)
    × (run n.rule (n.means l.other) rest ≡ run n.rule (n.means l.initial.other) l.commands)
    × SoFar l.alike (answers m.rule (m.means l.one) rest) (answers n.rule (n.means l.other) rest) (answers m.rule (m.means l.initial.one) l.commands ≡ answers n.rule (n.means l.initial.other) l.commands)
