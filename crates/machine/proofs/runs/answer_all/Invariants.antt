use Rattle.std.proofs.Common.{◌≡◌, ◌≤◌, ◌++◌, length, drop, vec_items, vec_len, vec_capacity}
use Rattle.machine.specs.Rules.{run, answers}
use Rattle.machine.proofs.runs.answer_all.Given as goal

abbrev pub invariant-loop-command : goal.invariant-loop-command
invariant-loop-command g l =
    let m = g.M.Machine in
    let rest = drop l.command-index l.commands in
    (vec_len l.pairs ≡ l.command-index) × (length l.commands ≤ vec_capacity l.pairs)
    × (run m.rule (m.means l.machine) rest ≡ run m.rule (m.means l.initial.machine) l.commands)
    × (vec_items l.pairs ++ answers m.rule (m.means l.machine) rest ≡ answers m.rule (m.means l.initial.machine) l.commands)
