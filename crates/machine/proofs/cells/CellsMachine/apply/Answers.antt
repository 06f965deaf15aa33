use Rattle.std.proofs.Common.{◌<◌, length, rules}
use Rattle.std.proofs.lemmas.List.{map-set, get_or-map}
use Rattle.machine.proofs.cells.CellsMachine.apply.Goals as goal

pub returns-clause-after : goal.returns-clause-after
returns-clause-after g c =
    let number = g.C.Cell.number in
    let bays = c.args.self.now.cells in
    let bay = c.args.command.bay in
    let within : bay < length bays = search rules in
    let before = get_or-map number bays bay c.index-self-bay.result 0 within in
    let after = map-set number bays bay c.settle-outcome.result.1 in
    search rules
