use Rattle.std.proofs.Common.{sym, ap, ◌∙◌}
use Rattle.fitted.specs.Makes.{new_meaning}
use Rattle.cabinets.specs.Makes.{makes}
use Rattle.cabinets.specs.New.{start_of}
use Rattle.cabinets.proofs.Seating.{first_make, second_make, carried}
use Rattle.cabinets.proofs.seat.Seat+A+B.make.Goals as goal

pub returns-in_ok-make-in-First : goal.returns-in_ok-make-in-First
returns-in_ok-make-in-First g c =
    let w = c.in_ok-make-in-First.ensures in (
      w.0,
      ap (carried (first_make g.A.Machine.rule g.B.Machine.rule)) w.1
          ∙ ap (λ m. new_meaning (makes g.A.Machine g.B.Machine) c.args.n c.args.seat w.0 (start_of g.A.Machine g.B.Machine m)) (sym c.in-First.is),
    )

pub returns-in_ok-make-in-Second : goal.returns-in_ok-make-in-Second
returns-in_ok-make-in-Second g c =
    let w = c.in_ok-make-in-Second.ensures in (
      w.0,
      ap (carried (second_make g.A.Machine.rule g.B.Machine.rule)) w.1
          ∙ ap (λ m. new_meaning (makes g.A.Machine g.B.Machine) c.args.n c.args.seat w.0 (start_of g.A.Machine g.B.Machine m)) (sym c.in-Second.is),
    )
