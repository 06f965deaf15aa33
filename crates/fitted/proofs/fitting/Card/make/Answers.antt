use Rattle.fitted.specs.Makes.{none_passed}
use Rattle.fitted.proofs.fitting.Card.make.Goals as goal

-- part by part: the replica is new, and so is the layer over the machine
pub returns : goal.returns
returns g c =
    let new = c.in_ok-replica.ensures in
    let layered = c.in_ok-machine.ensures in
    (new.0, λ i. record { replica = new.1 i; passed = none_passed; state = (layered i).0; kept = (layered i).1 })
