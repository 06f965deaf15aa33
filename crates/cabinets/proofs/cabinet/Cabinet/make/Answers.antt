use Rattle.std.proofs.Common.{◌≡◌, map, length, Some, vec_items, sym, ap, ◌∙◌, subst, arith}
use Rattle.cabinets.specs.Cabinets.{group_of}
use Rattle.cabinets.specs.Groups.{New}
use Rattle.cabinets.specs.Makes.{makes}
use Rattle.cabinets.specs.New.{group_size, start_of}
use Rattle.cabinets.proofs.Making.{group_sized, fitted_new}
use Rattle.cabinets.proofs.cabinet.Cabinet.make.Goals as goal

pub returns : goal.returns
returns g c =
    let a = g.A.Machine in
    let b = g.B.Machine in
    let machines = vec_items c.args.machines in
    let n = c.in_ok-n.n in
    let some : Some n ≡ group_size c.len.result = grind arith in
    let sized = group_sized c.len.result n some in
    let many : length machines ≡ n = sym c.args.machines.ok.0 ∙ (sym c.len.ensures ∙ sym sized.0) in
    let made = c.new.ensures in
    subst (λ n. New (makes a b) n (map (start_of a b) machines) (group_of a b c.new.result)) (sym many)
    (fitted_new a b n machines (vec_items c.in_ok-seats.seats) (group_of a b c.new.result) sized.1 many c.in_ok-seats.ensures
    (ap (λ G. G.cards) made) (ap (λ G. G.sent) made) (ap (λ G. G.proposed) made) (ap (λ G. G.ran) made))
