use Rattle.std.proofs.Common.{◌≡◌, ◌+◌, ◌≤◌, List, ◌++◌, length, vec_items, vec_len, vec_capacity}
use Rattle.std.specs.Vec.Iter.{into_iter_items}
use Rattle.cabinets.specs.declared.seat.Make.{Make}
use Rattle.cabinets.specs.New.{Fitted}
use Rattle.cabinets.proofs.make.fit_all.Given as goal

abbrev pub invariant-loop-machine : goal.invariant-loop-machine
invariant-loop-machine g l =
    (goal.iterator-loop-machine g).can_next l.machine-iterator
    × (goal.iterator-loop-machine g).is_finite l.machine-iterator
    × (vec_len l.seats + length (into_iter_items l.machine-iterator) ≤ vec_capacity l.seats)
    × (vec_len l.seats + length (into_iter_items l.machine-iterator) ≤ l.n)
    × ((done : List (Make g.row.A.Denot g.row.B.Denot)) × (done ++ into_iter_items l.machine-iterator ≡ into_iter_items l.initial.machine-iterator) × Fitted g.A.Machine g.B.Machine l.n done (vec_items l.seats))
