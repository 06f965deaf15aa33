use Rattle.std.proofs.Common.{◌≡◌, ◌+◌, Bool, drop, None}
use Rattle.std.specs.List.{position_from}
use Rattle.scan.specs.Scans.{IsTest}
use Rattle.scan.proofs.first.Given as goal

abbrev pub invariant-loop-place : goal.invariant-loop-place
invariant-loop-place g l =
    (l.found ≡ None)
    × (l.place-iterator.iter.iter.rest.now ≡ drop l.place-iterator.iter.count l.items)
    × ((p : g.row.T.Denot → Bool) → IsTest (goal.F-post g l.test) p
    → position_from p (l.place-iterator.iter.count + l.place-iterator.n) (drop (l.place-iterator.iter.count + l.place-iterator.n) l.items) ≡ position_from p l.start (drop l.start l.items))
