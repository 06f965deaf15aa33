use Rattle.std.proofs.Common.{◌≡◌, ℕ, ◌+◌, ◌≤◌, ◌++◌, length, drop, vec_items, vec_len, vec_capacity}
use Rattle.cabinets.specs.Cabinets.{group_of, HasRoom}
use Rattle.cabinets.specs.Groups.{after, answers_to}
use Rattle.cabinets.specs.Makes.{makes}
use Rattle.cabinets.proofs.cabinet.Cabinet.follow.Given as goal

abbrev pub invariant-loop-call : goal.invariant-loop-call
invariant-loop-call g l =
    let a = g.A.Machine in
    let b = g.B.Machine in
    let rest = drop l.call-index l.calls in
    let here = group_of a b l.self in
    let first = group_of a b l.fn.self in
    ((n : ℕ) → l.call-index + n ≤ length l.calls → HasRoom l.self n)
    × (vec_len l.answers ≡ l.call-index)
    × (length l.calls ≤ vec_capacity l.answers)
    × (after (makes a b) here rest ≡ after (makes a b) first l.calls)
    × (vec_items l.answers ++ answers_to (makes a b) here rest ≡ answers_to (makes a b) first l.calls)
