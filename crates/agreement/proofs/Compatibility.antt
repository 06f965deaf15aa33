-- Two majorities share a seat, and that seat's answers decide.
use Rattle.std.proofs.Common.{inl, inr, arith}
use Rattle.agreement.specs.Compatibility.{OneWaitsLaw, OneWaits, given}
use Rattle.agreement.proofs.Quorums.{quorums_overlap}

pub one_waits_law : OneWaitsLaw
one_waits_law n f a a' size meets i d k e s t =
    let (c, c<n, p, q) = quorums_overlap n f s.seats t.seats size s.enough t.enough in
    let (x, ax, x≤d) = s.answers c c<n p in
    let (y, ay, y≤e) = t.answers c c<n q in
    elim (meets c i k x y c<n ax ay) [ inl h ↦ inl (omega arith) | inr h ↦ inr (omega arith) ]

pub one_waits : OneWaits
one_waits n f a b = one_waits_law n f (given a) (given b)
