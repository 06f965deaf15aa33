use Rattle.std.proofs.Common.{◌≡◌, ◌<◌, [], ◌∷◌, ◌++◌, length, vec_items, vec_len, sym, refl, ap, ◌∙◌, append_assoc, arith}
use Rattle.std.specs.Vec.Iter.{into_iter_items}
use Rattle.std.proofs.lemmas.Result.{err_from_is_err_and}
use Rattle.cabinets.proofs.Making.{group_seat, refused_none, fitted_none, fitted_next, all_fitted}
use Rattle.cabinets.proofs.make.fit_all.Goals as goal

pub loop-machine-init : goal.loop-machine-init
loop-machine-init g c =
    let items = c.into_iter-machine-iterator.ensures.into_iter_gives.0 in
    let size : length (into_iter_items c.into_iter-machine-iterator.result) ≡ vec_len c.args.machines = ap length items ∙ sym c.args.machines.ok.0 in
    let room = c.in_ok-seats.ensures in (
      tt,
      tt,
      omega (arith, room.len, room.capacity, c.len.ensures),
      omega (arith, room.len, c.requires.seats),
      ([], refl, fitted_none g.A.Machine g.B.Machine c.args.n (vec_items c.in_ok-seats.seats) room.items),
    )

pub overflow_cast-seat : goal.overflow_cast-seat
overflow_cast-seat g c =
    let inv = c.loop-machine.invariant in
    omega (arith, c.len-seat.ensures, inv.3, c.ranges.n)

pub push_reserved-requires : goal.push_reserved-requires
push_reserved-requires g c =
    let inv = c.loop-machine.invariant in
    omega (arith, inv.2, ap length c.in-Some.ensures.steps.0)

pub returns-in_err-make : goal.returns-in_err-make
returns-in_err-make g c =
    let next = c.in-Some.ensures.steps in
    let inside : c.len-seat.result < c.args.n = omega (arith, c.len-seat.ensures, c.loop-machine.invariant.3, ap length next.0) in
    let why = c.in_err-make.field-0.0 in
    let p = err_from_is_err_and c.from_residual-in_err-make.result c.from_residual-in_err-make.ensures.1 in
    rw p.1 (p.2 ∙ refused_none g.A.Machine g.B.Machine c.args.n c.len-seat.result why (group_seat c.args.n c.len-seat.result c.requires.group inside) c.in_err-make.ensures)

pub loop-machine-preserved : goal.loop-machine-preserved
loop-machine-preserved g c =
    let inv = c.loop-machine.invariant in
    let done = inv.4.0 in
    let next = c.in-Some.ensures.steps.0 in
    let size = ap length next in
    let pushed = c.push_reserved.ensures in
    let placed : c.len-seat.result ≡ length done = c.len-seat.ensures ∙ (c.loop-machine.seats.ok.0 ∙ inv.4.2.0) in (
      tt,
      tt,
      omega (arith, pushed.len, pushed.capacity, inv.2, size),
      omega (arith, pushed.len, inv.3, size),
      (
        done ++ (c.in-Some.machine ∷ []),
        append_assoc done (c.in-Some.machine ∷ []) (into_iter_items c.next.new.self) ∙ (ap (λ l. done ++ l) (sym next) ∙ inv.4.1),
        fitted_next g.A.Machine g.B.Machine c.args.n done (vec_items c.loop-machine.seats) (vec_items c.push_reserved.new.self) c.in-Some.machine c.in_ok-make.field-0 c.len-seat.result
            placed inv.4.2 c.in_ok-make.ensures pushed.items,
      ),
    )

pub returns : goal.returns
returns g c =
    let w = c.loop-machine.invariant.4 in
    all_fitted g.A.Machine g.B.Machine c.args.n (vec_items c.args.machines) w.0 (into_iter_items c.loop-machine.machine-iterator) (vec_items c.loop-machine.seats)
    (w.1 ∙ c.into_iter-machine-iterator.ensures.into_iter_gives.0) (sym c.loop-machine.machine-iterator.rest.ok.0 ∙ c.in-None.ensures.steps.0) w.2
