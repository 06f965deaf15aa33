use Rattle.std.proofs.Common.{ap, ◌∙◌}
use Rattle.fitted.specs.Meanings.{meaning_of}
use Rattle.cabinets.specs.declared.seat.Make.TheVariants.{First, Second}
use Rattle.cabinets.specs.Makes.{makes, seated}
use Rattle.cabinets.proofs.Seating.{first_make, second_make, carried, carried_after, carried_answer, performed, passed_by}
use Rattle.cabinets.proofs.calling.on_seat.Goals as goal

pub returns-then-seat-seats : goal.returns-then-seat-seats
returns-then-seat-seats g c =
    let p = passed_by (makes g.A.Machine g.B.Machine) (seated g.A.Machine g.B.Machine) c.args.seats.now c.args.sent.now c.args.call c.seat-seat.result c.seat-seat.ensures c.if-seat-seats.true in
    record { cards = p.cards; answer = p.answer }

pub returns-in-First : goal.returns-in-First
returns-in-First g c =
    let a = first_make g.A.Machine.rule g.B.Machine.rule in
    let m = meaning_of g.A.Machine.rule g.A.Machine.means c.in-First.card in
    let p = performed (makes g.A.Machine g.B.Machine) (seated g.A.Machine g.B.Machine) c.args.seats.now c.args.sent.now c.args.call c.seat-seat.result c.seat-seat.ensures
    (First c.in-First.card) (First c.answer.new.card) _ c.answer.result c.if-seat-seats.false c.in-First.is
    (ap (carried a) c.answer.ensures.state ∙ carried_after a m c.args.sent.now c.args.call) (c.answer.ensures.answer ∙ carried_answer a m c.args.sent.now c.args.call) in
    record { cards = p.cards; answer = p.answer }

pub returns-in-Second : goal.returns-in-Second
returns-in-Second g c =
    let a = second_make g.A.Machine.rule g.B.Machine.rule in
    let m = meaning_of g.B.Machine.rule g.B.Machine.means c.in-Second.card in
    let p = performed (makes g.A.Machine g.B.Machine) (seated g.A.Machine g.B.Machine) c.args.seats.now c.args.sent.now c.args.call c.seat-seat.result c.seat-seat.ensures
    (Second c.in-Second.card) (Second c.answer-in-Second.new.card) _ c.answer-in-Second.result c.if-seat-seats.false c.in-Second.is
    (ap (carried a) c.answer-in-Second.ensures.state ∙ carried_after a m c.args.sent.now c.args.call) (c.answer-in-Second.ensures.answer ∙ carried_answer a m c.args.sent.now c.args.call) in
    record { cards = p.cards; answer = p.answer }
