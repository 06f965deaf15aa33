use Rattle.std.proofs.Common.{vec_items, ap, ◌∙◌}
use Rattle.std.proofs.lemmas.List.{with_items_is}
use Rattle.cabinets.specs.Groups.{answered, cards_after}
use Rattle.cabinets.specs.Makes.{makes, cards_of}
use Rattle.cabinets.proofs.Playing.{called_so}
use Rattle.cabinets.proofs.cabinet.Cabinet.call.Goals as goal

pub returns-clause-after : goal.returns-clause-after
returns-clause-after g c =
    let a = g.A.Machine in
    let b = g.B.Machine in
    let self = c.args.self.now in
    let lent = c.as_slice.ensures.value in
    let seats = c.as_mut_slice.ensures.value in
    let back = ap (cards_of a b) (with_items_is self.seats c.on_seat-answer.new.seats (c.on_seat-answer.auto.seats ∙ c.as_mut_slice.ensures.len)) in
    let went = back ∙ c.on_seat-answer.ensures.cards ∙ ap (λ l. cards_after (makes a b) (cards_of a b l) c.as_slice.result.now c.args.call) seats ∙ ap (λ sent. cards_after (makes a b) (cards_of a b (vec_items self.seats)) sent c.args.call) lent in
    let said = c.on_seat-answer.ensures.answer ∙ ap (λ l. answered (makes a b) (cards_of a b l) c.as_slice.result.now c.args.call) seats ∙ ap (λ sent. answered (makes a b) (cards_of a b (vec_items self.seats)) sent c.args.call) lent in
    called_so (makes a b) (cards_of a b (vec_items self.seats)) _ (vec_items self.sent) (vec_items c.keep.new.items)
    (vec_items self.proposed) (vec_items c.keep-2.new.items) (vec_items self.ran) (vec_items c.keep-3.new.items) c.args.call
    c.on_seat-answer.result c.seat.result c.message.result c.proposed.result c.ran.result went said c.seat.ensures
    c.message.ensures c.keep.ensures.items c.proposed.ensures c.keep-2.ensures.items c.ran.ensures c.keep-3.ensures.items
