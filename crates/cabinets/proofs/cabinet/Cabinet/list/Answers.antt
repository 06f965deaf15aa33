use Rattle.std.proofs.Common.{map, filter, ◌==◌, vec_items, sym, ap, ◌∙◌}
use Rattle.cabinets.specs.declared.answer.Ran.{Ran}
use Rattle.cabinets.proofs.Listing.{list_is}
use Rattle.cabinets.proofs.cabinet.Cabinet.list.Goals as goal

pub returns : goal.returns
returns g c =
    let seat = c.args.seat in
    let lent = ap (λ ran. map (λ (x : Ran). x.listed) (filter (λ (x : Ran). x.seat == seat) ran)) c.as_slice.ensures.value in
    rw (sym (lent ∙ list_is seat (vec_items c.args.self.now.ran))) c.list_in.ensures
