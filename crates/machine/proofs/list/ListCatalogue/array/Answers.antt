use Rattle.std.proofs.Common.{◌≡◌, ◌==◌, find, vec_items, ◌∙◌, rules}
use Rattle.std.specs.Option.{option_map_or}
use Rattle.machine.specs.declared.list.Assigned.{Assigned}
use Rattle.machine.proofs.Listed.{found}
use Rattle.machine.proofs.list.ListCatalogue.array.Goals as goal

pub returns : goal.returns
returns c =
    let ps = vec_items c.args.self.now.pairs in
    let here : c.map_or.result ≡ option_map_or (λ (p : Assigned). p.array) (find (λ (p : Assigned). p.bay == c.args.bay) ps) 0 = search rules in
    here ∙ found ps c.args.bay c.args.self.now.ok
