use Rattle.std.proofs.Common.{◌≡◌, vec_items, length, ap, rules, arith}
use Rattle.std.proofs.lemmas.Fn.{filter_same}
use Rattle.machine.proofs.Listed.{others, emptied, filled}
use Rattle.machine.proofs.list.ListCatalogue.set.Goals as goal

pub invariant_of-self : goal.invariant_of-self
invariant_of-self c =
    let left : vec_items c.retain.new.self ≡ others c.args.bay (vec_items c.args.self.now.pairs) = filter_same _ _ _ (λ x b f' k. search rules) _ _ c.retain.ensures.filtered in
    let after = emptied (vec_items c.args.self.now.pairs) c.args.bay c.args.self.now.ok c.requires.low in
    search rules

pub push_reserved-requires : goal.push_reserved-requires
push_reserved-requires c =
    let after = filled (vec_items c.args.self.now.pairs) c.args.bay c.args.array c.args.self.now.ok c.requires.low c.if-array-eq0.false (c.requires.free (omega arith)) in
    omega (arith, after.room, c.args.self.now.pairs.ok.0)

pub invariant_of-self-else-array-eq0 : goal.invariant_of-self-else-array-eq0
invariant_of-self-else-array-eq0 c =
    let after = filled (vec_items c.args.self.now.pairs) c.args.bay c.args.array c.args.self.now.ok c.requires.low c.if-array-eq0.false (c.requires.free (omega arith)) in
    search rules

pub returns-then-array-eq0 : goal.returns-then-array-eq0
returns-then-array-eq0 c =
    let left : vec_items c.retain.new.self ≡ others c.args.bay (vec_items c.args.self.now.pairs) = filter_same _ _ _ (λ x b f' k. search rules) _ _ c.retain.ensures.filtered in
    let after = emptied (vec_items c.args.self.now.pairs) c.args.bay c.args.self.now.ok c.requires.low in
    search rules

pub returns-else-array-eq0 : goal.returns-else-array-eq0
returns-else-array-eq0 c =
    let after = filled (vec_items c.args.self.now.pairs) c.args.bay c.args.array c.args.self.now.ok c.requires.low c.if-array-eq0.false (c.requires.free (omega arith)) in
    search rules
