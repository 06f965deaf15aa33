use Rattle.std.proofs.Common.{◌≤◌, ◌+◌, sym, ◌∙◌, length}
use Rattle.std.proofs.lemmas.List.{at_drop_all}
use Rattle.std.specs.List.{position_from}
use Rattle.scan.proofs.Scanned.{first_more}
use Rattle.scan.proofs.Skipped.{gave, ended}
use Rattle.scan.proofs.first.Goals as goal
use Rattle.scan.proofs.first.Goals.{in-None, in-Some+then-test}

pub loop-place-preserved : goal.loop-place-preserved
loop-place-preserved g c =
    let i = c.in-Some.place in
    let step = gave c.args.items.now c.loop-place.place-iterator c.next.new.self c.next.result c.next.ensures.steps c.loop-place.invariant.1 i c.in-Some.item c.in-Some.is in (
      c.loop-place.invariant.0,
      step.3,
      λ p d.
          let more = first_more p c.args.items.now i c.in-Some.item.now step.1 step.2 c.test.result (d _ _ c.test.ensures) in
          rw step.4 (sym (rw c.if-test.false at more) ∙ rw step.0 at (c.loop-place.invariant.2 p d)),
    )

pub returns-clause-value : goal.returns-clause-value
returns-clause-value g c = λ p d.
    let xs = c.args.items.now in
    let s = c.loop-place.place-iterator in
    let from = s.iter.count + s.n in
    elim c.match-next.branch [
      | in-None w ↦
          let all : length xs ≤ from = ended xs s c.next.new.self c.next.result c.next.ensures.steps c.loop-place.invariant.1 w.in-None.is in
          w.found-is ∙ (c.loop-place.invariant.0 ∙ (sym (at_drop_all (position_from p from) xs from all) ∙ c.loop-place.invariant.2 p d))
      | in-Some+then-test w ↦
          let step = gave xs s c.next.new.self c.next.result c.next.ensures.steps c.loop-place.invariant.1 w.in-Some.place w.in-Some.item w.in-Some.is in
          let more = first_more p xs w.in-Some.place w.in-Some.item.now step.1 step.2 w.test.result (d _ _ w.test.ensures) in
          w.found-is ∙ (sym (rw w.if-test.true at more) ∙ rw step.0 at (c.loop-place.invariant.2 p d))
    ]

pub returns-clause-bound : goal.returns-clause-bound
returns-clause-bound g c = elim c.match-next.branch [
  | in-None w ↦ rw (w.found-is, c.loop-place.invariant.0) tt
  | in-Some+then-test w ↦
      let step = gave c.args.items.now c.loop-place.place-iterator c.next.new.self c.next.result c.next.ensures.steps c.loop-place.invariant.1 w.in-Some.place w.in-Some.item w.in-Some.is in
      rw w.found-is step.1
]
