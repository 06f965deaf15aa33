use Rattle.std.proofs.Common.{rules, ◌≡◌, length, ◌+◌, true, false, sym, ap, ◌∙◌}
use Rattle.std.specs.Option.{MatchOption}
use Rattle.scan.proofs.Scanned.{highest_none, highest_some, highest_answer}
use Rattle.scan.proofs.highest.Goals as goal

pub returns-clause-value : goal.returns-clause-value
returns-clause-value g c = λ p d.
    let gave : MatchOption c.rposition.result (c.map_or.result ≡ 0) (λ i. c.map_or.result ≡ i + 1) = search rules in
    let runs = c.rposition.ensures.runs in
    let u = runs.0 in
    let back = c.iter.ensures.runs_back u u.seen in
    let xs = u.from.rest.now in
    let same : xs ≡ c.args.items.now = ap (λ s. s.rest.now) runs.1 ∙ c.iter.ensures.rest in
    let long : length c.iter.result.rest.now ≡ length xs = ap (λ s. length s.rest.now) (sym runs.1) in
    rw (← same) (highest_answer p xs _ c.rposition.result c.map_or.result _ _ gave c.rposition.ensures.bound runs.2
    (λ w. highest_none p xs u.len u.at back.2 _ (λ x k. d x false (search rules)) (back.1 (search rules)) (w.1 (search rules)))
    (λ i below w.
    let found = w.1 (search rules) in
    highest_some p xs u.len u.at back.2 _ (λ x k. d x false (search rules)) _ (λ x k. d x true (search rules)) _ i long below w.0 found.0 found.1))
