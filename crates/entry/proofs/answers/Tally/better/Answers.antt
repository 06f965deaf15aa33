use Rattle.entry.proofs.answers.Tally.better.Goals as goal

pub returns-in-Some : goal.returns-in-Some
returns-in-Some c = rw c.in-Some.is (rw c.dependency.ensures at c.smaller.ensures)
