use Rattle.inspect.proofs.line.CauseDisplay.fmt.Goals as goal

pub returns-in-Range-clause-writes : goal.returns-in-Range-clause-writes
returns-in-Range-clause-writes g c = rw (c.in-Range.is, ← c.word_name-name.ensures) c.write-in-Range.ensures.writes
