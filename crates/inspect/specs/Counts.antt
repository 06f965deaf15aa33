-- How many blocks of a capture were read and refused.
use Rattle.std.specs.Prelude.{ℕ, ◌+◌, ◌-◌, ◌^◌, min, List, ◌++◌, Ok, Err, codes, decimal, Result}
use Rattle.block.specs.declared.fault.Fault.{Fault}
use Rattle.block.specs.declared.message.Message.{Message}
use Rattle.inspect.specs.declared.counts.Counts.{Counts}

-- one more; a count stays at the highest number that its 64 bits hold
abbrev pub one_more : ℕ → ℕ
one_more n = min (n + 1) (2 ^ 64 - 1)

-- after one more block, of which a reader answers so
abbrev pub counted : Counts → Result Message Fault → Counts
counted c (Ok m) = record { blocks = one_more c.blocks; read = one_more c.read; refused = c.refused }
counted c (Err f) = record { blocks = one_more c.blocks; read = c.read; refused = one_more c.refused }

-- the last line
abbrev pub counts_text : Counts → List ℕ
counts_text c =
    decimal c.blocks ++ (codes " blocks, " ++ (decimal c.read ++ (codes " read, "
    ++ (decimal c.refused ++ codes " refused"))))
