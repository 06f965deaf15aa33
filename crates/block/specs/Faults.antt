-- The refusals of the reader and the writer, by number.
use Rattle.std.specs.Prelude.{ℕ, Some, None, Ok, Err, Option, Result}
use Rattle.block.specs.declared.fault.Fault.{Fault}
use Rattle.block.specs.declared.fault.Fault.TheVariants.{Length, Range, Misfit}

-- 1 not 512 bytes, 2 a word out of range, 3 a word that does not fit those below it; 2 and 3 with the word at fault
abbrev pub numbered : Fault → ℕ × Option ℕ
numbered Length = (1, None)
numbered (Range word) = (2, Some word)
numbered (Misfit word) = (3, Some word)

-- the number and the word of a refusal; none where the answer is `Ok`
abbrev pub refusal : {X : Type 0} → Result X Fault → Option (ℕ × Option ℕ)
refusal (Ok x) = None
refusal (Err f) = Some (numbered f)
