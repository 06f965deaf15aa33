-- The line of one block.
use Rattle.std.specs.Prelude.{ℕ, cond, List, ◌++◌, length, Ok, Err, codes, decimal, Result, ◌==◌}
use Rattle.block.specs.declared.fault.Fault.{Fault}
use Rattle.block.specs.declared.fault.Fault.TheVariants.{Length, Range, Misfit}
use Rattle.block.specs.declared.message.Message.{Message}
use Rattle.block.specs.Faults.{numbered}
use Rattle.block.specs.Verdicts.{decode}
use Rattle.inspect.specs.Texts.{message_text}

-- the words of a block by name; word 15 is what stands after them
abbrev pub word_name : ℕ → List ℕ
word_name w =
    cond (w == 0) (codes "kind")
    (cond (w == 1) (codes "from")
    (cond (w == 2) (codes "to")
    (cond (w == 3) (codes "log")
    (cond (w == 4) (codes "entry")
    (cond (w == 5) (codes "ballot")
    (cond (w == 6) (codes "value kind")
    (cond (w == 7) (codes "client")
    (cond (w == 8) (codes "number")
    (cond (w == 9) (codes "operation")
    (cond (w == 10) (codes "bay")
    (cond (w == 11) (codes "amount")
    (cond (w == 12) (codes "dependency")
    (cond (w == 13) (codes "report")
    (cond (w == 14) (codes "accept ballot") (codes "bytes after the words")))))))))))))))

-- why a block is refused, and which word of it, or how many bytes it has
abbrev pub cause_text : Fault → ℕ → List ℕ
cause_text Length size = codes "not 512 bytes: " ++ (decimal size ++ codes " bytes")
cause_text (Range w) size = codes "word out of range: word " ++ (decimal w ++ (codes ", " ++ word_name w))
cause_text (Misfit w) size = codes "word does not fit: word " ++ (decimal w ++ (codes ", " ++ word_name w))

-- what is said of a block of that many bytes, by what a reader answers
abbrev pub verdict_text : Result Message Fault → ℕ → List ℕ
verdict_text (Ok m) size = message_text m
verdict_text (Err f) size = codes "refused " ++ (decimal (numbered f).0 ++ (codes ", " ++ cause_text f size))

-- the line of the block with that number in a capture
abbrev pub line_of : ℕ → List ℕ → List ℕ
line_of number bs = codes "block " ++ (decimal number ++ (codes ": " ++ verdict_text (decode bs) (length bs)))
