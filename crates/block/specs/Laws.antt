-- The two round trips, over all messages and all blocks.
use Rattle.std.specs.Prelude.{◌≡◌, ℕ, ◌^◌, ◌<◌, List, Ok, slice_index}
use Rattle.block.specs.declared.message.Message.{Message}
use Rattle.block.specs.Messages.{message_words}
use Rattle.block.specs.Verdicts.{decode, unless_fault, message_fault, encoded}

-- of the block that a message of 32-bit words makes, a reader says what the writer says of the message: the message itself, or
-- the same fault
abbrev pub ReadsBack : Type 0
ReadsBack =
    (m : Message) → ((k : ℕ) → slice_index (message_words m) k < 2 ^ 32) → decode (encoded m) ≡ unless_fault (message_fault m 512) m

-- a block of bytes that is accepted is the one that its message makes
abbrev pub Rewrites : Type 0
Rewrites = (bs : List ℕ) → ((k : ℕ) → slice_index bs k < 256) → (m : Message) → decode bs ≡ Ok m → encoded m ≡ bs
