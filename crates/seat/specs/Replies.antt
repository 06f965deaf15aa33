-- The block that answers a block.
use Rattle.std.specs.Prelude.{ℕ, List, Some, None, Ok, Err, Option, Result}
use Rattle.block.specs.declared.fault.Fault.{Fault}
use Rattle.block.specs.declared.message.Message.{Message}
use Rattle.block.specs.Verdicts.{message_fault, encoded}
use Rattle.card.specs.declared.refusal.Refusal.{Refusal}

abbrev pub unless_refused : Option Fault → List ℕ → Option (List ℕ)
unless_refused None bytes = Some bytes
unless_refused (Some f) bytes = None

-- the block of the message that a delivery sends; none where it sends none or is refused
abbrev pub sent_block : Result (Option Message) Refusal → Option (List ℕ)
sent_block (Err f) = None
sent_block (Ok None) = None
sent_block (Ok (Some m)) = unless_refused (message_fault m 512) (encoded m)
