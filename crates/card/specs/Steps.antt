-- What a call comes to: the card afterwards and at most one message, or a refusal.
use Rattle.std.specs.Prelude.{Ok, Err, Option, Result}
use Rattle.block.specs.declared.message.Message.{Message}
use Rattle.card.specs.declared.refusal.Refusal.{Refusal}
use Rattle.card.specs.declared.replica.Replica.{Replica}

abbrev pub Step : Type 0
Step = Result (Replica × Option Message) Refusal

-- a refusal leaves the card as it was
abbrev pub state_after : Replica → Step → Replica
state_after r (Ok s) = s.0
state_after r (Err f) = r

-- a refusal sends nothing
abbrev pub answer_of : Step → Result (Option Message) Refusal
answer_of (Ok s) = Ok s.1
answer_of (Err f) = Err f
