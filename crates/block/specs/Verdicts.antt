-- What a reader and a writer answer.
use Rattle.std.specs.Prelude.{ℕ, zero, suc, Bool, cond, List, length, drop, Some, None, Ok, Err, Option, Result, ◌==◌, slice_index}
use Rattle.std.specs.List.{list_all}
use Rattle.std.specs.Option.{option_map}
use Rattle.block.specs.declared.fault.Fault.{Fault}
use Rattle.block.specs.declared.fault.Fault.TheVariants.{Length, Range, Misfit}
use Rattle.block.specs.declared.message.Message.{Message}
use Rattle.block.specs.Words.{words_of, block_of}
use Rattle.block.specs.Messages.{message_of, message_words}
use Rattle.block.specs.Ranges.{in_range}
use Rattle.block.specs.Fits.{fits}

-- the first finding, or else the second
abbrev pub or_else : {X : Type 0} → Option X → Option X → Option X
or_else None b = b
or_else (Some a) b = Some a

-- the lowest place below n that does not pass
unfoldable pub lowest : (ℕ → Bool) → ℕ → Option ℕ
lowest p zero = None
lowest p (suc n) = or_else (lowest p n) (cond (p n) None (Some n))

-- the lowest word that is out of range
unfoldable pub range_fault : List ℕ → Option Fault
range_fault ws = option_map Range (lowest (λ i. in_range i (slice_index ws i)) 15)

-- the lowest word that does not fit those below it
unfoldable pub misfit_fault : List ℕ → Option Fault
misfit_fault ws = option_map Misfit (lowest (fits ws) 15)

abbrev pub all_zero : List ℕ → Bool
all_zero bs = list_all (λ b. b == 0) bs

-- a byte after the words that is not zero is out of range, as word 15
unfoldable pub tail_fault : List ℕ → Option Fault
tail_fault bs = cond (all_zero (drop 60 bs)) None (Some (Range 15))

-- `Ok`, or the fault that was found
abbrev pub unless_fault : {X : Type 0} → Option Fault → X → Result X Fault
unless_fault None x = Ok x
unless_fault (Some f) x = Err f

-- what is wrong with a block: first its length, then a word or a byte alone, then words together
abbrev pub block_fault : List ℕ → Option Fault
block_fault bs =
    cond (length bs == 512)
    (or_else (range_fault (words_of bs)) (or_else (tail_fault bs) (misfit_fault (words_of bs))))
    (Some Length)

-- what a reader answers
abbrev pub decode : List ℕ → Result Message Fault
decode bs = unless_fault (block_fault bs) (message_of (words_of bs))

-- what is wrong with a message, or with a buffer of n bytes for it, in the same order
abbrev pub message_fault : Message → ℕ → Option Fault
message_fault m n =
    cond (n == 512) (or_else (range_fault (message_words m)) (misfit_fault (message_words m))) (Some Length)

-- the 512 bytes of a message
abbrev pub encoded : Message → List ℕ
encoded m = block_of (message_words m)

-- what a buffer holds after a write: the block, or what it held where the message is refused
abbrev pub buffered : Option Fault → Message → List ℕ → List ℕ
buffered None m held = encoded m
buffered (Some f) m held = held
