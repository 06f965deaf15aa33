-- A message written and read back, and a block read and written back.
use Rattle.std.proofs.Common.{◌≡◌, ℕ, ◌<◌, Bool, true, false, cond, eqb, List, length, get_or, drop, Some, None, Ok, Option, refl, ap, ◌∙◌, arith}
use Rattle.std.proofs.lemmas.List.FromFn.{length-map-range_with_len}
use Rattle.std.proofs.lemmas.Bool.Decides.{nat_tests}
use Rattle.block.specs.declared.fault.Fault.{Fault}
use Rattle.block.specs.declared.fault.Fault.TheVariants.{Length}
use Rattle.block.specs.declared.message.Message.{Message}
use Rattle.block.specs.Words.{word_at, words_of, block_of}
use Rattle.block.specs.Messages.{message_of, message_words}
use Rattle.block.specs.Verdicts.{or_else, all_zero, range_fault, misfit_fault, tail_fault, block_fault, unless_fault, decode, message_fault, encoded}
use Rattle.block.specs.Laws.{ReadsBack, Rewrites}
use Rattle.block.proofs.Blocks.{block_of_words, length_block, tail_of_block, words_of_block}
use Rattle.block.specs.Valid.{Valid}
use Rattle.block.proofs.Validity.{valid}
use Rattle.block.proofs.Messages.{message_there, message_back, length_message}

-- the parts of a verdict that finds nothing
parts_block : (b : Bool) (x y z : Option Fault) (f : Fault) → cond b (or_else x (or_else y z)) (Some f) ≡ None
    → (b ≡ true) × (x ≡ None) × (y ≡ None) × (z ≡ None)
parts_block true None None None f e = (refl, refl, refl, refl)
parts_block true None None (Some z) f e = absurd (grind arith)
parts_block true None (Some y) z f e = absurd (grind arith)
parts_block true (Some x) y z f e = absurd (grind arith)
parts_block false x y z f e = absurd (grind arith)

tail_passes : (bs : List ℕ) → all_zero (drop 60 bs) ≡ true → tail_fault bs ≡ None
unfolding tail_fault
tail_passes bs e = rw e

-- two answers are equal where the messages are whenever one is given
same_verdict : (range misfit : Option Fault) (x y : Message) → (range ≡ None → x ≡ y)
    → unless_fault (or_else range misfit) x ≡ unless_fault (or_else range misfit) y
same_verdict None None x y e = ap (λ z. Ok z) (e refl)
same_verdict None (Some f) x y e = refl
same_verdict (Some f) misfit x y e = refl

tail_zero : (bs : List ℕ) → tail_fault bs ≡ None → all_zero (drop 60 bs) ≡ true
unfolding tail_fault
tail_zero bs e = grind arith

-- the block of a message is read as the message is judged
pub reads_back : (m : Message) → words_of (encoded m) ≡ message_words m → decode (encoded m) ≡ unless_fault (message_fault m 512) m
reads_back m words =
    let ws = message_words m in
    let n = length_message m in
    let len = length_block ws n in
    rw (len, words, tail_passes (block_of ws) (tail_of_block ws n))
    (same_verdict (range_fault ws) (misfit_fault ws) (message_of ws) m (message_there m))

length_words_of : (bs : List ℕ) → length (words_of bs) ≡ 15
unfolding words_of
length_words_of bs = length-map-range_with_len (word_at bs) 0 15

-- a block that passes, read and written back, is that block, and its message is valid
pub rewrites : (bs : List ℕ) → ((k : ℕ) → get_or bs k 0 < 256) → block_fault bs ≡ None
    → Valid (message_of (words_of bs)) × (encoded (message_of (words_of bs)) ≡ bs)
rewrites bs f none =
    let ws = words_of bs in
    let p = parts_block (eqb (length bs) 512) (range_fault ws) (tail_fault bs) (misfit_fault ws) Length none in
    let len : length bs ≡ 512 = grind (arith, nat_tests, p.0) in
    let back = message_back ws (length_words_of bs) p.1 p.3 in (
      valid (message_of ws) (ap range_fault back ∙ p.1) (ap misfit_fault back ∙ p.3),
      rw back (block_of_words bs len f (tail_zero bs p.2)),
    )

-- what an answer `Ok` says
ok_parts : (o : Option Fault) (x y : Message) → unless_fault o x ≡ Ok y → (o ≡ None) × (x ≡ y)
ok_parts None x y e = (refl, grind arith)
ok_parts (Some f) x y e = absurd (grind arith)

pub accepted_rewrites : Rewrites
accepted_rewrites bs f m e =
    let p = ok_parts (block_fault bs) (message_of (words_of bs)) m e in
    rw (← p.1) (rewrites bs f p.0).1

pub always_reads_back : ReadsBack
always_reads_back m fit = reads_back m (words_of_block (message_words m) (length_message m) fit)

-- where nothing is found, whatever is to be answered is
pub passes : {X Y : Type 0} (o : Option Fault) (x : X) (y : Y) → unless_fault o y ≡ Ok y → unless_fault o x ≡ Ok x
passes None x y e = refl
passes (Some f) x y e = absurd (grind arith)
