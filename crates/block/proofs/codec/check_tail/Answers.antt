use Rattle.std.proofs.Common.{take, drop, ◌≡◌, arith}
use Rattle.std.proofs.lemmas.List.{take_all, length-drop}
use Rattle.block.specs.Verdicts.{tail_fault}
use Rattle.block.proofs.Tail.{zero_more, zero_fails, zero_all}
use Rattle.block.proofs.codec.check_tail.Goals as goal

pub loop-byte-preserved : goal.loop-byte-preserved
loop-byte-preserved c = zero_more (take 452 (drop 60 c.args.block.now)) c.loop-byte.byte-index c.loop-byte.invariant c.loop-byte-test.true (omega arith)

pub returns-then-byte-ne0 : goal.returns-then-byte-ne0
unfolding tail_fault
returns-then-byte-ne0 c =
    let bs = c.args.block.now in
    let whole : take 452 (drop 60 bs) ≡ drop 60 bs = take_all 452 (drop 60 bs) (omega (arith, length-drop 60 bs, c.told-block)) in
    rw (← whole, zero_fails (take 452 (drop 60 bs)) c.loop-byte.byte-index c.loop-byte.invariant c.loop-byte-test.true (λ e. omega arith))

pub returns : goal.returns
unfolding tail_fault
returns c =
    let bs = c.args.block.now in
    let whole : take 452 (drop 60 bs) ≡ drop 60 bs = take_all 452 (drop 60 bs) (omega (arith, length-drop 60 bs, c.told-block)) in
    rw (← whole, zero_all (take 452 (drop 60 bs)) c.loop-byte.byte-index c.loop-byte.invariant c.loop-byte-test.false)
