use Rattle.std.proofs.Common.{◌≡◌, drop}
use Rattle.block.specs.Verdicts.{all_zero}
use Rattle.block.proofs.codec.check_tail.Given as goal

abbrev pub invariant-loop-byte : goal.invariant-loop-byte
invariant-loop-byte l = all_zero (drop l.byte-index l.tail) ≡ all_zero l.tail
