use Rattle.std.proofs.Common.{◌≡◌, ◌-◌, ◌*◌, ◌++◌, take, replicate}
use Rattle.std.specs.List.{flat_map}
use Rattle.block.specs.Words.{word_bytes}
use Rattle.block.proofs.words.block_of.Given as goal

abbrev pub invariant-loop-place : goal.invariant-loop-place
invariant-loop-place l = l.block ≡ flat_map word_bytes (take l.place l.words) ++ replicate (512 - 4 * l.place) 0
