use Rattle.std.proofs.Common.{◌≡◌, None, rules}
use Rattle.block.specs.Words.{words_of}
use Rattle.block.specs.Messages.{message_of}
use Rattle.block.specs.Verdicts.{block_fault}
use Rattle.block.proofs.Trips.{rewrites}
use Rattle.block.proofs.codec.read_block.Goals as goal

pub returns : goal.returns
returns c =
    let none : block_fault c.args.block.now ≡ None = search rules in
    let m : c.of_words.result ≡ message_of (words_of c.args.block.now) = search rules in
    let back = rewrites c.args.block.now (λ k. (c.type_inv.block k).fits) none in
    record {
      value = search rules;
      numbers = search rules;
      valid = rw m back.0;
      rewrites = rw m back.1;
    }
