use Rattle.std.proofs.Common.{◌≡◌, None, rules}
use Rattle.block.specs.Words.{words_of}
use Rattle.block.specs.Messages.{message_words}
use Rattle.block.specs.Verdicts.{message_fault, encoded}
use Rattle.block.proofs.Trips.{reads_back}
use Rattle.block.proofs.codec.write_block.Goals as goal

pub returns : goal.returns
returns c =
    let m = c.args.message.now in
    let none : message_fault m 512 ≡ None = search rules in
    let b : c.copy_from_slice.new.self ≡ encoded m = search rules in
    let w : words_of (encoded m) ≡ message_words m = cc in
    let back = reads_back m w in
    record {
      value = search rules;
      numbers = search rules;
      after = search rules;
      reads_back = rw b (rw none at back);
    }
