use Rattle.std.proofs.Common.{length, sym, ◌∙◌, rules}
use Rattle.block.specs.Verdicts.{message_fault}
use Rattle.block.proofs.Trips.{always_reads_back, accepted_rewrites, passes}
use Rattle.block.proofs.codec.loop_back.Goals as goal

pub returns-in_err-write_block : goal.returns-in_err-write_block
returns-in_err-write_block c =
    record { value = search rules; after = search rules; reads_back = always_reads_back; rewrites = accepted_rewrites }

pub returns : goal.returns
returns c =
    let w = c.in_ok-write_block.ensures in
    record {
      value = c.read_block.ensures.value ∙ (w.reads_back ∙ sym (passes (message_fault c.args.message.now (length c.args.buffer.now)) _ _ (sym w.value)));
      after = search rules;
      reads_back = always_reads_back;
      rewrites = accepted_rewrites;
    }
