use Rattle.std.proofs.Common.{rules}
use Rattle.block.specs.Messages.{message_of}
use Rattle.block.proofs.message.Message.of_words.Goals as goal

pub returns : goal.returns
unfolding message_of
returns c = search rules
