use Rattle.std.proofs.Common.{rules}
use Rattle.block.specs.Messages.{message_words}
use Rattle.block.proofs.message.Message.words.Goals as goal

pub returns : goal.returns
unfolding message_words
returns c = search rules
