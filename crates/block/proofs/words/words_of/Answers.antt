use Rattle.std.proofs.Common.{rules}
use Rattle.block.specs.Words.{word_at, words_of}
use Rattle.block.proofs.FromFn.{made_by}
use Rattle.block.proofs.words.words_of.Goals as goal

pub returns : goal.returns
unfolding words_of
returns c = made_by _ (word_at c.args.block.now) _ (λ i y q called. search rules) c.from_fn.result 15 c.from_fn.ensures.items
