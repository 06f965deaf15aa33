use Rattle.std.proofs.Common.{◌≡◌, ap, ◌∙◌, arith}
use Rattle.std.proofs.lemmas.List.{take_all}
use Rattle.block.specs.Words.{block_of, words_of}
use Rattle.block.proofs.Bytes.{put_more}
use Rattle.block.proofs.Blocks.{words_of_block}
use Rattle.block.proofs.words.block_of.Goals as goal

pub loop-place-preserved : goal.loop-place-preserved
loop-place-preserved c =
    c.put_word.ensures ∙ put_more c.args.words.now c.loop-place.block c.loop-place.place (omega arith) (omega arith) c.loop-place.invariant

written : (c : goal.After-loop-place) → c.loop-place.block ≡ block_of c.args.words.now
unfolding block_of
written c =
    let e : c.loop-place.place ≡ 15 = omega arith in
    c.loop-place.invariant ∙ rw (e, take_all 15 c.args.words.now (omega arith))

pub returns : goal.returns
returns c =
    record {
      value = written c;
      reads_back = ap words_of (written c) ∙ words_of_block c.args.words.now c.told-words c.fits-words;
    }
