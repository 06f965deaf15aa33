-- The words of a block: four bytes each, the highest first.
use Rattle.std.specs.Prelude.{ℕ, ◌+◌, ◌*◌, ◌/◌, ◌%◌, List, [], ◌∷◌, ◌++◌, map, replicate, slice_index}
use Rattle.std.specs.List.{range_with_len, flat_map}

-- word i of a block
abbrev pub word_at : List ℕ → ℕ → ℕ
word_at bs i =
    slice_index bs (4 * i) * 16777216 + slice_index bs (4 * i + 1) * 65536 + slice_index bs (4 * i + 2) * 256 + slice_index bs (4 * i + 3)

-- words 0 to 14
unfoldable pub words_of : List ℕ → List ℕ
words_of bs = map (word_at bs) (range_with_len 0 15)

-- the four bytes of a word
abbrev pub word_bytes : ℕ → List ℕ
word_bytes w = (w / 16777216 % 256) ∷ (w / 65536 % 256) ∷ (w / 256 % 256) ∷ (w % 256) ∷ []

-- the block that fifteen words make: their bytes, then zeros up to 512
unfoldable pub block_of : List ℕ → List ℕ
block_of ws = flat_map word_bytes ws ++ replicate 452 0
