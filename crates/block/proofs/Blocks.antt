-- A block and its words, both ways.
use Rattle.std.proofs.Common.{◌≡◌, ℕ, zero, suc, ◌+◌, ◌*◌, ◌^◌, ◌<◌, ◌≤◌, true, eqb, List, [], ◌∷◌, ◌++◌, map, length, get_or, take, drop, replicate, sym, refl, ap, ◌∙◌, subst, arith, take-add}
use Rattle.std.specs.List.{range_with_len, flat_map}
use Rattle.std.proofs.lemmas.List.FromFn.{get_or-map-range_with_len, map-range_with_len_more}
use Rattle.std.proofs.lemmas.List.{ext_get_or, get_or-drop, flat_map_more, length-append, length-replicate, length-drop, drop_at, take-append-drop}
use Rattle.std.proofs.lemmas.Bool.{and_parts, eqb-true}
use Rattle.block.specs.Words.{word_at, words_of, word_bytes, block_of}
use Rattle.block.specs.Verdicts.{all_zero}
use Rattle.block.proofs.Bytes.{word_of_bytes, bytes_of_word, four, length_words}

-- the word after the first of a list is the first of what follows four bytes
next : (bs : List ℕ) (j : ℕ) → word_at bs (suc j) ≡ word_at (drop 4 bs) j
next bs j =
    let e0 : 4 * suc j ≡ 4 + 4 * j = omega arith in
    let e1 : 4 * suc j + 1 ≡ 4 + (4 * j + 1) = omega arith in
    let e2 : 4 * suc j + 2 ≡ 4 + (4 * j + 2) = omega arith in
    let e3 : 4 * suc j + 3 ≡ 4 + (4 * j + 3) = omega arith in
    let g0 = get_or-drop 4 bs (4 * j) 0 in
    let g1 = get_or-drop 4 bs (4 * j + 1) 0 in
    let g2 = get_or-drop 4 bs (4 * j + 2) 0 in
    let g3 = get_or-drop 4 bs (4 * j + 3) 0 in
    cc

pub word_of_words : (ws zs : List ℕ) (i : ℕ) → i < length ws → ((k : ℕ) → get_or ws k 0 < 2 ^ 32)
    → word_at (flat_map word_bytes ws ++ zs) i ≡ get_or ws i 0
word_of_words [] zs i h f = absurd (omega arith)
word_of_words (w ∷ ws) zs zero h f = word_of_bytes w (f 0)
word_of_words (w ∷ ws) zs (suc j) h f =
    next (flat_map word_bytes (w ∷ ws) ++ zs) j ∙ word_of_words ws zs j (omega arith) (λ k. f (suc k))

-- fifteen words, written and read back
pub words_of_block : (ws : List ℕ) → length ws ≡ 15 → ((k : ℕ) → get_or ws k 0 < 2 ^ 32) → words_of (block_of ws) ≡ ws
unfolding words_of block_of
words_of_block ws n f =
    let b : List ℕ = flat_map word_bytes ws ++ replicate 452 0 in
    ext_get_or 0 (map (word_at b) (range_with_len 0 15)) ws (sym n)
    (λ i h. get_or-map-range_with_len (word_at b) 0 15 i i 0 h (omega arith) ∙ word_of_words ws (replicate 452 0) i (omega arith) f)

pub length_block : (ws : List ℕ) → length ws ≡ 15 → length (block_of ws) ≡ 512
unfolding block_of
length_block ws n =
    length-append (flat_map word_bytes ws) (replicate 452 0)
    ∙ omega (arith, length_words ws, n, length-replicate {A = ℕ} 452 0)

pub tail_of_block : (ws : List ℕ) → length ws ≡ 15 → all_zero (drop 60 (block_of ws)) ≡ true
unfolding block_of
tail_of_block ws n =
    rw (drop_at (flat_map word_bytes ws) (replicate 452 0) 60 (omega (arith, length_words ws, n))) refl

-- the words of a block have its bytes
bytes_of_words : (bs : List ℕ) (n : ℕ) → 4 * n ≤ length bs → ((k : ℕ) → get_or bs k 0 < 256)
    → flat_map word_bytes (map (word_at bs) (range_with_len 0 n)) ≡ take (4 * n) bs
bytes_of_words bs zero h f = refl
bytes_of_words bs (suc n) h f =
    let i : ℕ = 4 * n in
    let more : map (word_at bs) (range_with_len 0 (n + 1)) ≡ map (word_at bs) (range_with_len 0 n) ++ word_at bs n ∷ [] =
    map-range_with_len_more (word_at bs) 0 n n (omega arith) in
    let word : word_bytes (word_at bs n) ≡ take 4 (drop (4 * n) bs) =
    bytes_of_word (get_or bs i 0) (get_or bs (i + 1) 0) (get_or bs (i + 2) 0) (get_or bs (i + 3) 0) (f i) (f (i + 1)) (f (i + 2)) (f (i + 3))
    ∙ sym (four bs (4 * n) (omega arith)) in
    let before = bytes_of_words bs n (omega arith) f in
    let e : 4 * (n + 1) ≡ 4 * n + 4 = omega arith in
    let s : n + 1 ≡ suc n = omega arith in
    let both : flat_map word_bytes (map (word_at bs) (range_with_len 0 n)) ++ word_bytes (word_at bs n) ≡ take (4 * (n + 1)) bs =
    rw (before, word, e) (sym (take-add (4 * n) 4 bs)) in
    subst (λ k. flat_map word_bytes (map (word_at bs) (range_with_len 0 k)) ≡ take (4 * k) bs) s
    (ap (flat_map word_bytes) more ∙ (sym (flat_map_more word_bytes [] (map (word_at bs) (range_with_len 0 n)) (word_at bs n)) ∙ both))

zeros : (xs : List ℕ) → all_zero xs ≡ true → xs ≡ replicate (length xs) 0
zeros [] e = refl
zeros (x ∷ xs) e =
    let p = and_parts (eqb x 0) (all_zero xs) e in
    let a : x ≡ 0 = eqb-true x 0 p.0 in
    let b = zeros xs p.1 in
    cc

-- a block of 512 bytes with zeros after the words is what its words make
pub block_of_words : (bs : List ℕ) → length bs ≡ 512 → ((k : ℕ) → get_or bs k 0 < 256) → all_zero (drop 60 bs) ≡ true
    → block_of (words_of bs) ≡ bs
unfolding words_of block_of
block_of_words bs n f z =
    let len : length (drop 60 bs) ≡ 452 = length-drop 60 bs ∙ omega arith in
    let tail : drop 60 bs ≡ replicate 452 0 = zeros (drop 60 bs) z ∙ ap (λ k. replicate k 0) len in
    ap (λ l. l ++ replicate 452 0) (bytes_of_words bs 15 (omega arith) f)
    ∙ (ap (λ l. take 60 bs ++ l) (sym tail) ∙ take-append-drop 60 bs)
