-- A word and its four bytes.
use Rattle.std.proofs.Common.{◌≡◌, ℕ, ◌+◌, ◌-◌, ◌*◌, ◌/◌, ◌%◌, ◌^◌, ◌<◌, ◌≤◌, List, [], ◌∷◌, ◌++◌, length, get_or, take, drop, replicate, sym, refl, ap, ◌∙◌, arith}
use Rattle.std.specs.List.{flat_map}
use Rattle.std.proofs.lemmas.List.{drop_more, length-append, length-take-le, take_at, drop_at, drop-drop, drop-replicate, flat_map_more, take_more, append_assoc}
use Rattle.block.specs.Words.{word_bytes}

-- four bytes, as a word, have those bytes
pub bytes_of_word : (a b c d : ℕ) → a < 256 → b < 256 → c < 256 → d < 256
    → word_bytes (a * 16777216 + b * 65536 + c * 256 + d) ≡ a ∷ b ∷ c ∷ d ∷ []
bytes_of_word a b c d ha hb hc hd =
    let w : ℕ = a * 16777216 + b * 65536 + c * 256 + d in
    let e0 : w / 16777216 % 256 ≡ a = omega arith in
    let e1 : w / 65536 % 256 ≡ b = omega arith in
    let e2 : w / 256 % 256 ≡ c = omega arith in
    let e3 : w % 256 ≡ d = omega arith in
    cc

-- a word is what its bytes make
pub word_of_bytes : (w : ℕ) → w < 2 ^ 32
    → (w / 16777216 % 256) * 16777216 + (w / 65536 % 256) * 65536 + (w / 256 % 256) * 256 + w % 256 ≡ w
word_of_bytes w h =
    let a : w / 65536 ≡ w / 256 / 256 = omega arith in
    let b : w / 16777216 ≡ w / 65536 / 256 = omega arith in
    let d : w / 16777216 < 256 = omega arith in
    let e : w / 16777216 % 256 ≡ w / 16777216 = omega (arith, d) in
    omega (arith, a, b, d, e)

-- four bytes of a list, one by one
pub four : (bs : List ℕ) (i : ℕ) → i + 4 ≤ length bs
    → take 4 (drop i bs) ≡ get_or bs i 0 ∷ get_or bs (i + 1) 0 ∷ get_or bs (i + 2) 0 ∷ get_or bs (i + 3) 0 ∷ []
four bs i h =
    let l0 : i < length bs = omega arith in
    let l1 : i + 1 < length bs = omega arith in
    let l2 : i + 1 + 1 < length bs = omega arith in
    let l3 : i + 1 + 1 + 1 < length bs = omega arith in
    let e2 : i + 1 + 1 ≡ i + 2 = omega arith in
    let e3 : i + 1 + 1 + 1 ≡ i + 3 = omega arith in
    rw (drop_more bs i 0 l0, drop_more bs (i + 1) 0 l1, drop_more bs (i + 1 + 1) 0 l2, drop_more bs (i + 1 + 1 + 1) 0 l3) cc

pub length_words : (ws : List ℕ) → length (flat_map word_bytes ws) ≡ 4 * length ws
length_words [] = refl
length_words (w ∷ ws) = simp length-append (omega (arith, length_words ws))

-- one word more in its place, and zeros after it
pub put_more : (ws buffer : List ℕ) (i : ℕ) → i < length ws → 4 * i + 4 ≤ 512
    → buffer ≡ flat_map word_bytes (take i ws) ++ replicate (512 - 4 * i) 0
    → take (4 * i) buffer ++ (word_bytes (get_or ws i 0) ++ drop (4 * i + 4) buffer)
    ≡ flat_map word_bytes (take (i + 1) ws) ++ replicate (512 - 4 * (i + 1)) 0
put_more ws buffer i h k e =
    let p : List ℕ = flat_map word_bytes (take i ws) in
    let q : List ℕ = replicate (512 - 4 * i) 0 in
    let n : length (take i ws) ≡ i = length-take-le i ws (omega arith) in
    let len : length p ≡ 4 * i = omega (arith, length_words (take i ws), n) in
    let front : take (4 * i) (p ++ q) ≡ p = take_at p q (4 * i) len in
    let back : drop (4 * i + 4) (p ++ q) ≡ replicate (512 - 4 * i - 4) 0 =
    sym (drop-drop 4 (4 * i) (p ++ q)) ∙ (ap (λ l. drop 4 l) (drop_at p q (4 * i) len) ∙ drop-replicate 4 (512 - 4 * i) 0) in
    let m : 512 - 4 * i - 4 ≡ 512 - 4 * (i + 1) = omega arith in
    let j : p ++ word_bytes (get_or ws i 0) ≡ flat_map word_bytes (take (i + 1) ws) =
    flat_map_more word_bytes [] (take i ws) (get_or ws i 0) ∙ ap (flat_map word_bytes) (sym (take_more ws i 0 h)) in
    rw (e, front, back, m, ← j) (sym (append_assoc p (word_bytes (get_or ws i 0)) (replicate (512 - 4 * (i + 1)) 0)))
