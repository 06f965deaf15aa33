-- Counting seats.
use Rattle.std.proofs.Common.{◌≡◌, ℕ, zero, suc, ◌+◌, ◌*◌, ◌<◌, ◌≤◌, true, false, eqb, sym, inl, inr, arith}
use Rattle.std.proofs.lemmas.Bool.{cases_Bool, cases_eq, and_parts, or_right, eq-eqb}
use Rattle.agreement.specs.Quorums.{Seats, count, both, joined, QuorumsOverlap}

-- Two sets and what they share: no more than all seats and what they share.
pub count_both : (p q : Seats) (n : ℕ) → count p n + count q n ≤ n + count (both p q) n
count_both p q zero = omega arith
count_both p q (suc n) = let ih = count_both p q n in grind arith

-- A set within another has no more seats.
pub count_mono : (p q : Seats) (n : ℕ) → ((c : ℕ) → c < n → p c ≡ true → q c ≡ true) → count p n ≤ count q n
count_mono p q zero h = omega arith
count_mono p q (suc n) h =
    let ih = count_mono p q n (λ c l. h c (omega arith)) in
    let here = h n (omega arith) in
    grind arith

-- A set with a seat at all has one to name.
pub count_some : (p : Seats) (n : ℕ) → 0 < count p n → (c : ℕ) × (c < n) × (p c ≡ true)
count_some p zero h = absurd (omega arith)
count_some p (suc n) h = elim (cases_Bool (p n)) [
  | inl t ↦ (n, omega arith, t)
  | inr t ↦ let (c, l, u) = count_some p n (grind arith) in (c, omega arith, u)
]

pub quorums_overlap : QuorumsOverlap
quorums_overlap n f p q e hp hq =
    let (c, l, t) = count_some (both p q) n (omega (arith, count_both p q n)) in
    let u = and_parts (p c) (q c) t in
    (c, l, u.0, u.1)

-- A set of 2f seats and a set of more than f share at least f.
pub overlap_fast : (n f : ℕ) (p q : Seats) → n ≡ 2 * f + 1 → 2 * f ≤ count p n → f < count q n → f ≤ count (both p q) n
overlap_fast n f p q e hp hq = omega (arith, count_both p q n)

-- A seat that joins a set makes it larger.
pub count_joined : (o : ℕ) (p : Seats) (n : ℕ) → o < n → p o ≡ false → count p n < count (joined o p) n
count_joined o p zero l e = absurd (omega arith)
count_joined o p (suc n) l e = elim (cases_eq o n) [
  | inl same ↦
      let le = count_mono p (joined o p) n (λ c _ t. or_right (eqb c o) (p c) t) in
      let t = eq-eqb n o (sym same) in
      grind arith
  | inr apart ↦ let ih = count_joined o p n (omega arith) e in grind arith
]
