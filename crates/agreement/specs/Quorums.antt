-- Sets of seats, and how many seats a set has.
use Rattle.std.specs.Prelude.{◌≡◌, ℕ, zero, suc, ◌+◌, ◌*◌, ◌<◌, Bool, true, cond, ◌&&◌, ◌||◌, ◌==◌}

-- A set of seats, as a test of a seat's number.
abbrev pub Seats : Type 0
Seats = ℕ → Bool

-- How many of the seats below n are in the set.
abbrev pub count : Seats → ℕ → ℕ
count p zero = 0
count p (suc n) = cond (p n) (suc (count p n)) (count p n)

-- The seats that are in both sets.
abbrev pub both : Seats → Seats → Seats
both p q c = p c && q c

-- The set with the seat o too.
abbrev pub joined : ℕ → Seats → Seats
joined o p c = c == o || p c

-- Among 2f + 1 seats, any two sets of more than f seats share a seat.
abbrev pub QuorumsOverlap : Type 0
QuorumsOverlap = (n f : ℕ) (p q : Seats) → n ≡ 2 * f + 1 → f < count p n → f < count q n → (c : ℕ) × (c < n) × (p c ≡ true) × (q c ≡ true)
