-- Ballots: 0, or round × 8 + the seat that holds it.
use Rattle.std.specs.Prelude.{ℕ, ◌/◌, ◌%◌, Bool, ◌&&◌, ◌||◌, ◌==◌, nat_le}

abbrev pub round_of : ℕ → ℕ
round_of ballot = ballot / 8

abbrev pub holder_of : ℕ → ℕ
holder_of ballot = ballot % 8

-- 0, or a round from 1 to 8191 of a seat from 0 to 6
abbrev pub is_ballot : ℕ → Bool
is_ballot b = b == 0 || (nat_le 1 (round_of b) && (nat_le (round_of b) 8191 && nat_le (holder_of b) 6))
