-- Which groups there are.
use Rattle.std.specs.Prelude.{ℕ, Bool, ◌&&◌, ◌||◌, ◌==◌, nat_lt}

-- three, five or seven cards, in seats 0 to n - 1
abbrev pub is_group : ℕ → ℕ → Bool
is_group n seat = (n == 3 || (n == 5 || n == 7)) && nat_lt seat n
