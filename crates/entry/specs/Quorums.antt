-- How many cards a decision needs: a group of n = 2f + 1 cards bears the loss of f.
use Rattle.std.specs.Prelude.{ℕ, ◌+◌, ◌-◌, ◌*◌, ◌/◌}

-- f
abbrev pub faults_of : ℕ → ℕ
faults_of n = (n - 1) / 2

-- f + 1: any two such sets of cards share one
abbrev pub majority_of : ℕ → ℕ
majority_of n = faults_of n + 1

-- 2f, the owner among them
abbrev pub fast_quorum_of : ℕ → ℕ
fast_quorum_of n = 2 * faults_of n
