-- Which numbers may stand in each word at all.
use Rattle.std.specs.Prelude.{ℕ, Bool, true, cond, ◌&&◌, ◌||◌, ◌==◌, nat_le}
use Rattle.block.specs.Ballots.{is_ballot}

-- kind 1 to 9, from a seat 0 to 6, to a seat or all, log 0 or 1, entry 1 to 128, two ballots, value kind and report 0 to 2,
-- dependency 0 to 128; the words of a command are free
abbrev pub in_range : ℕ → ℕ → Bool
in_range i w =
    cond (i == 0) (nat_le 1 w && nat_le w 9)
    (cond (i == 1) (nat_le w 6)
    (cond (i == 2) (nat_le w 6 || w == 255)
    (cond (i == 3) (nat_le w 1)
    (cond (i == 4) (nat_le 1 w && nat_le w 128)
    (cond (i == 5 || i == 14) (is_ballot w)
    (cond (i == 6 || i == 13) (nat_le w 2)
    (cond (i == 12) (nat_le w 128) true)))))))
