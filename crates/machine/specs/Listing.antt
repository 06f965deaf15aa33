-- The drive catalogue as a list of assigned bays, in any order.
use Rattle.std.specs.Prelude.{ℕ, Bool, true, cond, ◌&&◌, List, [], ◌∷◌, map, ◌==◌, nat_lt}
use Rattle.std.specs.List.{range_with_len}
use Rattle.machine.specs.declared.list.Assigned.{Assigned}

-- what a bay holds: the array of the first pair that names it, 0 where none does
abbrev pub holding : List Assigned → ℕ → ℕ
holding [] b = 0
holding (p ∷ ps) b = cond (p.bay == b) p.array (holding ps b)

-- each pair has a bay of the catalogue and an array, and no two have one bay
abbrev pub listed : List Assigned → Bool
listed [] = true
listed (p ∷ ps) = (nat_lt p.bay 64 && nat_lt 0 p.array) && (holding ps p.bay == 0 && listed ps)

-- the table by bay that a list stands for
unfoldable pub tabled : List Assigned → List ℕ
tabled ps = map (holding ps) (range_with_len 0 64)
