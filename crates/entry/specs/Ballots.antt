-- Whose ballot it is, and which one a takeover takes.
use Rattle.std.specs.Prelude.{ℕ, ◌+◌, ◌*◌, cond, ◌&&◌, Some, None, Option, ◌==◌, nat_le, nat_lt}
use Rattle.block.specs.Ballots.{round_of, holder_of}

-- the seat that holds a ballot for an entry of a log; ballot 0 is the owner's, whose seat has the log's number
abbrev pub holder_in : ℕ → ℕ → ℕ
holder_in log ballot = cond (ballot == 0) log (holder_of ballot)

-- the round of a seat's smallest ballot above b: b's own where the seat comes after b's holder, else the next
abbrev pub next_round : ℕ → ℕ → ℕ
next_round seat b = cond (nat_le 1 (round_of b) && nat_lt (holder_of b) seat) (round_of b) (round_of b + 1)

-- that ballot; there is none past round 8191
abbrev pub next_ballot : ℕ → ℕ → Option ℕ
next_ballot seat b = cond (nat_le (next_round seat b) 8191 && nat_le seat 6) (Some (next_round seat b * 8 + seat)) None
