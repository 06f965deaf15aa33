-- Which words go together. Each rule is judged at the higher of the words that it speaks of.
use Rattle.std.specs.Prelude.{ℕ, Bool, true, cond, not, ◌&&◌, ◌||◌, List, ◌==◌, nat_le, nat_lt, slice_index}
use Rattle.block.specs.Messages.{kind_of}
use Rattle.block.specs.declared.message.Kind.{Kind}
use Rattle.block.specs.declared.message.Kind.TheVariants.{FastAccept, FastAcceptOk, FastAcceptReply, Accept, AcceptOk, Commit, Prepare, PrepareOk, Reject}

-- what asks goes to all, what answers to one seat, a Commit to either
abbrev pub to_fits : Kind → ℕ → Bool
to_fits FastAccept to = to == 255
to_fits FastAcceptOk to = not (to == 255)
to_fits FastAcceptReply to = not (to == 255)
to_fits Accept to = to == 255
to_fits AcceptOk to = not (to == 255)
to_fits Commit to = true
to_fits Prepare to = to == 255
to_fits PrepareOk to = not (to == 255)
to_fits Reject to = not (to == 255)

-- the fast path and a Commit have ballot 0, a takeover has a round
abbrev pub ballot_fits : Kind → ℕ → Bool
ballot_fits FastAccept b = b == 0
ballot_fits FastAcceptOk b = b == 0
ballot_fits FastAcceptReply b = b == 0
ballot_fits Accept b = true
ballot_fits AcceptOk b = true
ballot_fits Commit b = b == 0
ballot_fits Prepare b = nat_le 8 b
ballot_fits PrepareOk b = nat_le 8 b
ballot_fits Reject b = nat_le 8 b

-- 0 none, 1 no-op, 2 command. A PrepareOk has the value of its report, and is judged there
abbrev pub value_fits : Kind → ℕ → Bool
value_fits FastAccept v = v == 2
value_fits FastAcceptOk v = v == 0
value_fits FastAcceptReply v = v == 0
value_fits Accept v = not (v == 0)
value_fits AcceptOk v = v == 0
value_fits Commit v = not (v == 0)
value_fits Prepare v = v == 0
value_fits PrepareOk v = true
value_fits Reject v = v == 0

-- client and number: not 0 in a command, else 0
abbrev pub identity_fits : ℕ → ℕ → Bool
identity_fits v w = cond (v == 2) (not (w == 0)) (w == 0)

-- operation, bay and amount: free in a command, else 0
abbrev pub request_fits : ℕ → ℕ → Bool
request_fits v w = v == 2 || w == 0

-- a dependency where there is no command: at least 1 in a FastAcceptReply, else 0
abbrev pub bare_dependency_fits : Kind → ℕ → Bool
bare_dependency_fits FastAccept d = d == 0
bare_dependency_fits FastAcceptOk d = d == 0
bare_dependency_fits FastAcceptReply d = not (d == 0)
bare_dependency_fits Accept d = d == 0
bare_dependency_fits AcceptOk d = d == 0
bare_dependency_fits Commit d = d == 0
bare_dependency_fits Prepare d = d == 0
bare_dependency_fits PrepareOk d = d == 0
bare_dependency_fits Reject d = d == 0

abbrev pub dependency_fits : Kind → ℕ → ℕ → Bool
dependency_fits k v d = cond (v == 2) true (bare_dependency_fits k d)

-- report empty has no value, a vote a command, accepted a no-op or a command
abbrev pub report_has_value : ℕ → ℕ → Bool
report_has_value v r = cond (r == 0) (v == 0) (cond (r == 1) (v == 2) (not (v == 0)))

abbrev pub report_fits : Kind → ℕ → ℕ → Bool
report_fits FastAccept v r = r == 0
report_fits FastAcceptOk v r = r == 0
report_fits FastAcceptReply v r = r == 0
report_fits Accept v r = r == 0
report_fits AcceptOk v r = r == 0
report_fits Commit v r = r == 0
report_fits Prepare v r = r == 0
report_fits PrepareOk v r = report_has_value v r
report_fits Reject v r = r == 0

-- the accept ballot is below the ballot where the report is accepted, else 0
abbrev pub accept_fits : ℕ → ℕ → ℕ → Bool
accept_fits b r a = cond (r == 2) (nat_lt a b) (a == 0)

-- whether word i fits the words below it
abbrev pub fits : List ℕ → ℕ → Bool
fits ws i =
    cond (i == 2) (to_fits (kind_of (slice_index ws 0)) (slice_index ws i))
    (cond (i == 5) (ballot_fits (kind_of (slice_index ws 0)) (slice_index ws i))
    (cond (i == 6) (value_fits (kind_of (slice_index ws 0)) (slice_index ws i))
    (cond (i == 7 || i == 8) (identity_fits (slice_index ws 6) (slice_index ws i))
    (cond (nat_le 9 i && nat_le i 11) (request_fits (slice_index ws 6) (slice_index ws i))
    (cond (i == 12) (dependency_fits (kind_of (slice_index ws 0)) (slice_index ws 6) (slice_index ws i))
    (cond (i == 13) (report_fits (kind_of (slice_index ws 0)) (slice_index ws 6) (slice_index ws i))
    (cond (i == 14) (accept_fits (slice_index ws 5) (slice_index ws 13) (slice_index ws i)) true)))))))
