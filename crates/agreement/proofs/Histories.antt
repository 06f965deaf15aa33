-- Every history that the rules allow decides each place in one way, and any two walks through what it decides agree.
use Rattle.std.proofs.Common.{ℕ, List, arith}
use Rattle.agreement.specs.Compatibility.{Meets}
use Rattle.agreement.specs.Logs.{Log, Log.pilot, Log.copilot, Content}
use Rattle.agreement.specs.Histories.{Note, answered_in, ballots_in, decided_in, Allowed, Allowed.begin, Allowed.next, OneValue, OneValueAllowed, HistoriesSettled, HistoriesWalked}
use Rattle.agreement.proofs.Ballots.{one_value_law}
use Rattle.agreement.proofs.Compatibility.{one_waits_law}
use Rattle.agreement.proofs.Walks.{walks_agree_law}
use Rattle.agreement.proofs.Entries.{lawful}
use Rattle.agreement.proofs.Support.{decided_grounded}

-- Of two answers of one seat, one of each log, the later was given with the earlier in sight.
meets : (n f : ℕ) (owner : Log → ℕ) {h : List Note} → Allowed n f owner h → Meets n (answered_in h pilot) (answered_in h copilot)
meets n f owner begin c i k x y l p q = absurd p
meets n f owner (next {h = h} {e = e} r a) c i k x y l p q = let ih = meets n f owner r c i k x y l in grind arith

pub one_value : OneValue
one_value n f owner h g i = one_value_law n f (owner g) Content (ballots_in n f owner h g i)

pub one_value_allowed : OneValueAllowed
one_value_allowed n f owner h g i size seated r = one_value n f owner h g i (lawful n f owner g i size seated r)

pub histories_settled : HistoriesSettled
histories_settled n f owner h size some_fail seated r = record {
  single = λ g i. one_value_allowed n f owner h g i size (seated g) r;
  compatible = λ c c' i d j e p q. one_waits_law n f (answered_in h pilot) (answered_in h copilot) size (meets n f owner r) i d j e
      (decided_grounded n f owner pilot i r size some_fail (seated pilot) c d p).supported
      (decided_grounded n f owner copilot j r size some_fail (seated copilot) c' e q).supported;
  asked = λ g i c d p. (decided_grounded n f owner g i r size some_fail (seated g) c d p).proposal;
}

pub histories_walked : HistoriesWalked
histories_walked n f owner h size some_fail seated r =
    let m = histories_settled n f owner h size some_fail seated r in
    walks_agree_law (decided_in n f owner h) m.single m.compatible
