-- What is known of a call that was not refused, and what it came to.
use Rattle.std.proofs.Common.{◌≡◌, ℕ, ◌<◌, ◌≤◌, Bool, true, false, cond, not, ◌&&◌, eqb, leb, Some, None, Ok, Err, Option, refl, arith}
use Rattle.std.proofs.lemmas.Bool.Decides.{nat_tests}
use Rattle.command.specs.declared.Command.{Command}
use Rattle.block.specs.declared.message.Message.{Message}
use Rattle.entry.specs.Ballots.{next_ballot}
use Rattle.entry.specs.Entries.{is_committed, promising, report_of}
use Rattle.entry.specs.declared.entry.Progress.TheVariants.{Accepts}
use Rattle.entry.specs.Owners.{counts_answers, can_settle, settling}
use Rattle.entry.specs.Takeovers.{begun}
use Rattle.card.specs.declared.refusal.Refusal.{Refusal}
use Rattle.card.specs.declared.refusal.Refusal.TheVariants.{NoIdentity, NotPilot, LogFull, NoSuchEntry, NotOpen, TooFewAnswers, AlreadyCommitted, NothingThere}
use Rattle.card.specs.declared.replica.Replica.{Replica}
use Rattle.card.specs.Messages.{fast_accept_message, announced, prepare}
use Rattle.card.specs.Proposing.{is_nameless, next_entry, proposal_of, propose}
use Rattle.card.specs.Settling.{settle}
use Rattle.card.specs.Steps.{Step}
use Rattle.card.specs.Tables.{is_placed, entry_at, with_entry, with_takeover, highest_taken}
use Rattle.card.specs.Taking.{is_nothing, takeover_at, takeover}

-- what is not refused at a test passes it
unrefused : (b : Bool) (why : Refusal) (s : Step) (x : Replica × Option Message) → cond b (Err why) s ≡ Ok x → (b ≡ false) × (s ≡ Ok x)
unrefused true why s x q = absurd (grind arith)
unrefused false why s x q = (refl, q)

passes : (b : Bool) (why : Refusal) (s : Step) (x : Replica × Option Message) → cond (not b) (Err why) s ≡ Ok x → (b ≡ true) × (s ≡ Ok x)
passes true why s x q = (refl, q)
passes false why s x q = absurd (grind arith)

same_ok : (x y : Replica × Option Message) → ◌≡◌ {A = Step} (Ok x) (Ok y) → x ≡ y
same_ok x y q = grind arith

placed : (log i : ℕ) → is_placed log i ≡ true → (log ≤ 1) × (1 ≤ i) × (i ≤ 128)
placed log i p = (grind (arith, nat_tests), grind (arith, nat_tests), grind (arith, nat_tests))

module _ (r : Replica) where
  pub record Proposed (c : Command) (x : Replica × Option Message) : Type 0 where
    pub low : r.seat ≤ 1
    pub room : highest_taken r r.seat < 128
    pub is : (with_entry r r.seat (next_entry r) (proposal_of r c), Some (fast_accept_message r.seat r.seat (next_entry r) (proposal_of r c))) ≡ x

  pub proposed : (c : Command) (x : Replica × Option Message) → propose r c ≡ Ok x → Proposed c x
  proposed c x q =
      let a = unrefused (is_nameless c) NoIdentity _ x q in
      let b = unrefused (leb 2 r.seat) NotPilot _ x a.1 in
      let d = unrefused (leb 128 (highest_taken r r.seat)) LogFull _ x b.1 in
      record { low = let w = b.0 in grind (arith, nat_tests); room = let w = d.0 in grind (arith, nat_tests); is = same_ok _ x d.1 }

  pub record Settled (log i : ℕ) (x : Replica × Option Message) : Type 0 where
    pub place : (log ≤ 1) × (1 ≤ i) × (i ≤ 128)
    pub counts : (eqb log r.seat && counts_answers (entry_at r log i)) ≡ true
    pub enough : can_settle r.n (entry_at r log i) ≡ true
    pub is : (with_entry r log i (settling r.n r.seat (entry_at r log i)), announced r.seat log i (settling r.n r.seat (entry_at r log i)) (Some Accepts)) ≡ x

  pub settled : (log i : ℕ) (x : Replica × Option Message) → settle r log i ≡ Ok x → Settled log i x
  settled log i x q =
      let a = passes (is_placed log i) NoSuchEntry _ x q in
      let b = passes (eqb log r.seat && counts_answers (entry_at r log i)) NotOpen _ x a.1 in
      let d = passes (can_settle r.n (entry_at r log i)) TooFewAnswers _ x b.1 in
      record { place = placed log i a.0; counts = b.0; enough = d.0; is = same_ok _ x d.1 }

  pub record TakenOver (log i : ℕ) (x : Replica × Option Message) : Type 0 where
    pub place : (log ≤ 1) × (1 ≤ i) × (i ≤ 128)
    pub undecided : is_committed (entry_at r log i).state ≡ false
    pub ballot : ℕ
    pub next : next_ballot r.seat (entry_at r log i).promised ≡ Some ballot
    pub is : (
      with_takeover (with_entry r log i (promising (entry_at r log i) ballot)) (Some (begun log i ballot r.seat (report_of (entry_at r log i)))),
      Some (prepare r.seat log i ballot),
    ) ≡ x

  pub taken_over : (log i : ℕ) (x : Replica × Option Message) → takeover r log i ≡ Ok x → TakenOver log i x
  taken_over log i x q =
      let a = passes (is_placed log i) NoSuchEntry _ x q in
      let b = unrefused (is_committed (entry_at r log i).state) AlreadyCommitted _ x a.1 in
      let d = unrefused (is_nothing r log i) NothingThere _ x b.1 in
      by (placed log i a.0) b.0 (next_ballot r.seat (entry_at r log i).promised) refl d.1
    where
      by : (log ≤ 1) × (1 ≤ i) × (i ≤ 128) → is_committed (entry_at r log i).state ≡ false → (o : Option ℕ) → next_ballot r.seat (entry_at r log i).promised ≡ o
          → takeover_at r log i o ≡ Ok x
          → TakenOver log i x
      by place undecided None n w = absurd (grind arith)
      by place undecided (Some b) n w = record { place = place; undecided = undecided; ballot = b; next = n; is = same_ok _ x w }
