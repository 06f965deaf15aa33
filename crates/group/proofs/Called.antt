-- Each call of a card is a turn at one entry.
use Rattle.std.proofs.Common.{◌≡◌, ℕ, ◌-◌, ◌<◌, ◌≤◌, Bool, true, false, ◌||◌, eqb, ltb, List, set, replicate, Some, None, Ok, Option, sym, refl, ap, ◌∙◌, subst, inl, inr, arith}
use mathlib.Core.Option.{some}
use Rattle.std.proofs.lemmas.Bool.{cases_Bool, and_parts, eqb-true}
use Rattle.std.proofs.lemmas.Bool.Decides.{nat_tests}
use Rattle.command.specs.declared.Command.{Command}
use Rattle.block.specs.declared.message.Message.{Message}
use Rattle.column.specs.Cells.{Body.fast_accept, Body.prepare, Puts, Report.unheard, report_of_cell}
use Rattle.column.specs.Cells as column
use Rattle.column.specs.Moves.{Act.proposes, Act.takes_over, Act.rests, Turn.once}
use Rattle.entry.specs.declared.answers.Answer.TheVariants.{Vote}
use Rattle.entry.specs.declared.entry.Entry.{Entry}
use Rattle.entry.specs.declared.entry.State.{State}
use Rattle.entry.specs.declared.entry.State.TheVariants.{Empty, Answered, Accepted, Committed}
use Rattle.entry.specs.declared.reports.Reported.{Reported}
use Rattle.entry.specs.Ballots.{next_ballot}
use Rattle.entry.specs.Entries.{is_held, is_committed, is_taken, promising}
use Rattle.entry.specs.Entries as entries
use Rattle.entry.specs.Owners.{is_open, counts_answers}
use Rattle.entry.specs.Takeovers.{begun}
use Rattle.card.specs.declared.replica.Replica.{Replica}
use Rattle.card.specs.Tables.{entry_at, with_entry, with_takeover, highest_held, highest_taken}
use Rattle.card.specs.Messages.{fast_accept_message, prepare as asks_all}
use Rattle.card.specs.Proposing.{next_entry, proposal_of, propose}
use Rattle.card.specs.Settling.{settle}
use Rattle.card.specs.Taking.{takeover}
use Rattle.group.specs.Views.{log_named, stage_of, answer_of, answers_of, seats_of, report_of, reports_of}
use Rattle.group.specs.Turns.{SeatedCard, TakesTurn, DeliveriesTurn}
use Rattle.column.proofs.Cards.{same_everywhere}
use Rattle.group.proofs.Counting.{puts_one}
use Rattle.group.proofs.Passing as passing
use Rattle.group.proofs.Placing.{number_named}
use Rattle.group.proofs.Scanning.{scans_find}
use Rattle.group.proofs.Turning.{writes, writes_both, far_highest, committed_only, report_same}
use Rattle.group.proofs.Hearing.{open_only, settles_now}
use Rattle.group.proofs.Balloting.{ballots_rise}
use Rattle.group.proofs.Delivered.{Steps, delivers}

pub deliveries_turn : DeliveriesTurn
deliveries_turn f r s S m valid sent mine peer x q =
    subst (Steps f r s.size s.some_fail s.few s.seat s.stands S m valid sent mine peer) q
    (delivers f r s.size s.some_fail s.few s.seat s.stands S m valid sent mine peer)

-- an entry that is not taken is empty and promised nothing
pub untaken : (e : Entry) → is_taken e ≡ false → (e.state ≡ Empty) × (e.promised ≡ 0)
untaken e t = (by e.state (left (is_held e.state) t), zero_promise)
  where
    left : (b : Bool) → (b || ltb 0 e.promised) ≡ false → b ≡ false
    left true q = absurd (grind arith)
    left false q = refl

    by : (st : State) → is_held st ≡ false → st ≡ Empty
    by Empty h = refl
    by Answered h = absurd (grind arith)
    by Accepted h = absurd (grind arith)
    by Committed h = absurd (grind arith)

    zero_promise : e.promised ≡ 0
    zero_promise = grind (arith, nat_tests)

module _ (f : ℕ) (r : Replica) (s : SeatedCard f r) (S : List column.Message) where
  proposed : (c : Command) → (r.seat ≤ 1) → highest_taken r r.seat < 128
      → TakesTurn f S r (log_named r.seat) (next_entry r)
      (with_entry r r.seat (next_entry r) (proposal_of r c), Some (fast_accept_message r.seat r.seat (next_entry r) (proposal_of r c)))
  proposed c low room =
      let i : ℕ = next_entry r in
      let e : Entry = entry_at r r.seat i in
      let d : ℕ = highest_held r (1 - r.seat) in
      let free : is_taken e ≡ false = elim (cases_Bool (is_taken e)) [
        | inl t ↦ absurd (let k = (scans_find r s.stands.shape).taken r.seat i low (omega arith) (omega arith) t in omega arith)
        | inr t ↦ t
      ] in
      let bare = untaken e free in
      let stands_e = s.stands.entries r.seat (i - 1) low (omega arith) in
      let few = s.few in
      let seat = s.seat in
      writes r.n f r.seat r s.stands S (log_named r.seat) r.seat i (number_named r.seat low) (omega arith) (omega arith)
      (proposal_of r c) (Some (fast_accept_message r.seat r.seat i (proposal_of r c))) (some (fast_accept c d)) refl (
        _,
        once (proposes c d (answers_of (set e.tally.answers r.seat (Some (Vote d)))) (sym (number_named r.seat low)) (ap stage_of bare.0) bare.1
            (far_highest r.n f r.seat r s.stands S (log_named r.seat) r.seat i (number_named r.seat low) (omega arith) (omega arith))
            (puts_one answer_of None (Some (Vote d)) e.tally.answers r.seat (omega (arith, stands_e.answers.seven)))),
      )

  pub proposals : (c : Command) (x : Replica × Option Message) → propose r c ≡ Ok x → TakesTurn f S r (log_named r.seat) (next_entry r) x
  proposals c x q = let w = passing.proposed r c x q in subst (TakesTurn f S r (log_named r.seat) (next_entry r)) w.is (proposed c w.low w.room)

  pub settlings : (log i : ℕ) (x : Replica × Option Message) → settle r log i ≡ Ok x → TakesTurn f S r (log_named log) i x
  settlings log i x q =
      let w = passing.settled r log i x q in
      let p = w.place in
      let e : Entry = entry_at r log i in
      let own = and_parts (eqb log r.seat) (counts_answers e) w.counts in
      let open_e = and_parts (is_open e.state) (eqb e.promised 0) own.1 in
      let mine : r.seat ≡ log = sym (eqb-true log r.seat own.0) in
      let high = p.2 in
      let stands_e = s.stands.entries log (i - 1) p.0 (let l = p.1 in let h = p.2 in omega arith) in
      subst (TakesTurn f S r (log_named log) i) w.is
      (settles_now r.n f r.seat s.size s.few r s.stands S (log_named log) log i (number_named log p.0) p.1 p.2 mine
      e stands_e (open_only e.state open_e.0) (eqb-true e.promised 0 open_e.1) rests s.seat w.enough)

  taken_over : (log i b : ℕ) → (log ≤ 1) × (1 ≤ i) × (i ≤ 128) → is_committed (entry_at r log i).state ≡ false
      → next_ballot r.seat (entry_at r log i).promised ≡ Some b
      → TakesTurn f S r (log_named log) i
      (with_takeover (with_entry r log i (promising (entry_at r log i) b)) (Some (begun log i b r.seat (entries.report_of (entry_at r log i)))), Some (asks_all r.seat log i b))
  taken_over log i b p unc next =
      let e : Entry = entry_at r log i in
      let own : Reported = entries.report_of e in
      let rise = ballots_rise r.seat e.promised b next in
      let seat = s.seat in
      let few = s.few in
      writes_both r.n f r.seat r s.stands S (log_named log) log i (number_named log p.0) p.1 p.2
      (promising e b) (begun log i b r.seat own) (Some (asks_all r.seat log i b)) (some (prepare b)) refl (
        _,
        once (takes_over b (reports_of (set (replicate 7 None) r.seat (Some own))) (seats_of (replicate 7 false)) rise.own
            (λ c. let z = committed_only e.state c in let y : is_committed e.state ≡ true = rw z in grind arith) rise.above
            (λ k. elim (puts_one report_of None (Some own) (replicate 7 None) r.seat (omega arith) k) [
              | inl w ↦ inl (w ∙ ap report_of (same_everywhere 7 k None))
              | inr w ↦ inr (w.0, w.1 ∙ report_same e)
            ])
            (λ c. same_everywhere 7 c false)),
      )

  pub takeovers : (log i : ℕ) (x : Replica × Option Message) → takeover r log i ≡ Ok x → TakesTurn f S r (log_named log) i x
  takeovers log i x q =
      let w = passing.taken_over r log i x q in
      subst (TakesTurn f S r (log_named log) i) w.is (taken_over log i w.ballot w.place w.undecided w.next)
