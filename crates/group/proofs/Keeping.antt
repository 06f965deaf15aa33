-- Each call leaves a card standing in its seat.
use Rattle.std.proofs.Common.{◌≡◌, ℕ, ◌-◌, ◌<◌, ◌≤◌, Bool, true, false, cond, not, ◌&&◌, ◌||◌, eqb, ltb, leb, ◌⊎◌, List, get_or, set, replicate, Some, None, Ok, Err, Option, sym, refl, ap, ◌∙◌, subst, inl, inr, arith}
use Rattle.std.proofs.lemmas.List.{get_or-set_same, get_or-set_other}
use Rattle.std.proofs.lemmas.Bool.{cases_Bool, cases_eq}
use Rattle.std.proofs.lemmas.Bool.Decides.{nat_tests}
use Rattle.block.specs.declared.message.Kind.{Kind}
use Rattle.block.specs.declared.message.Kind.TheVariants.{FastAccept, FastAcceptOk, FastAcceptReply, Accept, AcceptOk, Commit, Prepare, PrepareOk, Reject}
use Rattle.block.specs.declared.message.Message.{Message}
use Rattle.block.specs.declared.message.Report.{Report}
use Rattle.block.specs.declared.message.Report.TheVariants as report
use Rattle.block.specs.declared.message.Value.{Value}
use Rattle.block.specs.Messages.{value_number, report_number}
use Rattle.block.specs.Fits.{value_fits, report_fits}
use Rattle.block.specs.Valid.{Valid}
use Rattle.entry.specs.declared.answers.Answer.{Answer}
use Rattle.entry.specs.declared.answers.Answer.TheVariants.{Vote, Reply}
use Rattle.entry.specs.declared.entry.Entry.{Entry}
use Rattle.entry.specs.declared.entry.State.{State}
use Rattle.entry.specs.declared.entry.State.TheVariants.{Empty, Answered, Accepted, Committed}
use Rattle.entry.specs.declared.reports.Reported.{Reported}
use Rattle.entry.specs.declared.takeover.Takeover.{Takeover}
use Rattle.entry.specs.Answers.{is_answer}
use Rattle.entry.specs.Entries.{is_committed, is_held, is_taken, promising, answering, accepting, committing}
use Rattle.entry.specs.Entries as entries
use Rattle.entry.specs.Owners.{is_open, with_answers, with_accepts, proposing, settling, has_fast_quorum, has_two_replies, can_settle, decided, is_accepted, acknowledging, counts_answers, hearing}
use Rattle.entry.specs.Quorums.{majority_of}
use Rattle.entry.specs.declared.entry.Progress.{Progress}
use Rattle.entry.specs.declared.entry.Progress.TheVariants.{Commits}
use Rattle.std.specs.List.{count_by as counted_in}
use Rattle.entry.specs.Reports.{is_reported, choice}
use Rattle.entry.specs.Takeovers.{takeover_of as takeover_from, begun, is_live, gathered, reporting, agreed}
use Rattle.entry.specs.Takeovers as takeovers
use Rattle.card.specs.declared.replica.Replica.{Replica}
use Rattle.command.specs.declared.Command.{Command}
use Rattle.block.specs.declared.message.Value.TheVariants as value
use Rattle.card.specs.declared.refusal.Refusal.TheVariants.{DifferentCommit}
use Rattle.card.specs.Proposing.{next_entry, proposal_of, propose}
use Rattle.card.specs.Settling.{settle}
use Rattle.card.specs.Taking.{takeover}
use Rattle.card.specs.Tables.{absent, log_of, entry_at, with_entry, with_takeover, highest_held, is_blocked}
use Rattle.card.specs.Steps.{Step}
use Rattle.card.specs.Delivering.{nothing, recommits, answers, hears, acknowledges_owner, acknowledges_by, acknowledges_takeover, reports_by, reports, reported_in, same_value, on_fast_accept, on_answer, on_accept_ok, unless_committed, accepts, promises, raises, turn_by, turn}
use Rattle.group.specs.Choices.{Chosen, Chosen.as_accepted, Chosen.as_voted, Chosen.as_noop}
use Rattle.group.specs.Settlements.{Low}
use Rattle.group.specs.Standing.{Seated, StandingEntry, StandingTakeover, StandingMaybe, Standing, ValuedEntry, ValuedReport, Valued}
use Rattle.column.proofs.Cards.{same_everywhere}
use Rattle.group.proofs.Beginning.{seated}
use Rattle.group.proofs.Choosing.{reports_choose}
use Rattle.group.proofs.Counting.{seated_more}
use Rattle.group.proofs.Settling.{settled_low}
use Rattle.group.proofs.Hearing.{noted_stands_at}
use Rattle.group.proofs.Scanning.{scans_find, highest_held_low}
use Rattle.group.proofs.Called.{untaken}
use Rattle.group.proofs.Passing.{proposed, settled, taken_over}
use Rattle.group.proofs.Placing.{logs_two, item_here, item_other, shaped}

-- a card that stands, with values
pub record Whole (n s : ℕ) (r : Replica) : Type 0 where
  pub stands : Standing n s r
  pub valued : Valued r

-- what a call comes to leaves the card whole
abbrev pub After : Replica → Step → Type 0
After r (Ok x) = Whole r.n r.seat x.0
After r (Err refused) = Unit {0}

-- an entry that stands, and that has a value where it is not empty
record WholeEntry (n : ℕ) (e : Entry) : Type 0 where
  stands : StandingEntry n e
  valued : ValuedEntry e

-- a takeover that stands, and whose reports have values
record WholeTakeover (n : ℕ) (t : Takeover) : Type 0 where
  stands : StandingTakeover n t
  valued : (c : ℕ) (x : Reported) → get_or t.reports c None ≡ Some x → ValuedReport x

-- an entry of a card that stands
whole_at : (n s : ℕ) (r : Replica) → Whole n s r → (log i : ℕ) → log ≤ 1 → 1 ≤ i → i ≤ 128 → WholeEntry n (entry_at r log i)
whole_at n s r whole log i l low high =
    record { stands = whole.stands.entries log (i - 1) l (omega arith); valued = whole.valued.entries log (i - 1) l (omega arith) }

-- what has a value goes on having one
abbrev Lasts : Entry → Entry → Type 0
Lasts e x = x.value ≡ value.Nothing → e.value ≡ value.Nothing

-- a card with one entry changed
written_stands : (n s : ℕ) (r : Replica) → Whole n s r → (log i : ℕ) → log ≤ 1 → 1 ≤ i → i ≤ 128 → (x : Entry) → WholeEntry n x
    → Lasts (entry_at r log i) x
    → Whole n s (with_entry r log i x)
written_stands n s r whole log i l low high x whole_x lasts =
    record {
      stands = record {
        size = whole.stands.size;
        place = whole.stands.place;
        logs = logs_two r whole.stands.logs whole.stands.shape log i l low high x;
        shape = shaped r whole.stands.logs whole.stands.shape log i l low high x;
        entries = λ h k hl kl. items h k (StandingEntry n) whole_x.stands (whole.stands.entries h k hl kl);
        takeover = whole.stands.takeover;
      };
      valued = record {
        entries = λ h k hl kl. items h k ValuedEntry whole_x.valued (whole.valued.entries h k hl kl);
        reports = whole.valued.reports;
        stored = λ t mine chosen. elim (either t.log (t.entry - 1)) [
          | inl q ↦ λ z. whole.valued.stored t mine chosen (ap (λ e. e.value) q.1 ∙ lasts (ap (λ e. e.value) (sym q.0) ∙ z))
          | inr q ↦ λ z. whole.valued.stored t mine chosen (ap (λ e. e.value) (sym q) ∙ z)
        ];
      };
    }
  where
    item : Replica → ℕ → ℕ → Entry
    item q h k = get_or (log_of q h) k absent

    -- each item is the written one in its place, or as it was
    either : (h k : ℕ) → ((item (with_entry r log i x) h k ≡ x) × (item r h k ≡ entry_at r log i)) ⊎ (item (with_entry r log i x) h k ≡ item r h k)
    either h k = elim (cases_eq h log) [
      | inl same ↦ elim (cases_eq k (i - 1)) [
        | inl here ↦ inl (rw (same, here) (item_here r whole.stands.logs whole.stands.shape log i l low high x), rw (same, here))
        | inr ne ↦ inr (item_other r whole.stands.logs whole.stands.shape log i l low high x h k (λ q. ne q.1))
      ]
      | inr ne ↦ inr (item_other r whole.stands.logs whole.stands.shape log i l low high x h k (λ q. ne q.0))
    ]

    items : (h k : ℕ) (P : Entry → Type 0) → P x → P (item r h k) → P (item (with_entry r log i x) h k)
    items h k P new old = elim (either h k) [ inl q ↦ subst P (sym q.0) new | inr q ↦ subst P (sym q) old ]

took_stands : (n s : ℕ) (r : Replica) → Whole n s r → (u : Takeover) → WholeTakeover n u
    → (u.chosen ≡ true → (entry_at r u.log u.entry).value ≡ value.Nothing → ⊥)
    → Whole n s (with_takeover r (Some u))
took_stands n s r whole u whole_u stored =
    record {
      stands = record {
        size = whole.stands.size;
        place = whole.stands.place;
        logs = whole.stands.logs;
        shape = whole.stands.shape;
        entries = whole.stands.entries;
        takeover = whole_u.stands;
      };
      valued = record {
        entries = whole.valued.entries;
        reports = λ t mine. let same : u ≡ t = grind arith in subst (λ w. (c : ℕ) (x : Reported) → get_or w.reports c None ≡ Some x → ValuedReport x) same whole_u.valued;
        stored = λ t mine. let same : u ≡ t = grind arith in subst (λ w. w.chosen ≡ true → (entry_at r w.log w.entry).value ≡ value.Nothing → ⊥) same stored;
      };
    }

module _ (n : ℕ) (e : Entry) (whole : WholeEntry n e) where
  abbrev st : StandingEntry n e
  st = whole.stands

  promising_stands : (b : ℕ) → WholeEntry n (promising e b)
  promising_stands b =
      record {
        stands = record {
          answers = st.answers;
          accepts = st.accepts;
          low = st.low;
          dependency = st.dependency;
          untallied = st.untallied;
          bare = st.bare;
          votes = st.votes;
        };
        valued = whole.valued;
      }

  -- an entry whose answers count no more
  closed_stands : (x : Entry) → x.tally.answers ≡ e.tally.answers → Seated n false x.tally.accepts → x.dependency ≤ 128
      → is_open x.state ≡ false → is_held x.state ≡ true → (x.value ≡ value.Nothing → ⊥)
      → WholeEntry n x
  closed_stands x same accepts l past held valued =
      record {
        stands = record {
          answers = subst (Seated n None) (sym same) st.answers;
          accepts = accepts;
          low = subst Low (sym same) st.low;
          dependency = l;
          untallied = λ q. absurd (grind arith);
          bare = λ q. absurd (grind arith);
          votes = λ c d o q. absurd (grind arith);
        };
        valued = λ q. absurd (valued q);
      }

  accepting_stands : (b : ℕ) (v : Value) (d : ℕ) → d ≤ 128 → (v ≡ value.Nothing → ⊥) → WholeEntry n (accepting e b v d)
  accepting_stands b v d l valued = closed_stands (accepting e b v d) refl st.accepts l refl refl valued

  committing_stands : (v : Value) (d : ℕ) → d ≤ 128 → (v ≡ value.Nothing → ⊥) → WholeEntry n (committing e v d)
  committing_stands v d l valued = closed_stands (committing e v d) refl st.accepts l refl refl valued

  settling_stands : (seat : ℕ) → seat < n → (e.value ≡ value.Nothing → ⊥) → WholeEntry n (settling n seat e)
  settling_stands seat inside valued =
      closed_stands (settling n seat e) refl (seated_more n seat false true e.tally.accepts inside st.accepts)
      (settled_low e.tally.answers n) refl refl valued

  answering_stands : (v : Value) (d a : ℕ) (w : Bool) → d ≤ 128 → (v ≡ value.Nothing → ⊥) → e.state ≡ Empty
      → WholeEntry n (answering e v d a w)
  answering_stands v d a w l valued empty =
      record {
        stands = record {
          answers = st.answers;
          accepts = st.accepts;
          low = st.low;
          dependency = l;
          untallied = λ q. absurd (grind arith);
          bare = λ q. absurd (grind arith);
          votes = λ c x o q. absurd (let z = st.untallied empty c in grind arith);
        };
        valued = λ q. absurd (valued q);
      }

  accepts_stands : (from : ℕ) → from < n → WholeEntry n (with_accepts e (set e.tally.accepts from true))
  accepts_stands from seat =
      record {
        stands = record {
          answers = st.answers;
          accepts = seated_more n from false true e.tally.accepts seat st.accepts;
          low = st.low;
          dependency = st.dependency;
          untallied = st.untallied;
          bare = st.bare;
          votes = st.votes;
        };
        valued = whole.valued;
      }

  proposing_stands : (seat : ℕ) (v : Value) (d : ℕ) → seat < n → d ≤ 128 → n ≤ 7 → (v ≡ value.Nothing → ⊥) → e.state ≡ Empty
      → WholeEntry n (proposing e seat v d)
  proposing_stands seat v d inside l few valued empty =
      record {
        stands = noted_stands_at n few (answering e v d d true) seat (Some (Vote d)) inside (answering_stands v d d true l valued empty).stands refl
            (λ x q. let z : d ≡ x = elim q [ inl w ↦ grind arith | inr w ↦ absurd (grind arith) ] in omega arith) (λ x q. grind arith);
        valued = λ q. absurd (valued q);
      }

  decided_stands : (seat : ℕ) → seat < n → (e.value ≡ value.Nothing → ⊥) → WholeEntry n (decided n seat e).0
  unfolding decided
  decided_stands seat inside valued = elim (cases_Bool (has_fast_quorum n e)) [
    | inl q ↦ rw q (committing_stands e.value e.dependency st.dependency valued)
    | inr q ↦ elim (cases_Bool (has_two_replies e && can_settle n e)) [
      | inl w ↦ rw (q, w) (settling_stands seat inside valued)
      | inr w ↦ rw (q, w) whole
    ]
  ]

  counted_stands : (from : ℕ) → from < n → WholeEntry n (acknowledging n e from).0
  counted_stands from seat =
      let x = accepts_stands from seat in
      elim (cases_Bool (is_accepted e.state && eqb e.promised 0)) [
        | inl q ↦ elim (cases_Bool (leb (majority_of n) (counted_in (λ b. b) (set e.tally.accepts from true)))) [
          | inl w ↦ rw (q, w) (closed_stands (committing (with_accepts e (set e.tally.accepts from true)) e.value e.dependency) refl x.stands.accepts
              st.dependency refl refl (λ z. let y = whole.valued z in grind arith))
          | inr w ↦ rw (q, w) x
        ]
        | inr q ↦ rw q whole
      ]

-- counting answers and accepts changes no value
decided_same : (n seat : ℕ) (e : Entry) → (decided n seat e).0.value ≡ e.value
unfolding decided
decided_same n seat e = grind arith

counted_same : (n : ℕ) (e : Entry) (from : ℕ) → (acknowledging n e from).0.value ≡ e.value
counted_same n e from = grind arith

-- the dependency of what is reported
report_low : (n : ℕ) (e : Entry) → StandingEntry n e → (entries.report_of e).dependency ≤ 128
report_low n e st = by e.state
  where
    by : (s : State) → (entries.report_by s e).dependency ≤ 128
    by Empty = omega arith
    by Answered = elim (cases_Bool e.vote) [ inl v ↦ rw v st.dependency | inr v ↦ rw v (omega arith) ]
    by Accepted = st.dependency
    by Committed = omega arith

report_valued : (e : Entry) → ValuedEntry e → ValuedReport (entries.report_of e)
report_valued e valued = by e.state refl
  where
    by : (s : State) → e.state ≡ s → ValuedReport (entries.report_by s e)
    by Empty q = λ z. refl
    by Answered q = elim (cases_Bool e.vote) [ inl v ↦ rw v (λ z. absurd (let y = valued z in grind arith)) | inr v ↦ rw v (λ z. refl) ]
    by Accepted q = λ z. absurd (let y = valued z in grind arith)
    by Committed q = λ z. refl

-- one report more
report_stands : (n : ℕ) (u : Takeover) → WholeTakeover n u → (chosen : Bool) (from : ℕ) (x : Reported) → from < n → n ≤ 7 → x.dependency ≤ 128
    → ValuedReport x
    → WholeTakeover n (takeover_from u.log u.entry u.ballot (set u.reports from (Some x)) chosen u.accepts)
report_stands n u whole chosen from x seat few low valued =
    let xs : List (Option Reported) = u.reports in
    record {
      stands = record {
        dependencies = λ c y q. elim (either c y q) [ inl t ↦ subst (λ v. v.dependency ≤ 128) t low | inr z ↦ whole.stands.dependencies c y z ];
        reports = seated_more n from None (Some x) xs seat whole.stands.reports;
        accepts = whole.stands.accepts;
      };
      valued = λ c y q. elim (either c y q) [ inl t ↦ subst ValuedReport t valued | inr z ↦ whole.valued c y z ];
    }
  where
    -- the new report, or one from before
    either : (c : ℕ) (y : Reported) → get_or (set u.reports from (Some x)) c None ≡ Some y → (x ≡ y) ⊎ (get_or u.reports c None ≡ Some y)
    either c y q = elim (cases_eq c from) [
      | inl same ↦
          let z : get_or (set u.reports from (Some x)) c None ≡ Some x =
          ap (λ k. get_or (set u.reports from (Some x)) k None) same ∙ get_or-set_same u.reports from (Some x) None (omega (arith, whole.stands.reports.seven)) in
          inl (grind arith)
      | inr ne ↦ inr (sym (get_or-set_other u.reports from c (Some x) None ne) ∙ q)
    ]

begun_stands : (n log i b seat : ℕ) (own : Reported) → seat < n → n ≤ 7 → own.dependency ≤ 128 → ValuedReport own
    → WholeTakeover n (begun log i b seat own)
begun_stands n log i b seat own inside few low valued =
    report_stands n (takeover_from log i b (replicate 7 None) false (replicate 7 false))
    (record {
      stands = record { dependencies = λ c x q. absurd (none c x q); reports = seated n None; accepts = seated n false };
      valued = λ c x q. absurd (none c x q);
    })
    false seat own inside few low valued
  where
    none : (c : ℕ) (x : Reported) → get_or (replicate 7 None) c None ≡ Some x → ⊥
    none c x q = let z = same_everywhere {X = Option Reported} 7 c None in grind arith

-- what a message to the takeover u of the entry e leads to
record BothStand (n : ℕ) (u : Takeover) (e : Entry) (x : Takeover × Entry × Option Progress) : Type 0 where
  takeover : WholeTakeover n x.0
  entry : WholeEntry n x.1
  log_is : x.0.log ≡ u.log
  place_is : x.0.entry ≡ u.entry
  stored : x.0.chosen ≡ true → x.1.value ≡ value.Nothing → ⊥
  lasts : Lasts e x.1

module _ (n : ℕ) (u : Takeover) (whole_u : WholeTakeover n u) (e : Entry) (whole_e : WholeEntry n e)
    (stored : u.chosen ≡ true → e.value ≡ value.Nothing → ⊥) where
  stay_put : BothStand n u e (u, e, None)
  stay_put = record { takeover = whole_u; entry = whole_e; log_is = refl; place_is = refl; stored = stored; lasts = λ q. q }

  -- what a takeover chooses has a dependency that was reported, and a value
  choice_low : (owner : ℕ) (v : Value × ℕ) → Chosen u.reports n owner v → v.1 ≤ 128
  choice_low owner v (as_accepted c b x w top) = whole_u.stands.dependencies c x w.0
  choice_low owner v (as_voted c x silent many w q) = whole_u.stands.dependencies c x w
  choice_low owner v (as_noop silent less) = omega arith

  choice_valued : (owner : ℕ) (v : Value × ℕ) → Chosen u.reports n owner v → v.0 ≡ value.Nothing → ⊥
  choice_valued owner v (as_accepted c b x w top) z = let y = whole_u.valued c x w.0 z in let a = w.1 in grind arith
  choice_valued owner v (as_voted c x silent many w q) z = let y = whole_u.valued c x w z in grind arith
  choice_valued owner v (as_noop silent less) z = grind arith

  -- one accept more
  backed : (seat : ℕ) → seat < n → (chosen : Bool) → WholeTakeover n (takeover_from u.log u.entry u.ballot u.reports chosen (set u.accepts seat true))
  backed seat inside chosen =
      record {
        stands = record {
          dependencies = whole_u.stands.dependencies;
          reports = whole_u.stands.reports;
          accepts = seated_more n seat false true u.accepts inside whole_u.stands.accepts;
        };
        valued = whole_u.valued;
      }

  gathered_stands : (seat : ℕ) → seat < n → 2 ≤ majority_of n → BothStand n u e (gathered n seat u e)
  gathered_stands seat inside some = elim (cases_Bool (leb (majority_of n) (counted_in is_reported u.reports))) [
    | inl q ↦ rw q (
        let c : Value × ℕ = choice n u.log u.reports in
        let why = reports_choose n u.log u.reports some in
        record {
          takeover = backed seat inside true;
          entry = accepting_stands n e whole_e u.ballot c.0 c.1 (choice_low u.log c why) (choice_valued u.log c why);
          log_is = refl;
          place_is = refl;
          stored = λ t. choice_valued u.log c why;
          lasts = λ z. absurd (choice_valued u.log c why z);
        })
    | inr q ↦ rw q stay_put
  ]

  backed_stands : (from : ℕ) → from < n → BothStand n u e (takeovers.acknowledging n u e from)
  backed_stands from seat = by_chosen u.chosen refl
    where
      w : Takeover
      w = takeover_from u.log u.entry u.ballot u.reports u.chosen (set u.accepts from true)

      with_entry_lem : (x : Entry) (p : Option Progress) → WholeEntry n x → x.value ≡ e.value → BothStand n u e (w, x, p)
      with_entry_lem x p st same =
          record { takeover = backed from seat u.chosen; entry = st; log_is = refl; place_is = refl; stored = λ t z. stored t (sym same ∙ z); lasts = λ z. sym same ∙ z }

      by_count : u.chosen ≡ true → (b : Bool) → BothStand n u e (cond b (w, committing e e.value e.dependency, Some Commits) (w, e, None))
      by_count t true =
          with_entry_lem (committing e e.value e.dependency) (Some Commits)
          (committing_stands n e whole_e e.value e.dependency whole_e.stands.dependency (stored t)) refl
      by_count t false = with_entry_lem e None whole_e refl

      by_chosen : (b : Bool) → u.chosen ≡ b → BothStand n u e (cond b (agreed n w e) (u, e, None))
      by_chosen true t = by_count t (leb (majority_of n) (counted_in (λ a. a) (set u.accepts from true)))
      by_chosen false t = stay_put

-- what a card makes of a message leaves it standing
module _ (r : Replica) (few : r.n ≤ 7) (some : 2 ≤ majority_of r.n) (seat_s : r.seat < r.n) (whole : Whole r.n r.seat r) (m : Message)
    (valid : Valid m) (from_seat : m.from < r.n) where
  abbrev e : Entry
  e = entry_at r m.log m.entry

  abbrev pub Keeps : Replica × Option Message → Type 0
  Keeps x = Whole r.n r.seat x.0

  whole_e : WholeEntry r.n e
  whole_e = whole_at r.n r.seat r whole m.log m.entry valid.log valid.entry_from_one valid.entry_to_last

  write : (x : Entry) → WholeEntry r.n x → Lasts e x → Whole r.n r.seat (with_entry r m.log m.entry x)
  write x st lasts =
      written_stands r.n r.seat r whole m.log m.entry valid.log valid.entry_from_one valid.entry_to_last x st lasts

  -- a takeover of this entry, which is where it stored its choice
  module _ (u : Takeover) (mine : r.takeover ≡ Some u) (live : is_live u m.log m.entry m.ballot e ≡ true) where
    log_same : u.log ≡ m.log
    log_same = grind (arith, nat_tests)

    place_same : u.entry ≡ m.entry
    place_same = grind (arith, nat_tests)

    stored_here : u.chosen ≡ true → e.value ≡ value.Nothing → ⊥
    stored_here t z = whole.valued.stored u mine t (ap (λ k. (entry_at r k u.entry).value) log_same ∙ (ap (λ k. (entry_at r m.log k).value) place_same ∙ z))

    whole_u : WholeTakeover r.n u
    whole_u = record { stands = subst (StandingMaybe r.n) mine whole.stands.takeover; valued = whole.valued.reports u mine }

    take_both : (x : Takeover × Entry × Option Progress) → BothStand r.n u e x
        → Whole r.n r.seat (with_takeover (with_entry r m.log m.entry x.1) (Some x.0))
    take_both x b =
        let q : Replica = with_entry r m.log m.entry x.1 in
        took_stands r.n r.seat q (write x.1 b.entry b.lasts) x.0 b.takeover
        (λ t z. b.stored t (ap (λ y. y.value) (sym here) ∙ z))
      where
        here : entry_at (with_entry r m.log m.entry x.1) x.0.log x.0.entry ≡ x.1
        here = rw (b.log_is, b.place_is, log_same, place_same)
            (item_here r whole.stands.logs whole.stands.shape m.log m.entry valid.log valid.entry_from_one valid.entry_to_last x.1)

  proposal_keeps : (m.value ≡ value.Nothing → ⊥) → (st : State) → e.state ≡ st → Keeps (on_fast_accept st r m e)
  unfolding answers
  proposal_keeps valued Empty q = elim (cases_Bool (ltb 0 e.promised)) [
    | inl w ↦ rw w whole
    | inr w ↦ elim (cases_Bool (is_blocked r m.log m.entry m.dependency)) [
      | inl b ↦ rw (w, b) (write (answering e m.value m.dependency (highest_held r (1 - m.log)) false)
          (answering_stands r.n e whole_e m.value m.dependency (highest_held r (1 - m.log)) false valid.dependency valued q) (λ z. absurd (valued z)))
      | inr b ↦ rw (w, b) (write (answering e m.value m.dependency m.dependency true)
          (answering_stands r.n e whole_e m.value m.dependency m.dependency true valid.dependency valued q) (λ z. absurd (valued z)))
    ]
  ]
  proposal_keeps valued Answered q = elim (cases_Bool (ltb 0 e.promised)) [ inl w ↦ rw w whole | inr w ↦ rw w whole ]
  proposal_keeps valued Accepted q = elim (cases_Bool (ltb 0 e.promised)) [ inl w ↦ rw w whole | inr w ↦ rw w whole ]
  proposal_keeps valued Committed q = whole

  -- an answer is counted, or nothing changes
  hearing_keeps : (a : Answer) → ((d : ℕ) → (Some a ≡ Some (Vote d)) ⊎ (Some a ≡ Some (Reply d)) → d ≤ 128) → ((d : ℕ) → Some a ≡ Some (Vote d) → d ≡ e.dependency)
      → e.state ≡ Answered → Keeps (hears r m e a)
  unfolding hears
  hearing_keeps a fits own q =
      write (hearing r.n r.seat e m.from (Some a)).0
      (elim (cases_Bool (counts_answers e && (leb m.from 6 && not (is_answer (get_or e.tally.answers m.from None))))) [
        | inl w ↦ rw w (decided_stands r.n (with_answers e (set e.tally.answers m.from (Some a)))
            (record { stands = noted_stands_at r.n few e m.from (Some a) from_seat whole_e.stands q fits own; valued = whole_e.valued }) r.seat seat_s
            (λ z. let y = whole_e.valued z in grind arith))
        | inr w ↦ rw w whole_e
      ])
      (elim (cases_Bool (counts_answers e && (leb m.from 6 && not (is_answer (get_or e.tally.answers m.from None))))) [
        | inl w ↦ rw w (λ z. sym (decided_same r.n r.seat (with_answers e (set e.tally.answers m.from (Some a)))) ∙ z)
        | inr w ↦ rw w (λ z. z)
      ])

  answer_keeps : (a : Answer) → ((d : ℕ) → (Some a ≡ Some (Vote d)) ⊎ (Some a ≡ Some (Reply d)) → d ≤ 128) → ((d : ℕ) → Some a ≡ Some (Vote d) → d ≡ e.dependency)
      → (st : State) → e.state ≡ st → Keeps (on_answer st a r m e)
  answer_keeps a fits own Empty q = whole
  answer_keeps a fits own Answered q = hearing_keeps a fits own q
  answer_keeps a fits own Accepted q = whole
  answer_keeps a fits own Committed q = whole

  owner_keeps : Keeps (acknowledges_owner r m e)
  unfolding acknowledges_owner
  owner_keeps = write (acknowledging r.n e m.from).0 (counted_stands r.n e whole_e m.from from_seat)
      (λ z. sym (counted_same r.n e m.from) ∙ z)

  backing_keeps : Keeps (acknowledges_takeover r m e)
  unfolding acknowledges_takeover
  backing_keeps = by r.takeover refl
    where
      by : (o : Option Takeover) → r.takeover ≡ o → Keeps (acknowledges_by o r m e)
      by None mine = whole
      by (Some u) mine = elim (cases_Bool (is_live u m.log m.entry m.ballot e)) [
        | inl l ↦ rw l (take_both u mine l (takeovers.acknowledging r.n u e m.from)
            (backed_stands r.n u (whole_u u mine l) e whole_e (stored_here u mine l) m.from from_seat))
        | inr l ↦ rw l whole
      ]

  accept_ok_keeps : (st : State) → Keeps (on_accept_ok st r m e)
  accept_ok_keeps Empty = elim (cases_Bool (ltb 0 m.ballot)) [ inl q ↦ rw q backing_keeps | inr q ↦ rw q whole ]
  accept_ok_keeps Answered = elim (cases_Bool (ltb 0 m.ballot)) [ inl q ↦ rw q backing_keeps | inr q ↦ rw q whole ]
  accept_ok_keeps Accepted = elim (cases_Bool (eqb m.ballot 0)) [ inl q ↦ rw q owner_keeps | inr q ↦ rw q backing_keeps ]
  accept_ok_keeps Committed = whole

  -- one report more for the takeover
  gathered_more : (u : Takeover) → WholeTakeover r.n u → (u.chosen ≡ true → e.value ≡ value.Nothing → ⊥) → ValuedReport (reported_in m)
      → BothStand r.n u e (gathered r.n r.seat
      (takeover_from u.log u.entry u.ballot (set u.reports m.from (Some (reported_in m))) u.chosen u.accepts) e)
  gathered_more u st stored valued =
      let v : Takeover = takeover_from u.log u.entry u.ballot (set u.reports m.from (Some (reported_in m))) u.chosen u.accepts in
      let b : BothStand r.n v e (gathered r.n r.seat v e) =
      gathered_stands r.n v (report_stands r.n u st u.chosen m.from (reported_in m) from_seat few valid.dependency valued)
      e whole_e stored r.seat seat_s some in
      record { takeover = b.takeover; entry = b.entry; log_is = b.log_is; place_is = b.place_is; stored = b.stored; lasts = b.lasts }

  report_keeps : ValuedReport (reported_in m) → Keeps (reports r m e)
  unfolding reports
  report_keeps valued = by r.takeover refl
    where
      by : (o : Option Takeover) → r.takeover ≡ o → Keeps (reports_by o r m e)
      by None mine = whole
      by (Some u) mine = elim (cases_Bool (is_live u m.log m.entry m.ballot e)) [
        | inl l ↦ rw l (take_both u mine l (reporting r.n r.seat u e m.from (reported_in m))
            (elim (cases_Bool (u.chosen || (not (leb m.from 6) || is_reported (get_or u.reports m.from None)))) [
              | inl w ↦ rw w (stay_put r.n u (whole_u u mine l) e whole_e (stored_here u mine l))
              | inr w ↦ rw w (gathered_more u (whole_u u mine l) (stored_here u mine l) valued)
            ]))
        | inr l ↦ rw l whole
      ]

  unless_keeps : (x y : Replica × Option Message) (st : State) → Keeps x → Keeps y → Keeps (unless_committed st x y)
  unless_keeps x y Empty a b = a
  unless_keeps x y Answered a b = a
  unless_keeps x y Accepted a b = a
  unless_keeps x y Committed a b = b

  committed_now : (m.value ≡ value.Nothing → ⊥) → Whole r.n r.seat (with_entry r m.log m.entry (committing e m.value m.dependency))
  committed_now valued =
      write (committing e m.value m.dependency) (committing_stands r.n e whole_e m.value m.dependency valid.dependency valued) (λ z. absurd (valued z))

  commit_keeps : (m.value ≡ value.Nothing → ⊥) → (st : State)
      → After r (unless_committed st (Ok (with_entry r m.log m.entry (committing e m.value m.dependency), None))
      (cond (same_value e.value m.value && eqb e.dependency m.dependency) (Ok (nothing r)) (Err DifferentCommit)))
  commit_keeps valued Empty = committed_now valued
  commit_keeps valued Answered = committed_now valued
  commit_keeps valued Accepted = committed_now valued
  commit_keeps valued Committed = elim (cases_Bool (same_value e.value m.value && eqb e.dependency m.dependency)) [ inl w ↦ rw w whole | inr w ↦ rw w tt ]

  accept_keeps : (m.value ≡ value.Nothing → ⊥) → Keeps (accepts r m e)
  accept_keeps valued = elim (cases_Bool (ltb m.ballot e.promised)) [
    | inl q ↦ rw q whole
    | inr q ↦ rw q (write (accepting e m.ballot m.value m.dependency) (accepting_stands r.n e whole_e m.ballot m.value m.dependency valid.dependency valued)
        (λ z. absurd (valued z)))
  ]

  prepare_keeps : Keeps (promises r m e)
  prepare_keeps = elim (cases_Bool (leb m.ballot e.promised)) [
    | inl q ↦ rw q whole
    | inr q ↦ rw q (write (promising e m.ballot) (promising_stands r.n e whole_e m.ballot) (λ z. z))
  ]

  reject_keeps : Keeps (raises r m e)
  reject_keeps = elim (cases_Bool (ltb e.promised m.ballot)) [
    | inl q ↦ rw q (write (promising e m.ballot) (promising_stands r.n e whole_e m.ballot) (λ z. z))
    | inr q ↦ rw q whole
  ]

  -- the value and the report of a message of a kind
  value_fit : (k : Kind) → m.kind ≡ k → m.value ≡ value.Nothing → value_fits k 0 ≡ true
  value_fit k kind z =
      subst (λ v. value_fits k (value_number v) ≡ true) z (subst (λ j. value_fits j (value_number m.value) ≡ true) kind valid.fits_value)

  reported_valued : m.kind ≡ PrepareOk → ValuedReport (reported_in m)
  reported_valued kind z = by m.report
      (subst (λ v. report_fits PrepareOk (value_number v) (report_number m.report) ≡ true) z
      (subst (λ j. report_fits j (value_number m.value) (report_number m.report) ≡ true) kind valid.fits_report))
    where
      by : (x : Report) → report_fits PrepareOk 0 (report_number x) ≡ true → x ≡ report.Empty
      by report.Empty h = refl
      by report.Vote h = absurd (grind arith)
      by (report.Accepted b) h = absurd (grind arith)

  kind_keeps : (k : Kind) → m.kind ≡ k → After r (turn_by k r m e)
  kind_keeps FastAccept q = proposal_keeps (λ z. let h = value_fit FastAccept q z in grind arith) e.state refl
  kind_keeps FastAcceptOk q =
      answer_keeps (Vote e.dependency) (λ d q. let z : d ≡ e.dependency = grind arith in let l = whole_e.stands.dependency in omega arith) (λ d q. grind arith) e.state refl
  kind_keeps FastAcceptReply q =
      answer_keeps (Reply m.dependency) (λ d q. let z : d ≡ m.dependency = grind arith in let l = valid.dependency in omega arith) (λ d q. absurd (grind arith)) e.state refl
  kind_keeps Accept q =
      unless_keeps (accepts r m e) (recommits r m e) e.state (accept_keeps (λ z. let h = value_fit Accept q z in grind arith)) whole
  kind_keeps AcceptOk q = accept_ok_keeps e.state
  kind_keeps Commit q = commit_keeps (λ z. let h = value_fit Commit q z in grind arith) e.state
  kind_keeps Prepare q = unless_keeps (promises r m e) (recommits r m e) e.state prepare_keeps whole
  kind_keeps PrepareOk q = unless_keeps (reports r m e) (nothing r) e.state (report_keeps (reported_valued q)) whole
  kind_keeps Reject q = unless_keeps (raises r m e) (nothing r) e.state reject_keeps whole

  pub delivery_keeps : After r (turn r m)
  delivery_keeps = kind_keeps m.kind refl

-- the other calls leave the card standing too
module _ (r : Replica) (few : r.n ≤ 7) (seat_s : r.seat < r.n) (whole : Whole r.n r.seat r) where
  abbrev stands : Standing r.n r.seat r
  stands = whole.stands

  pub proposing_keeps : (c : Command) (x : Replica × Option Message) → propose r c ≡ Ok x → Whole r.n r.seat x.0
  proposing_keeps c x q =
      let w = proposed r c x q in
      let low = w.low in
      let room = w.room in
      let i : ℕ = next_entry r in
      let e : Entry = entry_at r r.seat i in
      let free : is_taken e ≡ false = elim (cases_Bool (is_taken e)) [
        | inl t ↦ absurd (let k = (scans_find r stands.shape).taken r.seat i low (omega arith) (omega arith) t in omega arith)
        | inr t ↦ t
      ] in
      let whole_e = whole_at r.n r.seat r whole r.seat i low (omega arith) (omega arith) in
      let top : highest_held r (1 - r.seat) ≤ 128 = highest_held_low r stands.shape (1 - r.seat) (omega arith) in
      subst (λ x. Whole r.n r.seat x.0) w.is
      (written_stands r.n r.seat r whole r.seat i low (omega arith) (omega arith) (proposal_of r c)
      (proposing_stands r.n e whole_e r.seat (value.Command c) (highest_held r (1 - r.seat)) seat_s top few (λ z. grind arith) (untaken e free).0)
      (λ z. absurd (grind arith)))

  pub settling_keeps : (log i : ℕ) (x : Replica × Option Message) → settle r log i ≡ Ok x → Whole r.n r.seat x.0
  settling_keeps log i x q =
      let w = settled r log i x q in
      let p = w.place in
      let counts = w.counts in
      let whole_e : WholeEntry r.n (entry_at r log i) = whole_at r.n r.seat r whole log i p.0 p.1 p.2 in
      subst (λ x. Whole r.n r.seat x.0) w.is
      (written_stands r.n r.seat r whole log i p.0 p.1 p.2 (settling r.n r.seat (entry_at r log i))
      (settling_stands r.n (entry_at r log i) whole_e r.seat seat_s (λ z. let y = whole_e.valued z in grind arith)) (λ z. z))

  pub takeover_keeps : (log i : ℕ) (x : Replica × Option Message) → takeover r log i ≡ Ok x → Whole r.n r.seat x.0
  takeover_keeps log i x q =
      let w = taken_over r log i x q in
      let p = w.place in
      let b = w.ballot in
      let e : Entry = entry_at r log i in
      let whole_e = whole_at r.n r.seat r whole log i p.0 p.1 p.2 in
      subst (λ x. Whole r.n r.seat x.0) w.is
      (took_stands r.n r.seat (with_entry r log i (promising e b))
      (written_stands r.n r.seat r whole log i p.0 p.1 p.2 (promising e b) (promising_stands r.n e whole_e b) (λ z. z))
      (begun log i b r.seat (entries.report_of e)) (begun_stands r.n log i b r.seat (entries.report_of e) seat_s few (report_low r.n e whole_e.stands) (report_valued e whole_e.valued))
      (λ t. absurd (grind arith)))
