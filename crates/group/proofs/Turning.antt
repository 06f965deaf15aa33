-- Each rule of a card is a turn at one entry.
use Rattle.std.proofs.Common.{◌≡◌, ℕ, zero, suc, ◌-◌, ◌<◌, ◌≤◌, true, false, List, [], Some, None, Option, sym, refl, ap, ◌∙◌, subst, inl, inr, arith}
use mathlib.Core.Option.{some, none}
use mathlib.Core.Option as maybe
use Rattle.std.proofs.lemmas.List.{get_or_past}
use Rattle.std.proofs.lemmas.Bool.{cases_Bool, cases_lt}
use Rattle.std.proofs.lemmas.Bool.Decides.{nat_tests}
use Rattle.command.specs.declared.Command.{Command}
use Rattle.agreement.specs.Lists.{In}
use Rattle.agreement.specs.Logs.{Log, other}
use Rattle.agreement.specs.Histories.{Event}
use Rattle.block.specs.declared.message.Destination.TheVariants.{Seat}
use Rattle.block.specs.declared.message.Message.{Message}
use Rattle.block.specs.declared.message.Value.{Value}
use Rattle.block.specs.declared.message.Value.TheVariants as value
use Rattle.block.specs.Ballots.{holder_of}
use Rattle.column.specs.Cells.{Stage.empty, Stage.answered, Stage.accepted, Stage.committed, Cell, report_of_cell, report_at_stage, Body, Body.fast_accept, Body.fast_ok, Body.fast_reply, Body.accept_at, Body.accept_ok, Body.committed_as, Body.prepare, Body.prepare_ok, Body.reject, Message.message, Gave}
use Rattle.column.specs.Cells as column
use Rattle.column.specs.Moves.{Highest, Unblocked, Act.votes, Act.replies, Act.repeats_vote, Act.repeats_reply, Act.accepts, Act.learns, Act.promises, Act.raises, Act.tells_commit, Act.tells_promise, Act.rests, Turn, Turn.once}
use Rattle.entry.specs.declared.entry.Entry.{Entry}
use Rattle.entry.specs.declared.entry.State.{State}
use Rattle.entry.specs.declared.entry.State.TheVariants.{Empty, Answered, Accepted, Committed}
use Rattle.entry.specs.declared.takeover.Takeover.{Takeover}
use Rattle.entry.specs.Entries.{is_held, has_answered, promising, answering, accepting, committing}
use Rattle.entry.specs.Entries as entries
use Rattle.card.specs.declared.replica.Replica.{Replica}
use Rattle.card.specs.Tables.{absent, log_of, entry_at, with_entry, with_takeover, highest_held, is_blocked}
use Rattle.card.specs.Messages.{fast_answer, accept_ok_message, prepare_ok_message, commit, reject as rejection}
use Rattle.group.specs.Views.{number_of, stage_of, content_of, cell_of, cell_at, report_of, takeover_of, takeover_in, body_of}
use Rattle.group.specs.Standing.{Standing}
use Rattle.group.proofs.Scanning.{scans_find}
use Rattle.group.proofs.Placing.{number_low, number_other, cell_here, cell_written, cell_kept}

-- what a card reports of an entry is what its cell reports
pub report_same : (e : Entry) → report_of (Some (entries.report_of e)) ≡ report_of_cell (cell_of e)
report_same e = by e.state
  where
    by : (st : State) → report_of (Some (entries.report_by st e)) ≡ report_at_stage (stage_of st) (cell_of e)
    by Empty = refl
    by Answered = elim (cases_Bool e.vote) [ inl v ↦ rw v | inr v ↦ rw v ]
    by Accepted = refl
    by Committed = refl

pub committed_only : (st : State) → stage_of st ≡ committed → st ≡ Committed
committed_only Empty c = absurd (grind arith)
committed_only Answered c = absurd (grind arith)
committed_only Accepted c = absurd (grind arith)
committed_only Committed c = refl

is_held_lem : (st : State) → (stage_of st ≡ empty → ⊥) → is_held st ≡ true
is_held_lem Empty ne = absurd (ne refl)
is_held_lem Answered ne = refl
is_held_lem Accepted ne = refl
is_held_lem Committed ne = refl

is_given : (x : Entry) → Gave (cell_of x) → has_answered x ≡ true
is_given x (inl v) = rw v
is_given x (inr h) = elim (cases_Bool x.vote) [ inl v ↦ rw v | inr v ↦ rw v (grind (arith, nat_tests)) ]

not_given : Gave (cell_of absent) → ⊥
not_given (inl v) = grind arith
not_given (inr h) = omega arith

module _ (n f s : ℕ) (r : Replica) (stands : Standing n s r) (S : List column.Message) (g : Log) (log i : ℕ) (named : number_of g ≡ log)
    (low : 1 ≤ i) (high : i ≤ 128) where
  abbrev e : Entry
  e = entry_at r log i

  abbrev t : maybe.Option column.Takeover
  t = takeover_in r.takeover

  -- a turn at the entry, from one cell and takeover to others, with a message
  abbrev pub Turned : Cell → Cell → maybe.Option column.Takeover → maybe.Option Body → Type 0
  Turned a b u body = (es : List Event) × Turn n f number_of holder_of g i s S (cell_at r (other g)) a t b u body es

  -- every other entry stays as it was
  abbrev pub Others : Replica → Type 0
  Others x = (h : Log) (k : ℕ) → ((h ≡ g) × (k ≡ i) → ⊥) → cell_at x h k ≡ cell_at r h k

  -- what a call comes to is a turn at the entry, and leaves the others
  abbrev pub Does : Replica × Option Message → Type 0
  Does x = Turned (cell_at r g i) (cell_at x.0 g i) (takeover_in x.0.takeover) (body_of x.1) × Others x.0

  others_written : (x : Entry) → Others (with_entry r log i x)
  others_written x h k apart =
      ap (λ l. cell_at (with_entry r l i x) h k) (sym named) ∙ cell_kept r stands.logs stands.shape g i low high x h k apart

  entry_cell : cell_at r g i ≡ cell_of e
  entry_cell = cell_here r g i low ∙ ap (λ l. cell_of (entry_at r l i)) named

  written_cell : (x : Entry) → cell_at (with_entry r log i x) g i ≡ cell_of x
  written_cell x =
      ap (λ l. cell_at (with_entry r l i x) g i) (sym named) ∙ cell_written r stands.logs stands.shape g i low high x

  between : (a a' b b' : Cell) (u : maybe.Option column.Takeover) (body body' : maybe.Option Body)
      → a ≡ a' → b ≡ b' → body ≡ body' → Turned a' b' u body' → Turned a b u body
  between a a' b b' u body body' p q w d = rw (p, q, w) d

  pub stays : (out : Option Message) (body : maybe.Option Body) → body_of out ≡ body → Turned (cell_of e) (cell_of e) t body → Does (r, out)
  stays out body w d = (between _ _ _ _ t _ body entry_cell entry_cell w d, λ h k apart. refl)

  pub writes : (x : Entry) (out : Option Message) (body : maybe.Option Body) → body_of out ≡ body → Turned (cell_of e) (cell_of x) t body
      → Does (with_entry r log i x, out)
  writes x out body w d = (between _ _ _ _ t _ body entry_cell (written_cell x) w d, others_written x)

  -- a write to the entry and to the takeover
  pub writes_both : (x : Entry) (u : Takeover) (out : Option Message) (body : maybe.Option Body) → body_of out ≡ body
      → Turned (cell_of e) (cell_of x) (some (takeover_of u)) body
      → Does (with_takeover (with_entry r log i x) (Some u), out)
  writes_both x u out body w d = (between _ _ _ _ (some (takeover_of u)) _ body entry_cell (written_cell x) w d, others_taken)
    where
      others_taken : Others (with_takeover (with_entry r log i x) (Some u))
      others_taken h zero apart = refl
      others_taken h (suc k) apart = others_written x h (suc k) apart

  pub rest : Does (r, None)
  rest = stays None none refl ([], once rests)

  -- the other log, entry by entry
  far_cell : (k : ℕ) → 1 ≤ k → cell_at r (other g) k ≡ cell_of (entry_at r (1 - log) k)
  far_cell k h = cell_here r (other g) k h ∙ ap (λ l. cell_of (entry_at r l k)) (number_other g ∙ ap (λ l. 1 - l) named)

  far_past : (k : ℕ) → 128 < k → entry_at r (1 - log) k ≡ absent
  far_past k h = get_or_past (log_of r (1 - log)) (k - 1) absent (omega (arith, stands.shape (1 - log) (omega arith)))

  pub far_highest : Highest (cell_at r (other g)) (highest_held r (1 - log))
  far_highest zero held = absurd (held refl)
  far_highest (suc j) held = elim (cases_lt 128 (suc j)) [
    | inl past ↦ absurd (held (ap (λ c. c.stage) (far_cell (suc j) (omega arith)) ∙ ap (λ x. (cell_of x).stage) (far_past (suc j) past)))
    | inr near ↦ (scans_find r stands.shape).held (1 - log) (suc j) (omega arith) (omega arith) (omega arith)
        (is_held_lem (entry_at r (1 - log) (suc j)).state (λ q. held (ap (λ c. c.stage) (far_cell (suc j) (omega arith)) ∙ q)))
  ]

  far_unblocked : (d : ℕ) → is_blocked r log i d ≡ false → Unblocked (cell_at r (other g)) i d
  far_unblocked d free zero h gave = absurd (omega arith)
  far_unblocked d free (suc j) h gave =
      let c = far_cell (suc j) (omega arith) in
      let there : Gave (cell_of (entry_at r (1 - log) (suc j))) = subst Gave c gave in
      elim (cases_lt 128 (suc j)) [
        | inl past ↦ absurd (not_given (subst (λ x. Gave (cell_of x)) (far_past (suc j) past) there))
        | inr near ↦ subst (λ x. i ≤ x.given) (sym c)
            ((scans_find r stands.shape).unblocked log i d (suc j) (subst (λ l. l ≤ 1) named (number_low g)) free h (omega arith)
            (is_given (entry_at r (1 - log) (suc j)) there))
      ]

  module _ (p : ℕ) where
    pub tells_promised : Does (r, Some (rejection r.seat p log i e))
    tells_promised = stays (Some (rejection r.seat p log i e)) (some (reject e.promised)) refl ([], once tells_promise)

    pub tells_committed : e.state ≡ Committed → Does (r, Some (commit r.seat (Seat p) log i e))
    tells_committed c =
        stays (Some (commit r.seat (Seat p) log i e)) (some (committed_as (content_of e.value e.dependency))) refl ([], once (tells_commit (ap stage_of c)))

    -- a Prepare that was sent
    pub prepared : (b : ℕ) → In (message p g i (prepare b)) S → (e.state ≡ Committed → ⊥) → e.promised < b
        → Does (with_entry r log i (promising e b), Some (prepare_ok_message r.seat p log i b (entries.report_of e)))
    prepared b j unc above =
        writes (promising e b) (Some (prepare_ok_message r.seat p log i b (entries.report_of e))) (some (prepare_ok b (report_of_cell (cell_of e))))
        (ap (λ x. some (prepare_ok b x)) (report_same e))
        (_, once (promises p b j (λ c. unc (committed_only e.state c)) above))

    -- an Accept that was sent
    pub accepted_at : (b : ℕ) (v : Value) (d : ℕ) → In (message p g i (accept_at b (content_of v d))) S → (e.state ≡ Committed → ⊥)
        → e.promised ≤ b
        → Does (with_entry r log i (accepting e b v d), Some (accept_ok_message r.seat p log i b))
    accepted_at b v d j unc above =
        writes (accepting e b v d) (Some (accept_ok_message r.seat p log i b)) (some (accept_ok b)) refl
        (_, once (accepts p b (content_of v d) j (λ c. unc (committed_only e.state c)) above))

    -- a Commit that was sent
    pub learned : (v : Value) (d : ℕ) → In (message p g i (committed_as (content_of v d))) S
        → Does (with_entry r log i (committing e v d), None)
    learned v d j = writes (committing e v d) None none refl (_, once (learns p (content_of v d) j))

    -- a Reject that was sent
    pub raised : (b : ℕ) → In (message p g i (reject b)) S → (e.state ≡ Committed → ⊥) → e.promised < b
        → Does (with_entry r log i (promising e b), None)
    raised b j unc above = writes (promising e b) None none refl (_, once (raises p b j (λ c. unc (committed_only e.state c)) above))

    -- a proposal that was sent, and is not blocked
    pub voted_for : (c : Command) (d : ℕ) → In (message p g i (fast_accept c d)) S → e.state ≡ Empty → e.promised ≡ 0
        → is_blocked r log i d ≡ false
        → Does (with_entry r log i (answering e (value.Command c) d d true), Some (fast_answer r.seat p log i (answering e (value.Command c) d d true)))
    voted_for c d j st pr free =
        writes (answering e (value.Command c) d d true) (Some (fast_answer r.seat p log i (answering e (value.Command c) d d true)))
        (some fast_ok) refl
        (_, once (votes p c d j (ap stage_of st) pr (far_unblocked d free)))

    -- or is blocked
    pub replied_to : (c : Command) (d : ℕ) → In (message p g i (fast_accept c d)) S → e.state ≡ Empty → e.promised ≡ 0
        → 0 < highest_held r (1 - log)
        → Does (with_entry r log i (answering e (value.Command c) d (highest_held r (1 - log)) false), Some (fast_answer r.seat p log i (answering e (value.Command c) d (highest_held r (1 - log)) false)))
    replied_to c d j st pr some_held =
        writes (answering e (value.Command c) d (highest_held r (1 - log)) false)
        (Some (fast_answer r.seat p log i (answering e (value.Command c) d (highest_held r (1 - log)) false)))
        (some (fast_reply (highest_held r (1 - log)))) refl
        (_, once (replies p c d (highest_held r (1 - log)) j (ap stage_of st) pr some_held far_highest))

    -- the answer again
    pub repeated : e.state ≡ Answered → Does (r, Some (fast_answer r.seat p log i e))
    repeated st = elim (cases_Bool e.vote) [
      | inl v ↦ stays (Some (fast_answer r.seat p log i e)) (some fast_ok) (rw v) ([], once (repeats_vote (ap stage_of st) v))
      | inr v ↦ stays (Some (fast_answer r.seat p log i e)) (some (fast_reply e.answered)) (rw v) ([], once (repeats_reply (ap stage_of st) v))
    ]
