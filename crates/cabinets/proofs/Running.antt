-- What a card has run is a walk through what it has committed.
use Rattle.std.proofs.Common.{◌≡◌, ℕ, suc, ◌<◌, Bool, true, false, cond, ◌&&◌, ltb, ◌⊎◌, List, [], ◌∷◌, ◌++◌, map, get_or, Some, sym, refl, ap, ◌∙◌, subst, inl, inr, append-nil, add-one, arith}
use mathlib.Core.List.{map-append}
use Rattle.std.specs.List.{slice_get}
use Rattle.std.proofs.lemmas.Bool.Decides.{nat_tests}
use Rattle.command.specs.declared.Command.{Command}
use Rattle.agreement.specs.Logs.{Log, Log.pilot, Log.copilot, Committed as Keeps}
use Rattle.agreement.specs.Walks.{Step, Step.step, once_each, Walk, Walk.skip_pilot, Walk.skip_copilot, Walk.run_pilot, Walk.run_copilot}
use Rattle.block.specs.declared.message.Value.{Value}
use Rattle.block.specs.declared.message.Value.TheVariants as value
use Rattle.column.specs.Cells.{Stage.committed}
use Rattle.entry.specs.declared.entry.Entry.{Entry}
use Rattle.entry.specs.declared.entry.State.{State}
use Rattle.entry.specs.declared.entry.State.TheVariants.{Empty, Answered, Accepted, Committed}
use Rattle.entry.specs.Entries.{is_committed}
use Rattle.machine.specs.Onces.{known, full}
use Rattle.machine.specs.Rules.{Rule, run}
use Rattle.card.specs.declared.replica.Replica.{Replica}
use Rattle.card.specs.Tables.{absent, log_of}
use Rattle.fitted.specs.declared.fitting.Passed.{Passed}
use Rattle.fitted.specs.declared.run.Log.TheVariants as log
use Rattle.fitted.specs.declared.run.Next.{Next}
use Rattle.fitted.specs.declared.run.Next.TheVariants as next
use Rattle.fitted.specs.declared.run.Run.{Run}
use Rattle.fitted.specs.declared.run.Run.TheVariants as runs
use Rattle.fitted.specs.Meanings.{Meaning}
use Rattle.fitted.specs.Nexts.{ahead, ready_by, awaited, next_by}
use Rattle.fitted.specs.Runs.{past_pilot, past_copilot, past, passing, ran_by, ran}
use Rattle.group.specs.Groups as order
use Rattle.group.specs.Views.{number_of, content_of, stage_of, cell_on, cell_at}
use Rattle.group.specs.Agreements.{KeptOn}
use Rattle.cabinets.specs.declared.answer.Listed.{Listed}
use Rattle.cabinets.specs.Groups.{listed}
use Rattle.cabinets.specs.Promises.{commands_in, command_identity}
use Rattle.cabinets.proofs.Listing.{command_of, once_more}
use Rattle.cabinets.proofs.Telling.{told, told_append, run_more}

-- the card m, which had the machine x handed to it, has run the list: a walk through what C has committed, with each identity once
pub record RanSo (R : Rule) (C : Keeps) (m : Meaning R) (x : R.State) (list : List Listed) : Type 0 where
  pub steps : List Step
  pub walk : Walk C m.passed.pilot m.passed.copilot steps
  pub runs_each : commands_in list ≡ map command_of (once_each steps)
  pub told_so : list ≡ told R x (commands_in list)
  pub state : m.state ≡ run R x (commands_in list)
  pub kept : m.kept ≡ map command_identity (commands_in list)

is_committed_stage : (s : State) → is_committed s ≡ true → s ≡ Committed
is_committed_stage Empty p = absurd (grind arith)
is_committed_stage Answered p = absurd (grind arith)
is_committed_stage Accepted p = absurd (grind arith)
is_committed_stage Committed p = refl

-- an entry ahead that is committed stands in the log
module _ (r : Replica) (g : Log) (k : ℕ) where
  ahead_is : (b : Bool) → ltb k 128 ≡ b → is_committed (ahead r (number_of g) k).state ≡ true → ahead r (number_of g) k ≡ get_or (log_of r (number_of g)) k absent
  ahead_is true l c = rw l (ap (λ j. get_or (log_of r (number_of g)) j absent) (omega arith))
  ahead_is false l c = absurd (grind (arith, nat_tests))

  pub kept_ahead : is_committed (ahead r (number_of g) k).state ≡ true
      → ((cell_at r g (suc k)).stage ≡ committed) × ((cell_at r g (suc k)).value ≡ content_of (ahead r (number_of g) k).value (ahead r (number_of g) k).dependency)
  kept_ahead c =
      let e = ahead_is (ltb k 128) refl c in (
        ap (λ x. stage_of x.state) (sym e) ∙ ap stage_of (is_committed_stage (ahead r (number_of g) k).state c),
        ap (λ x. content_of x.value x.dependency) (sym e),
      )

-- what a run adds to the card's list
abbrev pub pairs_of : Run → List Listed
pairs_of runs.Noop = []
pairs_of runs.Repeat = []
pairs_of (runs.Ran c o v) = listed c (o, v) ∷ []
pairs_of (runs.Waits e) = []
pairs_of runs.NoPlace = []

module _ (R : Rule) (C : Keeps) (m : Meaning R) (x : R.State) (list : List Listed) (w : RanSo R C m x list) where
  abbrev a : ℕ
  a = m.passed.pilot

  abbrev b : ℕ
  b = m.passed.copilot

  -- nothing ran
  quietly : (n : Meaning R) (steps : List Step) → Walk C n.passed.pilot n.passed.copilot steps → once_each steps ≡ once_each w.steps
      → n.state ≡ m.state → n.kept ≡ m.kept
      → RanSo R C n x (list ++ [])
  quietly n steps walk same state kept =
      subst (RanSo R C n x) (sym (append-nil list))
      (record {
        steps = steps;
        walk = walk;
        runs_each = w.runs_each ∙ ap (map command_of) (sym same);
        told_so = w.told_so;
        state = state ∙ w.state;
        kept = kept ∙ w.kept;
      })

  -- the walk may go on to the positions p, past an entry with the value
  abbrev Opens : Passed → Value → Type 0
  Opens p value.Nothing = (l : List Step) → Walk C a b l → Walk C p.pilot p.copilot l
  Opens p value.Noop = (l : List Step) → Walk C a b l → Walk C p.pilot p.copilot l
  Opens p (value.Command c) = (g : Log) × (i : ℕ) × ((l : List Step) → Walk C a b l → Walk C p.pilot p.copilot (l ++ (step g i c ∷ [])))

  module _ (p : Passed) (c : Command) (o : Opens p (value.Command c)) where
    abbrev here : Step
    here = step o.0 o.1 c

    kept_are : m.kept ≡ map command_identity (map command_of (once_each w.steps))
    kept_are = w.kept ∙ ap (map command_identity) w.runs_each

    more : (v : Bool) → known m.kept c.identity ≡ v → once_each (w.steps ++ (here ∷ [])) ≡ once_each w.steps ++ cond v [] (here ∷ [])
    more v e =
        once_more w.steps here
        ∙ ap (λ k. once_each w.steps ++ cond k [] (here ∷ [])) (ap (λ ks. known ks c.identity) (sym kept_are) ∙ e)

    abbrev new : Meaning R
    new = record { replica = m.replica; passed = p; state = R.next m.state c; kept = m.kept ++ (c.identity ∷ []) }

    ran_new : known m.kept c.identity ≡ false → RanSo R C new x (list ++ (listed c (R.answer m.state c) ∷ []))
    ran_new fresh =
        let cs : List Command = commands_in list in
        let grown : commands_in (list ++ (listed c (R.answer m.state c) ∷ [])) ≡ cs ++ (c ∷ []) = map-append (λ (y : Listed). y.command) list (listed c (R.answer m.state c) ∷ []) in
        record {
          steps = w.steps ++ (here ∷ []);
          walk = o.2 w.steps w.walk;
          runs_each =
              grown
              ∙ (ap (λ l. l ++ (c ∷ [])) w.runs_each
              ∙ (sym (map-append command_of (once_each w.steps) (here ∷ [])) ∙ ap (map command_of) (sym (more false fresh))));
          told_so =
              ap (λ l. l ++ (listed c (R.answer m.state c) ∷ [])) w.told_so
              ∙ (ap (λ s. told R x cs ++ (listed c (R.answer s c) ∷ [])) w.state
              ∙ (sym (told_append R x cs (c ∷ [])) ∙ ap (told R x) (sym grown)));
          state = ap (λ s. R.next s c) w.state ∙ (sym (run_more R x cs c) ∙ ap (run R x) (sym grown));
          kept =
              ap (λ ks. ks ++ (c.identity ∷ [])) w.kept
              ∙ (sym (map-append command_identity cs (c ∷ [])) ∙ ap (map command_identity) (sym grown));
        }

    abbrev after : Bool → Bool → Meaning R × Run
    after known full =
        cond known (past m p, runs.Repeat)
        (cond full (m, runs.NoPlace) (new, runs.Ran c (R.answer m.state c).0 (R.answer m.state c).1))

    by_kept : (k f : Bool) → known m.kept c.identity ≡ k → RanSo R C (after k f).0 x (list ++ pairs_of (after k f).1)
    by_kept true f e =
        quietly (past m p) (w.steps ++ (here ∷ [])) (o.2 w.steps w.walk) (more true e ∙ append-nil (once_each w.steps)) refl refl
    by_kept false true e = quietly m w.steps w.walk refl refl refl
    by_kept false false e = ran_new e

  passing_runs : (p : Passed) (v : Value) → Opens p v → RanSo R C (passing R m p v).0 x (list ++ pairs_of (passing R m p v).1)
  passing_runs p value.Nothing o = quietly (past m p) w.steps (o w.steps w.walk) refl refl refl
  passing_runs p value.Noop o = quietly (past m p) w.steps (o w.steps w.walk) refl refl refl
  passing_runs p (value.Command c) o = by_kept p c o (known m.kept c.identity) (full m.kept) refl

  -- what stands next is committed
  module _ (e f : Entry) (pilot_kept : is_committed e.state ≡ true → C pilot (suc a) (content_of e.value e.dependency))
      (copilot_kept : is_committed f.state ≡ true → C copilot (suc b) (content_of f.value f.dependency)) where
    to_pilot : {l : List Step} → Walk C (suc a) b l → Walk C (past_pilot m.passed).pilot (past_pilot m.passed).copilot l
    to_pilot {l} k = subst (λ i. Walk C i b l) (sym (add-one a)) k

    to_copilot : {l : List Step} → Walk C a (suc b) l → Walk C (past_copilot m.passed).pilot (past_copilot m.passed).copilot l
    to_copilot {l} k = subst (λ i. Walk C a i l) (sym (add-one b)) k

    -- the pilot's next entry: ready, or each waits for the other
    opens_pilot : (v y : Value) → C pilot (suc a) (content_of v e.dependency)
        → ((ready_by v e.dependency b ≡ true) ⊎ (C copilot (suc b) (content_of y f.dependency) × (ready_by y f.dependency a ≡ false)))
        → Opens (past_pilot m.passed) v
    opens_pilot value.Nothing y held why = λ l k. to_pilot (skip_pilot k held)
    opens_pilot value.Noop y held why = λ l k. to_pilot (skip_pilot k held)
    opens_pilot (value.Command c) y held (inl ready) =
        (pilot, suc a, λ l k. to_pilot (run_pilot k (record { dep = e.dependency; held = held; why = inl (grind (arith, nat_tests)) })))
    opens_pilot (value.Command c) value.Nothing held (inr other) = absurd (grind arith)
    opens_pilot (value.Command c) value.Noop held (inr other) = absurd (grind arith)
    opens_pilot (value.Command c) (value.Command d) held (inr other) =
        let waits : a < f.dependency = grind (arith, nat_tests) in (
          pilot,
          suc a,
          λ l k. to_pilot (run_pilot k (record {
            dep = e.dependency;
            held = held;
            why = inr (record { which = d; needs = f.dependency; held = other.0; beyond = waits });
          })),
        )

    opens_copilot : (v : Value) → C copilot (suc b) (content_of v f.dependency) → ready_by v f.dependency a ≡ true → Opens (past_copilot m.passed) v
    opens_copilot value.Nothing held ready = λ l k. to_copilot (skip_copilot k held)
    opens_copilot value.Noop held ready = λ l k. to_copilot (skip_copilot k held)
    opens_copilot (value.Command c) held ready =
        (copilot, suc b, λ l k. to_copilot (run_copilot k (record { dep = f.dependency; held = held; why = grind (arith, nat_tests) })))

    -- by the four tests of the rule
    abbrev chosen : Bool → Bool → Bool → Bool → Next
    chosen x_done x_ready y_done y_ready =
        cond (x_done && x_ready) (next.Passes log.Pilot e.value)
        (cond (y_done && y_ready) (next.Passes log.Copilot f.value)
        (cond (x_done && y_done) (next.Passes log.Pilot e.value) (next.Waits (awaited m.passed e f))))

    by_tests : (x_done x_ready y_done y_ready : Bool) → is_committed e.state ≡ x_done → ready_by e.value e.dependency b ≡ x_ready
        → is_committed f.state ≡ y_done → ready_by f.value f.dependency a ≡ y_ready
        → RanSo R C (ran_by R m (chosen x_done x_ready y_done y_ready)).0 x (list ++ pairs_of (ran_by R m (chosen x_done x_ready y_done y_ready)).1)
    by_tests true true y_done y_ready p q r s = passing_runs (past_pilot m.passed) e.value (opens_pilot e.value f.value (pilot_kept p) (inl q))
    by_tests true false true true p q r s = passing_runs (past_copilot m.passed) f.value (opens_copilot f.value (copilot_kept r) s)
    by_tests true false true false p q r s =
        passing_runs (past_pilot m.passed) e.value (opens_pilot e.value f.value (pilot_kept p) (inr (copilot_kept r, s)))
    by_tests true false false y_ready p q r s = quietly m w.steps w.walk refl refl refl
    by_tests false x_ready true true p q r s = passing_runs (past_copilot m.passed) f.value (opens_copilot f.value (copilot_kept r) s)
    by_tests false x_ready true false p q r s = quietly m w.steps w.walk refl refl refl
    by_tests false x_ready false y_ready p q r s = quietly m w.steps w.walk refl refl refl

    next_runs : RanSo R C (ran_by R m (next_by m.passed e f)).0 x (list ++ pairs_of (ran_by R m (next_by m.passed e f)).1)
    next_runs =
        by_tests (is_committed e.state) (ready_by e.value e.dependency b) (is_committed f.state) (ready_by f.value f.dependency a) refl refl refl refl

-- a card that runs goes on by what it has committed
pub ran_goes : (R : Rule) (K : order.Group) (seat : ℕ) (m : Meaning R) (x : R.State) (list : List Listed) → slice_get K.cards seat ≡ Some m.replica
    → RanSo R (KeptOn K seat) m x list
    → RanSo R (KeptOn K seat) (ran R m).0 x (list ++ pairs_of (ran R m).1)
ran_goes R K seat m x list here w =
    next_runs R (KeptOn K seat) m x list w (ahead m.replica 0 m.passed.pilot) (ahead m.replica 1 m.passed.copilot)
    (kept pilot m.passed.pilot) (kept copilot m.passed.copilot)
  where
    kept : (g : Log) (k : ℕ) → is_committed (ahead m.replica (number_of g) k).state ≡ true
        → KeptOn K seat g (suc k) (content_of (ahead m.replica (number_of g) k).value (ahead m.replica (number_of g) k).dependency)
    kept g k c =
        let w = kept_ahead m.replica g k c in
        (ap (λ o. (cell_on o g (suc k)).stage) here ∙ w.0, ap (λ o. (cell_on o g (suc k)).value) here ∙ w.1)
