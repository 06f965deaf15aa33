-- The rule of what to run next is that of a walk.
use Rattle.std.proofs.Common.{◌≡◌, ℕ, suc, ◌<◌, ◌≤◌, true, cond, ◌&&◌, ◌⊎◌, List, ◌++◌, refl, inl, inr, append-nil, arith}
use mathlib.Core.Option.{Option, some, none}
use Rattle.std.proofs.lemmas.Bool.{cases_lt}
use Rattle.command.specs.declared.Command.{Command}
use Rattle.agreement.specs.Logs.{Log, Log.pilot, Log.copilot, Content, Content.content, Value.noop, Value.command, Committed}
use Rattle.agreement.specs.Walks.{Step, Walk, Walk.skip_pilot, Walk.skip_copilot, Walk.run_pilot, Walk.run_copilot}
use Rattle.column.specs.Cells.{Stage, Stage.empty, Stage.answered, Stage.accepted, Stage.committed}
use Rattle.column.specs.Safe.{Kept}
use Rattle.column.specs.Running.{is_committed_stage, ready, listed, GoesOn}

-- What the rule says, of the two next entries taken apart.
abbrev choice : ℕ → ℕ → Stage → Content → Stage → Content → Option Log
choice a b x v y w =
    cond (is_committed_stage x && ready v b) (some pilot) (cond (is_committed_stage y && ready w a) (some copilot) (cond (is_committed_stage x && is_committed_stage y) (some pilot) none))

-- Why the pilot's next entry is taken.
abbrev WhyPilot : ℕ → ℕ → Stage → Content → Stage → Content → Type 0
WhyPilot a b x (content noop d) y w = x ≡ committed
WhyPilot a b x (content (command c) d) y w =
    (x ≡ committed) × ((d ≤ b) ⊎ ((y ≡ committed) × ((c' : Command) × (e : ℕ) × (w ≡ content (command c') e) × (a < e))))

-- Why the copilot's next entry is taken.
abbrev WhyCopilot : ℕ → ℕ → Stage → Content → Stage → Content → Type 0
WhyCopilot a b x v y (content noop d) = y ≡ committed
WhyCopilot a b x v y (content (command c) d) = (y ≡ committed) × (d ≤ a)

is_that : (x : Stage) → is_committed_stage x ≡ true → x ≡ committed
is_that empty p = absurd (grind arith)
is_that answered p = absurd (grind arith)
is_that accepted p = absurd (grind arith)
is_that committed p = refl

why_pilot : (a b : ℕ) (x y : Stage) (v w : Content) → choice a b x v y w ≡ some pilot → WhyPilot a b x v y w
why_pilot a b x y (content noop d) w p = is_that x (grind arith)
why_pilot a b x y (content (command c) d) (content noop e) p = let q = is_that x in let r = is_that y in grind arith
why_pilot a b x y (content (command c) d) (content (command c') e) p =
    let q : x ≡ committed = is_that x (grind arith) in
    elim (cases_lt b d) [
      | inr low ↦ (q, inl low)
      | inl high ↦
          let r : y ≡ committed = is_that y (grind arith) in
          let z : a < e = grind arith in
          (q, inr (r, (c', e, refl, z)))
    ]

why_copilot : (a b : ℕ) (x y : Stage) (v w : Content) → choice a b x v y w ≡ some copilot → WhyCopilot a b x v y w
why_copilot a b x y v (content noop d) p = is_that y (grind arith)
why_copilot a b x y v (content (command c) d) p = (is_that y (grind arith), grind arith)

module _ (C : Committed) (a b : ℕ) (l : List Step) (walk : Walk C a b l) (x y : Stage) where
  goes_pilot : (v w : Content) → (x ≡ committed → C pilot (suc a) v) → (y ≡ committed → C copilot (suc b) w) → WhyPilot a b x v y w →
      Walk C (suc a) b (l ++ listed pilot (suc a) v)
  goes_pilot (content noop d) w kx ky why = rw (append-nil l) (skip_pilot walk (kx why))
  goes_pilot (content (command c) d) w kx ky why =
      run_pilot walk (record {
        dep = d;
        held = kx why.0;
        why = elim why.1 [
          | inl low ↦ inl low
          | inr r ↦ inr (record { which = r.1.0; needs = r.1.1; held = rw r.1.2 at (ky r.0); beyond = r.1.3 })
        ];
      })

  goes_copilot : (v w : Content) → (y ≡ committed → C copilot (suc b) w) → WhyCopilot a b x v y w → Walk C a (suc b) (l ++ listed copilot (suc b) w)
  goes_copilot v (content noop d) ky why = rw (append-nil l) (skip_copilot walk (ky why))
  goes_copilot v (content (command c) d) ky why = run_copilot walk (record { dep = d; held = ky why.0; why = why.1 })

pub goes_on : GoesOn
goes_on = record {
  on_pilot = λ G s a b l walk p.
      let x = G.cells pilot (suc a) s in
      let y = G.cells copilot (suc b) s in
      goes_pilot (Kept G s) a b l walk x.stage y.stage x.value y.value (λ q. (q, refl)) (λ q. (q, refl))
      (why_pilot a b x.stage y.stage x.value y.value p);
  on_copilot = λ G s a b l walk p.
      let x = G.cells pilot (suc a) s in
      let y = G.cells copilot (suc b) s in
      goes_copilot (Kept G s) a b l walk x.stage y.stage x.value y.value (λ q. (q, refl))
      (why_copilot a b x.stage y.stage x.value y.value p);
}
