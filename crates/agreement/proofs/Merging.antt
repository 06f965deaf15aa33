-- The order of two commands in a walk's list is told by what is committed alone.
use Rattle.std.proofs.Common.{◌≡◌, ℕ, suc, ◌<◌, ◌≤◌, ◌⊎◌, ◌↔◌, List, [], ◌∷◌, ◌++◌, sym, subst, inl, inr, arith}
use Rattle.command.specs.declared.Command.{Command}
use Rattle.agreement.specs.Lists.{In, Before}
use Rattle.agreement.specs.Logs.{Log.pilot, Log.copilot, Committed, Content.content, Single, Value.noop, Value.command, Holds, Compatible}
use Rattle.agreement.specs.Walks.{written, Step, Step.step, Walk, Walk.start, Walk.skip_pilot, Walk.skip_copilot, Walk.run_pilot, Walk.run_copilot, Clears, WalksMergeLaw, WalksMerge}
use Rattle.agreement.proofs.Lists.{in_left, in_last, in_cases}
use Rattle.agreement.proofs.Walks.{upto}

module _ {A : Type 0} where
  before_left : (x y : A) (l r : List A) → Before x y l → Before x y (l ++ r)
  before_left x y [] r b = absurd b
  before_left x y (z ∷ l) r (inl h) = inl (h.0, in_left y l r h.1)
  before_left x y (z ∷ l) r (inr b) = inr (before_left x y l r b)

  -- All that stands in a list stands before what is added at its end.
  before_last : (x y : A) (l : List A) → In x l → Before x y (l ++ (y ∷ []))
  before_last x y [] i = absurd i
  before_last x y (z ∷ l) (inl e) = inl (e, in_last y l)
  before_last x y (z ∷ l) (inr i) = inr (before_last x y l i)

  before_cases : (x y z : A) (l : List A) → Before x y (l ++ (z ∷ [])) → Before x y l ⊎ (In x l × (y ≡ z))
  before_cases x y z [] (inl h) = absurd h.1
  before_cases x y z [] (inr b) = absurd b
  before_cases x y z (w ∷ l) (inl h) = let c = in_cases y z l h.1 in grind arith
  before_cases x y z (w ∷ l) (inr b) = let ih = before_cases x y z l b in grind arith

  before_in : (x y : A) (l : List A) → Before x y l → In x l
  before_in x y [] b = b
  before_in x y (z ∷ l) (inl h) = inl h.0
  before_in x y (z ∷ l) (inr b) = inr (before_in x y l b)

module _ (C : Committed) (single : Single C) where
  -- Nothing that the walk has passed in the copilot's log depends on what it has not passed in the pilot's.
  low : {a b : ℕ} {l : List Step} → Walk C a b l → Clears C b (suc a)
  low start k c e p q h = absurd (omega arith)
  low (skip_pilot w n) k c e p q h = let ih = low w k c e p q h in omega arith
  low (skip_copilot {a = a} {b = b} {d = d} w n) k c e p q h =
      let ih = low w k c e p in
      let one_only = single copilot (suc b) (content (command c) e) (content noop d) in
      grind arith
  low (run_pilot w r) k c e p q h = let ih = low w k c e p q h in omega arith
  low (run_copilot {a = a} {b = b} {c = d} w r) k c e p q h =
      let ih = low w k c e p in
      let one_only = single copilot (suc b) (content (command c) e) (content (command d) r.dep) in
      let here = r.held in
      let ready = r.why in
      grind arith

  module _ (compat : Compatible C) where
    -- The copilot's commands that come after one of the pilot's that has run are not clear of it.
    late : {a b : ℕ} {l : List Step} → Walk C a b l → (i : ℕ) (d : Command) → In (step pilot i d) l → (k : ℕ) (c : Command) (e : ℕ) → b < k
        → Holds C copilot k c e → Clears C k i → ⊥
    late start i d j k c e p h clear = j
    late (skip_pilot w n) i d j k c e p h clear = late w i d j k c e p h clear
    late (skip_copilot w n) i d j k c e p h clear = late w i d j k c e (omega arith) h clear
    late (run_pilot {a = a} {b = b} {c = x} {l = l} w r) i d j k c e p h clear = elim (in_cases (step pilot i d) (step pilot (suc a) x) l j) [
      | inl old ↦ late w i d old k c e p h clear
      | inr new ↦
          let is : i ≡ suc a = grind arith in
          let mine = clear k c e (omega arith) (omega arith) h in
          elim r.why [
            | inl free ↦ let one = compat x c (suc a) r.dep k e r.held h in grind arith
            | inr wait ↦ let other = clear (suc b) wait.which wait.needs (omega arith) (omega arith) wait.held in let past = wait.beyond in omega arith
          ]
    ]
    late (run_copilot {a = a} {b = b} {c = x} {l = l} w r) i d j k c e p h clear =
        let old : In (step pilot i d) l = elim (in_cases (step pilot i d) (step copilot (suc b) x) l j) [ inl o ↦ o | inr new ↦ absurd (grind arith) ] in
        late w i d old k c e (omega arith) h clear

    merge : {a b : ℕ} {l : List Step} → Walk C a b l → (i j : ℕ) (c d : Command) → In (step copilot j c) l → In (step pilot i d) l
        → Before (step copilot j c) (step pilot i d) l ↔ Clears C j i
    merge start i j c d p q = absurd p
    merge (skip_pilot w n) i j c d p q = merge w i j c d p q
    merge (skip_copilot w n) i j c d p q = merge w i j c d p q
    merge (run_pilot {a = a} {b = b} {c = x} {l = l} w r) i j c d p q =
        let there : In (step copilot j c) l = elim (in_cases (step copilot j c) (step pilot (suc a) x) l p) [ inl o ↦ o | inr new ↦ absurd (grind arith) ] in
        let reached : j ≤ b = upto C single w copilot j c there in
        let clear : Clears C j (suc a) = λ k c' e s t h. low w k c' e s (omega arith) h in
        elim (in_cases (step pilot i d) (step pilot (suc a) x) l q) [
          | inl old ↦
              let ih = merge w i j c d there old in (
                λ b'. elim (before_cases (step copilot j c) (step pilot i d) (step pilot (suc a) x) l b') [
                  | inl earlier ↦ ih.0 earlier
                  | inr last ↦ let is : suc a ≡ i = grind arith in subst (Clears C j) is clear
                ],
                λ s. before_left (step copilot j c) (step pilot i d) l (step pilot (suc a) x ∷ []) (ih.1 s),
              )
          | inr new ↦
              let is : suc a ≡ i = grind arith in (
                λ b'. subst (Clears C j) is clear,
                λ s. subst (λ y. Before (step copilot j c) (step pilot i d) (l ++ (y ∷ []))) new (before_last (step copilot j c) (step pilot i d) l there),
              )
        ]
    merge (run_copilot {a = a} {b = b} {c = x} {l = l} w r) i j c d p q =
        let there : In (step pilot i d) l = elim (in_cases (step pilot i d) (step copilot (suc b) x) l q) [ inl o ↦ o | inr new ↦ absurd (grind arith) ] in
        elim (in_cases (step copilot j c) (step copilot (suc b) x) l p) [
          | inl old ↦
              let ih = merge w i j c d old there in (
                λ b'. elim (before_cases (step copilot j c) (step pilot i d) (step copilot (suc b) x) l b') [
                  | inl earlier ↦ ih.0 earlier
                  | inr last ↦ absurd (grind arith)
                ],
                λ s. before_left (step copilot j c) (step pilot i d) l (step copilot (suc b) x ∷ []) (ih.1 s),
              )
          | inr new ↦
              let is : suc b ≡ j = grind arith in (
                λ b'. elim (before_cases (step copilot j c) (step pilot i d) (step copilot (suc b) x) l b') [
                  | inl earlier ↦ absurd (let k = upto C single w copilot j c (before_in (step copilot j c) (step pilot i d) l earlier) in omega arith)
                  | inr last ↦ absurd (grind arith)
                ],
                λ s. absurd (late w i d there (suc b) x r.dep (omega arith) r.held (subst (λ k. Clears C k i) (sym is) s)),
              )
        ]

pub walks_merge_law : WalksMergeLaw
walks_merge_law C single compat a b l w = merge C single compat w

pub walks_merge : WalksMerge
walks_merge L compat a b l w = merge (written L) (λ g j x y p q. cc) compat w
