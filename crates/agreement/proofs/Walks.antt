-- Any two walks run the same commands in the same order.
use Rattle.std.proofs.Common.{◌≡◌, ℕ, suc, ◌<◌, ◌≤◌, ◌⊎◌, List, [], ◌∷◌, ◌++◌, sym, refl, ◌∙◌, subst, inl, inr, arith}
use Rattle.std.proofs.lemmas.Bool.{cases_lt}
use Rattle.command.specs.declared.Command.{Command}
use Rattle.agreement.specs.Lists.{In, Agree}
use Rattle.agreement.specs.Logs.{Log, Log.pilot, Log.copilot, Committed, Content.content, Single, Value.noop, Value.command, Holds, Compatible}
use Rattle.agreement.specs.Walks.{written, Step, Step.step, ReadyPilot, ReadyCopilot, Walk, Walk.start, Walk.skip_pilot, Walk.skip_copilot, Walk.run_pilot, Walk.run_copilot, WalksAgreeLaw, WalksAgree}
use Rattle.agreement.proofs.Lists.{in_left, in_last, in_cases, last_cut, nil_cut, agree_more}

-- How far the walk is in a log.
abbrev pub reach : Log → ℕ → ℕ → ℕ
reach pilot a b = a
reach copilot a b = b

module _ (C : Committed) (single : Single C) where
  -- What has run stands within reach.
  pub upto : {a b : ℕ} {l : List Step} → Walk C a b l → (g : Log) (k : ℕ) (c : Command) → In (step g k c) l → k ≤ reach g a b
  upto start g k c i = absurd i
  upto (skip_pilot {a = a} {b = b} w _) g k c i = let ih = upto w g k c i in grind arith
  upto (skip_copilot {a = a} {b = b} w _) g k c i = let ih = upto w g k c i in grind arith
  upto (run_pilot {a = a} {b = b} {c = c'} {l = l} w r) g k c i =
      let ih = upto w g k c in
      let last = in_cases (step g k c) (step pilot (suc a) c') l i in
      grind arith
  upto (run_copilot {a = a} {b = b} {c = c'} {l = l} w r) g k c i =
      let ih = upto w g k c in
      let last = in_cases (step g k c) (step copilot (suc b) c') l i in
      grind arith

  -- Each command within reach has run.
  ran : {a b : ℕ} {l : List Step} → Walk C a b l → (g : Log) (k : ℕ) (c : Command) (d : ℕ) → Holds C g k c d → 0 < k → k ≤ reach g a b →
      In (step g k c) l
  ran start g k c d h p q = absurd (grind arith)
  ran (skip_pilot {a = a} {b = b} {d = d'} w n) g k c d h p q =
      let ih = ran w g k c d h p in
      let one_only = single pilot (suc a) (content (command c) d) (content noop d') in
      grind arith
  ran (skip_copilot {a = a} {b = b} {d = d'} w n) g k c d h p q =
      let ih = ran w g k c d h p in
      let one_only = single copilot (suc b) (content (command c) d) (content noop d') in
      grind arith
  ran (run_pilot {a = a} {b = b} {c = c'} {l = l} w r) g k c d h p q =
      let ih = ran w g k c d h p in
      let one_only = single pilot (suc a) (content (command c) d) (content (command c') r.dep) in
      let old = in_left (step g k c) l (step pilot (suc a) c' ∷ []) in
      let last = in_last (step pilot (suc a) c') l in
      grind arith
  ran (run_copilot {a = a} {b = b} {c = c'} {l = l} w r) g k c d h p q =
      let ih = ran w g k c d h p in
      let one_only = single copilot (suc b) (content (command c) d) (content (command c') r.dep) in
      let old = in_left (step g k c) l (step copilot (suc b) c' ∷ []) in
      let last = in_last (step copilot (suc b) c') l in
      grind arith

  -- What one of two walks with the same list has yet to run, the other has too.
  stays : {a b a' b' : ℕ} {l : List Step} → Walk C a b l → Walk C a' b' l → (g : Log) (k : ℕ) (c : Command) (d : ℕ) → Holds C g k c d →
      reach g a b < k → reach g a' b' < k
  stays {a} {b} {a'} {b'} w w' g k c d h q = elim (cases_lt (reach g a' b') k) [
    | inl t ↦ t
    | inr t ↦ absurd (omega (arith, upto w g k c (ran w' g k c d h (omega arith) t)))
  ]

  -- The walk may run x next.
  abbrev Next : ℕ → ℕ → Step → Type 0
  Next a b x = ((c : Command) × ReadyPilot C a b c × (x ≡ step pilot (suc a) c)) ⊎ ((c : Command) × ReadyCopilot C a b c × (x ≡ step copilot (suc b) c))

  module _ (compat : Compatible C) {a b a' b' : ℕ} {l : List Step} (w : Walk C a b l) (w' : Walk C a' b' l) where
    -- Two walks with the same list cannot go on in different logs.
    apart : (c c' : Command) → ReadyPilot C a b c → ReadyCopilot C a' b' c' → ⊥
    apart c c' r r' =
        let a'≤a = stays w w' pilot (suc a) c r.dep r.held (omega arith) in
        let b≤b' = stays w' w copilot (suc b') c' r'.dep r'.held (omega arith) in
        elim r.why [
          | inl free ↦ omega (arith, compat c c' (suc a) r.dep (suc b') r'.dep r.held r'.held)
          | inr wait ↦
              let b'≤b = stays w w' copilot (suc b) wait.which wait.needs wait.held (omega arith) in
              let same : b ≡ b' = omega arith in
              let s = single copilot (suc b') (content (command wait.which) wait.needs) (content (command c') r'.dep)
              (rw same at wait.held) r'.held in
              let e : wait.needs ≡ r'.dep = cc in
              omega arith
        ]

    -- If both go on in the pilot's log, or both in the copilot's, it is with the same command.
    both_pilot : (c c' : Command) → ReadyPilot C a b c → ReadyPilot C a' b' c' → step pilot (suc a) c ≡ step pilot (suc a') c'
    both_pilot c c' r r' =
        let a'≤a = stays w w' pilot (suc a) c r.dep r.held (omega arith) in
        let a≤a' = stays w' w pilot (suc a') c' r'.dep r'.held (omega arith) in
        let same : a ≡ a' = omega arith in
        let s = single pilot (suc a') (content (command c) r.dep) (content (command c') r'.dep) (rw same at r.held) r'.held in
        cc

    both_copilot : (c c' : Command) → ReadyCopilot C a b c → ReadyCopilot C a' b' c' → step copilot (suc b) c ≡ step copilot (suc b') c'
    both_copilot c c' r r' =
        let b'≤b = stays w w' copilot (suc b) c r.dep r.held (omega arith) in
        let b≤b' = stays w' w copilot (suc b') c' r'.dep r'.held (omega arith) in
        let same : b ≡ b' = omega arith in
        let s = single copilot (suc b') (content (command c) r.dep) (content (command c') r'.dep) (rw same at r.held) r'.held in
        cc

  -- Two walks with the same list run the same command next.
  same_next : Compatible C → {a b a' b' : ℕ} {l : List Step} → Walk C a b l → Walk C a' b' l → (x y : Step) →
      Next a b x → Next a' b' y → x ≡ y
  same_next k w w' x y (inl (c, r, e)) (inl (c', r', e')) = e ∙ both_pilot k w w' c c' r r' ∙ sym e'
  same_next k w w' x y (inl (c, r, e)) (inr (c', r', e')) = absurd (apart k w w' c c' r r')
  same_next k w w' x y (inr (c, r, e)) (inl (c', r', e')) = absurd (apart k w' w c' c r' r)
  same_next k w w' x y (inr (c, r, e)) (inr (c', r', e')) = e ∙ both_copilot k w w' c c' r r' ∙ sym e'

  -- A walk that ran y after the list m has passed through a walk with that list.
  cut : {a b : ℕ} {l : List Step} → Walk C a b l → (m : List Step) (y : Step) (t : List Step) → l ≡ m ++ (y ∷ t) →
      (a' b' : ℕ) × Walk C a' b' m × Next a' b' y
  cut start m y t e = absurd (nil_cut m y t e)
  cut (skip_pilot w _) m y t e = cut w m y t e
  cut (skip_copilot w _) m y t e = cut w m y t e
  cut (run_pilot {a = a} {b = b} {c = c} {l = l} w r) m y t e =
      elim (last_cut l m (step pilot (suc a) c) y t e) [
        | inl h ↦ (a, b, subst (λ s. Walk C a b s) h.0 w, inl (c, r, sym h.1))
        | inr h ↦ cut w m y h.0 h.1
      ]
  cut (run_copilot {a = a} {b = b} {c = c} {l = l} w r) m y t e =
      elim (last_cut l m (step copilot (suc b) c) y t e) [
        | inl h ↦ (a, b, subst (λ s. Walk C a b s) h.0 w, inr (c, r, sym h.1))
        | inr h ↦ cut w m y h.0 h.1
      ]

  -- Of any two walks one list begins the other.
  walks_meet : Compatible C → {a b a' b' : ℕ} {l l' : List Step} → Walk C a b l → Walk C a' b' l' → Agree l l'
  walks_meet k {l' = l'} start w' = inl (l', refl)
  walks_meet k (skip_pilot w _) w' = walks_meet k w w'
  walks_meet k (skip_copilot w _) w' = walks_meet k w w'
  walks_meet k {l' = l'} (run_pilot {a = a} {b = b} {c = c} {l = l} w r) w' =
      agree_more l l' (step pilot (suc a) c)
      (λ y t e. let (a', b', v, n) = cut w' l y t e in same_next k w v (step pilot (suc a) c) y (inl (c, r, refl)) n)
      (walks_meet k w w')
  walks_meet k {l' = l'} (run_copilot {a = a} {b = b} {c = c} {l = l} w r) w' =
      agree_more l l' (step copilot (suc b) c)
      (λ y t e. let (a', b', v, n) = cut w' l y t e in same_next k w v (step copilot (suc b) c) y (inr (c, r, refl)) n)
      (walks_meet k w w')

pub walks_agree_law : WalksAgreeLaw
walks_agree_law C single k a b a' b' l l' w w' = walks_meet C single k w w'

pub walks_agree : WalksAgree
walks_agree L k a b a' b' l l' w w' = walks_meet (written L) (λ g j x y p q. cc) k w w'
