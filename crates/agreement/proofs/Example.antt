-- A history in which a command is decided on votes alone, and a walk that runs it.
use Rattle.std.proofs.Common.{ltb, List, [], ◌∷◌, refl, inl, inr, arith}
use Rattle.agreement.specs.Logs.{Log.pilot, Content, Content.content, Value.command}
use Rattle.agreement.specs.Walks.{Walk.start, Walk.run_pilot}
use Rattle.agreement.specs.Histories.{Event.propose, Event.answer, Event.vote, Event.fast_commit, Note, Note.note, Allowed, Allowed.begin, Allowed.next, sample, SomeHistory}

-- The content that the pilot proposes.
abbrev first : Content
first = content (command sample) 0

-- The pilot answers and proposes, seat 1 answers alike, and both vote.
abbrev h1 : List Note
h1 = note pilot 1 (answer 0 0) ∷ []

abbrev h2 : List Note
h2 = note pilot 1 (propose first) ∷ h1

abbrev h3 : List Note
h3 = note pilot 1 (answer 1 0) ∷ h2

abbrev h4 : List Note
h4 = note pilot 1 (vote 0) ∷ h3

abbrev h5 : List Note
h5 = note pilot 1 (vote 1) ∷ h4

-- The rules, for three seats.
abbrev R : List Note → Type 0
R = Allowed 3 1 (λ g. 0)

-- Each note is allowed after those before it.
r1 : R h1
r1 = next begin (λ k y i. absurd i)

r2 : R h2
r2 = next r1 (record { fresh = grind arith; own = grind arith })

r3 : R h3
r3 = next r2 (grind arith)

r4 : R h4
r4 = next r3 (record { unpromised = grind arith; proposal = sample; dependency = 0; proposed = inr (inl refl); same = inr (inr (inl refl)) })

r5 : R h5
r5 = next r4 (record { unpromised = grind arith; proposal = sample; dependency = 0; proposed = inr (inr (inl refl)); same = inr (inl refl) })

r6 : R (note pilot 1 fast_commit ∷ h5)
r6 = next r5 (record {
  voters = λ c. ltb c 2;
  enough = omega arith;
  voted = grind arith;
  no_first = grind arith;
  no_report = grind arith;
})

pub some_history : SomeHistory
some_history = record {
  history = note pilot 1 fast_commit ∷ h5;
  allowed = r6;
  walked = run_pilot start (record { dep = 0; held = inr (inl refl, inr (inr (inr (inr (inl refl))))); why = inl (omega arith) });
}
