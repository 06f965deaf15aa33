-- Every move keeps a group sound.
use Rattle.std.proofs.Common.{◌≡◌, ℕ, ◌<◌, ◌⊎◌, List, [], sym, refl, ◌∙◌, subst, inl, inr, arith}
use mathlib.Core.Option.{Option, some}
use Rattle.std.proofs.lemmas.Bool.{cases_eq}
use Rattle.agreement.specs.Lists.{In}
use Rattle.agreement.specs.Logs.{Log, Log.pilot, Log.copilot, Content.content, Value.command, other}
use Rattle.agreement.specs.Histories.{Event, Event.propose, Event.offer, Note, Note.note, Allowed.begin}
use Rattle.column.specs.Cells.{Cell, New, Takeover, Body, Message, Message.message}
use Rattle.column.specs.Moves.{Group, add, Act, Act.proposes, Act.votes, Act.replies, Act.repeats_vote, Act.repeats_reply, Act.counts_vote, Act.counts_reply, Act.commits_fast, Act.settles, Act.accepts, Act.counts_accept, Act.commits_first, Act.learns, Act.promises, Act.raises, Act.takes_over, Act.counts_report, Act.chooses, Act.counts_backing, Act.commits_choice, Act.tells_commit, Act.tells_promise, Act.rests, Act.forgets, Turn, Turn.once, Turn.counted, Move, Fresh, Later, Later.now, Later.then, Reached}
use Rattle.column.proofs.Invariant.{Fits, Leads, Said, Sound}
use Rattle.column.proofs.Frame.{Sub, sub_add, in_add, older, said_more, leads_more, fits_apart}
use Rattle.column.proofs.Acts.{Here, Keeps, Leading}
use Rattle.column.proofs.Answering.{proposes_keeps, votes_keeps, replies_keeps, repeats_vote_keeps, repeats_reply_keeps, counts_vote_keeps, counts_reply_keeps}
use Rattle.column.proofs.Deciding.{commits_fast_keeps, accepts_keeps, counts_accept_keeps, commits_first_keeps, learns_keeps, tells_commit_keeps, tells_promise_keeps, rests_keeps, forgets_keeps}
use Rattle.column.proofs.Settling.{settles_keeps}
use Rattle.column.proofs.Promising.{promises_keeps, raises_keeps, takes_over_keeps}
use Rattle.column.proofs.Taking.{counts_report_keeps, counts_backing_keeps, commits_choice_keeps, chooses_keeps}

module _ (n f : ℕ) (owner : Log → ℕ) (holder : ℕ → ℕ) where
  -- Every act keeps the invariant.
  act_keeps : {h : List Note} {g : Log} {i s : ℕ} {sent : List Message} {far : ℕ → Cell} {e : Cell} {t : Option Takeover}
      {x : Cell} {u : Option Takeover} {out : Option Body} {es : List Event} → Here n f owner holder h g i s sent far e t →
      Act n f owner holder g i s sent far e t x u out es → Keeps n f owner holder h g i s x u out es
  act_keeps at (proposes c d A p0 p1 p2 p3 p4) = proposes_keeps n f owner holder at c d A p0 p1 p2 p3 p4
  act_keeps at (votes p c d m p0 p1 p2) = votes_keeps n f owner holder at p c d m p0 p1 p2
  act_keeps at (replies p c d x m p0 p1 p2 p3) = replies_keeps n f owner holder at p c d x m p0 p1 p2 p3
  act_keeps at (repeats_vote p q) = repeats_vote_keeps n f owner holder at p q
  act_keeps at (repeats_reply p q) = repeats_reply_keeps n f owner holder at p q
  act_keeps at (counts_vote c A m p) = counts_vote_keeps n f owner holder at c A m p
  act_keeps at (counts_reply c x A m p) = counts_reply_keeps n f owner holder at c x A m p
  act_keeps at (commits_fast p0 p1 p2 p3) = commits_fast_keeps n f owner holder at p0 p1 p2 p3
  act_keeps at (settles d B p0 p1 p2 p3 p4) = settles_keeps n f owner holder at d B p0 p1 p2 p3 p4
  act_keeps at (accepts p b v m p0 p1) = accepts_keeps n f owner holder at p b v m p0 p1
  act_keeps at (counts_accept c B m p) = counts_accept_keeps n f owner holder at c B m p
  act_keeps at (commits_first p0 p1 p2) = commits_first_keeps n f owner holder at p0 p1 p2
  act_keeps at (learns p v m) = learns_keeps n f owner holder at p v m
  act_keeps at (promises p b m p0 p1) = promises_keeps n f owner holder at b p0 p1
  act_keeps at (raises p b m p0 p1) = raises_keeps n f owner holder at b p0 p1
  act_keeps at (takes_over b R B p0 p1 p2 p3 p4) = takes_over_keeps n f owner holder at b R B p0 p1 p2 p3 p4
  act_keeps at (counts_report u c r R p0 p1 p2 p3 m p4) = counts_report_keeps n f owner holder at u c r R p0 p1 p2 p3 m p4
  act_keeps at (chooses u v B p0 p1 p2 p3 p4 p5 p6 p7 p8) = chooses_keeps n f owner holder at u v B p0 p1 p2 p3 p4 p5 p6 p7 p8
  act_keeps at (counts_backing u c B p0 p1 p2 m p3) = counts_backing_keeps n f owner holder at u c B p0 p1 p2 m p3
  act_keeps at (commits_choice u p0 p1 p2 p3 p4 p5 p6) = commits_choice_keeps n f owner holder at u p0 p1 p2 p3 p4 p5 p6
  act_keeps at (tells_commit p) = tells_commit_keeps n f owner holder at p
  act_keeps at tells_promise = tells_promise_keeps n f owner holder at
  act_keeps at rests = rests_keeps n f owner holder at
  act_keeps at forgets = forgets_keeps n f owner holder at

  -- The takeover by itself.
  leading_is : (s : ℕ) (t : Option Takeover) (h : List Note) → Leading n f owner holder s t h →
      (u : Takeover) → t ≡ some u → Leads n f owner holder s u h
  leading_is s t h m u p = subst (λ o. Leading n f owner holder s o h) p m

  -- So does every turn.
  turn_keeps : {h : List Note} {g : Log} {i s : ℕ} {sent : List Message} {far : ℕ → Cell} {e : Cell} {t : Option Takeover}
      {x : Cell} {u : Option Takeover} {out : Option Body} {es : List Event} → Here n f owner holder h g i s sent far e t →
      Turn n f owner holder g i s sent far e t x u out es → Keeps n f owner holder h g i s x u out es
  turn_keeps at (once a) = act_keeps at a
  turn_keeps {h} {s = s} at (counted c w a b) =
      let m = act_keeps at a in
      act_keeps
      (record { run = at.run; fit = m.fits; fars = at.fars; leads = leading_is s w h m.leads; said = at.said }) b

  -- Two logs are one or not.
  same_log : (g g' : Log) → (g ≡ g') ⊎ (g ≡ g' → ⊥)
  same_log pilot pilot = inl refl
  same_log pilot copilot = inr (λ p. grind arith)
  same_log copilot pilot = inr (λ p. grind arith)
  same_log copilot copilot = inl refl

  -- Another entry or another seat, or this one.
  pub same_place : (g g' : Log) (i i' s s' : ℕ) → ((g' ≡ g) × (i' ≡ i) × (s' ≡ s)) ⊎ ((g' ≡ g) × (i' ≡ i) × (s' ≡ s) → ⊥)
  same_place g g' i i' s s' = elim (same_log g' g) [
    | inr q ↦ inr (λ z. q z.0)
    | inl p ↦ elim (cases_eq i' i) [
      | inr q ↦ inr (λ z. q z.1)
      | inl p' ↦ elim (cases_eq s' s) [ inr q ↦ inr (λ z. q z.2) | inl p'' ↦ inl (p, p', p'') ]
    ]
  ]

  module _ {G H : Group} (m : Move n f owner holder G H) (old : Sound n f owner holder G) where
    -- The history afterwards.
    abbrev after : List Note
    after = add m.log m.place m.events G.history

    -- What the seat that moves has at hand.
    at_hand : Here n f owner holder G.history m.log m.place m.seat G.sent (λ k. G.cells (other m.log) k m.seat)
        (G.cells m.log m.place m.seat) (G.takeovers m.seat)
    at_hand = record {
      run = old.run;
      fit = old.fits m.log m.place m.seat m.seated;
      fars = λ k. old.fits (other m.log) k m.seat m.seated;
      leads = λ u p. old.leads m.seat m.seated u p;
      said = λ c b j. old.said c m.log m.place b j;
    }

    -- What its turn keeps.
    turned : Keeps n f owner holder G.history m.log m.place m.seat m.cell m.takeover m.out m.events
    turned = turn_keeps at_hand m.turn

    -- Each cell, each takeover and each message afterwards.
    fits_after : (g : Log) (i s : ℕ) → s < n → Fits n f owner holder g i s (H.cells g i s) after
    fits_after g i s l = elim (same_place m.log g m.place i m.seat s) [
      | inl p ↦ rw (p.0, p.1, p.2, m.here) turned.fits
      | inr q ↦ rw (m.apart g i s q)
          (fits_apart n f owner holder m.log m.place m.seat m.events G.history turned.about g i s q (G.cells g i s)
          (old.fits g i s l))
    ]

    leads_after : (s : ℕ) → s < n → (u : Takeover) → H.takeovers s ≡ some u → Leads n f owner holder s u after
    leads_after s l u p = elim (cases_eq s m.seat) [
      | inl q ↦
          rw q (leading_is m.seat m.takeover after turned.leads u (sym m.mine ∙ (rw q at p)))
      | inr q ↦
          let k = old.leads s l u (sym (m.others s q) ∙ p) in
          leads_more n f owner holder G.history after (sub_add m.log m.place m.events G.history) s u
          (λ v j. older n f owner holder m.log m.place m.seat m.events G.history turned.about u.log u.place s
          (λ z. q z.2) (offer u.ballot v) (inr (k.past_first, k.holds)) j) k
    ]

    said_after : (c : ℕ) (g : Log) (i : ℕ) (b : Body) → In (message c g i b) H.sent → Said n f owner holder after c g i b
    said_after c g i b j = elim (m.posted (message c g i b) j) [
      | inr k ↦ said_more n f owner holder G.history after (sub_add m.log m.place m.events G.history) c g i b (old.said c g i b k)
      | inl p ↦
          let (b', q, z) = p in
          let says : Said n f owner holder after m.seat m.log m.place b' = rw q at turned.says in
          same_said c m.seat g m.log i m.place b b' z says
    ]
      where
        what : Message → Type 0
        what (message c' g' i' b') = Said n f owner holder after c' g' i' b'

        same_said : (c c' : ℕ) (g g' : Log) (i i' : ℕ) (b b' : Body) → message c g i b ≡ message c' g' i' b' →
            Said n f owner holder after c' g' i' b' → Said n f owner holder after c g i b
        same_said c c' g g' i i' b b' z says = subst what (sym z) says

    -- A move keeps a group sound.
    pub moved_sound : Sound n f owner holder H
    moved_sound = record {
      run = rw m.grown turned.run;
      fits = λ g i s l. rw m.grown (fits_after g i s l);
      leads = λ s l u p. rw m.grown (leads_after s l u p);
      said = λ c g i b j. rw m.grown (said_after c g i b j);
      handed = λ g i c d j. elim (in_add m.log m.place m.events G.history g i (propose (content (command c) d)) (rw m.grown at j)) [
        | inl k ↦ m.asks c d k
        | inr k ↦ m.asked c (old.handed g i c d k)
      ];
    }

    -- The history only grows.
    pub grows : Sub G.history H.history
    grows x j = rw m.grown (sub_add m.log m.place m.events G.history x j)

  -- A new cell sums up an empty history.
  fits_new : (g : Log) (i s : ℕ) (e : Cell) → New e → Fits n f owner holder g i s e []
  fits_new g i s e new = grind arith

  -- A new group is sound.
  pub fresh_sound : (G : Group) → Fresh G → Sound n f owner holder G
  fresh_sound G new = record {
    run = rw new.history begin;
    fits = λ g i s l. rw new.history (fits_new g i s (G.cells g i s) (new.cells g i s));
    leads = λ s l u p. let q = new.takeovers s in absurd (grind arith);
    said = λ c g i b j. let none_yet : In (message c g i b) [] = rw new.sent at j in absurd none_yet;
    handed = λ g i c d j. let none_yet : In (note g i (propose (content (command c) d))) [] = rw new.history at j in absurd none_yet;
  }

  -- So is every group that comes of it.
  pub later_sound : {G H : Group} → Later n f owner holder G H → Sound n f owner holder G → Sound n f owner holder H
  later_sound now s = s
  later_sound (then l m) s = moved_sound m (later_sound l s)

  pub later_grows : {G H : Group} → Later n f owner holder G H → Sound n f owner holder G → Sub G.history H.history
  later_grows now s x j = j
  later_grows (then l m) s x j = grows m (later_sound l s) x (later_grows l s x j)

  pub reached_sound : {G : Group} → Reached n f owner holder G → Sound n f owner holder G
  reached_sound r = later_sound r.moves (fresh_sound r.from r.fresh)
