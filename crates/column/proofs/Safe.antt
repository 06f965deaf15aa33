-- A sound group is safe, now and later.
use Rattle.std.proofs.Common.{◌≡◌, ℕ, suc, ◌<◌, List, refl, inl, inr}
use mathlib.Core.Option.{Option}
use Rattle.command.specs.declared.Command.{Command}
use Rattle.agreement.specs.Lists.{In, Agree}
use Rattle.agreement.specs.Logs.{Log, Log.pilot, Log.copilot, Content, Content.content, Value.command, Committed}
use Rattle.agreement.specs.Walks.{Step, Step.step, same_identity, identity_of, Walk, Walk.start, Walk.skip_pilot, Walk.skip_copilot, Walk.run_pilot, Walk.run_copilot, Waits, ReadyPilot, ReadyCopilot}
use Rattle.agreement.specs.Histories.{Event, decided_in, Settled}
use Rattle.agreement.proofs.Lists.{in_cases, firsts_agree}
use Rattle.agreement.proofs.Histories.{histories_settled, histories_walked}
use Rattle.column.specs.Cells.{Stage.committed, Cell, Takeover, Body, Message}
use Rattle.column.specs.Moves.{Group, Act, Act.proposes, Act.votes, Act.replies, Act.repeats_vote, Act.repeats_reply, Act.counts_vote, Act.counts_reply, Act.commits_fast, Act.settles, Act.accepts, Act.counts_accept, Act.commits_first, Act.learns, Act.promises, Act.raises, Act.takes_over, Act.counts_report, Act.chooses, Act.counts_backing, Act.commits_choice, Act.tells_commit, Act.tells_promise, Act.rests, Act.forgets, Turn, Turn.once, Turn.counted, Move, Later, Later.now, Later.then}
use Rattle.column.specs.Safe.{Kept, Seating, Safe, GroupSafe}
use Rattle.column.proofs.Invariant.{Sound}
use Rattle.column.proofs.Frame.{decided_more}
use Rattle.column.proofs.Moves.{same_place, moved_sound, grows, later_sound, reached_sound}

-- A walk is one through whatever has more commits, too.
module _ (C D : Committed) (more : (g : Log) (k : ℕ) (x : Content) → C g k x → D g k x) where
  waits_more : (a b : ℕ) → Waits C a b → Waits D a b
  waits_more a b w = record {
    which = w.which;
    needs = w.needs;
    held = more copilot (suc b) (content (command w.which) w.needs) w.held;
    beyond = w.beyond;
  }

  ready_one_more : (a b : ℕ) (c : Command) → ReadyPilot C a b c → ReadyPilot D a b c
  ready_one_more a b c r = record {
    dep = r.dep;
    held = more pilot (suc a) (content (command c) r.dep) r.held;
    why = elim r.why [ inl p ↦ inl p | inr w ↦ inr (waits_more a b w) ];
  }

  ready_two_more : (a b : ℕ) (c : Command) → ReadyCopilot C a b c → ReadyCopilot D a b c
  ready_two_more a b c r = record { dep = r.dep; held = more copilot (suc b) (content (command c) r.dep) r.held; why = r.why }

  walk_more : {a b : ℕ} {l : List Step} → Walk C a b l → Walk D a b l
  walk_more start = start
  walk_more (skip_pilot w c) = skip_pilot (walk_more w) (more _ _ _ c)
  walk_more (skip_copilot w c) = skip_copilot (walk_more w) (more _ _ _ c)
  walk_more (run_pilot {a = a} {b = b} {c = c} w r) = run_pilot (walk_more w) (ready_one_more a b c r)
  walk_more (run_copilot {a = a} {b = b} {c = c} w r) = run_copilot (walk_more w) (ready_two_more a b c r)

same_step : {g g' : Log} {i i' : ℕ} {c c' : Command} → step g i c ≡ step g' i' c' → (g ≡ g') × (i ≡ i') × (c ≡ c')
same_step p = (cc, cc, cc)

-- Each step of a walk is a command that is committed.
walked : (C : Committed) {a b : ℕ} {l : List Step} → Walk C a b l → (g : Log) (i : ℕ) (c : Command) → In (step g i c) l → (d : ℕ) × C g i (content (command c) d)
walked C start g i c j = absurd j
walked C (skip_pilot w k) g i c j = walked C w g i c j
walked C (skip_copilot w k) g i c j = walked C w g i c j
walked C (run_pilot {a = a} {c = c'} {l = l} w r) g i c j = elim (in_cases (step g i c) (step pilot (suc a) c') l j) [
  | inl k ↦ walked C w g i c k
  | inr p ↦
      let (p0, p1, p2) = same_step p in
      (r.dep, rw (p0, p1, p2) r.held)
]
walked C (run_copilot {b = b} {c = c'} {l = l} w r) g i c j = elim (in_cases (step g i c) (step copilot (suc b) c') l j) [
  | inl k ↦ walked C w g i c k
  | inr p ↦
      let (p0, p1, p2) = same_step p in
      (r.dep, rw (p0, p1, p2) r.held)
]

module _ (n f : ℕ) (owner : Log → ℕ) (holder : ℕ → ℕ) where
  -- No act takes a commit back.
  stays : {g : Log} {i s : ℕ} {sent : List Message} {far : ℕ → Cell} {e : Cell} {t : Option Takeover}
      {x : Cell} {u : Option Takeover} {out : Option Body} {es : List Event} →
      Act n f owner holder g i s sent far e t x u out es → e.stage ≡ committed → x.stage ≡ committed
  stays (proposes c d A p0 p1 p2 p3 p4) q = cc
  stays (votes p c d m p0 p1 p2) q = cc
  stays (replies p c d x m p0 p1 p2 p3) q = cc
  stays (repeats_vote p0 p1) q = q
  stays (repeats_reply p0 p1) q = q
  stays (counts_vote c A m p) q = q
  stays (counts_reply c x A m p) q = q
  stays (commits_fast p0 p1 p2 p3) q = refl
  stays (settles d B p0 p1 p2 p3 p4) q = cc
  stays (accepts p b v m p0 p1) q = absurd (p0 q)
  stays (counts_accept c B m p) q = q
  stays (commits_first p0 p1 p2) q = refl
  stays (learns p v m) q = refl
  stays (promises p b m p0 p1) q = q
  stays (raises p b m p0 p1) q = q
  stays (takes_over b R B p0 p1 p2 p3 p4) q = q
  stays (counts_report u c r R p0 p1 p2 p3 m p4) q = q
  stays (chooses u v B p0 p1 p2 p3 p4 p5 p6 p7 p8) q = absurd (p4 q)
  stays (counts_backing u c B p0 p1 p2 m p3) q = q
  stays (commits_choice u p0 p1 p2 p3 p4 p5 p6) q = refl
  stays (tells_commit p) q = q
  stays tells_promise q = q
  stays rests q = q
  stays forgets q = q

  turn_stays : {g : Log} {i s : ℕ} {sent : List Message} {far : ℕ → Cell} {e : Cell} {t : Option Takeover}
      {x : Cell} {u : Option Takeover} {out : Option Body} {es : List Event} →
      Turn n f owner holder g i s sent far e t x u out es → e.stage ≡ committed → x.stage ≡ committed
  turn_stays (once a) q = stays a q
  turn_stays (counted c w a b) q = stays b (stays a q)

  stage_kept : {G H : Group} → Move n f owner holder G H → (g : Log) (i s : ℕ) →
      (G.cells g i s).stage ≡ committed → (H.cells g i s).stage ≡ committed
  stage_kept {G} {H} m g i s q = elim (same_place n f owner holder m.log g m.place i m.seat s) [
    | inl p ↦ rw (p.0, p.1, p.2, m.here) (turn_stays m.turn (rw (p.0, p.1, p.2) at q))
    | inr apart ↦ rw (m.apart g i s apart) q
  ]

  -- What a seat holds committed is decided.
  kept_decided : (G : Group) → Sound n f owner holder G → (g : Log) (i s : ℕ) (v : Content) → s < n → Kept G s g i v →
      decided_in n f owner G.history g i v
  kept_decided G sound g i s v l k = rw k.1 at ((sound.fits g i s l).final k.0)

  module _ (seats : Seating n f owner) where
    settled : (G : Group) → Sound n f owner holder G → Settled n f owner G.history
    settled G sound = histories_settled n f owner G.history seats.size seats.some_fail seats.seated sound.run

    -- What a seat has committed it keeps, over a move and over many.
    kept : {G H : Group} → Move n f owner holder G H → Sound n f owner holder G → (g : Log) (i s : ℕ) (v : Content) → s < n →
        Kept G s g i v → Kept H s g i v
    kept {G} {H} m sound g i s v l k =
        let st = stage_kept m g i s k.0 in
        let new = moved_sound n f owner holder m sound in (
          st,
          (settled H new).single g i (H.cells g i s).value v ((new.fits g i s l).final st)
              (decided_more n f owner holder G.history H.history (grows n f owner holder m sound) g i v (kept_decided G sound g i s v l k)),
        )

    lasting : {G H : Group} → Later n f owner holder G H → Sound n f owner holder G → (g : Log) (i s : ℕ) (v : Content) → s < n →
        Kept G s g i v → Kept H s g i v
    lasting now sound g i s v l k = k
    lasting (then past m) sound g i s v l k =
        kept m (later_sound n f owner holder past sound) g i s v l (lasting past sound g i s v l k)

    safe : (G H : Group) → Later n f owner holder G H → Sound n f owner holder G → Safe n G H
    safe G H later sound =
        let new = later_sound n f owner holder later sound in
        let end = settled H new in
        let past : (g : Log) (i s : ℕ) (v : Content) → s < n → Kept G s g i v → decided_in n f owner H.history g i v =
        λ g i s v l k. kept_decided H new g i s v l (lasting later sound g i s v l k) in
        let order : (s s' a b a' b' : ℕ) (l l' : List Step) → s < n → s' < n → Walk (Kept G s) a b l → Walk (Kept H s') a' b' l' → Agree l l' =
        λ s s' a b a' b' l l' p q w w'. histories_walked n f owner H.history seats.size seats.some_fail seats.seated new.run
        a b a' b' l l'
        (walk_more (Kept G s) (decided_in n f owner H.history) (λ g k x. past g k s x p) w)
        (walk_more (Kept H s') (decided_in n f owner H.history) (λ g k x. kept_decided H new g k s' x q) w') in
        record {
          lasting = lasting later sound;
          one_value = λ g i s s' v w p q k k'. end.single g i v w (past g i s v p k) (kept_decided H new g i s' w q k');
          one_waits = λ c c' s s' i d j e p q k k'. end.compatible c c' i d j e (past pilot i s _ p k) (kept_decided H new copilot j s' _ q k');
          other_waits = λ c c' s s' i d j e p q k k'. end.compatible c c' i d j e (kept_decided H new pilot i s _ p k) (past copilot j s' _ q k');
          one_order = order;
          one_order_once = λ s s' a b a' b' l l' p q w w'. firsts_agree same_identity identity_of l l' (order s s' a b a' b' l l' p q w w');
          run_on = λ s a b l p w. walk_more (Kept G s) (Kept H s) (λ g k x. lasting later sound g k s x p) w;
          asked = asked;
          asked_run = λ s a b l p w g i c j. let k = walked (Kept G s) w g i c j in asked g i s c k.0 p k.1;
        }
      where
        asked : (g : Log) (i s : ℕ) (c : Command) (d : ℕ) → s < n → Kept G s g i (content (command c) d) → In c G.handed
        asked g i s c d p k =
            let q = (settled G sound).asked g i c d (kept_decided G sound g i s (content (command c) d) p k) in
            sound.handed g i c q.0 q.1

pub group_safe : GroupSafe
group_safe n f owner holder seats G H reached later =
    safe n f owner holder seats G H later (reached_sound n f owner holder reached)
