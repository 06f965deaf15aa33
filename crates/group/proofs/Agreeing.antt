-- No two cards of a group disagree, whatever calls are made on them.
use Rattle.std.proofs.Common.{◌≡◌, ℕ, zero, suc, ◌+◌, ◌-◌, ◌*◌, ◌<◌, ◌≤◌, true, ltb, leb, List, [], map, get_or, Some, None, Option, sym, refl, ap, ◌∙◌, subst, inl, inr, arith}
use Rattle.std.proofs.lemmas.List.{get_or_past}
use Rattle.std.proofs.lemmas.Bool.{cases_Bool, cases_eq}
use Rattle.std.proofs.lemmas.Bool.Decides.{nat_tests}
use Rattle.std.proofs.lemmas.Option.{slice_get_within}
use Rattle.std.specs.List.{slice_get}
use Rattle.agreement.specs.Logs.{Log, Log.pilot, Log.copilot}
use Rattle.agreement.specs.Histories.{Note}
use Rattle.block.specs.Ballots.{holder_of}
use Rattle.block.specs.declared.message.Value.{Value}
use Rattle.block.specs.declared.message.Value.TheVariants as value
use Rattle.column.specs.Cells.{New as Blank}
use Rattle.column.specs.Moves.{Fresh, Later.now}
use Rattle.column.specs.Safe.{Kept, Seating, Safe}
use Rattle.column.proofs.Safe.{group_safe}
use Rattle.card.specs.declared.replica.Replica.{Replica}
use Rattle.card.specs.Groups.{is_group}
use Rattle.card.specs.Tables.{absent, log_of, entry_at}
use Rattle.card.specs.Making.{new_replica}
use Rattle.group.specs.declared.calls.Call.{Call}
use Rattle.group.specs.Groups.{Group, after, New}
use Rattle.group.specs.Agreements.{Holds, Agree, GroupsAgree, Orders}
use Rattle.group.specs.Scans.{Shaped}
use Rattle.group.specs.Standing.{Valued}
use Rattle.group.specs.Views.{number_of, log_named, cell_of, cell_on, stage_of, content_of, noted}
use Rattle.group.proofs.Beginning.{cards_begin, empty_new}
use Rattle.group.proofs.Grouping.{view, takeover_on, Sound}
use Rattle.group.proofs.Calling.{calls_go}

-- how many cards a group may lose
record Bears (n : ℕ) : Type 0 where
  f : ℕ
  size : n ≡ 2 * f + 1
  some_fail : 0 < f
  few : n ≤ 7

bears : (n : ℕ) → is_group n 0 ≡ true → Bears n
bears n ok = elim (cases_eq n 3) [
  | inl e ↦ record { f = 1; size = e; some_fail = omega arith; few = omega arith }
  | inr a ↦ elim (cases_eq n 5) [
    | inl e ↦ record { f = 2; size = e; some_fail = omega arith; few = omega arith }
    | inr b ↦ record { f = 3; size = let e : n ≡ 7 = grind (arith, nat_tests) in e; some_fail = omega arith; few = let e : n ≡ 7 = grind (arith, nat_tests) in omega arith }
  ]
]

module _ (n f : ℕ) (is : n ≡ 2 * f + 1) (fails : 0 < f) (few : n ≤ 7) (G : Group) (new : New n G) where
  past : (s : ℕ) → (s < n → ⊥) → slice_get G.cards s ≡ None
  past s out = by (slice_get G.cards s) refl
    where
      by : (o : Option Replica) → slice_get G.cards s ≡ o → slice_get G.cards s ≡ None
      by None q = q
      by (Some r) q = absurd (out (let l = slice_get_within G.cards s r q in omega (arith, new.size)))

  fresh : Fresh (view G [])
  fresh =
      record {
        cells = λ g i s. elim (cases_Bool (ltb s n)) [
          | inl l ↦
              let w = new.cards s (grind (arith, nat_tests)) in
              subst (λ o. Blank (cell_on o g i)) (sym w.1) ((cards_begin n s w.0).entries g i)
          | inr l ↦ subst (λ o. Blank (cell_on o g i)) (sym (past s (λ k. grind (arith, nat_tests)))) empty_new
        ];
        takeovers = λ s. elim (cases_Bool (ltb s n)) [
          | inl l ↦ let w = new.cards s (grind (arith, nat_tests)) in ap takeover_on w.1
          | inr l ↦ ap takeover_on (past s (λ k. grind (arith, nat_tests)))
        ];
        sent = ap (map noted) new.sent;
        history = refl;
      }

  begins : Sound n f G
  begins =
      record {
        history = [];
        reached = record { from = view G []; fresh = fresh; moves = now };
        count_is = new.size;
        cards = λ s l.
            let w = new.cards s l in
            record {
              card = new_replica n s w.0;
              here = w.1;
              size = refl;
              place = refl;
              seated = record { size = is; some_fail = fails; few = few; seat = l; stands = (cards_begin n s w.0).stands };
              valued = (cards_begin n s w.0).valued;
            };
      }

-- what a card holds committed, the argument sees as kept
kept : (G : Group) (h : List Note) (g : Log) (s i : ℕ) (v : Value) (d : ℕ) → 1 ≤ i → Holds G s (number_of g) i v d
    → Kept (view G h) s g i (content_of v d)
kept G h g s zero v d low w = absurd (omega arith)
kept G h g s (suc k) v d low w =
    let here : cell_on (slice_get G.cards s) g (suc k) ≡ cell_of (entry_at w.card (number_of g) (suc k)) =
    ap (λ o. cell_on o g (suc k)) w.seated ∙ ap (λ j. cell_of (get_or (log_of w.card (number_of g)) j absent)) (omega arith) in (
      ap (λ c. c.stage) here ∙ ap stage_of w.committed,
      ap (λ c. c.value) here ∙ (ap (λ y. content_of y (entry_at w.card (number_of g) (suc k)).dependency) w.value_is ∙ ap (content_of v) w.dependency_is),
    )

-- what a card holds committed has a value
held_valued : (n f : ℕ) (G : Group) → Sound n f G → (s log i : ℕ) (v : Value) (d : ℕ) → log ≤ 1 → 1 ≤ i → Holds G s log i v d
    → v ≡ value.Nothing → ⊥
held_valued n f G sound s log i v d l low w z =
    let inside = slice_get_within G.cards s w.card w.seated in
    let c = sound.cards s (omega (arith, sound.count_is)) in
    let same : c.card ≡ w.card = let a = c.here in let b = w.seated in grind arith in
    let shape : Shaped w.card = subst Shaped same c.seated.stands.shape in
    elim (cases_Bool (leb i 128)) [
      | inl h ↦ let e = (subst Valued same c.valued).entries log (i - 1) l (grind (arith, nat_tests)) (w.value_is ∙ z) in let q = w.committed in grind arith
      | inr h ↦
          let long : 128 ≤ i - 1 = grind (arith, nat_tests) in
          let e = get_or_past (log_of w.card log) (i - 1) absent (omega (arith, shape log l)) in
          let q = w.committed in grind arith
    ]

-- two values that the argument sees as one are one, where there are values
same_content_same_value : (v w : Value) (d e : ℕ) → (v ≡ value.Nothing → ⊥) → (w ≡ value.Nothing → ⊥) → content_of v d ≡ content_of w e → (v ≡ w) × (d ≡ e)
same_content_same_value value.Nothing w d e a b q = absurd (a refl)
same_content_same_value value.Noop value.Nothing d e a b q = absurd (b refl)
same_content_same_value value.Noop value.Noop d e a b q = (refl, cc)
same_content_same_value value.Noop (value.Command y) d e a b q = absurd (grind arith)
same_content_same_value (value.Command x) value.Nothing d e a b q = absurd (b refl)
same_content_same_value (value.Command x) value.Noop d e a b q = absurd (grind arith)
same_content_same_value (value.Command x) (value.Command y) d e a b q = (cc, cc)

named : (log : ℕ) → log ≤ 1 → log ≡ number_of (log_named log)
named zero l = refl
named (suc zero) l = refl
named (suc (suc k)) l = absurd (omega arith)

module _ (n f : ℕ) (G H : Group) (s : Sound n f G) (t : Sound n f H) (safe : Safe n (view G s.history) (view H t.history)) where
  inside_now : (c log i : ℕ) (v : Value) (d : ℕ) → Holds G c log i v d → c < n
  inside_now c log i v d w = let l = slice_get_within G.cards c w.card w.seated in omega (arith, s.count_is)

  inside_later : (c log i : ℕ) (v : Value) (d : ℕ) → Holds H c log i v d → c < n
  inside_later c log i v d w = let l = slice_get_within H.cards c w.card w.seated in omega (arith, t.count_is)

  agree : Agree G H
  agree =
      record {
        one_value = λ a b log i v w d e l low x y.
            same_content_same_value v w d e (held_valued n f G s a log i v d l low x) (held_valued n f H t b log i w e l low y)
            (safe.one_value (log_named log) i a b (content_of v d) (content_of w e) (inside_now a log i v d x) (inside_later b log i w e y)
            (kept G s.history (log_named log) a i v d low (subst (λ k. Holds G a k i v d) (named log l) x))
            (kept H t.history (log_named log) b i w e low (subst (λ k. Holds H b k i w e) (named log l) y)));
        one_waits = λ a b i j c c' d e li lj x y.
            safe.one_waits c c' a b i d j e (inside_now a 0 i (value.Command c) d x) (inside_later b 1 j (value.Command c') e y)
            (kept G s.history pilot a i (value.Command c) d li x) (kept H t.history copilot b j (value.Command c') e lj y);
        other_waits = λ a b i j c c' d e li lj x y.
            safe.other_waits c c' a b i d j e (inside_later a 0 i (value.Command c) d x) (inside_now b 1 j (value.Command c') e y)
            (kept H t.history pilot a i (value.Command c) d li x) (kept G s.history copilot b j (value.Command c') e lj y);
        proposed = λ a log i c d l low x.
            safe.asked (log_named log) i a c d (inside_now a log i (value.Command c) d x)
            (kept G s.history (log_named log) a i (value.Command c) d low (subst (λ k. Holds G a k i (value.Command c) d) (named log l) x));
      }

  -- what has run, as the argument sees it
  orders : Orders G H
  orders =
      record {
        one_order = λ a b i j i' j' l l' here there.
            safe.one_order_once a b i j i' j' l l' (omega (arith, s.count_is)) (omega (arith, t.count_is));
        run_on = λ a i j l here. safe.run_on a i j l (omega (arith, s.count_is));
        asked = λ a i j l here. safe.asked_run a i j l (omega (arith, s.count_is));
      }

-- a group at two moments
record TwoMoments (n : ℕ) (G H : Group) : Type 0 where
  f : ℕ
  now_sound : Sound n f G
  later_sound : Sound n f H
  safe : Safe n (view G now_sound.history) (view H later_sound.history)

moments : (n : ℕ) (G : Group) → New n G → (before more : List Call) → TwoMoments n (after G before) (after (after G before) more)
moments n G new before more =
    let b = bears n new.sized in
    let s = begins n b.f b.size b.some_fail b.few G new in
    let now = calls_go n b.f b.some_fail b.few before G s in
    let next = calls_go n b.f b.some_fail b.few more (after G before) now.sound in
    let seats : Seating n b.f number_of = record { size = b.size; some_fail = b.some_fail; seated = owners b.size b.some_fail } in
    record {
      f = b.f;
      now_sound = now.sound;
      later_sound = next.sound;
      safe =
          group_safe n b.f number_of holder_of seats (view (after G before) now.sound.history) (view (after (after G before) more) next.sound.history)
          now.sound.reached next.later;
    }
  where
    owners : {f : ℕ} → n ≡ 2 * f + 1 → 0 < f → (g : Log) → number_of g < n
    owners e l pilot = omega arith
    owners e l copilot = omega arith

pub groups_agree : GroupsAgree
groups_agree n G new before more =
    let m = moments n G new before more in
    agree n m.f (after G before) (after (after G before) more) m.now_sound m.later_sound m.safe

-- the same of what has run
pub groups_order : (n : ℕ) (G : Group) → New n G → (before more : List Call) → Orders (after G before) (after (after G before) more)
groups_order n G new before more =
    let m = moments n G new before more in
    orders n m.f (after G before) (after (after G before) more) m.now_sound m.later_sound m.safe
