-- Every group that calls make of a new one keeps the promise.
use Rattle.std.proofs.Common.{◌≡◌, ℕ, ◌<◌, ◌≤◌, Bool, true, false, cond, List, [], map, length, Some, Ok, Err, Result, sym, refl, ap, ◌∙◌, subst, arith}
use Rattle.std.specs.List.{slice_get}
use Rattle.std.proofs.lemmas.List.{length-map}
use Rattle.std.proofs.lemmas.Bool.Decides.{nat_tests}
use Rattle.command.specs.declared.Command.{Command}
use Rattle.agreement.specs.Lists.{In, Agree, Distinct}
use Rattle.agreement.specs.Walks.{Step, Step.step, once_each, same_identity, identity_of}
use Rattle.agreement.proofs.Lists.{firsts_distinct}
use Rattle.block.specs.declared.message.Value.{Value}
use Rattle.block.specs.declared.message.Value.TheVariants as value
use Rattle.entry.specs.declared.entry.Entry.{Entry}
use Rattle.machine.specs.declared.rule.Machine.{Ghosts}
use Rattle.machine.specs.Rules.{Rule}
use Rattle.card.specs.declared.refusal.Refusal.{Refusal}
use Rattle.card.specs.declared.refusal.Refusal.TheVariants.{NoSuchEntry}
use Rattle.card.specs.Tables.{is_placed, entry_at}
use Rattle.fitted.specs.Meanings.{Meaning}
use Rattle.group.specs.declared.calls.Call.{Call}
use Rattle.group.specs.Groups.{seat_of}
use Rattle.group.specs.Groups as order
use Rattle.group.specs.Agreements.{KeptOn, Orders, Holds}
use Rattle.group.specs.Agreements as agreements
use Rattle.group.proofs.Agreeing.{groups_agree, groups_order}
use Rattle.group.proofs.Grouping.{at_inside}
use Rattle.cabinets.specs.declared.answer.Listed.{Listed}
use Rattle.cabinets.specs.Groups.{Group, after, New}
use Rattle.cabinets.specs.Makes.{either, makes}
use Rattle.cabinets.specs.Promises.{Commits, list_of, commands_of, command_identity, OneKind, Promise, Always, Kept}
use Rattle.cabinets.proofs.Ordering.{replica_of, orders, nth_map, orders_after}
use Rattle.cabinets.proofs.Listing.{command_of, agree_map, in_map, distinct_commands, in_once}
use Rattle.cabinets.proofs.Telling.{same_places}
use Rattle.cabinets.proofs.Running.{RanSo}
use Rattle.cabinets.proofs.Sounding.{Sound, found, orders_new, begins, after_sound}

-- a committed entry that look up answers, as the ordering states have it
module _ {R : Rule} (G : Group R) (seat log i : ℕ) (v : Value) (d : ℕ) (w : Commits G seat log i v d) where
  placed : is_placed log i ≡ true
  placed = by (is_placed log i) w.looks_up
    where
      by : (b : Bool) → cond b (Ok (entry_at w.card.replica log i)) (Err NoSuchEntry) ≡ Ok w.entry → b ≡ true
      by true e = refl
      by false e = absurd (grind arith)

  pub log_low : log ≤ 1
  log_low = let p = placed in grind (arith, nat_tests)

  pub from_one : 1 ≤ i
  from_one = let p = placed in grind (arith, nat_tests)

  pub holds : Holds (orders G) seat log i v d
  holds =
      let e : entry_at w.card.replica log i ≡ w.entry = ok_is (rw placed at w.looks_up) in
      record {
        card = w.card.replica;
        seated = nth_map replica_of G.cards seat w.card w.seated;
        committed = ap (λ x. x.state) e ∙ w.committed;
        value_is = ap (λ x. x.value) e ∙ w.value_is;
        dependency_is = ap (λ x. x.dependency) e ∙ w.dependency_is;
      }
    where
      ok_is : {x y : Entry} → ◌≡◌ {A = Result Entry Refusal} (Ok x) (Ok y) → x ≡ y
      ok_is e = grind arith

module _ (A B : Rule) (n : ℕ) (starts : List (either A B).State) (G₀ : Group (either A B)) (new : New (either A B) n starts G₀) (before more : List Call) where
  abbrev R : Rule
  R = either A B

  abbrev G : Group R
  G = after R G₀ before

  abbrev H : Group R
  H = after R G more

  now_sound : Sound R n starts G₀ new G
  now_sound = after_sound R n starts G₀ new before G₀ (begins R n starts G₀ new)

  later_sound : Sound R n starts G₀ new H
  later_sound = after_sound R n starts G₀ new more G now_sound

  -- the same two moments of the ordering states
  agree : agreements.Agree (orders G) (orders H)
  agree =
      subst (λ K. agreements.Agree (orders G) K) (sym (orders_after R more G))
      (subst (λ K. agreements.Agree K (order.after K more)) (sym (orders_after R before G₀)) (groups_agree n (orders G₀) (orders_new R n starts G₀ new) before more))

  order_on : Orders (orders G) (orders H)
  order_on =
      subst (λ K. Orders (orders G) K) (sym (orders_after R more G))
      (subst (λ K. Orders K (order.after K more)) (sym (orders_after R before G₀)) (groups_order n (orders G₀) (orders_new R n starts G₀ new) before more))

  -- what the card in a seat has run, and what another has at the later moment
  record RanBy (K : Group R) (s : ℕ) : Type 0 where
    card : Meaning R
    start : R.State
    so : RanSo R (KeptOn (orders K) s) card start (list_of K s)

  ran_by_lem : (K : Group R) → Sound R n starts G₀ new K → (s : ℕ) → s < length starts → RanBy K s
  ran_by_lem K sound s l =
      let c = found K.cards s (omega (arith, sound.size, new.machines)) in
      let x = found starts s l in
      record { card = c.0; start = x.0; so = sound.runs s c.0 x.0 c.1 x.1 }

  among : (K : Group R) → Sound R n starts G₀ new K → (s : ℕ) → s < length starts → s < length (orders K).cards
  among K sound s l = omega (arith, length-map K.cards replica_of, sound.size, new.machines)

  one_order : (s t : ℕ) → s < length starts → t < length starts → Agree (commands_of G s) (commands_of H t)
  one_order s t l j =
      let a = (ran_by_lem G now_sound s l).so in
      let b = (ran_by_lem H later_sound t j).so in
      subst (λ cs. Agree cs (commands_of H t)) (sym a.runs_each)
      (subst (Agree (map command_of (once_each a.steps))) (sym b.runs_each)
      (agree_map command_of (once_each a.steps) (once_each b.steps)
      (order_on.one_order s t _ _ _ _ a.steps b.steps (among G now_sound s l) (among H later_sound t j) a.walk b.walk)))

  listed_proposed : (s : ℕ) (c : Command) → s < length starts → In c (commands_of G s) → In c G.proposed
  listed_proposed s c l i =
      let a = (ran_by_lem G now_sound s l).so in
      let w = in_map command_of (once_each a.steps) c (subst (In c) a.runs_each i) in
      asked_by w.0 w.2 (in_once a.steps w.0 w.1)
    where
      asked_by : (st : Step) → c ≡ command_of st → In st (ran_by_lem G now_sound s l).so.steps → In c G.proposed
      asked_by (step g k d) e j =
          let a = (ran_by_lem G now_sound s l).so in
          subst (λ b. In b G.proposed) (sym e) (order_on.asked s _ _ a.steps (among G now_sound s l) a.walk g k d j)

  never_twice : (s : ℕ) → s < length starts → Distinct same_identity command_identity (commands_of G s)
  never_twice s l =
      let a = (ran_by_lem G now_sound s l).so in
      subst (Distinct same_identity command_identity) (sym a.runs_each) (distinct_commands (once_each a.steps) (firsts_distinct same_identity identity_of [] a.steps))

  within : (s : ℕ) (x : R.State) → slice_get starts s ≡ Some x → s < length starts
  within s x from = at_inside starts s x from

  seat_runs : (K : Group R) → (sound : Sound R n starts G₀ new K) → (s : ℕ) (x : R.State) → slice_get starts s ≡ Some x
      → (m : Meaning R) × RanSo R (KeptOn (orders K) s) m x (list_of K s)
  seat_runs K sound s x from =
      let c = found K.cards s (omega (arith, within s x from, sound.size, new.machines)) in
      (c.0, sound.runs s c.0 x c.1 from)

  one_answer : (s t k : ℕ) (x y : R.State) (p q : Listed) → slice_get starts s ≡ Some x → slice_get starts t ≡ Some y
      → OneKind A B x y → slice_get (list_of G s) k ≡ Some p → slice_get (list_of H t) k ≡ Some q
      → p ≡ q
  one_answer s t k x y p q from_s from_t kind here there =
      let a = (seat_runs G now_sound s x from_s).1 in
      let b = (seat_runs H later_sound t y from_t).1 in
      same_places A B x y kind (commands_of G s) (commands_of H t) (one_order s t (within s x from_s) (within t y from_t)) k p q
      (ap (λ l. slice_get l k) (sym a.told_so) ∙ here) (ap (λ l. slice_get l k) (sym b.told_so) ∙ there)

  pub promise : Promise A B starts G H
  promise =
      record {
        one_value = λ s t log i v w d e a b.
            agree.one_value s t log i v w d e (log_low G s log i v d a) (from_one G s log i v d a) (holds G s log i v d a) (holds H t log i w e b);
        one_waits = λ s t i j b c d e x y.
            agree.one_waits s t i j b c d e (from_one G s 0 i (value.Command b) d x) (from_one H t 1 j (value.Command c) e y)
            (holds G s 0 i (value.Command b) d x) (holds H t 1 j (value.Command c) e y);
        other_waits = λ s t i j b c d e x y.
            agree.other_waits s t i j b c d e (from_one H s 0 i (value.Command b) d x) (from_one G t 1 j (value.Command c) e y)
            (holds H s 0 i (value.Command b) d x) (holds G t 1 j (value.Command c) e y);
        one_order = one_order;
        committed_proposed = λ s log i c d a.
            agree.proposed s log i c d (log_low G s log i (value.Command c) d a) (from_one G s log i (value.Command c) d a) (holds G s log i (value.Command c) d a);
        listed_proposed = listed_proposed;
        never_twice = never_twice;
        means_list = λ s m x here from. (now_sound.runs s m x here from).state;
        one_answer = one_answer;
      }

pub always : {A B : Type 0} (a : Ghosts A) (b : Ghosts B) → Always a b
always a b n starts G new before more = promise a.rule b.rule n starts G new before more

-- of one very list of calls
pub kept : {A B : Type 0} (a : Ghosts A) (b : Ghosts B) (G H : Group (makes a b)) (calls : List Call) → H ≡ after (makes a b) G calls → Kept a b G H calls
kept a b G H calls e n starts new = (
  e,
  subst (Promise a.rule b.rule starts G) (sym e) (always a b n starts G new [] calls),
  subst (λ K. Promise a.rule b.rule starts K K) (sym e) (always a b n starts G new calls []),
)
