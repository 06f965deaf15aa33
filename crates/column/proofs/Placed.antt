-- A turn is a move to the group that has what the turn comes to.
use Rattle.std.proofs.Common.{◌≡◌, ℕ, ◌<◌, Bool, true, false, cond, ◌&&◌, eqb, ◌⊎◌, List, ◌∷◌, ◌++◌, refl, inl, inr, arith}
use mathlib.Core.Option.{Option, some, none}
use Rattle.std.proofs.lemmas.Bool.{cases_Bool, and_parts, eqb-true, eq-eqb, ne_eqb}
use Rattle.command.specs.declared.Command.{Command}
use Rattle.agreement.specs.Lists.{In}
use Rattle.agreement.specs.Logs.{Log, Log.pilot, Log.copilot, Content.content, Value.command, other}
use Rattle.agreement.specs.Histories.{Event, Event.propose}
use Rattle.agreement.proofs.Lists.{in_left, in_right}
use Rattle.column.specs.Cells.{Cell, Takeover, Body, Message, Message.message}
use Rattle.column.specs.Moves.{Group, add, Turn, Move}

-- Whether the two logs are one.
abbrev pub is : Log → Log → Bool
is pilot pilot = true
is pilot copilot = false
is copilot pilot = false
is copilot copilot = true

-- What is sent, with one more message if there is one.
abbrev pub posting : ℕ → Log → ℕ → Option Body → List Message → List Message
posting s g i none sent = sent
posting s g i (some b) sent = message s g i b ∷ sent

-- The group in which seat s has come to the cell x of entry g.i and the takeover t, with a message sent, commands handed in and events.
abbrev pub placed : Group → Log → ℕ → ℕ → Cell → Option Takeover → Option Body → List Command → List Event → Group
placed G g i s x t out cs es = record {
  cells = λ g' i' s'. cond (is g' g && (eqb i' i && eqb s' s)) x (G.cells g' i' s');
  takeovers = λ s'. cond (eqb s' s) t (G.takeovers s');
  sent = posting s g i out G.sent;
  handed = cs ++ G.handed;
  history = add g i es G.history;
}

-- The test of logs, and what was sent before.
is_self : (g : Log) → is g g ≡ true
is_self pilot = refl
is_self copilot = refl

is_same : (g g' : Log) → is g g' ≡ true → g ≡ g'
is_same pilot pilot p = refl
is_same pilot copilot p = absurd (grind arith)
is_same copilot pilot p = absurd (grind arith)
is_same copilot copilot p = refl

posted : (s : ℕ) (g : Log) (i : ℕ) (out : Option Body) (sent : List Message) (m : Message) → In m (posting s g i out sent) →
    ((b : Body) × (out ≡ some b) × (m ≡ message s g i b)) ⊎ In m sent
posted s g i none sent m j = inr j
posted s g i (some b) sent m (inl p) = inl (b, refl, p)
posted s g i (some b) sent m (inr j) = inr j

module _ (n f : ℕ) (owner : Log → ℕ) (holder : ℕ → ℕ) where
  pub turn_moves : (G : Group) (g : Log) (i s : ℕ) (x : Cell) (t : Option Takeover) (out : Option Body) (cs : List Command) (es : List Event) → s < n →
      ((c : Command) (d : ℕ) → In (propose (content (command c) d)) es → In c cs) →
      Turn n f owner holder g i s G.sent (λ k. G.cells (other g) k s) (G.cells g i s) (G.takeovers s) x t out es →
      Move n f owner holder G (placed G g i s x t out cs es)
  turn_moves G g i s x t out cs es l asks turn = record {
    log = g;
    place = i;
    seat = s;
    seated = l;
    cell = x;
    takeover = t;
    out = out;
    events = es;
    turn = turn;
    here = rw (is_self g, eq-eqb i i refl, eq-eqb s s refl);
    apart = λ g' i' s' apart. elim (cases_Bool (is g' g && (eqb i' i && eqb s' s))) [
      | inl p ↦
          let q = and_parts (is g' g) (eqb i' i && eqb s' s) p in
          let r = and_parts (eqb i' i) (eqb s' s) q.1 in
          absurd (apart (is_same g' g q.0, eqb-true i' i r.0, eqb-true s' s r.1))
      | inr p ↦ rw p
    ];
    mine = rw (eq-eqb s s refl);
    others = λ s' p. rw (ne_eqb s' s p);
    posted = posted s g i out G.sent;
    asks = λ c d j. in_left c cs G.handed (asks c d j);
    asked = λ c j. in_right c cs G.handed j;
    grown = refl;
  }
