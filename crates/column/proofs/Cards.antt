-- Calls on a list of cards are moves of the group.
use Rattle.std.proofs.Common.{◌≡◌, ℕ, length, get_or, replicate, refl, ap, ◌∙◌, inl, inr, arith, length-set}
use mathlib.Core.Option.{Option}
use lib.ListN.{length-replicate, get_or-replicate}
use Rattle.std.proofs.lemmas.List.{get_or-set_same, get_or-set_other, get_or_past}
use Rattle.std.proofs.lemmas.Bool.{cases_eq, cases_lt}
use Rattle.agreement.specs.Logs.{Log}
use Rattle.column.specs.Cells.{Cell, Takeover}
use Rattle.column.specs.Moves.{Move, Later, Later.now, Later.then}
use Rattle.column.specs.Cards.{Board, view, new_board, Call, Calls, Calls.no_call, Calls.one_more, CallsMoveLaw, Plain, plain, CardsSafe}
use Rattle.column.proofs.Safe.{group_safe}

-- A list of one item repeated, read anywhere, also past its end.
pub same_everywhere : {X : Type 0} (n i : ℕ) (x : X) → get_or (replicate n x) i x ≡ x
same_everywhere n i x = elim (cases_lt i n) [ inl l ↦ get_or-replicate n i x x l | inr l ↦ get_or_past (replicate n x) i x (rw (length-replicate n x) l) ]

module _ {Card : Type 0} (made : Card) (cell_of : Card → Log → ℕ → Cell) (takeover_of : Card → Option Takeover) (n f : ℕ)
    (owner : Log → ℕ) (holder : ℕ → ℕ) where
  -- A call is a move.
  pub call_moves : {B C : Board Card} → length B.cards ≡ n → Call made cell_of takeover_of n f owner holder B C →
      Move n f owner holder (view made cell_of takeover_of B) (view made cell_of takeover_of C)
  call_moves {B} {C} size c =
      let same : get_or C.cards c.seat made ≡ c.card =
      rw c.becomes (get_or-set_same B.cards c.seat c.card made (let l = c.seated in omega arith)) in
      let apart : (s : ℕ) → (s ≡ c.seat → ⊥) → get_or C.cards s made ≡ get_or B.cards s made =
      λ s p. rw c.becomes (get_or-set_other B.cards c.seat s c.card made p) in
      record {
        log = c.log;
        place = c.place;
        seat = c.seat;
        seated = c.seated;
        cell = cell_of c.card c.log c.place;
        takeover = takeover_of c.card;
        out = c.out;
        events = c.events;
        turn = c.turn;
        here = rw same;
        apart = λ g i s q. elim (cases_eq s c.seat) [
          | inl p ↦ rw (p, same) (c.rest g i (λ z. q (z.0, z.1, p)))
          | inr p ↦ rw (apart s p)
        ];
        mine = rw same;
        others = λ s p. rw (apart s p);
        posted = c.posted;
        asks = c.asks;
        asked = c.asked;
        grown = c.grown;
      }

  -- A board keeps its number of cards.
  pub calls_keep_size : {B C : Board Card} → Calls made cell_of takeover_of n f owner holder B C → length B.cards ≡ n → length C.cards ≡ n
  calls_keep_size no_call size = size
  calls_keep_size (one_more {C = C} past c) size =
      ap length c.becomes ∙ length-set C.cards c.seat c.card ∙ calls_keep_size past size

  -- Calls are moves.
  pub calls_move : {B C : Board Card} → length B.cards ≡ n → Calls made cell_of takeover_of n f owner holder B C →
      Later n f owner holder (view made cell_of takeover_of B) (view made cell_of takeover_of C)
  calls_move size no_call = now
  calls_move size (one_more past c) = then (calls_move size past) (call_moves (calls_keep_size past size) c)

pub calls_move_law : CallsMoveLaw
calls_move_law Card made cell_of takeover_of n f owner holder new none_yet B C before after = (
  record {
    from = view made cell_of takeover_of (new_board made cell_of takeover_of n);
    fresh = record {
      cells = λ g i s. rw (same_everywhere n s made) (new g i);
      takeovers = λ s. rw (same_everywhere n s made) none_yet;
      sent = refl;
      history = refl;
    };
    moves = calls_move made cell_of takeover_of n f owner holder (length-replicate n made) before;
  },
  calls_move made cell_of takeover_of n f owner holder
      (calls_keep_size made cell_of takeover_of n f owner holder before (length-replicate n made)) after,
)

pub cards_safe : CardsSafe
cards_safe n f owner holder seats B C before after =
    let m = calls_move_law Plain plain (λ c. c.cells) (λ c. c.takeover) n f owner holder
    (λ g i. record { bare = refl; unpromised = refl; unvoted = refl; unanswered = λ c. refl; unaccepted = λ c. refl }) refl B C before after in
    group_safe n f owner holder seats (view plain (λ c. c.cells) (λ c. c.takeover) B) (view plain (λ c. c.cells) (λ c. c.takeover) C) m.0 m.1
