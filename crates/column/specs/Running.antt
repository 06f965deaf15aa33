-- Which entry a card runs next, and that what it runs is a walk.
use Rattle.std.specs.Prelude.{◌≡◌, ℕ, suc, Bool, true, false, cond, ◌&&◌, List, [], ◌∷◌, ◌++◌, nat_le}
use Rattle.std.proofs.Math.Option.{Option, some, none}
use Rattle.agreement.specs.Logs.{Log, Log.pilot, Log.copilot, Value.noop, Value.command, Content, Content.content}
use Rattle.agreement.specs.Walks.{Step, Step.step, Walk}
use Rattle.column.specs.Cells.{Stage, Stage.empty, Stage.answered, Stage.accepted, Stage.committed, Cell}
use Rattle.column.specs.Moves.{Group}
use Rattle.column.specs.Safe.{Kept}

-- Whether the entry is committed.
abbrev pub is_committed_stage : Stage → Bool
is_committed_stage empty = false
is_committed_stage answered = false
is_committed_stage accepted = false
is_committed_stage committed = true

-- A no-op, or a command that depends on no more than k.
abbrev pub ready : Content → ℕ → Bool
ready (content noop d) k = true
ready (content (command c) d) k = nat_le d k

-- The log whose next entry is passed, if any, with a entries of the pilot's log and b of the copilot's behind, and x and y next: one
-- that is ready, the pilot's before the copilot's, and the pilot's where both are committed and each waits for the other.
abbrev pub next : ℕ → ℕ → Cell → Cell → Option Log
next a b x y =
    cond (is_committed_stage x.stage && ready x.value b) (some pilot)
    (cond (is_committed_stage y.stage && ready y.value a) (some copilot)
    (cond (is_committed_stage x.stage && is_committed_stage y.stage) (some pilot) none))

-- What is run as the entry is passed: its command, if it has one.
abbrev pub listed : Log → ℕ → Content → List Step
listed g i (content noop d) = []
listed g i (content (command c) d) = step g i c ∷ []

-- The walk of a seat goes on by what the rule says is next.
pub record GoesOn : Type 0 where
  pub on_pilot : (G : Group) (s a b : ℕ) (l : List Step) → Walk (Kept G s) a b l →
      next a b (G.cells pilot (suc a) s) (G.cells copilot (suc b) s) ≡ some pilot →
      Walk (Kept G s) (suc a) b (l ++ listed pilot (suc a) (G.cells pilot (suc a) s).value)
  pub on_copilot : (G : Group) (s a b : ℕ) (l : List Step) → Walk (Kept G s) a b l →
      next a b (G.cells pilot (suc a) s) (G.cells copilot (suc b) s) ≡ some copilot →
      Walk (Kept G s) a (suc b) (l ++ listed copilot (suc b) (G.cells copilot (suc b) s).value)
