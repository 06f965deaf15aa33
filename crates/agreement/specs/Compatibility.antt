-- Two entries, one of each log: of two dependencies that majorities support, one reaches the other's entry.
use Rattle.std.specs.Prelude.{◌≡◌, ℕ, ◌+◌, ◌*◌, ◌<◌, ◌≤◌, true, ◌⊎◌}
use Rattle.std.proofs.Math.Option.{Option, some}
use Rattle.agreement.specs.Quorums.{Seats, count}

-- What the seats answered about the entries of one log: the seat, the entry and the dependency that it answered with.
abbrev pub Answers : Type 1
Answers = ℕ → ℕ → ℕ → Type 0

-- More than f seats answered entry i with a dependency of at most d.
pub record Supported (n f : ℕ) (A : Answers) (i d : ℕ) : Type 0 where
  pub seats : Seats
  pub enough : f < count seats n
  pub answers : (c : ℕ) → c < n → seats c ≡ true → (x : ℕ) × A c i x × (x ≤ d)

-- Of two entries that one seat answered, one of each log, one answer reaches the other entry.
abbrev pub Meets : ℕ → Answers → Answers → Type 0
Meets n A B = (c i k x y : ℕ) → c < n → A c i x → B c k y → (i ≤ y) ⊎ (k ≤ x)

-- Where each seat's answers meet, of two supported dependencies one reaches the other's entry.
abbrev pub OneWaitsLaw : Type 1
OneWaitsLaw = (n f : ℕ) (A B : Answers) → n ≡ 2 * f + 1 → Meets n A B → (i d k e : ℕ) →
    Supported n f A i d → Supported n f B k e → (i ≤ e) ⊎ (k ≤ d)

-- Answers that are written out: each seat's answer about each entry, if it gave one.
abbrev pub given : (ℕ → ℕ → Option ℕ) → Answers
given a c i x = a c i ≡ some x

-- The law, of answers that are written out.
abbrev pub OneWaits : Type 0
OneWaits = (n f : ℕ) (a b : ℕ → ℕ → Option ℕ) → n ≡ 2 * f + 1 → Meets n (given a) (given b) → (i d k e : ℕ) →
    Supported n f (given a) i d → Supported n f (given b) k e → (i ≤ e) ⊎ (k ≤ d)
