-- What is at hand where a seat acts on an entry, and what has to be shown of its act.
use Rattle.std.proofs.Common.{◌≡◌, ℕ, ◌<◌, List, [], ◌∷◌, refl, inl, inr}
use mathlib.Core.Option.{Option, some, none}
use Rattle.agreement.specs.Lists.{In}
use Rattle.agreement.specs.Logs.{Log, Content, other}
use Rattle.agreement.specs.Histories.{Event, Event.offer, Note, Note.note, Allowed}
use Rattle.column.specs.Cells.{Cell, Takeover, Body, Message, Message.message}
use Rattle.column.specs.Moves.{add}
use Rattle.column.proofs.Invariant.{Fits, Leads, Said}
use Rattle.column.proofs.Frame.{sub_add, leads_more, AllAbout}

module _ (n f : ℕ) (owner : Log → ℕ) (holder : ℕ → ℕ) where
  -- What is at hand: the invariant of the entry, of the other log's entries, of the takeover and of what was sent about the entry.
  pub record Here (h : List Note) (g : Log) (i s : ℕ) (sent : List Message) (far : ℕ → Cell) (e : Cell) (t : Option Takeover) : Type 0 where
    pub run : Allowed n f owner h
    pub fit : Fits n f owner holder g i s e h
    pub fars : (k : ℕ) → Fits n f owner holder (other g) k s (far k) h
    pub leads : (u : Takeover) → t ≡ some u → Leads n f owner holder s u h
    pub said : (c : ℕ) (b : Body) → In (message c g i b) sent → Said n f owner holder h c g i b

  -- The takeover, if there is one, is sound.
  abbrev pub Leading : ℕ → Option Takeover → List Note → Type 0
  Leading s none h = Unit {0}
  Leading s (some u) h = Leads n f owner holder s u h

  -- The message, if there is one, is true.
  abbrev pub Says : List Note → ℕ → Log → ℕ → Option Body → Type 0
  Says h s g i none = Unit {0}
  Says h s g i (some b) = Said n f owner holder h s g i b

  -- The act keeps the invariant.
  pub record Keeps (h : List Note) (g : Log) (i s : ℕ) (x : Cell) (t : Option Takeover) (out : Option Body) (es : List Event) : Type 0 where
    pub run : Allowed n f owner (add g i es h)
    pub about : AllAbout n f owner holder g s es
    pub fits : Fits n f owner holder g i s x (add g i es h)
    pub leads : Leading s t (add g i es h)
    pub says : Says (add g i es h) s g i out

  -- No ballot past the first is offered.
  abbrev pub Plain : List Event → Type 0
  Plain [] = Unit {0}
  Plain (e ∷ es) = ((b : ℕ) (v : Content) → 0 < b → e ≡ offer b v → ⊥) × Plain es

  -- Then each offer past the first ballot was there before.
  unoffered : (g : Log) (i : ℕ) (es : List Event) (h : List Note) → Plain es → (g' : Log) (i' b : ℕ) (v : Content) → 0 < b →
      In (note g' i' (offer b v)) (add g i es h) → In (note g' i' (offer b v)) h
  unoffered g i [] h p g' i' b v l j = j
  unoffered g i (e ∷ es) h p g' i' b v l (inl q) = let no = p.0 b v l in absurd (no (cc))
  unoffered g i (e ∷ es) h p g' i' b v l (inr j) = unoffered g i es h p.1 g' i' b v l j

  -- A takeover that the act leaves alone stays sound.
  pub leads_on : (h : List Note) (g : Log) (i s : ℕ) (es : List Event) → Plain es → (t : Option Takeover) →
      ((u : Takeover) → t ≡ some u → Leads n f owner holder s u h) → Leading s t (add g i es h)
  leads_on h g i s es plain none m = tt
  leads_on h g i s es plain (some u) m =
      let l = m u refl in
      leads_more n f owner holder h (add g i es h) (sub_add g i es h) s u
      (λ v j. unoffered g i es h plain u.log u.place u.ballot v l.past_first j) l

  -- An act that adds no note and leaves the takeover alone keeps all, where its cell is sound and what it says is true.
  pub quiet : {h : List Note} {g : Log} {i s : ℕ} {sent : List Message} {far : ℕ → Cell} {e : Cell} {t : Option Takeover} →
      Here h g i s sent far e t → (x : Cell) → Fits n f owner holder g i s x h → (out : Option Body) → Says h s g i out → Keeps h g i s x t out []
  quiet {h} {g} {i} {s} {t = t} at x fits out says = record {
    run = at.run;
    about = tt;
    fits = fits;
    leads = leads_on h g i s [] tt t at.leads;
    says = says;
  }
