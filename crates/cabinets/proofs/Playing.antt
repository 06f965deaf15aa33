-- One call after another, as the code makes them.
use Rattle.std.proofs.Common.{◌≡◌, ℕ, ◌+◌, ◌<◌, List, [], ◌∷◌, ◌++◌, length, get_or, drop, Option, sym, ap, ◌∙◌, append_assoc}
use Rattle.std.proofs.lemmas.List.{at_drop_more}
use Rattle.command.specs.declared.Command.{Command}
use Rattle.block.specs.declared.message.Message.{Message}
use Rattle.machine.specs.Rules.{Rule}
use Rattle.fitted.specs.Meanings.{Meaning}
use Rattle.group.specs.declared.calls.Call.{Call}
use Rattle.group.specs.Groups.{one_of, seat_of}
use Rattle.cabinets.specs.declared.answer.Answer.{Answer}
use Rattle.cabinets.specs.declared.answer.Ran.{Ran}
use Rattle.cabinets.specs.Groups.{Group, message_in, command_in, ran_in, cards_after, answered, called, after, answers_to}

module _ (R : Rule) where
  abbrev pub built : List (Meaning R) → List Message → List Command → List Ran → Group R
  built cards sent proposed ran = record { cards = cards; sent = sent; proposed = proposed; ran = ran }

  -- the cards changed by the call, and what is kept of its answer added
  pub called_so : (cards cards' : List (Meaning R)) (sent sent' : List Message) (proposed proposed' : List Command) (ran ran' : List Ran) (c : Call)
      (r : Answer) (k : ℕ) (m : Option Message) (p : Option Command) (x : Option Ran)
      → cards' ≡ cards_after R cards sent c → r ≡ answered R cards sent c → k ≡ seat_of c
      → m ≡ message_in r → sent' ≡ sent ++ one_of m → p ≡ command_in c r → proposed' ≡ proposed ++ one_of p → x ≡ ran_in k r → ran' ≡ ran ++ one_of x
      → built cards' sent' proposed' ran' ≡ called R (built cards sent proposed ran) c
  called_so cards cards' sent sent' proposed proposed' ran ran' c r k m p x went said here m_is sends p_is proposes x_is lists =
      ap (λ l. built l sent' proposed' ran') went
      ∙ (ap (λ l. built (cards_after R cards sent c) l proposed' ran') (sends ∙ ap (λ o. sent ++ one_of o) (m_is ∙ ap message_in said))
      ∙ (ap (λ l. built (cards_after R cards sent c) (sent ++ one_of (message_in (answered R cards sent c))) l ran') (proposes ∙ ap (λ o. proposed ++ one_of o) (p_is ∙ ap (command_in c) said))
      ∙ ap (built (cards_after R cards sent c) (sent ++ one_of (message_in (answered R cards sent c))) (proposed ++ one_of (command_in c (answered R cards sent c))))
      (lists ∙ (ap (λ o. ran ++ one_of o) (x_is ∙ ap (ran_in k) said) ∙ ap (λ j. ran ++ one_of (ran_in j (answered R cards sent c))) here))))

  -- one more call of a list
  pub after_more : (G H : Group R) (cs : List Call) (i : ℕ) (d : Call) → i < length cs → H ≡ called R G (get_or cs i d)
      → after R H (drop (i + 1) cs) ≡ after R G (drop i cs)
  after_more G H cs i d within went = ap (λ K. after R K (drop (i + 1) cs)) went ∙ sym (at_drop_more (after R G) cs i d within)

  pub answers_more : (G H : Group R) (cs : List Call) (i : ℕ) (d : Call) (old new : List Answer) (a : Answer) → i < length cs
      → H ≡ called R G (get_or cs i d) → a ≡ answered R G.cards G.sent (get_or cs i d) → new ≡ old ++ (a ∷ [])
      → new ++ answers_to R H (drop (i + 1) cs) ≡ old ++ answers_to R G (drop i cs)
  answers_more G H cs i d old new a within went said pushed =
      ap (λ xs. xs ++ answers_to R H (drop (i + 1) cs)) pushed
      ∙ (append_assoc old (a ∷ []) (answers_to R H (drop (i + 1) cs))
      ∙ ap (λ xs. old ++ xs) (ap (λ b. b ∷ answers_to R H (drop (i + 1) cs)) said
      ∙ (ap (λ K. answered R G.cards G.sent (get_or cs i d) ∷ answers_to R K (drop (i + 1) cs)) went ∙ sym (at_drop_more (answers_to R G) cs i d within))))
