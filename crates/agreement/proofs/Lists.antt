-- What stands in joined lists, where two lists that agree part, and what keeping the first of each identity keeps.
use Rattle.std.proofs.Common.{◌≡◌, Bool, true, false, cond, ◌⊎◌, List, [], ◌∷◌, ◌++◌, sym, refl, inl, inr, append_assoc, append-nil, arith}
use Rattle.agreement.specs.Lists.{In, Front, Agree, seen, firsts_past, firsts, Distinct}

module _ {A : Type 0} where
  -- What stands in a part stands in the whole.
  pub in_left : (x : A) (l r : List A) → In x l → In x (l ++ r)
  in_left x [] r i = absurd i
  in_left x (y ∷ l) r (inl e) = inl e
  in_left x (y ∷ l) r (inr i) = inr (in_left x l r i)

  pub in_right : (x : A) (l r : List A) → In x r → In x (l ++ r)
  in_right x [] r i = i
  in_right x (y ∷ l) r i = inr (in_right x l r i)

  -- And what stands in the whole stands in a part.
  pub in_parts : (x : A) (l r : List A) → In x (l ++ r) → In x l ⊎ In x r
  in_parts x [] r i = inr i
  in_parts x (y ∷ l) r (inl e) = inl (inl e)
  in_parts x (y ∷ l) r (inr i) = elim (in_parts x l r i) [ inl j ↦ inl (inr j) | inr j ↦ inr j ]

  -- The last element stands in the list, and what stands there is it or stood there before.
  pub in_last : (x : A) (l : List A) → In x (l ++ (x ∷ []))
  in_last x l = in_right x l (x ∷ []) (inl refl)

  pub in_cases : (x y : A) (l : List A) → In x (l ++ (y ∷ [])) → In x l ⊎ (x ≡ y)
  in_cases x y l i = elim (in_parts x l (y ∷ []) i) [ inl j ↦ inl j | inr j ↦ elim j [ inl e ↦ inr e | inr none ↦ absurd none ] ]

  -- One more at the end, and a cut before y: y is the one more, or stands before it.
  pub last_cut : (l m : List A) (x y : A) (t : List A) → l ++ (x ∷ []) ≡ m ++ (y ∷ t) →
      ((l ≡ m) × (x ≡ y)) ⊎ ((t' : List A) × (l ≡ m ++ (y ∷ t')))
  last_cut [] [] x y t e = inl (refl, cc)
  last_cut [] (z ∷ []) x y t e = absurd (grind arith)
  last_cut [] (z ∷ z' ∷ m) x y t e = absurd (grind arith)
  last_cut (z ∷ l) [] x y t e = inr (l, cc)
  last_cut (z ∷ l) (z' ∷ m) x y t e =
      elim (last_cut l m x y t (cc)) [ inl h ↦ inl (cc, h.1) | inr h ↦ inr (h.0, cc) ]

  -- An empty list has no cut.
  pub nil_cut : (m : List A) (y : A) (t : List A) → [] ≡ m ++ (y ∷ t) → ⊥
  nil_cut [] y t e = grind arith
  nil_cut (z ∷ m) y t e = grind arith

  -- One more at the end of l keeps it in agreement with l', if it is what l' has there.
  pub agree_more : (l l' : List A) (x : A) → ((y : A) (t : List A) → l' ≡ l ++ (y ∷ t) → x ≡ y) →
      Agree l l' → Agree (l ++ (x ∷ [])) l'
  agree_more l l' x same (inl h) = go h.0 h.1
    where
      go : (r : List A) → l ++ r ≡ l' → Agree (l ++ (x ∷ [])) l'
      go [] e = inr (x ∷ [], cc (append-nil l))
      go (y ∷ t) e =
          let x≡y = same y t (sym e) in
          inl (t, cc (append_assoc l (x ∷ []) t))
  agree_more l l' x same (inr h) = inr (h.0 ++ (x ∷ []), cc (append_assoc l' h.0 (x ∷ [])))

module _ {A I : Type 0} (same : I → I → Bool) (id : A → I) where
  -- A longer list keeps what the shorter keeps, and more at the end.
  firsts_append : (old : List I) (l r : List A) → Front (firsts_past same id old l) (firsts_past same id old (l ++ r))
  firsts_append old [] r = (firsts_past same id old r, refl)
  firsts_append old (x ∷ l) r =
      let new = firsts_append (old ++ (id x ∷ [])) l r in
      let Goal : Bool → Type 0 = λ b. Front
      (cond b (firsts_past same id old l) (x ∷ firsts_past same id (old ++ (id x ∷ [])) l))
      (cond b (firsts_past same id old (l ++ r)) (x ∷ firsts_past same id (old ++ (id x ∷ [])) (l ++ r))) in
      elim (seen same id old (id x)) as Goal [ true ↦ firsts_append old l r | false ↦ (new.0, cc) ]

  firsts_front : (l m : List A) → Front l m → Front (firsts same id l) (firsts same id m)
  firsts_front l m h = rw (← h.1) (firsts_append [] l h.0)

  -- So lists that agree still do.
  pub firsts_agree : (l m : List A) → Agree l m → Agree (firsts same id l) (firsts same id m)
  firsts_agree l m (inl h) = inl (firsts_front l m h)
  firsts_agree l m (inr h) = inr (firsts_front m l h)

  -- An identity that is not among one more is not among the others, and is not that one.
  seen_more : (old : List I) (k i : I) → seen same id (old ++ (k ∷ [])) i ≡ false → (seen same id old i ≡ false) × (same k i ≡ false)
  seen_more [] k i e = grind arith
  seen_more (j ∷ old) k i e = let ih = seen_more old k i in grind arith

  -- What is kept past the given identities has none of them.
  kept_unseen : (old : List I) (l : List A) (y : A) → In y (firsts_past same id old l) → seen same id old (id y) ≡ false
  kept_unseen old [] y j = absurd j
  kept_unseen old (x ∷ l) y j =
      let more = kept_unseen (old ++ (id x ∷ [])) l y in
      go (seen same id old (id x)) refl (kept_unseen old l y) (λ j'. (seen_more old (id x) (id y) (more j')).0) j
    where
      go : (b : Bool) → seen same id old (id x) ≡ b → (In y (firsts_past same id old l) → seen same id old (id y) ≡ false) →
          (In y (firsts_past same id (old ++ (id x ∷ [])) l) → seen same id old (id y) ≡ false) →
          In y (cond b (firsts_past same id old l) (x ∷ firsts_past same id (old ++ (id x ∷ [])) l)) → seen same id old (id y) ≡ false
      go true e skip keep j' = skip j'
      go false e skip keep (inl p) = rw p e
      go false e skip keep (inr j') = keep j'

  -- And has no identity twice.
  pub firsts_distinct : (old : List I) (l : List A) → Distinct same id (firsts_past same id old l)
  firsts_distinct old [] = tt
  firsts_distinct old (x ∷ l) =
      elim (seen same id old (id x)) as (λ b. Distinct same id (cond b (firsts_past same id old l) (x ∷ firsts_past same id (old ++ (id x ∷ [])) l))) [
        | true ↦ firsts_distinct old l
        | false ↦ (
          λ y j e. let z = seen_more old (id x) (id y) (kept_unseen (old ++ (id x ∷ [])) l y j) in grind arith,
          firsts_distinct (old ++ (id x ∷ [])) l,
        )
      ]
