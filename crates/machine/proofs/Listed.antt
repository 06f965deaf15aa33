-- What a list of assigned bays holds, and what it holds after a write.
use Rattle.std.proofs.Common.{◌≡◌, ℕ, ◌+◌, ◌<◌, ◌≤◌, true, cond, eqb, not, ◌==◌, count_by, filter, find, List, [], ◌∷◌, ◌++◌, map, length, get_or, set, replicate, sym, refl, ap, ◌∙◌, ⊎_elim, arith}
use Rattle.std.specs.List.{range_with_len}
use Rattle.std.specs.Option.{option_map_or}
use Rattle.std.proofs.lemmas.Bool.Decides.{nat_tests}
use Rattle.std.proofs.lemmas.Bool.{cases_eq, cases_lt}
use Rattle.std.proofs.lemmas.List.FromFn.{length-map-range_with_len, get_or-map-range_with_len}
use Rattle.std.proofs.lemmas.List.{ext_get_or, get_or_past, length-set, get_or-set_same, get_or-set_other}
use Rattle.std.proofs.lemmas.List.Sums.{sum_by-set}
use Rattle.machine.specs.declared.list.Assigned.{Assigned}
use Rattle.machine.specs.Listing.{holding, listed, tabled}

push_other : (ps : List Assigned) (p : Assigned) (k : ℕ) → (p.bay ≡ k → ⊥) → holding (ps ++ (p ∷ [])) k ≡ holding ps k
push_other [] p k ne = grind (arith, nat_tests)
push_other (q ∷ ps) p k ne = ap (cond (eqb q.bay k) q.array) (push_other ps p k ne)

push_same : (ps : List Assigned) (p : Assigned) → listed ps ≡ true → holding ps p.bay ≡ 0 → holding (ps ++ (p ∷ [])) p.bay ≡ p.array
push_same [] p ok free = grind (arith, nat_tests)
push_same (q ∷ ps) p ok free =
    let apart : q.bay ≡ p.bay → ⊥ = grind (arith, nat_tests) in
    let rest : listed ps ≡ true = grind (arith, nat_tests) in
    let below : holding ps p.bay ≡ 0 = grind (arith, nat_tests) in
    let more = push_same ps p rest below in
    grind (arith, nat_tests)

push_listed : (ps : List Assigned) (p : Assigned) → listed ps ≡ true → p.bay < 64 → 0 < p.array → holding ps p.bay ≡ 0 → listed (ps ++ (p ∷ [])) ≡ true
push_listed [] p ok low some free = grind (arith, nat_tests)
push_listed (q ∷ ps) p ok low some free =
    let apart : p.bay ≡ q.bay → ⊥ = grind (arith, nat_tests) in
    let rest : listed ps ≡ true = grind (arith, nat_tests) in
    let below : holding ps p.bay ≡ 0 = grind (arith, nat_tests) in
    let more = push_listed ps p rest low some below in
    let same = push_other ps p q.bay apart in
    grind (arith, nat_tests)

-- the pairs of the other bays
abbrev pub others : ℕ → List Assigned → List Assigned
others b ps = filter (λ p. not (p.bay == b)) ps

others_same : (ps : List Assigned) (b : ℕ) → holding (others b ps) b ≡ 0
others_same [] b = refl
others_same (p ∷ ps) b =
    let more = others_same ps b in
    grind (arith, nat_tests)

others_other : (ps : List Assigned) (b k : ℕ) → (b ≡ k → ⊥) → holding (others b ps) k ≡ holding ps k
others_other [] b k ne = refl
others_other (p ∷ ps) b k ne =
    let more = others_other ps b k ne in
    grind (arith, nat_tests)

others_listed : (ps : List Assigned) (b : ℕ) → listed ps ≡ true → listed (others b ps) ≡ true
others_listed [] b ok = refl
others_listed (p ∷ ps) b ok =
    let rest : listed ps ≡ true = grind (arith, nat_tests) in
    let more = others_listed ps b rest in
    let same : (b ≡ p.bay → ⊥) → holding (others b ps) p.bay ≡ holding ps p.bay = others_other ps b p.bay in
    grind (arith, nat_tests)

-- a list made from a function of the index, where the function changes at one place
counted_set : (f g : ℕ → ℕ) (n b v : ℕ) → b < n → g b ≡ v → ((k : ℕ) → (b ≡ k → ⊥) → g k ≡ f k) → map g (range_with_len 0 n) ≡ set (map f (range_with_len 0 n)) b v
counted_set f g n b v within here other =
    let long : length (map g (range_with_len 0 n)) ≡ n = length-map-range_with_len g 0 n in
    let wide : length (map f (range_with_len 0 n)) ≡ n = length-map-range_with_len f 0 n in
    ext_get_or 0 (map g (range_with_len 0 n)) (set (map f (range_with_len 0 n)) b v)
    (long ∙ sym (length-set (map f (range_with_len 0 n)) b v ∙ wide))
    (λ i h.
    let low : i < n = omega arith in
    let in_f : b < length (map f (range_with_len 0 n)) = omega arith in
    let read : get_or (map g (range_with_len 0 n)) i 0 ≡ g i = get_or-map-range_with_len g 0 n i i 0 low (omega arith) in
    ⊎_elim
    (λ e. rw e (let low_b : b < n = within in (get_or-map-range_with_len g 0 n b b 0 low_b (omega arith) ∙ here) ∙ sym (get_or-set_same (map f (range_with_len 0 n)) b v 0 in_f)))
    (λ ne. read ∙ other i (λ e. ne (sym e)) ∙ sym (get_or-set_other (map f (range_with_len 0 n)) b i v 0 ne ∙ get_or-map-range_with_len f 0 n i i 0 low (omega arith)))
    (cases_eq i b))

tabled_set : (ps qs : List Assigned) (b v : ℕ) → b < 64 → holding qs b ≡ v → ((k : ℕ) → (b ≡ k → ⊥) → holding qs k ≡ holding ps k) → tabled qs ≡ set (tabled ps) b v
unfolding tabled
tabled_set ps qs b v = counted_set (holding ps) (holding qs) 64 b v

tabled_at : (ps : List Assigned) (b : ℕ) → b < 64 → get_or (tabled ps) b 0 ≡ holding ps b
unfolding tabled
tabled_at ps b low = get_or-map-range_with_len (holding ps) 0 64 b b 0 low (omega arith)

tabled_length : (ps : List Assigned) → length (tabled ps) ≡ 64
unfolding tabled
tabled_length ps = length-map-range_with_len (holding ps) 0 64

-- how many numbers of a list are 0
abbrev zeros : List ℕ → ℕ
zeros t = count_by (λ n. n == 0) t

zeros_set : (t : List ℕ) (i a : ℕ) → i < length t → get_or t i 0 ≡ 0 → 0 < a → zeros (set t i a) + 1 ≡ zeros t
zeros_set t i a within free some =
    let moved = sum_by-set (λ n. cond (n == 0) 1 0) t i a 0 within in
    grind (arith, nat_tests)

-- each pair takes one bay
zeros_first : zeros (tabled []) ≡ 64
unfolding tabled
zeros_first = refl

zeros_left : (ps : List Assigned) → listed ps ≡ true → zeros (tabled ps) + length ps ≡ 64
zeros_left [] ok = ap (λ n. n + 0) zeros_first
zeros_left (p ∷ ps) ok =
    let rest : listed ps ≡ true = grind (arith, nat_tests) in
    let low : p.bay < 64 = grind (arith, nat_tests) in
    let some : 0 < p.array = grind (arith, nat_tests) in
    let free : holding ps p.bay ≡ 0 = grind (arith, nat_tests) in
    let here : holding (p ∷ ps) p.bay ≡ p.array = grind (arith, nat_tests) in
    let less : p.bay < length (tabled ps) = omega (arith, tabled_length ps) in
    let fewer = zeros_set (tabled ps) p.bay p.array less (tabled_at ps p.bay low ∙ free) some in
    let same = ap zeros (tabled_set ps (p ∷ ps) p.bay p.array low here (λ k ne. grind (arith, nat_tests))) in
    let more = zeros_left ps rest in
    omega arith

-- so there is room for one more where a bay is free
room : (ps : List Assigned) (b : ℕ) → listed ps ≡ true → b < 64 → holding ps b ≡ 0 → length ps < 64
room ps b ok low free =
    let all = zeros_left ps ok in
    let within : b < length (tabled ps) = omega (arith, tabled_length ps) in
    let one = zeros_set (tabled ps) b 1 within (tabled_at ps b low ∙ free) (omega arith) in
    omega arith

-- no pair is of a bay that there is not
holding_past : (ps : List Assigned) (b : ℕ) → listed ps ≡ true → 64 ≤ b → holding ps b ≡ 0
holding_past [] b ok past = refl
holding_past (p ∷ ps) b ok past =
    let rest : listed ps ≡ true = grind (arith, nat_tests) in
    let more = holding_past ps b rest past in
    grind (arith, nat_tests)

holding_find : (ps : List Assigned) (b : ℕ) → option_map_or (λ p. p.array) (find (λ p. p.bay == b) ps) 0 ≡ holding ps b
holding_find [] b = refl
holding_find (p ∷ ps) b =
    let more = holding_find ps b in
    grind (arith, nat_tests)

-- what is found at a bay
pub found : (ps : List Assigned) (b : ℕ) → listed ps ≡ true → option_map_or (λ p. p.array) (find (λ p. p.bay == b) ps) 0 ≡ get_or (tabled ps) b 0
found ps b ok =
    ⊎_elim
    (λ (low : b < 64). holding_find ps b ∙ sym (tabled_at ps b low))
    (λ (past : 64 ≤ b). holding_find ps b ∙ holding_past ps b ok past ∙ sym (get_or_past (tabled ps) b 0 (omega (arith, tabled_length ps))))
    (cases_lt b 64)

-- what is left where a bay is emptied
pub record Emptied (ps : List Assigned) (b : ℕ) : Type 0 where
  pub ok : listed (others b ps) ≡ true
  pub after : tabled (others b ps) ≡ set (tabled ps) b 0

pub emptied : (ps : List Assigned) (b : ℕ) → listed ps ≡ true → b < 64 → Emptied ps b
emptied ps b ok low = record {
  ok = others_listed ps b ok;
  after = tabled_set ps (others b ps) b 0 low (others_same ps b) (others_other ps b);
}

-- a free bay that is filled, for which there was room
pub record Filled (ps : List Assigned) (b v : ℕ) : Type 0 where
  pub ok : listed (ps ++ (record { bay = b; array = v } ∷ [])) ≡ true
  pub after : tabled (ps ++ (record { bay = b; array = v } ∷ [])) ≡ set (tabled ps) b v
  pub room : length ps < 64

pub filled : (ps : List Assigned) (b v : ℕ) → listed ps ≡ true → b < 64 → (v ≡ 0 → ⊥) → get_or (tabled ps) b 0 ≡ 0 → Filled ps b v
filled ps b v ok low some free =
    let p : Assigned = record { bay = b; array = v } in
    let none : holding ps b ≡ 0 = sym (tabled_at ps b low) ∙ free in
    record {
      ok = push_listed ps p ok low (omega arith) none;
      after = tabled_set ps (ps ++ (p ∷ [])) b v low (push_same ps p ok none) (λ k ne. push_other ps p k ne);
      room = room ps b ok low none;
    }

pub tabled_first : tabled [] ≡ replicate 64 0
unfolding tabled
tabled_first = refl
