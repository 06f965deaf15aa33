-- How many examples came as expected.
use Rattle.std.specs.Prelude.{ℕ, ◌+◌, ◌-◌, ◌^◌, min, Bool, cond, List, ◌++◌, codes, decimal}
use Rattle.trials.specs.declared.score.Score.{Score}

-- one more; a count stays at the highest number that its 32 bits hold
abbrev pub one_more : ℕ → ℕ
one_more n = min (n + 1) (2 ^ 32 - 1)

abbrev pub counted : Score → Bool → Score
counted s as_expected =
    record { examples = one_more s.examples; expected = cond as_expected (one_more s.expected) s.expected }

-- the last line
abbrev pub score_text : Score → List ℕ
score_text s = decimal s.examples ++ (codes " examples, " ++ (decimal s.expected ++ codes " as expected"))
