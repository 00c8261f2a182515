-- Document 01, "Small cases": the lines that the program prints, from the bytes of the files `module` and `form`, as ASCII.
-- Assumes nothing.
use Rattle.std.specs.Prelude.{cond, List, [], ◌∷◌, ◌++◌, ℕ, zero, suc, ◌+◌, ◌/◌, ◌%◌, ltb, replicate}
use Rattle.words.specs.Bytes.{Bytes}
use Rattle.rules.specs.Limits.{output_bytes, state_bytes}
use Rattle.rules.specs.Verdict.{verdict_of}
use Rattle.rules.specs.Host.{ended, stopped, running, Went, refused, went, no_answer, Opened, not_opened, opened, on_verdict, go_of, open_of}
use Rattle.rules.specs.Refusals.{Verdict, Accepted, Refused}

-- ---- a line

abbrev pub digit : ℕ → ℕ
digit d = 48 + d

abbrev pub space : ℕ
space = 32

abbrev pub line_end : ℕ
line_end = 10

-- the decimal digits of n, the highest first, at most `most` of them
unfoldable pub digits_with : (most : ℕ) → ℕ → Bytes
digits_with zero n = []
digits_with (suc k) n = let rest = digits_with k (n / 10) in cond (ltb n 10) (digit n ∷ []) (rest ++ digit (n % 10) ∷ [])

-- all of them: a number has no more digits than one more than itself
unfoldable pub decimal : ℕ → Bytes
decimal n = digits_with (suc n) n

-- a text, each number after a space, and the line's end
unfoldable pub line_of : Bytes → List ℕ → Bytes
line_of text [] = text ++ line_end ∷ []
line_of text (n ∷ ns) = line_of (text ++ space ∷ decimal n) ns

-- `accepted`, `refused`, `ended`, `stopped`, `running`
abbrev pub accepted_word : Bytes
accepted_word = 97 ∷ 99 ∷ 99 ∷ 101 ∷ 112 ∷ 116 ∷ 101 ∷ 100 ∷ []

abbrev pub refused_word : Bytes
refused_word = 114 ∷ 101 ∷ 102 ∷ 117 ∷ 115 ∷ 101 ∷ 100 ∷ []

abbrev pub ended_word : Bytes
ended_word = 101 ∷ 110 ∷ 100 ∷ 101 ∷ 100 ∷ []

abbrev pub stopped_word : Bytes
stopped_word = 115 ∷ 116 ∷ 111 ∷ 112 ∷ 112 ∷ 101 ∷ 100 ∷ []

abbrev pub running_word : Bytes
running_word = 114 ∷ 117 ∷ 110 ∷ 110 ∷ 105 ∷ 110 ∷ 103 ∷ []

-- ---- the lines of the answers

-- "instead of either line a refusal prints `refused`, number, place"
abbrev pub refused_line : (number place : ℕ) → Bytes
refused_line n p = line_of refused_word (n ∷ p ∷ [])

-- "prints terms, names, functions, instructions"
abbrev pub verdict_line : Verdict → Bytes
verdict_line (Accepted t n f i) = line_of accepted_word (t ∷ n ∷ f ∷ i ∷ [])
verdict_line (Refused n p) = refused_line n p

-- "then value (unsigned) and steps"; "the second line may be `stopped`, number, steps or `running`, steps". The last has no line: no
-- call answers so.
abbrev pub went_line : Went → Bytes
went_line (refused n p) = refused_line n p
went_line (went (ended x) n s o) = line_of ended_word (x ∷ n ∷ [])
went_line (went (stopped i) n s o) = line_of stopped_word (i ∷ n ∷ [])
went_line (went running n s o) = line_of running_word (n ∷ [])
went_line no_answer = []

-- ---- the program

-- "goes 1,000,000 steps", with an output of zeros
abbrev pub program_budget : ℕ
program_budget = 1000000

unfoldable pub second_line : (file form : Bytes) → Opened → Bytes
second_line f form (not_opened n p) = refused_line n p
second_line f form (opened s) = went_line (go_of f form s (replicate output_bytes 0) program_budget)

-- THE LINES: "opens without arguments"; after `refused` on the first line nothing follows
unfoldable pub printed : (file form : Bytes) → Bytes
printed f form =
    verdict_line (verdict_of f) ++ on_verdict (λ n p. []) (verdict_of f) (second_line f form (open_of f [] (replicate state_bytes 0)))
