-- A table of files with their verdicts, tested by one computation and true of `verdict_of`. Assumes nothing.
use Rattle.std.specs.Prelude.{◌≡◌, List, [], ◌∷◌, ℕ, eqb}
use Rattle.std.proofs.Common.{◌∙◌, eqb-true}
use mathlib.Core.Bool.{Bool, true, false, ◌&&◌}
use Rattle.words.specs.Choose.{both}
use Rattle.rules.specs.Verdict.{verdict_of}
use Rattle.rules.specs.Quick.{quick_of, quick}
use Rattle.rules.specs.Refusals.{Verdict, Accepted, Refused}

pub record Case : Type 0 where
  pub file : List ℕ
  pub verdict : Verdict

abbrev pub case : List ℕ → Verdict → Case
case f v = record { file = f; verdict = v }

-- what is to hold of each case
abbrev pub Agree : List Case → Type 0
Agree [] = Unit {0}
Agree (c ∷ cs) = (verdict_of c.file ≡ c.verdict) × Agree cs

-- the test
abbrev pub same : Verdict → Verdict → Bool
same (Accepted a b c d) (Accepted k l m n) = (eqb a k && eqb b l) && (eqb c m && eqb d n)
same (Accepted a b c d) (Refused n p) = false
same (Refused n p) (Accepted a b c d) = false
same (Refused n p) (Refused m q) = eqb n m && eqb p q

abbrev pub right : List Case → Bool
right [] = true
right (c ∷ cs) = same (quick_of c.file) c.verdict && right cs

same_is : (v w : Verdict) → same v w ≡ true → v ≡ w
same_is (Accepted a b c d) (Accepted k l m n) e =
    let h = both (eqb a k && eqb b l) (eqb c m && eqb d n) e in
    let i = both (eqb a k) (eqb b l) h.0 in
    let j = both (eqb c m) (eqb d n) h.1 in
    rw (eqb-true a k i.0, eqb-true b l i.1, eqb-true c m j.0, eqb-true d n j.1)
same_is (Accepted a b c d) (Refused n p) e = absurd (mathlib.Core.Bool.false≢true e)
same_is (Refused n p) (Accepted a b c d) e = absurd (mathlib.Core.Bool.false≢true e)
same_is (Refused n p) (Refused m q) e = let h = both (eqb n m) (eqb p q) e in rw (eqb-true n m h.0, eqb-true p q h.1)

pub agree : (cs : List Case) → right cs ≡ true → Agree cs
agree [] e = tt
agree (c ∷ cs) e =
    let h = both (same (quick_of c.file) c.verdict) (right cs) e in
    (quick c.file ∙ same_is (quick_of c.file) c.verdict h.0, agree cs h.1)
