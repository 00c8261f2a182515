-- The four numbers of an answer, and that those of an accepted file fit. Assumes nothing.
use Rattle.std.specs.Prelude.{◌≡◌, refl, ℕ, ◌*◌, ◌≤◌}
use Rattle.std.proofs.Common.{sym, arith}
use Rattle.words.specs.Bytes.{Bytes}
use Rattle.words.specs.FirstLaws.{sum_below_bound}
use Rattle.rules.specs.Limits.{most_instructions, most_functions}
use Rattle.rules.specs.Decode.{module_of}
use Rattle.rules.specs.Verdict.{verdict_of, instructions}
use Rattle.rules.specs.Refusals.{Verdict, Accepted, Refused}
use Rattle.typing.specs.Accepted.{accepted}
use Rattle.guarantees.specs.Accepted.{says_accepted, counts_are}

-- what the numbers of an accepted file fit into
abbrev pub SmallCounts : Verdict → Type 0
SmallCounts (Accepted t n c i) = (c ≤ most_functions) × (i ≤ most_functions * most_instructions)
SmallCounts (Refused n p) = Unit {0}

-- the counts of an accepted file are small
accepted_small : (f : Bytes) {t n c i : ℕ} → verdict_of f ≡ Accepted t n c i → (c ≤ most_functions) × (i ≤ most_functions * most_instructions)
unfolding instructions
accepted_small f {t} {n} {c} {i} e =
    let w = accepted f (says_accepted f refl e) in
    let k = counts_are f refl e in
    let x : c ≡ (module_of f).functions = k.functions in
    let y : i ≡ instructions (module_of f) = k.instructions in
    let b = sum_below_bound (module_of f).functions most_instructions (λ g. ((module_of f).function g).code_length) (λ g l. (w.ranges g l).instructions) in
    let z = w.tables.functions in
    (omega arith, omega arith)

-- the counts of every verdict are small
pub small_counts : (f : Bytes) (v : Verdict) → v ≡ verdict_of f → SmallCounts v
small_counts f (Accepted t n c i) e = accepted_small f (sym e)
small_counts f (Refused n p) e = tt
