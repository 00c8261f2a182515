-- `checker::typed_functions` meets its contract: the functions passed have no failing instruction, and those left decide; of those passed the first whose end refusal 8 finds is known.
use mathlib.Core.Path.{◌≡◌, sym, ap, ◌∙◌}
use Prim.Native.Nat.{ℕ, ◌<◌, ◌-◌}
use Rattle.rules.specs.declared.Record.{Record}
use Rattle.instructions.specs.Scan.{typed_from, typed_passes, typed_refuses, typed_ended}
use Rattle.functions.specs.Functions.{function_at, start_small, length_at}
use Rattle.instructions.specs.Plain.{Tight}
use Rattle.rules.specs.File.{instructions_of}
use native.Mathlib.Numerals.{add-one}
use mathlib.Core.Path.{subst}
use Prim.Native.Nat.{suc, ◌+◌}
use Rattle.words.specs.FirstLaws.{first_none}
use Rattle.rules.specs.Decode.{module_of}
use Rattle.rules.specs.Verdict.{last_test}
use Rattle.checker.specs.Rules.{first_goes, first_stays}
use native.Mathlib.Omega.{arith}
use Rattle.checker.proofs.typed_functions.Goals as goal
use Rattle.checker.proofs.typed_functions.Goals.{then-not-last_ends, else-not-last_ends}

pub loop-g-init : goal.loop-g-init
loop-g-init c =
    let a = c.args in
    let f = a.f.now in
    let e : a.c - 0 ≡ a.c = omega arith in
    (ap (typed_from f 0) e, c.no_runs-known.ensures f, first_none 0 (last_test (module_of f)) (λ j l. absurd (omega arith)))

pub start_of-h-requires : goal.start_of-h-requires
start_of-h-requires c = record { fact_1 = c.requires.fact_1.starts; fact_2 = omega (arith, c.requires.fact_1.few) }

pub first_instruction-found-requires : goal.first_instruction-found-requires
first_instruction-found-requires c =
    let f = c.args.f.now in
    let p = c.requires in
    let g = c.loop-g.g in
    let at = c.start_of-h.ensures in
    record { fact_1 = p.fact_1; fact_2 = p.fact_2; fact_3 = subst (λ (h : ℕ). Tight (function_at f h)) (sym at) (p.fact_3 g c.loop-g-test.true); fact_4 = omega (arith, at, start_small f p.fact_1.short g); fact_5 = c.loop-g.invariant.1 }

pub returns-then-found-count-clause-answer : goal.returns-then-found-count-clause-answer
returns-then-found-count-clause-answer c =
    let a = c.args in
    let f = a.f.now in
    let g = c.loop-g.g in
    let h = c.start_of-h.result in
    let n = c.instructions_of-count.ensures.0 ∙ ap (λ (x : Record). instructions_of x) c.record_at-x.ensures ∙ sym (length_at f c.start_of-h.result) in
    let found = c.first_instruction-found.result in
    let l = c.first_instruction-found.ensures in
    let i : found.index < (function_at f h).code_length = omega (arith, n, c.if-found-count.true) in
    let e : suc (a.c - (g + 1)) ≡ a.c - g = omega (arith, c.loop-g-test.true) in
    sym (typed_refuses f g (a.c - (g + 1)) h found.index found.place c.start_of-h.ensures l.0 i (l.1 i)) ∙ ap (typed_from f g) e ∙ c.loop-g.invariant.0

pub last_ends-requires : goal.last_ends-requires
last_ends-requires c =
    let f = c.args.f.now in
    let n = c.instructions_of-count.ensures.0 ∙ ap (λ (x : Record). instructions_of x) c.record_at-x.ensures ∙ sym (length_at f c.start_of-h.result) in
    record { fact_1 = c.start_of-h.ensures; fact_2 = c.first_instruction-found.ensures.2 (omega (arith, n, c.if-found-count.false)) }

pub loop-g-preserved : goal.loop-g-preserved
loop-g-preserved c =
    let a = c.args in
    let f = a.f.now in
    let t = last_test (module_of f) in
    let g = c.loop-g.g in
    let runs_on = c.loop-g.runs_on in
    let inv = c.loop-g.invariant in
    let h = c.start_of-h.result in
    let n = c.instructions_of-count.ensures.0 ∙ ap (λ (x : Record). instructions_of x) c.record_at-x.ensures ∙ sym (length_at f c.start_of-h.result) in
    let found = c.first_instruction-found.result in
    let l = c.first_instruction-found.ensures in
    let last = c.last_ends.ensures in
    let e : suc (a.c - (g + 1)) ≡ a.c - g = omega (arith, c.loop-g-test.true) in (
      ap (λ (k : ℕ). typed_from f k (a.c - (g + 1))) (add-one g)
          ∙ sym (typed_passes f g (a.c - (g + 1)) h found.index 0 c.start_of-h.ensures l.0 (omega (arith, n, c.if-found-count.false)))
          ∙ ap (typed_from f g) e
          ∙ inv.0,
      l.3,
      elim c.if-not-last_ends.branch [
        | then-not-last_ends s ↦
            rw (s.runs_on-is, s.or-runs_on.ensures) (first_stays t g runs_on inv.2 (sym last ∙ s.if-not-last_ends.true))
        | else-not-last_ends s ↦ rw s.runs_on-is (first_goes t g runs_on inv.2 (sym last ∙ s.if-not-last_ends.false))
      ],
    )

pub returns-clause-answer : goal.returns-clause-answer
returns-clause-answer c =
    let a = c.args in
    let f = a.f.now in
    let g = c.loop-g.g in
    let e : 0 ≡ a.c - g = omega arith in
    sym (typed_ended f g) ∙ ap (typed_from f g) e ∙ c.loop-g.invariant.0

pub returns-clause-last : goal.returns-clause-last
returns-clause-last c = let e : c.loop-g.g ≡ c.args.c = omega arith in rw e at c.loop-g.invariant.2
