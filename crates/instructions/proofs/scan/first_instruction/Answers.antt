-- `instructions::scan::first_instruction` meets its contract: r is the record of instruction i, and those passed keep their rules.
use mathlib.Core.Path.{◌≡◌, refl, sym, ap, ◌∙◌}
use Prim.Native.Nat.{ℕ, ◌<◌, ◌-◌}
use mathlib.Core.Logic.{⊎_elim}
use Prim.Native.Nat.{◌+◌}
use Rattle.words.specs.Choose.{lt_or_le}
use Rattle.rules.specs.Decode.{module_of}
use Rattle.functions.specs.Functions.{function_at}
use Rattle.rules.specs.declared.Record.{Record}
use borrow.Author.Count.{below_more}
use Rattle.words.specs.FirstLaws.{first_found, first_none}
use Rattle.rules.specs.Verdict.{instruction_test}
use Rattle.rules.specs.File.{record_of, instructions_of}
use Rattle.functions.specs.Functions.{place_begin, place_more, place_far, place_found, place_none, place_in, length_at}
use Rattle.instructions.specs.Scan.{test_at_law}
use native.Mathlib.Omega.{arith}
use Rattle.std.proofs.Common.{true, false, rules, tests}
use Rattle.instructions.proofs.scan.first_instruction.Goals as goal

byte-same : (m n : ℕ) → m ≡ n → m < 256 → n < 256
byte-same m n e l = omega arith

pub types_of-types-requires : goal.types_of-types-requires
types_of-types-requires c = let p = c.requires in record { fact_1 = p.fact_1.counted.terms; fact_2 = p.fact_4 }

pub code_at-r-requires : goal.code_at-r-requires
code_at-r-requires c = let p = c.requires.fact_4 in omega arith

pub loop-i-init : goal.loop-i-init
loop-i-init c = record {
  place = c.code_at-r.ensures ∙ place_begin _ _;
  kept = λ j l. absurd (omega arith);
  remembered = c.requires.fact_5;
  last = λ l. absurd (omega arith);
  none = λ e. refl;
  byte = byte-same _ _ (ap (λ (x : Record). x.c) c.record_at-x.ensures) (omega arith);
}

pub typed-requires : goal.typed-requires
typed-requires c =
    let a = c.args in
    let p = c.requires in
    record { known_file = p.fact_1; near = place_far a.f.now a.h (record_of a.f.now a.h) refl c.loop-i.invariant.byte p.fact_4 c.loop-i.i c.loop-i.r c.loop-i.invariant.place (omega (arith, c.instructions_of-count.ensures.1)); remembered = c.loop-i.invariant.remembered }

pub after-r-requires : goal.after-r-requires
after-r-requires c =
    let a = c.args in
    let p = c.requires in
    place_far a.f.now a.h (record_of a.f.now a.h) refl c.loop-i.invariant.byte p.fact_4 c.loop-i.i c.loop-i.r c.loop-i.invariant.place (omega (arith, c.instructions_of-count.ensures.1))

pub loop-i-preserved : goal.loop-i-preserved
loop-i-preserved c =
    let a = c.args in
    let kept : c.typed.result ≡ true = search (rules, tests) in
    let f = a.f.now in
    let i = c.loop-i.i in
    let pl = place_found f a.h c.instructions_of-count.result c.loop-i.i c.loop-i.r c.loop-i.i (c.instructions_of-count.ensures.0 ∙ ap (λ (x : Record). instructions_of x) c.record_at-x.ensures) (omega arith) c.loop-i.invariant.place refl in
    let back : i + 1 - 1 ≡ i = omega arith in
    record {
      place = c.after-r.ensures ∙ place_more f a.h _ _ c.loop-i.invariant.place;
      kept = below_more _ _ c.loop-i.invariant.kept (sym (test_at_law f a.h i c.loop-i.r pl) ∙ sym c.typed.ensures.rule ∙ kept);
      remembered = c.typed.ensures.remembered;
      last = λ l. pl ∙ ap (place_in f a.h) (sym back);
      none = λ e. absurd (omega arith);
      byte = c.loop-i.invariant.byte;
    }

pub returns-then-not-typed : goal.returns-then-not-typed
returns-then-not-typed c =
    let a = c.args in
    let broken : c.typed.result ≡ false = search (rules, tests) in
    let f = a.f.now in
    let F = function_at f a.h in
    let i = c.loop-i.i in
    let n = (c.instructions_of-count.ensures.0 ∙ ap (λ (x : Record). instructions_of x) c.record_at-x.ensures) ∙ sym (length_at f a.h) in
    let pl = place_found f a.h c.instructions_of-count.result c.loop-i.i c.loop-i.r c.loop-i.i (c.instructions_of-count.ensures.0 ∙ ap (λ (x : Record). instructions_of x) c.record_at-x.ensures) (omega arith) c.loop-i.invariant.place refl in (
      first_found F.code_length (instruction_test (module_of f) F) i c.loop-i.invariant.kept (omega (arith, n)) (sym (test_at_law f a.h i c.loop-i.r pl) ∙ sym c.typed.ensures.rule ∙ broken),
      λ l. pl,
      λ l. absurd (omega (arith, n)),
      c.typed.ensures.remembered,
    )

pub returns : goal.returns
returns c =
    let a = c.args in
    let f = a.f.now in
    let F = function_at f a.h in
    let i = c.loop-i.i in
    let m = c.instructions_of-count.ensures.0 ∙ ap (λ (x : Record). instructions_of x) c.record_at-x.ensures in
    let n = m ∙ sym (length_at f a.h) in (
      n ∙ sym (first_none F.code_length (instruction_test (module_of f) F) (λ j l. c.loop-i.invariant.kept j (omega (arith, n, c.loop-i-test.false)))),
      λ l. absurd (omega (arith, n)),
      λ l.
          ⊎_elim
          (λ k.
          let e : i - 1 ≡ F.code_length - 1 = omega (arith, n, c.loop-i-test.false) in
          c.loop-i.invariant.last (omega (arith, n, c.loop-i-test.false)) ∙ ap (place_in f a.h) e)
          (λ k.
          c.loop-i.invariant.none (omega (arith, n)) ∙ place_none f a.h c.instructions_of-count.result (F.code_length - 1) m (omega (arith, n)))
          (lt_or_le 0 F.code_length),
      c.loop-i.invariant.remembered,
    )
