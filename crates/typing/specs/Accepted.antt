-- What acceptance means: the framing is right, each record fits, and the module is well typed; and the other way round
-- (`accepted_iff`, in proofs/Accepted). Assumes nothing.
use Rattle.std.specs.Prelude.{◌≡◌, refl, true, ◌&&◌, List, [], ◌∷◌, ℕ, ◌+◌, ◌-◌, ◌*◌, ◌/◌, ◌%◌, ◌<◌, ◌≤◌, leb, get_or}
use Rattle.std.proofs.Common.{sym, ◌∙◌, arith, leb-true}
use Rattle.std.proofs.Math.Decide.{ℕ_discrete}
use Rattle.words.specs.Bytes.{Bytes, list_of}
use Rattle.rules.specs.Limits.{most_regions, most_region_params, most_entries, most_registers, most_instructions}
use Rattle.words.specs.Decide.{does_true, dec_both, dec_imp}
use Rattle.rules.specs.Stages.{Stage}
use Rattle.rules.specs.File.{blocks, records, record_of, length_right, place_right, check_right, length_stage, block_stage, block_test, regions_of, parameters_of, instructions_of, within}
use Rattle.rules.specs.Types.{variable, Tree}
use Rattle.rules.specs.Walk.{whole}
use Rattle.rules.specs.Records.{head_ranges, record_test, record_stage}
use Rattle.rules.specs.Decode.{trees_of, function_of, module_of}
use Rattle.rules.specs.Decision.{dec_typed}
use Rattle.rules.specs.WellTyped.{FunctionOk, EntryOk, Ranges, Tables, WellTyped, dec_term, dec_struct, dec_function, dec_entry, dec_last}
use Rattle.rules.specs.Verdict.{term_test, struct_test, function_test, instruction_test, instruction_stage, last_stage, last_test, module_stages, accepted_as, module_rules, record_rules, verdict_of, IsAccepted}
use Rattle.typing.specs.Tests.{left, right}
use Rattle.typing.specs.Stages.{AllPass, all_pass, pass_all, pass_append, pass_each}
use Rattle.typing.specs.Walk.{Fits, good, some_function}

-- ---- refusals 1 to 4 find nothing

pub record Framed (f : Bytes) : Type 0 where
  pub file_length : length_right f ≡ true
  pub places : (i : ℕ) → i < blocks f → place_right f i ≡ true
  pub checks : (i : ℕ) → i < blocks f → check_right f i ≡ true
  pub records : (r : ℕ) → r ≤ records f → record_test f r ≡ true

-- the two tests of a block
pub even_test : (f : Bytes) (i : ℕ) → block_test f (2 * i) ≡ place_right f i
unfolding block_test
even_test f i = let a : 2 * i % 2 ≡ 0 = omega arith in let b : 2 * i / 2 ≡ i = omega arith in rw (a, b)

pub odd_test : (f : Bytes) (i : ℕ) → block_test f (2 * i + 1) ≡ check_right f i
unfolding block_test
odd_test f i = let a : (2 * i + 1) % 2 ≡ 1 = omega arith in let b : (2 * i + 1) / 2 ≡ i = omega arith in rw (a, b)

-- ---- the ranges, which refusal 4 has made sure of

head_ranges_law : (f : Bytes) (ss : List ℕ) (ts : List (Tree variable)) (h : ℕ) → head_ranges (record_of f h) ≡ true → Ranges (function_of f ss ts h)
unfolding function_of head_ranges
head_ranges_law f ss ts h e =
    let x = record_of f h in
    let regs = leb x.a most_region_params && leb (regions_of x) most_regions in
    let pars = leb (parameters_of x) most_entries && leb (parameters_of x) x.c in
    let a = left (regs && within x.c 1 most_registers) (pars && within (instructions_of x) 1 most_instructions) e in
    let b = right (regs && within x.c 1 most_registers) (pars && within (instructions_of x) 1 most_instructions) e in
    let c = left regs (within x.c 1 most_registers) a in
    let d = right regs (within x.c 1 most_registers) a in
    let p = left pars (within (instructions_of x) 1 most_instructions) b in
    let q = right pars (within (instructions_of x) 1 most_instructions) b in
    record {
      region_params = leb-true x.a most_region_params (left (leb x.a most_region_params) (leb (regions_of x) most_regions) c);
      regions = leb-true (regions_of x) most_regions (right (leb x.a most_region_params) (leb (regions_of x) most_regions) c);
      some_register = leb-true 1 x.c (left (leb 1 x.c) (leb x.c most_registers) d);
      registers = leb-true x.c most_registers (right (leb 1 x.c) (leb x.c most_registers) d);
      params = leb-true (parameters_of x) most_entries (left (leb (parameters_of x) most_entries) (leb (parameters_of x) x.c) p);
      few_params = leb-true (parameters_of x) x.c (right (leb (parameters_of x) most_entries) (leb (parameters_of x) x.c) p);
      some = leb-true 1 (instructions_of x) (left (leb 1 (instructions_of x)) (leb (instructions_of x) most_instructions) q);
      instructions = leb-true (instructions_of x) most_instructions (right (leb 1 (instructions_of x)) (leb (instructions_of x) most_instructions) q);
    }

module _ (f : Bytes) (ok : Fits f) where
  pub module_tables : Tables (module_of f)
  unfolding module_of
  module_tables = let g = good f ok in record { terms = g.terms; structs = g.names; some = some_function f ok; functions = g.functions }

  pub module_ranges : (g : ℕ) → g < (module_of f).functions → Ranges ((module_of f).function g)
  unfolding module_of
  module_ranges g h = head_ranges_law f (whole f).starts (trees_of f (whole f).walk.terms) (get_or (whole f).starts g 0) ((good f ok).heads g h)

-- ---- acceptance

-- all stages of a file, in order
abbrev pub stages : Bytes → List Stage
stages f = length_stage f ∷ block_stage f ∷ record_stage f ∷ module_stages f (module_of f)

-- an accepted file has no failing test, and its verdict has its module's counts
pub no_failure : (f : Bytes) → IsAccepted (verdict_of f) → AllPass (stages f)
unfolding verdict_of record_rules module_rules
no_failure f a =
    let b = all_pass (length_stage f ∷ block_stage f ∷ []) (record_rules f) a in
    let r = all_pass (record_stage f ∷ []) (module_rules f) b.1 in
    let d = all_pass (module_stages f (module_of f)) (accepted_as (module_of f)) r.1 in
    (b.0.0, (b.0.1.0, (r.0.0, d.0)))

pub passes_accepted : (f : Bytes) → AllPass (stages f) → verdict_of f ≡ accepted_as (module_of f)
unfolding verdict_of record_rules module_rules
passes_accepted f a =
    pass_all (length_stage f ∷ block_stage f ∷ []) (record_rules f) (a.0, (a.1.0, tt))
    ∙ (pass_all (record_stage f ∷ []) (module_rules f) (a.1.1.0, tt)
    ∙ pass_all (module_stages f (module_of f)) (accepted_as (module_of f)) a.1.1.1)

pub framed : (f : Bytes) → IsAccepted (verdict_of f) → Framed f
framed f a = let p = no_failure f a in record {
  file_length = p.0 0 (omega arith);
  places = λ i h. sym (even_test f i) ∙ p.1.0 (2 * i) (omega arith);
  checks = λ i h. sym (odd_test f i) ∙ p.1.0 (2 * i + 1) (omega arith);
  records = λ r h. p.1.1.0 r (omega arith);
}

pub records_fit : (f : Bytes) → Framed f → Fits f
records_fit f w r h = w.records r (omega arith)

-- an accepted file is well typed
pub accepted : (f : Bytes) → IsAccepted (verdict_of f) → WellTyped (module_of f)
unfolding module_stages term_test struct_test function_test instruction_test instruction_stage last_test
accepted f a =
    let m = module_of f in
    let all = no_failure f a in
    let ok : Fits f = all.1.1.0 in
    let d = all.1.1.1 in
    let e = pass_append (list_of (instruction_stage f m) m.functions) (last_stage f m ∷ []) d.1.1.1 in
    let k : (g : ℕ) → g < m.functions → FunctionOk (m.function g) × (g ≡ 0 → EntryOk (m.function g)) =
    λ g h. does_true (dec_both (dec_function (m.function g)) (dec_imp (ℕ_discrete g 0) (dec_entry (m.function g)))) (d.1.1.0 g h) in
    let s : Tables m = module_tables f ok in
    record {
      tables = s;
      ranges = module_ranges f ok;
      terms = λ t h. does_true (dec_term m (m.term t)) (d.0 t h);
      structs = λ N h. does_true (dec_struct m N) (d.1.0 N h);
      functions = λ g h. (k g h).0;
      entry = (k 0 s.some).1 refl;
      typed = λ g i h l. does_true (dec_typed m (m.function g) ((m.function g).code i)) (pass_each (instruction_stage f m) 0 m.functions e.0 g (omega arith) (omega arith) i l);
      lasts = λ g h. does_true (dec_last ((m.function g).code ((m.function g).code_length - 1))) (e.1.0 g h);
    }

-- and then it has the module's counts
pub counts : (f : Bytes) → IsAccepted (verdict_of f) → verdict_of f ≡ accepted_as (module_of f)
counts f a = passes_accepted f (no_failure f a)
