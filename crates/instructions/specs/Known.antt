-- Runs that are remembered, by a number each. Assumes nothing.
use Rattle.std.specs.Prelude.{◌≡◌, Bool, true, List, ℕ, ◌+◌, ◌*◌, ◌/◌, ◌%◌, ◌<◌, length, get_or, set, replicate}
use Rattle.std.proofs.Common.{sym, ap, ◌∙◌, arith, length-set, get_or-set_same, get_or-set_other}
use Rattle.std.proofs.Math.Decide.{ℕ_discrete}
use Rattle.std.proofs.lemmas.List.{length-replicate, get_or-replicate}
use Rattle.words.specs.Bytes.{Bytes}
use Rattle.words.specs.Decide.{does}
use Rattle.rules.specs.Types.{variable, sub}
use Rattle.rules.specs.Flat.{Layout, flat, dec_run}
use Rattle.rules.specs.Decode.{module_of}
use Rattle.terms.specs.Compare.{under}
use Rattle.judgment.specs.Types.{digit_low, digit_rest}
use Rattle.instructions.specs.Plain.{themselves}

abbrev pub most_runs : ℕ
most_runs = 239

-- the run of term t at position d of term s
abbrev pub run_key : ℕ → ℕ → ℕ → ℕ
run_key s d t = 1 + (t + 256 * (s + 256 * d))

-- the layout of term t as it is written
abbrev pub layout_of : Bytes → ℕ → Layout variable
layout_of f t = flat (module_of f) (sub (under {k = variable} themselves) ((module_of f).term t))

unfoldable pub run_stands : Bytes → ℕ → ℕ → ℕ → Bool
run_stands f s d t = does (dec_run (layout_of f s) d (layout_of f t))

-- what is remembered stands
pub record Remembered (f : Bytes) (known : List ℕ) : Type 0 where
  pub long : length known ≡ most_runs
  pub each : (i : ℕ) → i < most_runs → (s d t : ℕ) → s < 256 → t < 256 → get_or known i 0 ≡ run_key s d t → run_stands f s d t ≡ true

pub remembered_none : (f : Bytes) → Remembered f (replicate most_runs 0)
remembered_none f = record {
  long = length-replicate {A = ℕ} most_runs 0;
  each = λ i l s d t ls lt e. let z = get_or-replicate {A = ℕ} most_runs i 0 0 l in absurd (omega arith);
}

pub remembered_more : {f : Bytes} {known : List ℕ} (i s d t : ℕ) {key : ℕ} → i < most_runs → s < 256 → t < 256 → key ≡ run_key s d t → run_stands f s d t ≡ true
    → Remembered f known → Remembered f (set known i key)
remembered_more {f} {known} i s d t {key} l ls lt k h r = record { long = length-set known i key ∙ r.long; each = λ j m s' d' t' ls' lt' e. go j m s' d' t' ls' lt' e (ℕ_discrete j i) }
  where
    go : (j : ℕ) → j < most_runs → (s' d' t' : ℕ) → s' < 256 → t' < 256 → get_or (set known i key) j 0 ≡ run_key s' d' t' → Dec (j ≡ i) → run_stands f s' d' t' ≡ true
    go j m s' d' t' ls' lt' e (yes z) =
        let w : get_or (set known i key) j 0 ≡ key = rw z (get_or-set_same known i key 0 (omega (arith, r.long))) in
        let q : t' + 256 * (s' + 256 * d') ≡ t + 256 * (s + 256 * d) = omega arith in
        let et : t' ≡ t = sym (digit_low t' (s' + 256 * d') lt') ∙ ap (λ (x : ℕ). x % 256) q ∙ digit_low t (s + 256 * d) lt in
        let u : s' + 256 * d' ≡ s + 256 * d = sym (digit_rest t' (s' + 256 * d') lt') ∙ ap (λ (x : ℕ). x / 256) q ∙ digit_rest t (s + 256 * d) lt in
        let es : s' ≡ s = sym (digit_low s' d' ls') ∙ ap (λ (x : ℕ). x % 256) u ∙ digit_low s d ls in
        let ed : d' ≡ d = sym (digit_rest s' d' ls') ∙ ap (λ (x : ℕ). x / 256) u ∙ digit_rest s d ls in
        rw (et, es, ed) h
    go j m s' d' t' ls' lt' e (no z) = r.each j m s' d' t' ls' lt' (sym (get_or-set_other known i j key 0 z) ∙ e)
