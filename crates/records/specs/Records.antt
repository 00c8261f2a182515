-- How the loop over the records shows its result: a record fails, the file ends too soon, or neither. Assumes nothing.
use Rattle.std.specs.Prelude.{◌≡◌, refl, Bool, true, false, not, ◌&&◌, ℕ, ◌+◌, ◌-◌, ◌<◌, ltb, eqb, Some, None}
use Rattle.std.proofs.Math.Path.{sym}
use Rattle.std.proofs.Common.{ap, ◌∙◌, arith, below_more}
use Rattle.words.specs.Bytes.{Bytes}
use Rattle.words.specs.Choose.{both, both_of}
use Rattle.words.specs.FirstLaws.{first_is}
use Rattle.rules.specs.File.{records, record_of, is_instruction, kind_call}
use Rattle.rules.specs.Walk.{to, scan, whole}
use Rattle.rules.specs.Records.{is_filler, callee_fits, region_bytes_fit, instruction_fits, fits_in, fits, end_fits, record_test}
use Rattle.rules.specs.declared.Record.{Record}
use Rattle.rules.specs.declared.Walk.{Walk}
use Rattle.rules.specs.declared.Phase.TheVariants.{Code, Filler}
use Rattle.records.specs.Outcome.{IsFault}
use Rattle.fits.specs.Phases.{fits_in_law}
use Rattle.walk.specs.Scan.{in_filler, in_filler_law, next_filler, walk_more}
use Rattle.walk.specs.Run.{counted_only, Run}
use Rattle.operands.specs.Limits.{limits_of, below_limits, limits_fit}
use Rattle.typing.specs.Walk.{test_at_law, test_end}

module _ (f : Bytes) {n : ℕ} (hn : n ≡ records f) {r : ℕ} {w : Walk} (hw : w ≡ (scan f r).walk) where
  -- record r, and its test
  module _ {x : Record} (hx : x ≡ record_of f r) {b : Bool} (hb : b ≡ fits f (whole f) w x) (h : r < n) where
    pub record_test_law : record_test f r ≡ b
    record_test_law = test_at_law f r (omega arith) ∙ sym (rw (hw, hx) at hb)

  module _ (before : (j : ℕ) → j < r → record_test f j ≡ true) where
    pub record_fails : r < n → record_test f r ≡ false → IsFault f (Some r)
    record_fails h e = (first_is (records f + 1) (record_test f) r (omega arith) before (λ k. e), omega arith)

    module _ (hr : r ≡ n) where
      there : (scan f (records f)).walk ≡ w
      there = rw (← hn, ← hr) (sym hw)

      at_end : record_test f (records f) ≡ end_fits w.phase
      at_end = test_end f ∙ ap (λ (v : Walk). end_fits v.phase) there

      passed : (j : ℕ) → j < records f → record_test f j ≡ true
      passed j h = before j (omega arith)

      pub ends_short : end_fits w.phase ≡ false → IsFault f (Some n)
      ends_short e = (first_is (records f + 1) (record_test f) (records f) (omega arith) passed (λ k. at_end ∙ e) ∙ sym hn, omega arith)

      pub none_fails : end_fits w.phase ≡ true → IsFault f None
      none_fails e = first_is (records f + 1) (record_test f) (records f + 1) (omega arith) (below_more _ (records f) passed (at_end ∙ e)) (λ k. absurd (omega arith))

-- ---- the filler

-- before record r the walk is in the filler, and no record is at fault
pub record Filled (f : Bytes) (r : ℕ) : Type 0 where
  pub phase : (scan f r).walk.phase ≡ Filler
  pub before : (j : ℕ) → j < r → record_test f j ≡ true

pub filled : (f : Bytes) {r : ℕ} {w : Walk} → w ≡ (scan f r).walk → in_filler w.phase ≡ true → ((j : ℕ) → j < r → record_test f j ≡ true) → Filled f r
filled f {r} {w} hw e before = record { phase = rw (← hw) (in_filler_law w.phase e); before = before }

module _ (f : Bytes) {n : ℕ} (hn : n ≡ records f) {r : ℕ} (at : Filled f r) (h : r < n) where
  pub filler_test : {x : Record} {b : Bool} → x ≡ record_of f r → b ≡ is_filler x → record_test f r ≡ b
  unfolding fits_in
  filler_test {x} {b} hx hb =
      test_at_law f r (omega arith) ∙ fits_in_law f (whole f) (scan f r).walk (record_of f r) at.phase ∙ sym (rw hx at hb)

  pub filled_more : record_test f r ≡ true → Filled f (r + 1)
  filled_more e = record {
    phase = rw (walk_more, next_filler (scan f r).walk (record_of f r) r at.phase) at.phase;
    before = below_more _ r at.before e;
  }

-- ---- instructions in a row

-- one that the walk counts and no more, and whose operands are below their limits, fits
pub plain_test : (f : Bytes) {n : ℕ} → n ≡ records f → {r e : ℕ} (left : ℕ) {w : Walk} → Run f n w r e → w.phase ≡ Code → {x : Record} → x ≡ record_of f e
    → counted_only x.kind left && below_limits (limits_of w.registers w.instructions) x ≡ true → record_test f e ≡ true
unfolding fits_in instruction_fits
plain_test f {n} hn {r} {e} left {w} a p {x} hx h =
    let v = to w w.phase (w.left - (e - r)) in
    let s = both (counted_only x.kind left) (below_limits (limits_of w.registers w.instructions) x) h in
    let t = both (ltb 1 left) (not (eqb x.kind kind_call) && is_instruction x.kind) s.0 in
    let u = both (not (eqb x.kind kind_call)) (is_instruction x.kind) t.1 in
    record_test_law f hn {r = e} {w = v} a.walk {x = x} hx {b = fits f (whole f) v x} refl a.below
    ∙ fits_in_law f (whole f) v x p
    ∙ both_of u.1 (limits_fit w.registers w.instructions (callee_fits (whole f) x) (region_bytes_fit f (whole f) v x) x s.1)
