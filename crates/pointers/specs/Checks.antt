-- Kinds 22 and 39: what the code compares is what the rules ask, and the two tests of the code are the rules'. Assumes nothing.
use Rattle.std.specs.Prelude.{◌≡◌, refl, ◌≢◌, Bool, true, false, [], ℕ, ◌/◌, ◌<◌, eqb}
use Rattle.std.proofs.Math.Path.{sym, ap}
use Rattle.std.proofs.Common.{◌∙◌}
use Rattle.std.proofs.Math.Bool.{cond}
use Rattle.words.specs.Bytes.{Bytes}
use Rattle.words.specs.Choose.{cond_eq, cond_ne}
use Rattle.words.specs.Decide.{does}
use Rattle.rules.specs.Limits.{page_bytes, most_regions, check_fails}
use Rattle.rules.specs.File.{untyped_mark}
use Rattle.rules.specs.Types.{variable, live, Tree, bytes, sub, Uses}
use Rattle.rules.specs.Module.{Module}
use Rattle.rules.specs.Decode.{module_of}
use Rattle.rules.specs.State.{view, frame_register, frame_map, page_owner}
use Rattle.rules.specs.Heap.{close, HeapTyping, dec_stands, dec_in_untyped}
use Rattle.rules.specs.Step.{Effect, assign, stop}
use Rattle.terms.specs.Compare.{under}
use Rattle.terms.specs.Readers as readers
use Rattle.runs.specs.Runs.{StandsIs, UntypedIs}
use Rattle.positions.specs.Maps.{Narrow, narrow_entry, map_list, under_close}
use Rattle.prepared.specs.Program.{kind, register_a, register_b, region_variable, immediate, target_term, region_term, entry_type, entry_decoded}
use Rattle.prepared.specs.Plain.{one_type, plain_stands, plain_check, plain_arithmetic, plain_in_untyped, plain_check_bytes, plain_memory}
use Rattle.prepared.specs.Ready.{Ready}
use Rattle.effects.specs.Laws.{check_is, check_bytes_is}

-- the variable that the code has read
pub variable_at : {s : Bytes} {k w x i : ℕ} → Ready s k w x → kind w ≡ 22 → i ≡ region_variable w → i < most_regions
variable_at h q e = rw e (h.ranges.region q)

-- the test of runs, under the frame's map on both sides
pub stands_is : (f s : Bytes) (k w x a : ℕ) {r i o u t : ℕ} {p : Bytes} {b : Bool} → Narrow f → p ≡ map_list s k → r ≡ frame_map s k i → i ≡ region_variable w
    → o ≡ page_owner s (a / page_bytes) → u ≡ region_term x → t ≡ target_term x → StandsIs f r o u p a t p b → b ≡ plain_stands (module_of f) (view s) k w x a
unfolding plain_stands view
stands_is f s k w x a {r} {i} {o} {u} {t} {p} {b} narrow ep er ei eo eu et is =
    let closed : (T : Tree variable) → Uses most_regions T → sub (under {k = live} p) T ≡ close (frame_map s k) T =
    λ T h. ap (λ (l : Bytes). sub (under {k = live} l) T) ep ∙ under_close s k T h in
    let W : HeapTyping = one_type (page_owner s) (close (frame_map s k) (entry_type (module_of f) (region_term x))) in
    is W (sym eo) (sym (closed (readers.entry_type f u) (narrow_entry f narrow u) ∙ ap (close (frame_map s k)) (sym (entry_decoded f u) ∙ ap (entry_type (module_of f)) eu)))
    ∙ ap (λ (T : Tree live). does (dec_stands (module_of f) W T r a)) (closed ((module_of f).term t) (narrow t) ∙ ap (λ (i : ℕ). close (frame_map s k) ((module_of f).term i)) et)
    ∙ ap (λ (i : ℕ). does (dec_stands (module_of f) W (close (frame_map s k) ((module_of f).term (target_term x))) i a)) (er ∙ ap (frame_map s k) ei)

-- 39: the variable, and the test, of an untyped region
pub bytes_variable_at : {s : Bytes} {k w x i : ℕ} → Ready s k w x → kind w ≡ 39 → i ≡ region_variable w → i < most_regions
bytes_variable_at h q e = rw e (h.ranges.region_of_check q)

pub untyped_is : (m : Module) (s : Bytes) (k w a : ℕ) {r i o n : ℕ} {b : Bool} → r ≡ frame_map s k i → i ≡ region_variable w → o ≡ page_owner s (a / page_bytes) → n ≡ immediate w
    → UntypedIs r o untyped_mark a n b → b ≡ plain_in_untyped m (view s) k w a
unfolding plain_in_untyped view
untyped_is m s k w a {r} {i} {o} {n} {b} er ei eo en is =
    let W : HeapTyping = one_type (page_owner s) bytes in
    is W [] [] (sym eo) (sym (ap (sub (under {k = live} [])) (readers.entry_bytes [] untyped_mark refl) ∙ (unfold sub in refl)))
    ∙ (λ z. does (dec_in_untyped W (en z) ((er ∙ ap (frame_map s k) ei) z) a))

-- the two tests, of the number in register b
unfoldable pub checked : Bytes → ℕ → ℕ → (ℕ → Bool) → Effect
checked s k w test =
    cond (eqb (frame_register s k (register_b w)) 0) (stop check_fails)
    (cond (test (frame_register s k (register_b w))) (assign (register_a w) (frame_register s k (register_b w))) (stop check_fails))

module _ (m : Module) (s : Bytes) (k w x : ℕ) where
  pub check_means : kind w ≡ 22 → plain_arithmetic m (view s) k (kind w) w x ≡ checked s k w (plain_stands m (view s) k w x)
  unfolding plain_check view checked
  check_means q = check_is m s k w x q

  pub bytes_mean : kind w ≡ 39 → plain_memory m (view s) k (kind w) w x ≡ checked s k w (plain_in_untyped m (view s) k w)
  unfolding plain_check_bytes view checked
  bytes_mean q = check_bytes_is m s k w x q

module _ (s : Bytes) (k w : ℕ) (test : ℕ → Bool) (e : Effect) (is : e ≡ checked s k w test) {a c : ℕ} (ec : c ≡ register_b w) (at : a ≡ frame_register s k c) where
  number_is : a ≡ frame_register s k (register_b w)
  number_is = at ∙ ap (frame_register s k) ec

  pub check_zero : a ≡ 0 → stop check_fails ≡ e
  unfolding checked
  check_zero z = sym (is ∙ cond_eq _ _ (sym number_is ∙ z))

  chosen : (b : Bool) → a ≢ 0 → b ≡ test a → cond b (assign (register_a w) a) (stop check_fails) ≡ e
  unfolding checked
  chosen b n t =
      ap (λ (y : Bool). cond y (assign (register_a w) a) (stop check_fails)) t
      ∙ ap (λ (y : ℕ). cond (test y) (assign (register_a w) y) (stop check_fails)) number_is
      ∙ sym (is ∙ cond_ne _ _ (λ z. n (number_is ∙ z)))

  pub check_stands : {b : Bool} → a ≢ 0 → b ≡ test a → b ≡ true → assign (register_a w) a ≡ e
  check_stands {b} n t y = sym (ap (λ (y : Bool). cond y (assign (register_a w) a) (stop check_fails)) y) ∙ chosen b n t

  pub check_none : {b : Bool} → a ≢ 0 → b ≡ test a → b ≡ false → stop check_fails ≡ e
  check_none {b} n t y = sym (ap (λ (y : Bool). cond y (assign (register_a w) a) (stop check_fails)) y) ∙ chosen b n t
