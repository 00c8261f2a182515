-- Each register is a value of its type: register by register, frame by frame. Assumes nothing.
use Rattle.std.specs.Prelude.{◌≡◌, refl, Bool, true, false, not, ◌&&◌, ◌≢◌, ◌⊎◌, ℕ, ◌+◌, ◌/◌, ◌%◌, ◌^◌, ◌<◌, eqb}
use Rattle.std.proofs.Common.{sym, ap, ◌∙◌, inl, inr, ⊎_elim, eqb-true}
use Rattle.std.proofs.lemmas.Bool.{eqb-false, not-true, not-false}
use Rattle.words.specs.Bytes.{Bytes}
use Rattle.words.specs.Choose.{both, not_both}
use Rattle.rules.specs.Limits.{most_entries}
use Rattle.rules.specs.File.{record_of, entry_of}
use Rattle.rules.specs.Decode.{module_of, function_of, registers_at, start_of}
use Rattle.rules.specs.State.{view, frame_function, frame_register, frame_map}
use Rattle.rules.specs.Types.{live, Variable, Region, region, form, number_of, region_of}
use Rattle.rules.specs.Heap.{close, heap_typing, Stands, InUntyped, Value}
use Rattle.rules.specs.declared.Record.{Record}
use Rattle.terms.specs.Readers.{Inner}
use Rattle.stack.specs.Tells.{Tells, tells_map, tells_yes}
use Rattle.stack.specs.Facts.{function_at, head_at, registers_at_law}
use Rattle.registers.specs.Value.{typing_of, value_int, value_ptr, value_raw, value_none}

-- a number as a value of term t, under frame k's map, of n frames
pub record ValueOk (f s : Bytes) (n k t x : ℕ) : Type 0 where
  pub is : Value (module_of f) (typing_of f s n) (close (frame_map s k) ((module_of f).term t)) x

pub record RegisterOk (f s : Bytes) (n k a : ℕ) : Type 0 where
  pub is : Value (module_of f) (typing_of f s n) (close (frame_map s k) ((function_at f s k).register_type a)) (frame_register s k a)

pub record RegistersOk (f s : Bytes) (n k : ℕ) : Type 0 where
  pub each : (a : ℕ) → a < (function_at f s k).registers → RegisterOk f s n k a

pub record AllRegisters (f s : Bytes) : Type 0 where
  pub each : (k : ℕ) → k < (view s).frames → (a : ℕ) → a < ((module_of f).function ((view s).fn k)).registers
      → Value (module_of f) (heap_typing (module_of f) (view s) (view s).frames) (close ((view s).map k) (((module_of f).function ((view s).fn k)).register_type a)) ((view s).reg k a)

-- the term of register a of frame k's function
unfoldable pub register_term : Bytes → Bytes → ℕ → ℕ → ℕ
register_term f s k a = entry_of (record_of f (registers_at f (start_of f (frame_function s k)) + a / most_entries)) (a % most_entries)

tree_at_law : (f s : Bytes) (k a : ℕ) → (function_at f s k).register_type a ≡ (module_of f).term (register_term f s k a)
unfolding module_of function_of register_term start_of
tree_at_law f s k a = refl

pub register_by : {f s : Bytes} {n k a t x : ℕ} {b : Bool} → t ≡ register_term f s k a → x ≡ frame_register s k a → Tells b (ValueOk f s n k t x) → Tells b (RegisterOk f s n k a)
register_by {f} {s} {n} {k} {a} et ex w =
    tells_map (λ v. record { is = rw (tree_at_law f s k a) v.is }) (λ v. record { is = rw (tree_at_law f s k a) at v.is }) (rw (et, ex) at w)

pub registers_by : {f s : Bytes} {n k c : ℕ} {h : Record} {b : Bool} → h ≡ head_at f s k → c ≡ h.c → Tells b ((a : ℕ) → a < c → RegisterOk f s n k a) → Tells b (RegistersOk f s n k)
registers_by {f} {s} {n} {k} {c} e ec t =
    let q : c ≡ (function_at f s k).registers = ec ∙ ap (λ (r : Record). r.c) e ∙ sym (registers_at_law f s k) in
    tells_map (λ w. record { each = w }) (λ w. w.each) (rw q at t)

pub all_by : {f s : Bytes} {n : ℕ} {b : Bool} → n ≡ (view s).frames → Tells b ((k : ℕ) → k < n → RegistersOk f s n k) → Tells b (AllRegisters f s)
unfolding view
all_by {f} {s} {n} e t =
    tells_map (λ w. record { each = λ k h a l. ((w k h).each a l).is }) (λ w k h. record { each = λ a l. record { is = w.each k h a l } }) (rw e at t)

pub term_is : (f s : Bytes) (k a : ℕ) {g h r t : ℕ} {x : Record} → g ≡ frame_function s k → h ≡ start_of f g → r ≡ registers_at f h → x ≡ record_of f (r + a / most_entries)
    → t ≡ entry_of x (a % most_entries) → t ≡ register_term f s k a
unfolding register_term
term_is f s k a {g} {h} {r} {t} {x} eg eh er ex et =
    let q : r ≡ registers_at f (start_of f (frame_function s k)) = er ∙ ap (registers_at f) (eh ∙ ap (start_of f) eg) in
    et ∙ ap (λ (x : Record). entry_of x (a % most_entries)) (ex ∙ ap (λ (j : ℕ). record_of f (j + a / most_entries)) q)

-- forms of pointers, as the code tests them
pub pointing : (k : ℕ) → not (eqb k 2) && not (eqb k 11) ≡ false → (k ≡ 2) ⊎ (k ≡ 11)
pointing k h = ⊎_elim (λ e. inl (eqb-true k 2 (not-false (eqb k 2) e))) (λ e. inr (eqb-true k 11 (not-false (eqb k 11) e))) (not_both (not (eqb k 2)) (not (eqb k 11)) h)

pub typed : (k : ℕ) → not (eqb k 2) && not (eqb k 11) ≡ false → k ≢ 11 → k ≡ 2
typed k h d = ⊎_elim (λ e. e) (λ e. absurd (d e)) (pointing k h)

-- the regions that a map puts for variables
abbrev closing : (ℕ → ℕ) → Variable → Region live
closing μ r = region (μ r.number)

-- a value, by the form of its term
module _ {f s : Bytes} {n k t x : ℕ} where
  pub value_number : {b : Bool} {w form' : ℕ} → form' ≡ form ((module_of f).term t) → form' ≡ 1 → w ≡ number_of ((module_of f).term t) → Tells b (x < 256 ^ w) → Tells b (ValueOk f s n k t x)
  value_number ef e ew u =
      tells_map (λ v. record { is = v }) (λ v. v.is) (value_int (module_of f) (typing_of f s n) (closing (frame_map s k)) ((module_of f).term t) (sym ef ∙ e) (rw ew at u))

  pub value_zero : {form' : ℕ} → form' ≡ form ((module_of f).term t) → (form' ≡ 2) ⊎ (form' ≡ 11) → x ≡ 0 → ValueOk f s n k t x
  value_zero ef h z =
      record {
        is = ⊎_elim
            (λ e. (value_ptr (module_of f) (typing_of f s n) (closing (frame_map s k)) ((module_of f).term t) (sym ef ∙ e) (tells_yes (inl z))).holds refl)
            (λ e. (value_raw (module_of f) (typing_of f s n) (closing (frame_map s k)) ((module_of f).term t) (sym ef ∙ e) (tells_yes (inl z))).holds refl) h;
      }

  pub value_pointer : {b : Bool} {r form' : ℕ} {target variable' : ℕ} → form' ≡ form ((module_of f).term t) → form' ≡ 2 → x ≢ 0 → variable' ≡ (region_of ((module_of f).term t)).number
      → r ≡ frame_map s k variable' → Inner f ((module_of f).term t) target
      → Tells b (Stands (module_of f) (typing_of f s n) (close (frame_map s k) ((module_of f).term target)) r x) → Tells b (ValueOk f s n k t x)
  value_pointer ef e d ev er i u =
      let g = sym ef ∙ e in
      let qr : _ ≡ frame_map s k (region_of ((module_of f).term t)).number = er ∙ ap (frame_map s k) ev in
      tells_map (λ v. record { is = v }) (λ v. v.is)
      (value_ptr (module_of f) (typing_of f s n) (closing (frame_map s k)) ((module_of f).term t) g
      (tells_map (λ z. inr z) (⊎_elim (λ z. absurd (d z)) (λ z. z)) (rw (i.pointer g, qr) at u)))

  pub value_untyped : {b : Bool} {r m form' variable' : ℕ} → form' ≡ form ((module_of f).term t) → form' ≡ 11 → x ≢ 0 → variable' ≡ (region_of ((module_of f).term t)).number
      → r ≡ frame_map s k variable' → m ≡ number_of ((module_of f).term t) → Tells b (InUntyped (typing_of f s n) m r x) → Tells b (ValueOk f s n k t x)
  value_untyped ef e d ev er em u =
      let qr : _ ≡ frame_map s k (region_of ((module_of f).term t)).number = er ∙ ap (frame_map s k) ev in
      tells_map (λ v. record { is = v }) (λ v. v.is)
      (value_raw (module_of f) (typing_of f s n) (closing (frame_map s k)) ((module_of f).term t) (sym ef ∙ e)
      (tells_map (λ z. inr z) (⊎_elim (λ z. absurd (d z)) (λ z. z)) (rw (em, qr) at u)))

  pub value_other : {form' : ℕ} → form' ≡ form ((module_of f).term t) → form' ≢ 1 → not (eqb form' 2) && not (eqb form' 11) ≡ true → ¬ ValueOk f s n k t x
  value_other {form'} ef a h v =
      let o = both (not (eqb form' 2)) (not (eqb form' 11)) h in
      value_none (module_of f) (typing_of f s n) (closing (frame_map s k)) x ((module_of f).term t) (λ e. a (ef ∙ e))
      (λ e. eqb-false form' 2 (not-true (eqb form' 2) o.0) (ef ∙ e)) (λ e. eqb-false form' 11 (not-true (eqb form' 11) o.1) (ef ∙ e)) v.is
