-- Laws of the walk for code that goes from record to record: the walk before the next record, and that its counts fit a machine word.
-- Assumes nothing.
use Rattle.std.specs.Prelude.{◌≡◌, refl, Bool, true, false, cond, ◌⊎◌, ℕ, zero, suc, ◌+◌, ◌-◌, ◌<◌, ◌≤◌, ◌^◌, ltb, leb, eqb}
use Rattle.std.proofs.Common.{ap, ⊎_elim, add-one, le-ltb}
use Rattle.std.proofs.Math.Logic.{inl, inr}
use native.Mathlib.Omega.{arith}
use Rattle.std.proofs.Math.Decide.{dec_lt}
use Rattle.words.specs.Bytes.{Bytes}
use Rattle.words.specs.Choose.{cond_split}
use Rattle.rules.specs.Limits.{most_entries}
use Rattle.rules.specs.File.{record_of, regions_of, is_term, is_instruction, kind_filler, kind_name, kind_fields, kind_function, kind_regions, kind_registers, kind_call, kind_arguments}
use Rattle.rules.specs.Walk.{to, start, to_code, to_registers, headed, opened, to_term, named, done, called, to_function, to_name, step, next, Scan, next_scan, scan}
use Rattle.rules.specs.declared.Record.{Record}
use Rattle.rules.specs.declared.Walk.{Walk}
use Rattle.rules.specs.declared.Phase.{Phase}
use Rattle.rules.specs.declared.Phase.TheVariants.{Terms, Names, Fields, Functions, Regions, Registers, Code, Arguments, Filler, Broken}

-- a call names its function by a byte
abbrev pub callees : ℕ
callees = 256

-- counts that can be raised by one
pub record Room (w : Walk) : Type 0 where
  pub terms : w.terms < 2 ^ 63
  pub names : w.names < 2 ^ 63
  pub functions : w.functions < 2 ^ 63

-- the counts before record r, and the callee
pub record Counts (w : Walk) (r : ℕ) : Type 0 where
  pub terms : w.terms ≤ r
  pub names : w.names ≤ r
  pub functions : w.functions ≤ r
  pub callee : w.callee < callees

pub counts_start : Counts start 0
counts_start = record { terms = omega arith; names = omega arith; functions = omega arith; callee = omega arith }

pub counts_room : {w : Walk} {r : ℕ} → Counts w r → r < 2 ^ 63 → Room w
counts_room c h = record { terms = omega (arith, c.terms); names = omega (arith, c.names); functions = omega (arith, c.functions) }

-- ---- what a record does to the counts

-- from w to v: each count stays or grows by one, and the callee is a byte
pub record Grown (w v : Walk) : Type 0 where
  pub terms : v.terms ≤ w.terms + 1
  pub names : v.names ≤ w.names + 1
  pub functions : (v.functions ≡ w.functions) ⊎ (v.functions ≡ w.functions + 1)
  pub callee : v.callee < callees

module _ (w : Walk) (h : w.callee < callees) where
  grown_to : (p : Phase) (n : ℕ) → Grown w (to w p n)
  grown_to p n = record { terms = omega arith; names = omega arith; functions = inl refl; callee = h }

  grown_same : Grown w w
  grown_same = record { terms = omega arith; names = omega arith; functions = inl refl; callee = h }

  either_way : (b : Bool) (v u : Walk) → Grown w v → Grown w u → Grown w (cond b v u)
  either_way b v u g k = cond_split (Grown w) b v u (λ e. g) (λ e. k)

  grown_code : Grown w (to_code w)
  unfolding to_code
  grown_code = either_way (ltb 0 w.instructions) (to w Code w.instructions) (to w Functions 0) (grown_to Code w.instructions) (grown_to Functions 0)

  grown_registers : Grown w (to_registers w)
  unfolding to_registers
  grown_registers = either_way (ltb 0 w.registers) (to w Registers w.registers) (to_code w) (grown_to Registers w.registers) grown_code

  grown_done : Grown w (done w)
  unfolding done
  grown_done = either_way (leb w.left 1) (to w Functions 0) (to w Code (w.left - 1)) (grown_to Functions 0) (grown_to Code (w.left - 1))

module _ (w : Walk) (x : Record) (r : ℕ) (h : w.callee < callees) (k : x.b < callees) where
  grown_headed : Grown w (headed w x r)
  grown_headed = record { terms = omega arith; names = omega arith; functions = inr refl; callee = omega arith }

  grown_opened : Grown w (opened w x r)
  unfolding opened to_registers to_code
  grown_opened =
      either_way w h (ltb 0 (regions_of x)) (headed w x r) (to_registers (headed w x r)) grown_headed
      (either_way w h (ltb 0 x.c) (to (headed w x r) Registers x.c) (to_code (headed w x r)) (new Registers x.c)
      (either_way w h (ltb 0 (headed w x r).instructions) (to (headed w x r) Code (headed w x r).instructions) (to (headed w x r) Functions 0)
      (new Code (headed w x r).instructions) (new Functions 0)))
    where
      new : (p : Phase) (n : ℕ) → Grown w (to (headed w x r) p n)
      new p n = record { terms = omega arith; names = omega arith; functions = inr refl; callee = omega arith }

  grown_function : Grown w (to_function w x r)
  unfolding to_function
  grown_function =
      either_way w h (eqb x.kind kind_function) (opened w x r) (cond (eqb x.kind kind_filler) (to w Filler 0) (to w Broken 0)) grown_opened
      (either_way w h (eqb x.kind kind_filler) (to w Filler 0) (to w Broken 0) (grown_to w h Filler 0) (grown_to w h Broken 0))

  grown_name : Grown w (to_name w x r)
  unfolding to_name
  grown_name =
      either_way w h (eqb x.kind kind_name) (named w x) (to_function w x r)
      (record { terms = omega arith; names = omega arith; functions = inl refl; callee = h }) grown_function

  -- a record of the one kind that is wanted
  grown_wanted : (n : ℕ) (v : Walk) → Grown w v → Grown w (cond (eqb x.kind n) v (to w Broken 0))
  grown_wanted n v g = either_way w h (eqb x.kind n) v (to w Broken 0) g (grown_to w h Broken 0)

  grown_step : (p : Phase) → Grown w (step p w x r)
  unfolding step
  grown_step Terms =
      either_way w h (is_term x.kind) (to_term w) (to_name w x r)
      (record { terms = omega arith; names = omega arith; functions = inl refl; callee = h }) grown_name
  grown_step Names = grown_name
  grown_step Fields = grown_wanted kind_fields (to w Names 0) (grown_to w h Names 0)
  grown_step Functions = grown_function
  grown_step Regions = grown_wanted kind_regions (to_registers w) (grown_registers w h)
  grown_step Registers =
      grown_wanted kind_registers (cond (leb w.left most_entries) (to_code w) (to w Registers (w.left - most_entries)))
      (either_way w h (leb w.left most_entries) (to_code w) (to w Registers (w.left - most_entries)) (grown_code w h)
      (grown_to w h Registers (w.left - most_entries)))
  grown_step Code =
      either_way w h (eqb x.kind kind_call) (called w x) (cond (is_instruction x.kind) (done w) (to w Broken 0))
      (record { terms = omega arith; names = omega arith; functions = inl refl; callee = k })
      (either_way w h (is_instruction x.kind) (done w) (to w Broken 0) (grown_done w h) (grown_to w h Broken 0))
  grown_step Arguments = grown_wanted kind_arguments (done w) (grown_done w h)
  grown_step Filler = grown_same w h
  grown_step Broken = grown_same w h

  pub grown_next : Grown w (next w x r)
  unfolding next
  grown_next = grown_step w.phase

pub counts_next : {w v : Walk} (x : Record) {r : ℕ} → Counts w r → x.b < callees → v ≡ next w x r → Counts v (r + 1)
counts_next {w} {v} x {r} c k e =
    let g = grown_next w x r c.callee k in
    rw e (record {
      terms = omega (arith, g.terms, c.terms);
      names = omega (arith, g.names, c.names);
      functions = ⊎_elim (λ s. omega (arith, c.functions)) (λ s. omega (arith, c.functions)) g.functions;
      callee = g.callee;
    })

-- ---- the walk before the next record

-- by the walk's phase
pub next_in : (w : Walk) (x : Record) (r : ℕ) {p : Phase} → w.phase ≡ p → next w x r ≡ step p w x r
unfolding next
next_in w x r e = ap (λ (q : Phase). step q w x r) e

pub scan_start : (f : Bytes) → (scan f 0).walk ≡ start
unfolding scan
scan_start f = refl

pub scan_more : (f : Bytes) (r : ℕ) → scan f (r + 1) ≡ next_scan f (scan f r) r
unfolding scan
scan_more f r = rw add-one

pub walk_more : (f : Bytes) (r : ℕ) → (scan f (r + 1)).walk ≡ next (scan f r).walk (record_of f r) r
unfolding next_scan
walk_more f r = ap (λ (s : Scan). s.walk) (scan_more f r)

pub step_walk : (f : Bytes) (r : ℕ) {w v : Walk} {x : Record} → w ≡ (scan f r).walk → x ≡ record_of f r → v ≡ next w x r → v ≡ (scan f (r + 1)).walk
step_walk f r {w} {v} {x} hw hx hv = rw (walk_more, ← hw, ← hx) hv

-- ---- in the filler the walk stays as it is

abbrev pub in_filler : Phase → Bool
in_filler Terms = false
in_filler Names = false
in_filler Fields = false
in_filler Functions = false
in_filler Regions = false
in_filler Registers = false
in_filler Code = false
in_filler Arguments = false
in_filler Filler = true
in_filler Broken = false

pub in_filler_law : (p : Phase) → in_filler p ≡ true → p ≡ Filler
in_filler_law Terms e = cc
in_filler_law Names e = cc
in_filler_law Fields e = cc
in_filler_law Functions e = cc
in_filler_law Regions e = cc
in_filler_law Registers e = cc
in_filler_law Code e = cc
in_filler_law Arguments e = cc
in_filler_law Filler e = refl
in_filler_law Broken e = cc

pub next_filler : (w : Walk) (x : Record) (r : ℕ) → w.phase ≡ Filler → next w x r ≡ w
unfolding step
next_filler w x r e = next_in w x r e

scan_filler_next : (f : Bytes) (s : Scan) (r : ℕ) → s.walk.phase ≡ Filler → next_scan f s r ≡ s
unfolding next_scan
scan_filler_next f s r e =
    rw (next_filler s.walk (record_of f r) r e, le-ltb s.walk.functions s.walk.functions (omega arith))

pub scan_filler : (f : Bytes) (r : ℕ) → (scan f r).walk.phase ≡ Filler → (n : ℕ) → r ≤ n → scan f n ≡ scan f r
unfolding scan
scan_filler f r e zero h = let z : r ≡ 0 = omega arith in rw z
scan_filler f r e (suc n) h = by (dec_lt n r) (scan_filler f r e n)
  where
    by : Dec (n < r) → (r ≤ n → scan f n ≡ scan f r) → scan f (suc n) ≡ scan f r
    by (yes l) k = let z : r ≡ suc n = omega arith in rw z
    by (no l) k = rw (k (omega arith)) (scan_filler_next f (scan f r) n e)
