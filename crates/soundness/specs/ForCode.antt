-- What the code takes from the theorem. A state of an accepted module that passes the test is `Steady`: no step from it is stuck, each
-- effect keeps within the layout's bounds, and the state after it is steady again. Then what answers say: "running means the whole
-- budget is used", C10 for every file that opens, and where the reader's part lies. Assumes nothing.
use Rattle.std.specs.Prelude.{◌≡◌, refl, Bool, true, false, cond, ◌&&◌, ◌≢◌, ◌∷◌, ℕ, zero, suc, ◌+◌, ◌*◌, ◌/◌, ◌%◌, ◌<◌, ◌≤◌, eqb, ltb, leb, length}
use Rattle.std.proofs.Common.{sym, ap, ◌∙◌, subst, mod-lt, not-suc-le-zero, arith, eqb-true, eq-eqb, ltb-true, leb-true}
use Rattle.std.proofs.Math.Nat.{div-add-mod}
use Rattle.std.proofs.Math.Decide.{dec_lt}
use Rattle.words.specs.Bytes.{Bytes, AllBytes}
use Rattle.words.specs.Choose.{both, both_of, true_not_false, cond_yes, cond_eq, cond_le}
use Rattle.rules.specs.Limits.{page_bytes, memory_bytes, most_form, output_bytes, state_bytes, memory_at, bad_input, bad_length, bad_state, not_running}
use Rattle.words.specs.Decide.{does}
use Rattle.rules.specs.Module.{Module}
use Rattle.rules.specs.Types.{live}
use Rattle.rules.specs.Flat.{Layout, flat, count}
use Rattle.rules.specs.Decode.{module_of}
use Rattle.rules.specs.Verdict.{verdict_of, IsAccepted}
use Rattle.rules.specs.State.{View, view, memory_place, page_place, all_pages}
use Rattle.rules.specs.Heap.{type_of}
use Rattle.rules.specs.Step.{stuck, effect_of}
use Rattle.rules.specs.Run.{Step, step_of, state_after, output_after, Trace, no_steps, run_of, stuck_steps}
use Rattle.rules.specs.StateTest.{Passes, dec_passes}
use Rattle.rules.specs.Host.{Outcome, ended, stopped, running, Went, refused, went, no_answer, Opened, not_opened, opened, Part, empty_part, on_verdict, outcome_of, went_of, go_at, first_at, open_at, object_in, object_at, ranged}
use Rattle.rules.specs.SafeStep.{SafeStep}
use Rattle.rules.specs.Cases.{BudgetZero}
use Rattle.rules.specs.declared.PageRange.{PageRange}
use Rattle.rules.specs.Refusals.{Verdict, Accepted, Refused}
use Rattle.state.specs.Effects.{Bounded}
use Rattle.state.specs.Reads.{owner_past}
use Rattle.soundness.specs.Facts.{ModuleOk, accepted_ok}
use Rattle.soundness.specs.Bridge.{passes_test, test_passes}
use Rattle.soundness.specs.Opening.{opened_test, opened_whole, opened_range, opened_running}
use Rattle.soundness.specs.Sound.{top_frame, Sound, ready, stepped, run_sound}
use Rattle.soundness.specs.Demand3.{range_ranged, Paired, refusal, ran, go_paired, went_is, verdict_accepted, opened_first, passes_does}

-- ---- runs

-- bytes that pass the state test of module m
pub record Steady (m : Module) (s : Bytes) : Type 0 where
  pub bytes : AllBytes s
  pub passes : Passes m s

-- the step of a steady state that runs
pub record SteadyStep (m : Module) (form s o : Bytes) : Type 0 where
  pub frame : (view s).frames ≡ suc (top_frame s)
  pub moves : effect_of m form (view s) ≢ stuck
  pub bounds : Bounded (view s) (top_frame s) (effect_of m form (view s))
  pub safe : SafeStep m (step_of m form s o)
  pub after : Steady m (state_after m (step_of m form s o))

module _ (m : Module) (ok : ModuleOk m) (form : Bytes) (form-bytes : AllBytes form) where
  steady_sound : (b : ℕ) (s o : Bytes) → Steady m s → Sound m s (run_of m form b s o)
  steady_sound b s o h = run_sound m ok form form-bytes b s o (passes_test m ok s h.passes) (record { size = h.passes.size; bytes = h.bytes; spare = h.passes.unread })

  -- the requires of `run`: no step of a run of any budget is stuck
  pub run_moves : (b : ℕ) (s o : Bytes) → Steady m s → stuck_steps (run_of m form b s o).steps ≡ 0
  run_moves b s o h = (steady_sound b s o h).none

  -- the loop's invariant, step by step
  pub step_steady : (s o : Bytes) → Steady m s → (view s).status ≡ 0 → SteadyStep m form s o
  step_steady s o h z =
      let t = passes_test m ok s h.passes in
      let r = ready m ok form s form-bytes t z in
      let p = stepped m ok form s o form-bytes t (record { size = h.passes.size; bytes = h.bytes; spare = h.passes.unread }) z in
      record {
        frame = r.frame;
        moves = p.safe.moves;
        bounds = r.bounds;
        safe = p.safe;
        after = record { bytes = p.whole.bytes; passes = p.safe.after };
      }

-- of an accepted file
pub accepted_moves : (f form : Bytes) (b : ℕ) (s o : Bytes) → IsAccepted (verdict_of f) → AllBytes form → AllBytes s → Passes (module_of f) s
    → stuck_steps (run_of (module_of f) form b s o).steps ≡ 0
accepted_moves f form b s o acc h l p = run_moves (module_of f) (accepted_ok f acc) form h b s o (record { bytes = l; passes = p })

-- ---- "Running means the whole budget is used"

-- a run that leaves the state running took all its steps
pub run_length : (m : Module) (form : Bytes) (b : ℕ) (s o : Bytes) → (view (run_of m form b s o).state).status ≡ 0 → length (run_of m form b s o).steps ≡ b
unfolding run_of
run_length m form zero s o e = refl
run_length m form (suc b) s o e = go (eqb (view s).status 0) refl (λ y u h. run_length m form b y u h) e
  where
    made : Bool → Trace
    made d = elim d as (λ _. Trace) [
      | true ↦
          let t : Step = step_of m form s o in
          let r : Trace = run_of m form b (state_after m t) (output_after t) in
          record { steps = t ∷ r.steps; state = r.state; output = r.output }
      | false ↦ no_steps s o
    ]

    go : (d : Bool) → eqb (view s).status 0 ≡ d → ((y u : Bytes) → (view (run_of m form b y u).state).status ≡ 0 → length (run_of m form b y u).steps ≡ b)
        → (view (made d).state).status ≡ 0 → length (made d).steps ≡ suc b
    go true d ih e = ap suc (ih (state_after m (step_of m form s o)) (output_after (step_of m form s o)) e)
    go false d ih e = absurd (true_not_false (eq-eqb (view s).status 0 e) d)

-- an answer `running` is that of a running state
running_is : (a b : Bool) (x n : ℕ) → cond a running (cond b (ended x) (stopped n)) ≡ running → a ≡ true
running_is true b x n e = refl
running_is false true x n e = let z : ◌≡◌ {A = ℕ} 0 1 = cc in absurd (omega arith)
running_is false false x n e = let z : ◌≡◌ {A = ℕ} 0 1 = cc in absurd (omega arith)

-- the parts of an answer
record Parts (r : Trace) (a : Outcome) (n : ℕ) (s o : Bytes) : Type 0 where
  outcome : outcome_of (view r.state) ≡ a
  steps : length r.steps ≡ n
  state : r.state ≡ s
  output : r.output ≡ o

went_parts : (r : Trace) (a : Outcome) (n : ℕ) (s o : Bytes) → went_of r ≡ went a n s o → Parts r a n s o
unfolding went_of
went_parts r a n s o = go (eqb (stuck_steps r.steps) 0)
  where
    go : (d : Bool) → cond d (went (outcome_of (view r.state)) (length r.steps) r.state r.output) no_answer ≡ went a n s o → Parts r a n s o
    go true e = record { outcome = cc; steps = cc; state = cc; output = cc }
    go false e = let z : ◌≡◌ {A = ℕ} 0 1 = cc in absurd (omega arith)

pair_parts : (s o : Bytes) (r : Trace) (a : Outcome) (n : ℕ) (t u : Bytes) (w : Went) (x : Trace) → Paired s o r w x → w ≡ went a n t u → Parts r a n t u
pair_parts s o r a n t u w x (refusal i p) e = let z : ◌≡◌ {A = ℕ} 0 1 = cc in absurd (omega arith)
pair_parts s o r a n t u w x ran e = went_parts r a n t u e

pub running_whole : (R : PageRange) (f form s o : Bytes) (b n : ℕ) (t u : Bytes) → go_at R f form s o b ≡ went running n t u → n ≡ b
unfolding outcome_of
running_whole R f form s o b n t u e =
    let r : Trace = run_of (module_of f) form b s o in
    let p : Parts r running n t u = pair_parts s o r running n t u _ _ (go_paired R f form s o b) e in
    let z : (view r.state).status ≡ 0 =
    eqb-true (view r.state).status 0 (running_is (eqb (view r.state).status 0) (eqb (view r.state).status 1) (view r.state).result (view r.state).status p.outcome) in
    sym p.steps ∙ run_length (module_of f) form b s o z

-- ---- the answer of a call that is not refused

pub go_went : (R : PageRange) (f form s o : Bytes) (b : ℕ) → IsAccepted (verdict_of f) → AllBytes form → length form ≤ most_form → AllBytes s → Passes (module_of f) s → (view s).range ≡ R → (view s).status ≡ 0 → length o ≡ output_bytes
    → go_at R f form s o b ≡ went (outcome_of (view (run_of (module_of f) form b s o).state)) (length (run_of (module_of f) form b s o).steps) (run_of (module_of f) form b s o).state (run_of (module_of f) form b s o).output
unfolding go_at
go_went R f form s o b acc h few l p r z k =
    verdict_accepted refused (verdict_of f) _ acc
    ∙ cond_le _ (refused bad_input 0) few
    ∙ cond_yes _ (refused bad_length 0) (both_of (eq-eqb (length s) state_bytes p.size) (eq-eqb (length o) output_bytes k))
    ∙ cond_yes _ (refused bad_state 0) (both_of (passes_does (module_of f) s p) (range_ranged R s r))
    ∙ cond_eq _ (refused not_running 0) z
    ∙ went_is (run_of (module_of f) form b s o) (accepted_moves f form b s o acc h l p)

-- an opened state is steady, runs and has the machine's range
pub opened_steady : (R : PageRange) → R.below < 256 → R.above < 256 → (f xs old t : Bytes) → IsAccepted (verdict_of f) → AllBytes xs → open_at R f xs old ≡ opened t
    → Steady (module_of f) t × ((view t).status ≡ 0) × ((view t).range ≡ R)
opened_steady R a b f xs old t acc z e =
    let ok : ModuleOk (module_of f) = accepted_ok f acc in
    let whole = opened_whole (module_of f) ok R xs z a b in
    let s : Bytes = first_at R (module_of f) xs in
    subst (λ (y : Bytes). Steady (module_of f) y × ((view y).status ≡ 0) × ((view y).range ≡ R)) (opened_first R f acc xs old t e)
    (record { bytes = whole.bytes; passes = test_passes (module_of f) ok s whole.size whole.spare (opened_test (module_of f) ok R xs z) }, opened_running (module_of f) ok R xs z, opened_range (module_of f) ok R xs z)

-- a file that opens is accepted
opened_accepted : (v : Verdict) (b : Opened) (t : Bytes) → on_verdict not_opened v b ≡ opened t → IsAccepted v
opened_accepted (Accepted n k g i) b t e = tt
opened_accepted (Refused n p) b t e = let z : ◌≡◌ {A = ℕ} 0 1 = cc in absurd (omega arith)

-- C10
pub budget_zero : BudgetZero
unfolding outcome_of run_of open_at
budget_zero f xs old form o t z e h few k =
    let acc : IsAccepted (verdict_of f) = opened_accepted (verdict_of f) _ t e in
    let s = opened_steady all_pages (omega arith) (omega arith) f xs old t acc z e in
    go_went all_pages f form t o 0 acc h few s.0.bytes s.0.passes s.2 s.1 k
    ∙ ap (λ (a : Outcome). went a 0 t o) (cond_eq running (cond (eqb (view t).status 1) (ended (view t).result) (stopped (view t).status)) s.1)

-- ---- the reader

-- the part has the address in it, and lies in the pages of the lent state
pub record Inside (a : ℕ) (p : Part) : Type 0 where
  pub low : p.offset ≤ memory_place a
  pub high : memory_place a < p.offset + p.size
  pub start : memory_at ≤ p.offset
  pub end : p.offset + p.size ≤ state_bytes

object_in_law : (m : Module) (v : View) (a x : ℕ) → a < memory_bytes → 0 < (object_in m v a x).size → Inside a (object_in m v a x)
unfolding object_in
object_in_law m v a zero h l = absurd (not-suc-le-zero l)
object_in_law m v a (suc r) h l = go (flat m (type_of m v.fn v.map v.frames r)) l
  where
    found : ℕ → Bool → Part
    found s b = cond b (record { offset = page_place (a / page_bytes) + s * (a % page_bytes / s); size = s }) empty_part

    inside : (s c : ℕ) (b : Bool) → (ltb 0 s && ltb 0 c) && leb (s * suc (a % page_bytes / s)) page_bytes ≡ b → 0 < (found s b).size → Inside a (found s b)
    inside s c true e l =
        let q = both (ltb 0 s && ltb 0 c) (leb (s * suc (a % page_bytes / s)) page_bytes) e in
        let p : s * suc (a % page_bytes / s) ≤ page_bytes = leb-true (s * suc (a % page_bytes / s)) page_bytes q.1 in
        let d : s * (a % page_bytes / s) + a % page_bytes % s ≡ a % page_bytes = div-add-mod (a % page_bytes) s in
        let o : a % page_bytes % s < s = mod-lt (a % page_bytes) (ltb-true 0 s (both (ltb 0 s) (ltb 0 c) q.0).0) in
        record { low = omega arith; high = omega arith; start = omega arith; end = omega arith }
    inside s c false e l = absurd (not-suc-le-zero l)

    tested : Layout live → Bool
    tested L = (ltb 0 L.size && ltb 0 (count L)) && leb (L.size * suc (a % page_bytes / L.size)) page_bytes

    go : (L : Layout live) → 0 < (found L.size (tested L)).size → Inside a (found L.size (tested L))
    go L l = inside L.size (count L) (tested L) refl l

-- an unowned page has no object
none_outside : (m : Module) (v : View) (a x : ℕ) → x ≡ 0 → 0 < (object_in m v a x).size → 0 < 0
unfolding object_in
none_outside m v a zero e l = l
none_outside m v a (suc r) e l = absurd (omega arith)

-- for every file, state and address, refused ones included: a part that is not empty
pub object_inside : (R : PageRange) (f s : Bytes) (a : ℕ) → 0 < (object_at R f s a).size → Inside a (object_at R f s a)
unfolding object_at view
object_inside R f s a = go (verdict_of f) (does (dec_passes (module_of f) s) && ranged R s) (dec_lt a memory_bytes)
  where
    made : Verdict → Bool → Part
    made v b = on_verdict (λ n p. empty_part) v (cond b (object_in (module_of f) (view s) a ((view s).owner (a / page_bytes))) empty_part)

    go : (v : Verdict) (b : Bool) → Dec (a < memory_bytes) → 0 < (made v b).size → Inside a (made v b)
    go (Accepted t n g i) true (yes h) l = object_in_law (module_of f) (view s) a ((view s).owner (a / page_bytes)) h l
    go (Accepted t n g i) true (no h) l =
        let e : (view s).owner (a / page_bytes) ≡ 0 = owner_past s (omega arith) in
        absurd (not-suc-le-zero (none_outside (module_of f) (view s) a ((view s).owner (a / page_bytes)) e l))
    go (Accepted t n g i) false d l = absurd (not-suc-le-zero l)
    go (Refused n p) b d l = absurd (not-suc-le-zero l)
