-- The answer to the auditor's question (specs/Audit): `reach` of a load, `only_named_bytes` of a whole run. Assumes nothing.
use Rattle.std.specs.Prelude.{◌≡◌, ◌⊎◌, List, [], ◌∷◌}
use Rattle.std.proofs.Math.Path.{refl}
use Rattle.std.proofs.Common.{sym, ap, ap₂, ◌∙◌, subst, true≢false, inl, inr, eqb-true}
use Rattle.std.proofs.Math.Bool.{Bool, true, false}
use Rattle.std.proofs.lemmas.Bool.{false≢true}
use Prim.Native.Nat.{ℕ, zero, suc, ◌+◌, ◌<◌, ◌≤◌}
use Rattle.std.proofs.Math.Dec.{eqb}
use Rattle.words.specs.Bytes.{Bytes, AllBytes, byte_at}
use Rattle.rules.specs.Limits.{memory_bytes}
use Rattle.rules.specs.Module.{Module}
use Rattle.rules.specs.Decode.{module_of}
use Rattle.rules.specs.Verdict.{verdict_of, IsAccepted}
use Rattle.rules.specs.State.{View, view, memory_place, memory_number}
use Rattle.rules.specs.Step.{Effect, fetch, effect_of}
use Rattle.rules.specs.Run.{Step, step_of, state_after, output_after, Trace, no_steps, run_of}
use Rattle.rules.specs.StateTest.{Passes}
use Rattle.rules.specs.SafeStep.{Touches, TouchesBytes, SameButPages, Reads, SafeStep}
use Rattle.state.specs.Update.{memory_number_agree}
use Rattle.state.specs.Touched.{load_of}
use Rattle.state.specs.Areas.{memory_agree}
use Rattle.state.specs.Independence.{view_pages}
use Rattle.soundness.specs.Facts.{ModuleOk, accepted_ok}
use Rattle.soundness.specs.Sound.{top_frame}
use Rattle.soundness.specs.ForCode.{Steady, step_steady}
use Rattle.soundness.specs.Audit.{NamedBy, Named, AgreeOnNamed, Reach, effects_of, SameRun, AgreeOnRun, SameStep, same_reads}

-- what is touched is named
touched_named : (m : Module) (v : View) (k b x w : ℕ) → Touches m v k b x w ⊎ TouchesBytes m v k b x w → (i : ℕ) → x ≤ i → i < x + w → NamedBy m v k b x i
touched_named m v k b x w (inl t) i l h = inl (record { target = t.target; within = t.within; type = t.names.register.1; inside = t.bytes i l h })
touched_named m v k b x w (inr t) i l h = inr (record { count = t.count; within = t.within; type = t.names.register.1; inside = t.bytes i l h })

-- equal bytes, equal numbers
number_same : (t s : Bytes) (x w : ℕ) → ((i : ℕ) → x ≤ i → i < x + w → i < memory_bytes → byte_at t (memory_place i) ≡ byte_at s (memory_place i))
    → memory_number (view t).memory x w ≡ memory_number (view s).memory x w
unfolding view
number_same t s x w h = memory_number_agree (view t).memory (view s).memory x w (λ i a b. memory_agree t s i (λ l. h i a b l))

pub reach : (f form s : Bytes) (b a x w : ℕ) → IsAccepted (verdict_of f) → AllBytes form → AllBytes s → Passes (module_of f) s → (view s).status ≡ 0
    → effect_of (module_of f) form (view s) ≡ fetch b a x w → Reach (module_of f) s b x w
reach f form s b a x w acc h l p z e =
    let t = (step_steady (module_of f) (accepted_ok f acc) form h s [] (record { bytes = l; passes = p }) z).safe.loads b a x w e in
    record { named = t; decides = λ u g. number_same u s x w (λ i c d o. g i o (touched_named (module_of f) (view s) (top_frame s) b x w t i c d)) }

-- a load reads only what its pointer names
reads_named : (m : Module) (form s o : Bytes) → SafeStep m (step_of m form s o) → (e : Effect) → effect_of m form (view s) ≡ e → (i : ℕ) → Reads e i → Named m (view s) (top_frame s) e i
reads_named m form s o h e d i r =
    let l = load_of e i r in
    let t = h.loads l.through l.register l.address l.bytes (d ∙ l.is) in
    subst (λ (x : Effect). Named m (view s) (top_frame s) x i) (sym l.is)
    (touched_named m (view s) (top_frame s) l.through l.address l.bytes t i l.low l.high)

module _ (m : Module) (ok : ModuleOk m) (form : Bytes) (form-bytes : AllBytes form) where
  same_step : (t s o : Bytes) → Steady m s → (view s).status ≡ 0 → SameButPages t s → AgreeOnNamed m form t s → SameStep m ok form form-bytes t s o
  same_step t s o h z p g =
      let k = (step_steady m ok form form-bytes s o h z).safe in
      same_reads m ok form form-bytes t s o h z p (λ i l r. g i l (reads_named m form s o k (effect_of m form (view s)) refl i r))

  pub same_run : (b : ℕ) (t s o : Bytes) → Steady m s → SameButPages t s → AgreeOnRun m form b t s o → SameRun (run_of m form b t o) (run_of m form b s o)
  unfolding run_of effects_of
  same_run zero t s o h p g = record { effects = refl; output = refl; state = p }
  same_run (suc b) t s o h p g = go (eqb (view s).status 0) refl (eqb (view t).status 0) (ap (λ (v : View). eqb v.status 0) (view_pages t s p)) (λ y x u l q a. same_run b y x u l q a)
    where
      made : Bool → Bytes → Trace
      made d y = elim d as (λ _. Trace) [
        | true ↦
            let x : Step = step_of m form y o in
            let r : Trace = run_of m form b (state_after m x) (output_after x) in
            record { steps = x ∷ r.steps; state = r.state; output = r.output }
        | false ↦ no_steps y o
      ]

      go : (c : Bool) → eqb (view s).status 0 ≡ c → (d : Bool) → d ≡ eqb (view s).status 0
          → ((y x u : Bytes) → Steady m x → SameButPages y x → AgreeOnRun m form b y x u → SameRun (run_of m form b y u) (run_of m form b x u)) → SameRun (made d t) (made c s)
      go true e true i ih =
          let z : (view s).status ≡ 0 = eqb-true (view s).status 0 e in
          let q = same_step t s o h z p (g z).0 in
          let k = step_steady m ok form form-bytes s o h z in
          let r = subst (λ (u : Bytes). SameRun (run_of m form b (state_after m (step_of m form t o)) u) (run_of m form b (state_after m (step_of m form s o)) (output_after (step_of m form s o)))) (sym q.output)
          (ih (state_after m (step_of m form t o)) (state_after m (step_of m form s o)) (output_after (step_of m form s o)) k.after q.state (g z).1) in
          record { effects = ap₂ {C = List Effect} ◌∷◌ q.effect r.effects; output = r.output; state = r.state }
      go false e false i ih = record { effects = refl; output = refl; state = p }
      go true e false i ih = absurd (false≢true (i ∙ e))
      go false e true i ih = absurd (true≢false (i ∙ e))

-- The answer to the auditor, over a whole run of an accepted module with any form and budget, from a state that passes the test: a state t
-- that differs from s in page bytes only, in any way, does the same steps with the same effects, writes out the same bytes and leaves
-- the same state but for page bytes, if before each load the two agree on the run, or the untyped bytes, that the load's pointer type names.
pub only_named_bytes : (f form : Bytes) (b : ℕ) (t s o : Bytes) → IsAccepted (verdict_of f) → AllBytes form → AllBytes s → Passes (module_of f) s → SameButPages t s
    → AgreeOnRun (module_of f) form b t s o → SameRun (run_of (module_of f) form b t o) (run_of (module_of f) form b s o)
only_named_bytes f form b t s o acc h l p = same_run (module_of f) (accepted_ok f acc) form h b t s o (record { bytes = l; passes = p })
