-- What the state test gives to the run: of an accepted file and a running state that passes, each step of a run of any budget keeps
-- within the layout's bounds and settles, which is what the code of a run asks. Assumes nothing.
use Rattle.std.specs.Prelude.{◌≡◌, Bool, ◌∷◌}
use Rattle.std.proofs.Math.Path.{refl}
use Rattle.std.proofs.Math.Bool.{true, false}
use Prim.Native.Nat.{ℕ, zero, suc}
use Rattle.std.proofs.Common.{arith}
use Rattle.std.proofs.Math.Dec.{eqb}
use borrow.Author.Tests.{eqb-true}
use Rattle.words.specs.Bytes.{Bytes, AllBytes}
use Rattle.rules.specs.Module.{Module}
use Rattle.rules.specs.Decode.{module_of}
use Rattle.rules.specs.Verdict.{verdict_of, IsAccepted}
use Rattle.rules.specs.State.{View, view}
use Rattle.rules.specs.Step.{Effect, assign, fetch, save, take_places, grant_page, free_place, go_to, emit, push, pop, finish, stop, stuck, effect_of}
use Rattle.rules.specs.Run.{Step, step_of, state_after, output_after, Trace, no_steps, run_of}
use Rattle.rules.specs.StateTest.{Passes}
use Rattle.soundness.specs.Facts.{ModuleOk, accepted_ok}
use Rattle.soundness.specs.Good.{Good}
use Rattle.soundness.specs.Safe.{Safe}
use Rattle.soundness.specs.Bounds.{live_small, load_inside}
use Rattle.soundness.specs.Bridge.{passes_test}
use Rattle.soundness.specs.Sound.{status_going, ready}
use Rattle.soundness.specs.ForCode as sound
use Rattle.prepared.specs.HotRun.{Settles, Steady, AllSteady}
use Rattle.turns.specs.Turns.{Started}

-- a safe effect of a good state settles
settles : (m : Module) (ok : ModuleOk m) (v : View) (k : ℕ) → Good m v (suc k) → (e : Effect) → Safe m v k e → Settles v k e
settles m ok v k g (assign a x) f = tt
settles m ok v k g (fetch b a x w) f = load_inside m ok v k g b a x w f
settles m ok v k g (save b x w y) f = tt
settles m ok v k g (take_places q j c n a) f = tt
settles m ok v k g (grant_page q r c a) f = live_small m ok v k g r f.alive
settles m ok v k g (free_place q j) f = tt
settles m ok v k g (go_to d) f = tt
settles m ok v k g (emit x) f = f.1
settles m ok v k g (push h μ ρ) f = tt
settles m ok v k g (pop c a x) f = f.caller
settles m ok v k g (finish x) f = tt
settles m ok v k g (stop n) f = λ z. omega (arith, f.low)
settles m ok v k g stuck f = f

module _ (m : Module) (ok : ModuleOk m) (form : Bytes) (form-bytes : AllBytes form) where
  -- the next step of a running state that passes the test
  step_settles : (s o : Bytes) → sound.Steady m s → (view s).status ≡ 0 → Steady m (step_of m form s o)
  step_settles s o h z =
      let r = ready m ok form s form-bytes (passes_test m ok s h.passes) z in
      record {
        bounds = r.bounds;
        settles = settles m ok (view s) (step_of m form s o).top r.good (effect_of m form (view s)) r.safe;
        known = r.good.frames.known;
      }

  -- and those of a run
  pub run_settles : (b : ℕ) (s o : Bytes) → sound.Steady m s → AllSteady m (run_of m form b s o).steps
  unfolding run_of
  run_settles zero s o h = tt
  run_settles (suc b) s o h = go (eqb (view s).status 0) refl (λ y u p. run_settles b y u p)
    where
      go : (d : Bool) → eqb (view s).status 0 ≡ d → ((y u : Bytes) → sound.Steady m y → AllSteady m (run_of m form b y u).steps)
          → AllSteady m (elim d as (λ _. Trace) [
            | true ↦
                let t : Step = step_of m form s o in
                let r : Trace = run_of m form b (state_after m t) (output_after t) in
                record { steps = t ∷ r.steps; state = r.state; output = r.output }
            | false ↦ no_steps s o
          ]).steps
      go true e ih =
          let z = eqb-true (view s).status 0 e in
          (step_settles s o h z, ih (state_after m (step_of m form s o)) (output_after (step_of m form s o)) (sound.step_steady m ok form form-bytes s o h z).after)
      go false e ih = tt

-- of an accepted file: the `requires` of a run
pub started : (m : Module) (s : Bytes) → AllBytes s → Passes m s → (view s).status ≡ 0 → Started s
started m s l p z = record {
  whole = record { size = p.size; bytes = l; spare = p.unread };
  running = z;
  some = (status_going (view s) p.status z).0;
  few = p.frames.few;
}

pub accepted_steady : (f form : Bytes) (b : ℕ) (s o : Bytes) → IsAccepted (verdict_of f) → AllBytes form → AllBytes s → Passes (module_of f) s
    → AllSteady (module_of f) (run_of (module_of f) form b s o).steps
accepted_steady f form b s o acc h l p = run_settles (module_of f) (accepted_ok f acc) form h b s o (record { bytes = l; passes = p })
